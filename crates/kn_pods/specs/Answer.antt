-- The row of an answer.
use Rattle.std.specs.Prelude.{ℕ}
use Rattle.kn_event.specs.declared.entry.Row.{Row}
use Rattle.kn_event.specs.declared.entry.Row.TheVariants as row
use Rattle.kn_pods.specs.declared.pods.PodAnswer.{PodAnswer}
use Rattle.kn_pods.specs.declared.pods.PodAnswer.TheVariants as answer

abbrev pub row_of : ℕ → PodAnswer → Row
row_of p answer.Done = row.Ready p
row_of p answer.NotStarting = row.NotStarting p
row_of p answer.NoPod = row.NoPod p

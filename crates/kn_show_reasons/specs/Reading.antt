-- What the lines of a decision come to, read from the top: the last count that they name is the one that is wanted.
use Rattle.std.specs.Prelude.{◌≡◌, ℕ, max, fold, List, Option, None, Some, unwrap_or}
use Rattle.kn_event.specs.declared.units.Frac.{Frac}
use Rattle.kn_event.specs.declared.revision.Spec.{Spec}
use Rattle.kn_scaling.specs.Decide.{Past, ruling}
use Rattle.kn_reason.specs.declared.reason.Reason.{Reason}
use Rattle.kn_reason.specs.declared.reason.Reason.TheVariants as reason
use Rattle.kn_show_reasons.specs.Sentences.{reasons_of}

-- the count so far, and, while its lines are read, what the panic window asks for
pub record Reading : Type 0 where
  pub asked : ℕ
  pub panic : Option ℕ

abbrev pub at_count : ℕ → Reading
at_count n = record { asked = n; panic = None }

abbrev pub beside : ℕ → ℕ → Reading
beside asked n = record { asked = asked; panic = Some n }

-- a rule holds what the lines are about
abbrev pub held_at : ℕ → ℕ → Option ℕ → Reading
held_at n asked None = at_count n
held_at n asked (Some p) = beside asked n

abbrev pub read : Reading → Reason → Reading
read x (reason.Stable window average target pods) = at_count pods
read x (reason.UpRate rate pods) = held_at pods x.asked x.panic
read x (reason.DownRate rate pods) = held_at pods x.asked x.panic
read x (reason.Activation n) = held_at n x.asked x.panic
read x (reason.Panic window average pods) = beside x.asked pods
read x (reason.Over pods ready threshold) = at_count (max x.asked (unwrap_or x.panic 0))
read x (reason.GoesOn pods) = at_count pods
read x (reason.Most pods) = at_count pods
read x (reason.Delay seconds pods) = at_count pods
read x (reason.Initial scale pods) = at_count pods
read x (reason.Min scale pods) = at_count pods
read x (reason.Max scale pods) = at_count pods
read x (reason.Ceiling pods) = at_count pods
read x (reason.NoZero pods) = at_count pods
read x (reason.Waits pods) = at_count pods
read x (reason.Active passed window pods) = at_count pods
read x (reason.GoesInactive passed window) = at_count 0
read x (reason.Inactive passed pods) = at_count pods
read x (reason.NotYet passed grace retention) = at_count 0
read x _ = x

unfoldable pub count_read : List Reason → ℕ
count_read xs = (fold read (at_count 0) xs).asked

-- of a decision by this past, in its phase
abbrev pub NamesWant : Spec → Past → ℕ → ℕ → Frac → Frac → Type 0
NamesWant s past t ready stable panic =
    let d = (ruling s past t ready stable panic).decision in
    count_read (reasons_of s t (Some past.standing.phase) past.standing.phase_since d) ≡ d.want

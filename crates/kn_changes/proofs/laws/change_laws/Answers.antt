use Rattle.std.proofs.Common.{sym, ◌∙◌}
use Rattle.kn_changes.proofs.Loads.{load-sums}
use Rattle.kn_changes.proofs.Counts.{count_same}
use Rattle.kn_changes.proofs.laws.change_laws.Goals as goal

pub returns : goal.returns
returns c = record {
  load = λ s d start clock second made times. load-sums second d ∙ sym (c.load_laws.ensures.load s d start clock second made times);
  count = count_same;
}

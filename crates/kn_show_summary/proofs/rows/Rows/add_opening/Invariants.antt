use Rattle.std.proofs.Common.{◌≡◌, ◌+◌, ◌≤◌, take}
use Rattle.kn_show_summary.specs.Rows.{CountsAll}
use Rattle.kn_show_summary.proofs.rows.Rows.add_opening.Given as goal

abbrev pub invariant-loop-e : goal.invariant-loop-e
invariant-loop-e l = record {
  rows : l.self-inside.counts.rows ≡ l.fn.self.counts.rows + l.e-index;
  admitted : l.fn.self.counts.counted.admitted ≤ l.self-inside.counts.counted.admitted;
  waits : l.self-inside.waits ≡ l.fn.self.waits;
  lives : l.self-inside.lives ≡ l.fn.self.lives;
  counted : CountsAll (take l.e-index l.e-items) l.fn.self.counts l.self-inside.counts;
}

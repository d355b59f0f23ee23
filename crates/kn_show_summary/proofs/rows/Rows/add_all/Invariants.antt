use Rattle.std.proofs.Common.{◌≡◌, ◌+◌, ◌≤◌, take}
use Rattle.kn_show_summary.specs.Rows.{GoesOnUpTo}
use Rattle.kn_show_summary.proofs.rows.Rows.add_all.Given as goal

abbrev pub invariant-loop-e : goal.invariant-loop-e
invariant-loop-e l = record {
  rows : l.self.counts.rows ≡ l.fn.self.counts.rows + l.e-index;
  admitted : l.fn.self.counts.counted.admitted ≤ l.self.counts.counted.admitted;
  kept : GoesOnUpTo (take l.e-index l.e-items) l.tag l.e-items l.fn.self l.self;
}

use Rattle.std.proofs.Common.{◌≡◌, ◌≤◌, ◌-◌, take}
use Rattle.std.specs.Io.KnownBytes.{Consumes}
use Rattle.kn_page.proofs.read.read_asked.Given as goal

abbrev pub invariant-pieces : goal.invariant-pieces
invariant-pieces g l = record {
  consumed : Consumes (g.S.Source.left l.fn.source) (g.S.Source.left l.source) (take l.len l.buffer);
  apart : g.S.Source.apart l.source ≡ g.S.Source.apart l.fn.source;
  never_falls : g.S.Faulty.faults l.fn.source ≤ g.S.Faulty.faults l.source;
  within : l.len ≤ 8192;
}

abbrev pub decreases-pieces : goal.decreases-pieces
decreases-pieces g l = 8192 - l.len

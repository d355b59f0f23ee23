-- The numbers so far are in range.
use Rattle.std.proofs.Common.{◌≡◌, drop}
use Rattle.kn_preamble.specs.SetupLine.{range_fault}
use Rattle.kn_preamble.proofs.setting.range_fault.Given as goal

abbrev pub invariant-loop-i : goal.invariant-loop-i
invariant-loop-i l = range_fault l.settings l.places ≡ range_fault (drop l.i l.settings) (drop l.i l.places)

use Rattle.std.proofs.Common.{take}
use Rattle.kn_directory.specs.Places.{Finds}
use Rattle.kn_directory.proofs.directory.Directory.of.Given as goal

abbrev pub invariant-loop-v : goal.invariant-loop-v
invariant-loop-v l = Finds l.made (take l.v l.specs)

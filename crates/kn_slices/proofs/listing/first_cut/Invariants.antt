use Rattle.std.proofs.Common.{length}
use Rattle.kn_slices.specs.Slices.{cut_of}
use Rattle.kn_slices.specs.Activators.{limit_at}
use Rattle.kn_slices.proofs.Listed.{NoneBut}
use Rattle.kn_slices.proofs.listing.first_cut.Given as goal

abbrev pub invariant-loop-k : goal.invariant-loop-k
invariant-loop-k l = NoneBut (cut_of limit_at (length l.parts) l.parts) l.k l.wanted l.listed

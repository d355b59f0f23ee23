use Rattle.std.proofs.Common.{length}
use Rattle.kn_slices.specs.Slices.{raise_of}
use Rattle.kn_slices.specs.Activators.{limit_at, running_at}
use Rattle.kn_slices.proofs.Listed.{NoneBut}
use Rattle.kn_slices.proofs.listing.first_raise.Given as goal

abbrev pub invariant-loop-k : goal.invariant-loop-k
invariant-loop-k l = NoneBut (raise_of limit_at running_at (length l.parts) l.parts) l.k l.wanted l.listed

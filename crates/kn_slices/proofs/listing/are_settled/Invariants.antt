use Rattle.std.proofs.Common.{◌<◌, ℕ}
use Rattle.std.specs.Prelude.{slice_index_or}
use Rattle.kn_slices.specs.Activators.{IsClosed}
use Rattle.kn_slices.proofs.listing.are_settled.Given as goal

abbrev pub invariant-loop-k : goal.invariant-loop-k
invariant-loop-k l = (j : ℕ) → j < l.k → IsClosed l.wanted l.force l.marks (slice_index_or l.listed j 0)

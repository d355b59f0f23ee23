use Rattle.std.proofs.Common.{◌≡◌, ◌<◌, ◌≤◌, ℕ, length}
use Rattle.std.specs.Prelude.{slice_index_or, vec_capacity}
use Rattle.kn_event.specs.FixedSpec.{fixed_spec}
use Rattle.kn_core.specs.State.{RevisionState}
use Rattle.kn_slices.specs.Activators.{IsFresh}
use Rattle.kn_slices.specs.Slices.{slice_of}
use Rattle.kn_slices.proofs.group.opening.open_parts.Given as goal

abbrev pub invariant-loop-i : goal.invariant-loop-i
invariant-loop-i l = record {
  count : length l.parts.items ≡ l.i;
  room : l.n ≤ vec_capacity l.parts;
  each : (k : ℕ) (d : RevisionState) → k < l.i → IsFresh (fixed_spec (slice_of l.limit k l.n) l.pods l.timeout_s l.slots) l.pods l.start (slice_index_or l.parts.items k d);
}

use Rattle.std.proofs.Common.{◌≡◌, ◌+◌, ◌≤◌, drop, length, not}
use Rattle.std.specs.Prelude.{◌==◌}
use Rattle.kn_slices.specs.Slices.{count_from, slice_of, unset_at}
use Rattle.kn_slices.specs.Activators.{limit_at}
use Rattle.kn_slices.proofs.parts.unset_at.Given as goal

abbrev pub invariant-loop-i : goal.invariant-loop-i
invariant-loop-i l = record {
  most : l.total ≤ l.i;
  rest : l.total + count_from (λ i a. not (limit_at l.p a == slice_of l.wanted i (length l.parts))) l.i (drop l.i l.parts) ≡ unset_at (limit_at l.p) (length l.parts) l.wanted l.parts;
}

use Rattle.std.proofs.Common.{◌≡◌, drop, length}
use Rattle.kn_slices.specs.Slices.{cut_at, cut_of, first_from}
use Rattle.kn_slices.specs.Activators.{limit_at}
use Rattle.kn_slices.proofs.parts.cut_of.Given as goal

abbrev pub invariant-loop-i : goal.invariant-loop-i
invariant-loop-i l = first_from (cut_at (limit_at l.p) (length l.parts) l.wanted l.p) l.i (drop l.i l.parts) ≡ cut_of limit_at (length l.parts) l.parts l.p l.wanted

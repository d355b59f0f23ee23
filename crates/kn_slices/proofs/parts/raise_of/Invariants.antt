use Rattle.std.proofs.Common.{◌≡◌, drop, length}
use Rattle.kn_slices.specs.Slices.{first_from, hold, raise_at, raise_of}
use Rattle.kn_slices.specs.Activators.{limit_at, running_at}
use Rattle.kn_slices.proofs.parts.raise_of.Given as goal

abbrev pub invariant-loop-i : goal.invariant-loop-i
invariant-loop-i l = first_from (raise_at (limit_at l.p) (running_at l.p) (hold (limit_at l.p) (running_at l.p) l.parts) (length l.parts) l.wanted l.p) l.i (drop l.i l.parts) ≡ raise_of limit_at running_at (length l.parts) l.parts l.p l.wanted

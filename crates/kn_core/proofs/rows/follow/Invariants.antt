use Rattle.std.proofs.Common.{◌≡◌, ℕ, drop}
use Rattle.kn_record.specs.Walks.{stepped_by}
use Rattle.kn_core.specs.Following.{CanFollow}
use Rattle.kn_core.specs.Changes.{AddsNobody}
use Rattle.kn_core.proofs.rows.follow.Given as goal

-- the entries left do what all of them do
abbrev pub invariant-loop-e : goal.invariant-loop-e
invariant-loop-e l = record {
  can : ∥ CanFollow l.throttle.admission (drop l.e-index l.entries) ∥₁;
  left : stepped_by (drop l.e-index l.entries) l.throttle.admission ≡ stepped_by l.entries l.fn.throttle.admission;
  nobody : (t : ℕ) → AddsNobody t l.fn.throttle l.throttle;
}

-- A row with which a request ends.
use Rattle.std.proofs.Common.{◌≡◌, ℕ, ◌≤◌, refl, sym, ap, subst, ◌∙◌, arith, None}
use Rattle.kn_event.specs.declared.entry.Row.{Row}
use Rattle.kn_trace.specs.Rows.{arrived_by}
use Rattle.kn_record.specs.Admission.{Admission, live_after, pods_after, stepped}
use Rattle.kn_record.specs.Order.{AreTimed}
use Rattle.kn_throttle.specs.State.{State, with_row}
use Rattle.kn_core.specs.Changes.{AddsNobody}

pub nobody_yet : (t : ℕ) (x : State) → AddsNobody t x x
nobody_yet t x = record { spec = refl; arrivals = refl; timed = λ h. h }

pub nobody_then : (t : ℕ) (a b c : State) → AddsNobody t a b → AddsNobody t b c → AddsNobody t a c
nobody_then t a b c one two = record { spec = two.spec ∙ one.spec; arrivals = two.arrivals ∙ one.arrivals; timed = λ h. two.timed (one.timed h) }

pub nobody_by : ((a : Admission) (clock t : ℕ) (x : Row) → AreTimed clock a → clock ≤ t → AreTimed t (stepped t x a))
    → (t : ℕ) (x : Row) (old here new : State) → arrived_by x ≡ None → AddsNobody t old here → new ≡ with_row t x here → AddsNobody t old new
unfolding stepped
nobody_by step t x old here new none so e = record {
  spec = ap (λ (y : State). y.spec) e ∙ so.spec;
  arrivals = ap (λ (y : State). y.admission.arrivals) e ∙ rw none so.arrivals;
  timed = λ h. subst (λ (y : State). AreTimed t y.admission) (sym e) (step here.admission t t x (so.timed h) (omega arith));
}

pub live_by : (t : ℕ) (x : Row) (here new : State) → new ≡ with_row t x here → new.admission.live ≡ live_after t x here.admission.live
unfolding stepped
live_by t x here new e = ap (λ (y : State). y.admission.live) e

pub pods_by : (t : ℕ) (x : Row) (here new : State) → new ≡ with_row t x here → new.admission.pods ≡ pods_after x here.admission.pods
unfolding stepped
pods_by t x here new e = ap (λ (y : State). y.admission.pods) e

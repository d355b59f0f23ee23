-- Who is lost with a pod, one after the other.
use Rattle.std.proofs.Common.{◌≡◌, ℕ, Bool, true, false, not, cond, List, [], ◌∷◌, ◌++◌, map, refl, sym, ap, ◌∙◌}
use Rattle.std.specs.Prelude.{None, Some, ◌==◌}
use Rattle.std.specs.List.{filter}
use Rattle.kn_event.specs.declared.entry.Row.TheVariants as row
use Rattle.kn_event.specs.declared.event.Act.TheVariants as act
use Rattle.kn_event.specs.declared.revision.Spec.{Spec}
use Rattle.kn_event.specs.Lists.{contains}
use Rattle.kn_trace.specs.Trace.{Trace, at_pod, entry, first_of, live, live_pods}
use Rattle.kn_trace.specs.Events.{losses, lost_with}
use Rattle.kn_record.specs.declared.admission.Place.{Place}
use Rattle.kn_record.specs.declared.admission.Request.{Request}
use Rattle.kn_record.specs.Admission.{Admission, admission, is_at, place_of, placed, placed_in, stepped, without}
use Rattle.kn_record.specs.Made.{AreDistinct, IsNumbered, IsRecordOf}
use Rattle.kn_record.specs.Views.{others}
use Rattle.kn_record.specs.Walks.{BeginsWith, losing}
use Rattle.kn_record.proofs.Members.{contains-filter, distinct-filter, filter-first, filter-members}
use Rattle.kn_record.proofs.Numbers.{filter_member, first_member}
use Rattle.kn_record.proofs.Reacting.{live_distinct}
use Rattle.kn_record.proofs.Views.{placed-requests}
use Rattle.kn_record.proofs.Words.{at_pod-members}
use Rattle.kn_record.proofs.Appends.{record-push}

-- who is lost is who is there
lost-placed : (c : Trace) (p : ℕ) → IsNumbered c → lost_with c p ≡ placed (is_at p) c
unfolding lost_with placed
lost-placed c p num =
    filter-members (λ r. contains r (at_pod c p)) (λ r. is_at p (place_of c r)) (live c)
    (λ r h. at_pod-members c p r num ∙ contains-filter (λ r. is_at p (place_of c r)) r (live c) ∙ rw h refl)

lost-record : (a : Admission) (c : Trace) (p : ℕ) → IsRecordOf a c → lost_with c p ≡ placed_in (is_at p) a.live
unfolding admission
lost-record a c p h = rw h.kept (lost-placed c p h.requests ∙ placed-requests (is_at p) c)

placed-without : (test : Place → Bool) (r : ℕ) (live : List Request) → placed_in test (without r live) ≡ others r (placed_in test live)
placed-without test r [] = refl
placed-without test r (q ∷ live) = by (r == q.number) refl (test q.place) refl (placed-without test r live)
  where
    by : (m : Bool) → (r == q.number) ≡ m → (b : Bool) → test q.place ≡ b → placed_in test (without r live) ≡ others r (placed_in test live)
        → placed_in test (cond (not m) (q ∷ without r live) (without r live)) ≡ others r (map (λ (q : Request). q.number) (cond b (q ∷ filter (λ (q : Request). test q.place) live) (filter (λ (q : Request). test q.place) live)))
    by true e true f rest = rw e rest
    by true e false f rest = rest
    by false e true f rest = rw (f, e) (ap (λ (l : List ℕ). q.number ∷ l) rest)
    by false e false f rest = rw f rest

lost_distinct : (c : Trace) (p : ℕ) → IsNumbered c → AreDistinct (lost_with c p)
unfolding lost_with
lost_distinct c p num = distinct-filter (λ r. contains r (at_pod c p)) (live c) (live_distinct c num)

lost_there : (c : Trace) (p r : ℕ) → contains r (lost_with c p) ≡ true → contains r (at_pod c p) ≡ true
unfolding lost_with
lost_there c p r h = (filter_member (λ r. contains r (at_pod c p)) r (live c) h).1

pub walk_lose : (s : Spec) (a : Admission) (c : Trace) (t p r : ℕ) → IsRecordOf a c → first_of (placed_in (is_at p) a.live) ≡ Some r → BeginsWith (losing t p) t (row.LostRequest r) a c
unfolding losing stepped
walk_lose s a c t p r h f = (by (lost_with c p) refl g, goes_on)
  where
    g : first_of (lost_with c p) ≡ Some r
    g = ap (λ (l : List ℕ). first_of l) (lost-record a c p h) ∙ f

    goes_on : IsRecordOf (stepped t (row.LostRequest r) a) (c ++ entry t (row.LostRequest r) ∷ [])
    goes_on = record-push s a c t (row.LostRequest r) h (p, lost_there c p r (first_member r (lost_with c p) g))

    by : (l : List ℕ) → lost_with c p ≡ l → first_of l ≡ Some r
        → map (λ r. entry t (row.LostRequest r)) l ≡ entry t (row.LostRequest r) ∷ map (λ r. entry t (row.LostRequest r)) (lost_with (c ++ entry t (row.LostRequest r) ∷ []) p)
    by [] d k = absurd (cc)
    by (q ∷ rs) d k =
        let same : q ≡ r = cc in
        let d2 : lost_with c p ≡ r ∷ rs = cc in
        let rest : lost_with (c ++ entry t (row.LostRequest r) ∷ []) p ≡ rs =
        lost-record (stepped t (row.LostRequest r) a) (c ++ entry t (row.LostRequest r) ∷ []) p goes_on
        ∙ placed-without (is_at p) r a.live
        ∙ ap (λ (l : List ℕ). others r l) (sym (lost-record a c p h) ∙ d2)
        ∙ filter-first r rs (rw d2 at (lost_distinct c p h.requests)) in
        rw (rest, same) refl

pub walk_lost : (a : Admission) (c : Trace) (t p : ℕ) → IsRecordOf a c → first_of (placed_in (is_at p) a.live) ≡ None → losing t p c ≡ []
unfolding losing
walk_lost a c t p h f = by (lost_with c p) (ap (λ (l : List ℕ). first_of l) (lost-record a c p h) ∙ f)
  where
    by : (l : List ℕ) → first_of l ≡ None → map (λ r. entry t (row.LostRequest r)) l ≡ []
    by [] k = refl
    by (q ∷ rs) k = absurd (cc)

-- the loss of a live pod begins so
pub losses_losing : (c : Trace) (t p : ℕ) → contains p (live_pods c) ≡ true → losses t c (act.Lost p) ≡ losing t p c
unfolding losses losing
losses_losing c t p h = rw h refl

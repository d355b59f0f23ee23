-- The row of an act is what the record says.
use Rattle.std.proofs.Common.{◌≡◌, ℕ, ◌<◌, ◌%◌, Bool, true, false, cond, ◌||◌, List, [], ◌∷◌, length, refl, ap, arith, nat_le}
use Rattle.std.specs.Prelude.{Some, ◌==◌, slice_index, if◌then◌else◌}
use Rattle.std.proofs.lemmas.List.{length-map}
use Rattle.kn_event.specs.declared.entry.Row.{Row}
use Rattle.kn_event.specs.declared.entry.Row.TheVariants as row
use Rattle.kn_event.specs.declared.entry.Mode.{Mode}
use Rattle.kn_event.specs.declared.entry.Mode.TheVariants as mode
use Rattle.kn_event.specs.declared.event.Act.{Act}
use Rattle.kn_event.specs.declared.event.Act.TheVariants as act
use Rattle.kn_event.specs.declared.revision.Spec.{Spec}
use Rattle.kn_event.specs.Lists.{contains}
use Rattle.kn_trace.specs.Trace.{Trace, is_starting}
use Rattle.kn_trace.specs.Scale.{mode_of}
use Rattle.kn_trace.specs.Events.{act_row, admission_row, arrival_row, direct_row, live_most}
use Rattle.kn_record.specs.declared.admission.Pod.{Pod}
use Rattle.kn_record.specs.declared.admission.Readiness.{Readiness}
use Rattle.kn_record.specs.declared.admission.Request.{Request}
use Rattle.kn_record.specs.Acting.{admission_row_in, arrival_row_in, direct_row_in, row_in}
use Rattle.kn_record.specs.Admission.{Admission, is_ready_now, is_starting_now, pods_in}
use Rattle.kn_record.specs.Made.{IsRecordOf}
use Rattle.kn_record.specs.Views.{AreViews, pod_numbers}
use Rattle.kn_record.proofs.Members.{contains-at}
use Rattle.kn_record.proofs.Standing.{are_views}

-- the pod in turn is one of them
turn_member : (n : ℕ) (ps : List ℕ) → 0 < length ps → contains (slice_index ps (n % length ps)) ps ≡ true
turn_member n ps h = contains-at ps (n % length ps) _ (omega arith)

-- the pods of some readiness are among all of them
pub passing_listed : (test : Readiness → Bool) (p : ℕ) (all : List Pod) → contains p (pods_in test all) ≡ true → contains p (pod_numbers all) ≡ true
passing_listed test p [] h = h
passing_listed test p (q ∷ all) h = by (test q.readiness) refl (passing_listed test p all)
  where
    step : (m : Bool) → (m || contains p (pods_in test all)) ≡ true → (contains p (pods_in test all) ≡ true → contains p (pod_numbers all) ≡ true) → (m || contains p (pod_numbers all)) ≡ true
    step true k rest = refl
    step false k rest = rest k

    more : (m : Bool) → contains p (pod_numbers all) ≡ true → (m || contains p (pod_numbers all)) ≡ true
    more true k = refl
    more false k = k

    by : (b : Bool) → test q.readiness ≡ b → (contains p (pods_in test all) ≡ true → contains p (pod_numbers all) ≡ true) → contains p (pod_numbers (q ∷ all)) ≡ true
    by true e rest = step (q.number == p) (rw e at h) rest
    by false e rest = more (q.number == p) (rest (rw e at h))

direct_by_record : (s : Spec) (a : Admission) (c : Trace) (p : ℕ) (ps : List ℕ) → AreViews s a c → pods_in is_ready_now a.pods ≡ p ∷ ps → direct_row c (p ∷ ps) ≡ direct_row_in a (p ∷ ps)
direct_by_record s a c p ps v ready =
    rw (v.arrivals, v.turn, v.full_at q (passing_listed is_ready_now q a.pods (rw ready (turn_member a.turn (p ∷ ps) (omega arith))))) refl
  where
    q : ℕ
    q = slice_index (p ∷ ps) (a.turn % length (p ∷ ps))

admission_by_record : (s : Spec) (a : Admission) (c : Trace) (tag : ℕ) → AreViews s a c → admission_row s c tag ≡ admission_row_in s a tag
admission_by_record s a c tag v = rw (v.arrivals, v.full) refl

arrival_by_record : (m : Mode) (s : Spec) (a : Admission) (c : Trace) (ready : List ℕ) (tag : ℕ) → AreViews s a c → pods_in is_ready_now a.pods ≡ ready → arrival_row m s c ready tag ≡ arrival_row_in m s a ready tag
arrival_by_record mode.Serve s a c (p ∷ ps) tag v k = direct_by_record s a c p ps v k
arrival_by_record mode.Serve s a c [] tag v k = admission_by_record s a c tag v
arrival_by_record mode.Proxy s a c ready tag v k = admission_by_record s a c tag v

ready_by_record : (s : Spec) (a : Admission) (c : Trace) (p : ℕ) → IsRecordOf a c → act_row s c (act.Ready p) ≡ row_in s (mode_of c) a (act.Ready p)
unfolding act_row row_in
ready_by_record s a c p h = rw (v.pods) (by (contains p (pod_numbers a.pods)) refl)
  where
    v : AreViews s a c
    v = are_views s a c h

    by : (b : Bool) → contains p (pod_numbers a.pods) ≡ b
        → Some (cond b (if is_starting c p then row.Ready p else row.NotStarting p) (row.NoPod p)) ≡ Some (cond b (if contains p (pods_in is_starting_now a.pods) then row.Ready p else row.NotStarting p) (row.NoPod p))
    by true e = rw (v.is_starting p (rw (v.pods) e)) refl
    by false e = refl

-- the row of an act, whichever it is
pub act_by_record : (s : Spec) (a : Admission) (c : Trace) (did : Act) → IsRecordOf a c → act_row s c did ≡ row_in s (mode_of c) a did
unfolding act_row row_in
act_by_record s a c (act.Arrive tag) h =
    let v = are_views s a c h in
    rw (v.arrivals, v.live, length-map a.live (λ (q : Request). q.number), v.ready)
    (ap (λ (x : Row). Some (if nat_le live_most (length a.live) then row.Overload a.arrivals else x)) (arrival_by_record (mode_of c) s a c (pods_in is_ready_now a.pods) tag v refl))
act_by_record s a c (act.Finish r ok) h = rw ((are_views s a c h).is_running r) refl
act_by_record s a c (act.Cancel r) h = rw ((are_views s a c h).waiting) refl
act_by_record s a c act.Pass h = refl
act_by_record s a c (act.Ready p) h = ready_by_record s a c p h
act_by_record s a c (act.Limit p n) h = rw ((are_views s a c h).pods) refl
act_by_record s a c (act.Lost p) h = rw ((are_views s a c h).pods) refl
act_by_record s a c act.Tick h = refl

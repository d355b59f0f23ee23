-- One more entry changes the record by one step.
use Rattle.std.proofs.Common.{◌≡◌, ℕ, ◌+◌, true, false, not, List, [], ◌∷◌, ◌++◌, refl, ◌∙◌, length, arith, append-nil, append_assoc, map}
use Rattle.std.specs.Prelude.{Option, None, Some, ◌==◌}
use Rattle.std.specs.List.{list_any}
use Rattle.std.proofs.lemmas.Bool.{or_parts}
use Rattle.kn_event.specs.declared.entry.Entry.{Entry}
use Rattle.kn_event.specs.declared.entry.Row.{Row}
use Rattle.kn_event.specs.declared.entry.Row.TheVariants as row
use Rattle.kn_event.specs.declared.revision.Spec.{Spec}
use Rattle.kn_event.specs.Lists.{contains}
use Rattle.kn_trace.specs.Rows.{arrived_by, taken_by, assigned_by, turned_by, created_by, readied_by, drained_by, gone_by}
use Rattle.kn_trace.specs.Trace.{Trace, entry, each_row, arrivals, created, direct_turn, ended, is_live_pod, live, live_pods}
use Rattle.kn_trace.specs.Choice.{assignment_count, place_by, place_from, round_robin_place}
use Rattle.kn_record.specs.declared.admission.Request.{Request}
use Rattle.kn_record.specs.declared.admission.Pod.{Pod}
use Rattle.kn_record.specs.Rows.{named_by, pod_named_by, counted}
use Rattle.kn_record.specs.Admission.{Admission, admission, nothing_yet, stepped, live_requests, live_after, more_by, pods, pods_after, robin_after}
use Rattle.kn_record.specs.Made.{IsMade, IsProper, IsRecordOf}
use Rattle.kn_record.proofs.Flags.{length-push}
use Rattle.kn_record.proofs.Kept.{kept-nil, made_kept}
use Rattle.kn_record.proofs.Members.{other_number, contains-filter, contains-within}
use Rattle.kn_record.proofs.Requests.{live_requests-quiet, live_requests-end, live_requests-assign, live_requests-run, live_requests-admit, live_requests-direct}
use Rattle.kn_record.proofs.Views.{live-requests}
use Rattle.kn_record.proofs.Numbers.{KeepsNumbers, IsNumbered-push, is_new, keeps_none, proper_keeps, taken_named}
use Rattle.kn_record.proofs.Pods.{IsNewPod, pods-quiet, pods-limit, pods-ready, pods-drain, pods-gone, pods-create, ready-pods, live-pods}
use Rattle.kn_record.proofs.PodNumbers.{KeepsPods, ArePodsNumbered-push, keeps_live_pod, proper_keeps_pods, removed_named, drained_named, readied_named, created_named}

-- ---- requests

numbers-absent : (r : ℕ) (l : List Request) → contains r (map (λ (q : Request). q.number) l) ≡ false → list_any (λ (q : Request). r == q.number) l ≡ false
numbers-absent r [] h = refl
numbers-absent r (q ∷ l) h = let both = or_parts (q.number == r) _ h in rw (other_number q.number r both.0) (numbers-absent r l both.1)

-- a request that no row is about is not live
pub not_live : (c : Trace) (r : ℕ) → contains r (each_row named_by c) ≡ false → contains r (live c) ≡ false
unfolding live
not_live c r h = contains-filter (λ r. not (ended c r)) r (each_row taken_by c) ∙ rw (contains-within taken_by named_by taken_named r c h) refl

-- one more entry changes the live requests by one step
pub live-push : (c : Trace) (t : ℕ) (x : Row) → KeepsNumbers c x → live_requests (c ++ entry t x ∷ []) ≡ live_after t x (live_requests c)
live-push c t (row.Admit r tag) keeps = live_requests-admit c t r tag (is_new c r (keeps.fresh r refl))
live-push c t (row.Direct r p) keeps =
    let fresh = keeps.fresh r refl in
    live_requests-direct c t r p (is_new c r fresh) (numbers-absent r (live_requests c) (rw (← live-requests c) (not_live c r fresh)))
live-push c t (row.Assign r p) keeps = live_requests-assign c t r p
live-push c t (row.Run r) keeps = live_requests-run c t r
live-push c t (row.Finish r ok) keeps = live_requests-end c (entry t (row.Finish r ok)) r refl refl refl refl (λ q. refl)
live-push c t (row.Expire r) keeps = live_requests-end c (entry t (row.Expire r)) r refl refl refl refl (λ q. refl)
live-push c t (row.Cancel r) keeps = live_requests-end c (entry t (row.Cancel r)) r refl refl refl refl (λ q. refl)
live-push c t (row.LostRequest r) keeps = live_requests-end c (entry t (row.LostRequest r)) r refl refl refl refl (λ q. refl)
live-push c t x keeps = live_requests-quiet c (entry t x) refl refl refl refl (λ q. refl)

-- ---- pods

pod-numbers-absent : (p : ℕ) (l : List Pod) → contains p (map (λ (q : Pod). q.number) l) ≡ false → list_any (λ (q : Pod). p == q.number) l ≡ false
pod-numbers-absent p [] h = refl
pod-numbers-absent p (q ∷ l) h = let both = or_parts (q.number == p) _ h in rw (other_number q.number p both.0) (pod-numbers-absent p l both.1)

pub not_live_pod : (c : Trace) (p : ℕ) → contains p (each_row pod_named_by c) ≡ false → contains p (live_pods c) ≡ false
unfolding live_pods
not_live_pod c p h = contains-filter (is_live_pod c) p (each_row created_by c) ∙ rw (contains-within created_by pod_named_by created_named p c h) refl

is_new_pod : (c : Trace) (p : ℕ) → contains p (each_row pod_named_by c) ≡ false → IsNewPod c p
is_new_pod c p h = record {
  removed = contains-within gone_by pod_named_by removed_named p c h;
  drained = contains-within drained_by pod_named_by drained_named p c h;
  readied = contains-within readied_by pod_named_by readied_named p c h;
  absent = pod-numbers-absent p (pods c) (rw (← live-pods c) (not_live_pod c p h));
}

-- one more entry changes the pods by one step
pub pods-push : (c : Trace) (t : ℕ) (x : Row) → KeepsPods c x → pods (c ++ entry t x ∷ []) ≡ pods_after x (pods c)
pods-push c t (row.Create p n) keeps = pods-create c t p n (is_new_pod c p (keeps.fresh p refl))
pods-push c t (row.Limit p n) keeps = pods-limit c t p n
pods-push c t (row.Ready p) keeps = pods-ready c t p
pods-push c t (row.Drain p) keeps = pods-drain c t p
pods-push c t (row.Remove p) keeps = pods-gone c (entry t (row.Remove p)) p refl refl refl refl (λ q. refl)
pods-push c t (row.LostPod p) keeps = pods-gone c (entry t (row.LostPod p)) p refl refl refl refl (λ q. refl)
pods-push c t x keeps = pods-quiet c (entry t x) refl refl refl refl (λ q. refl)

-- ---- the place of the round robin

place_from-push : (place : ℕ) (before c : Trace) (e : Entry) → place_from place before (c ++ e ∷ []) ≡ place_by (before ++ c) e.row (place_from place before c)
place_from-push place before [] e = rw (append-nil before) refl
place_from-push place before (x ∷ c) e = rw (append_assoc before (x ∷ []) c) at (place_from-push (place_by before x.row place) (before ++ x ∷ []) c e)

-- the place of the round robin by one more entry
robin-push : (c : Trace) (t : ℕ) (x : Row) → round_robin_place (c ++ entry t x ∷ []) ≡ robin_after x (pods c) (round_robin_place c)
unfolding round_robin_place
robin-push c t x = place_from-push 0 [] c (entry t x) ∙ by x
  where
    by : (x : Row) → place_by c x (place_from 0 [] c) ≡ robin_after x (pods c) (place_from 0 [] c)
    by (row.Assign r p) = rw (ready-pods c) refl
    by _ = refl

-- ---- all of it

-- the record by one more entry, where the row keeps both numberings
pub admission-push : (c : Trace) (t : ℕ) (x : Row) → KeepsNumbers c x → KeepsPods c x → admission (c ++ entry t x ∷ []) ≡ stepped t x (admission c)
unfolding admission stepped arrivals created assignment_count direct_turn
admission-push c t x requests' pods' =
    let a = length-push arrived_by c (entry t x) in
    let b = live-push c t x requests' in
    let d = length-push created_by c (entry t x) in
    let e = pods-push c t x pods' in
    let f = length-push assigned_by c (entry t x) in
    let g = robin-push c t x in
    let h = length-push turned_by c (entry t x) in
    rw (a, b, d, e, f, g, h, more-counted (arrived_by x) (length (each_row arrived_by c)), more-counted (created_by x) (length (each_row created_by c)), more-counted (assigned_by x) (length (each_row assigned_by c)), more-counted (turned_by x) (length (each_row turned_by c))) refl
  where
    more-counted : (o : Option ℕ) (n : ℕ) → n + counted o ≡ more_by o n
    more-counted None n = omega arith
    more-counted (Some q) n = refl

-- a record that stands for a trace goes on by its step
pub record-push : (s : Spec) (a : Admission) (c : Trace) (t : ℕ) (x : Row) → IsRecordOf a c → IsProper s c x → IsRecordOf (stepped t x a) (c ++ entry t x ∷ [])
record-push s a c t x h p =
    let k = proper_keeps s c x h.requests p in
    let l = proper_keeps_pods s c x h.pods p in
    record {
      kept = rw (admission-push c t x k l, h.kept) refl;
      requests = IsNumbered-push c (entry t x) h.requests k;
      pods = ArePodsNumbered-push c (entry t x) h.pods l;
    }

-- a live pod that is lost leaves the record, whoever is there
pub stands_lost : (a : Admission) (c : Trace) (t p : ℕ) → IsRecordOf a c → contains p (live_pods c) ≡ true → IsRecordOf (stepped t (row.LostPod p) a) (c ++ entry t (row.LostPod p) ∷ [])
stands_lost a c t p h live =
    let x = row.LostPod p in
    let k = keeps_none c x refl refl refl refl in
    let l = keeps_live_pod c x p h.pods live refl refl in
    record {
      kept = rw (admission-push c t x k l, h.kept) refl;
      requests = IsNumbered-push c (entry t x) h.requests k;
      pods = ArePodsNumbered-push c (entry t x) h.pods l;
    }

-- the record of a trace that was made stands for it
pub stands_made : (s : Spec) (c : Trace) → IsMade s c → IsRecordOf (admission c) c
stands_made s c made = let kept = made_kept s c made in record { kept = refl; requests = kept.requests; pods = kept.pods }

-- so at each trace that was made
pub admission_made : (s : Spec) (c : Trace) (t : ℕ) (x : Row) → IsMade s c → IsProper s c x → admission (c ++ entry t x ∷ []) ≡ stepped t x (admission c)
admission_made s c t x made p = let kept = made_kept s c made in admission-push c t x (proper_keeps s c x kept.requests p) (proper_keeps_pods s c x kept.pods p)

-- the empty record stands for the trace without an entry
pub stands_nothing : (s : Spec) → IsRecordOf nothing_yet []
unfolding admission arrivals live_requests created pods assignment_count round_robin_place direct_turn
stands_nothing s = let kept = kept-nil s in record { kept = refl; requests = kept.requests; pods = kept.pods }

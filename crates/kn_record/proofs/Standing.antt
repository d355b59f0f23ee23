-- What a record answers that stands for a trace.
use Rattle.std.proofs.Common.{◌≡◌, ℕ, ◌+◌, Bool, true, false, not, cond, ◌&&◌, ◌||◌, List, [], ◌∷◌, ◌++◌, length, map, min, nat_le, nat_lt, refl, sym, ap, subst, ◌∙◌, arith}
use Rattle.std.specs.Prelude.{Option, None, Some, ◌==◌, if◌then◌else◌}
use Rattle.std.specs.Bool.{then_some}
use Rattle.std.specs.List.{All, filter, filter_map, cons_option, find, sum_by}
use Rattle.std.proofs.lemmas.Bool.{eqb-true, true_from_ne_false}
use Rattle.std.proofs.lemmas.List.Elements.{All-weaker}
use Rattle.std.proofs.lemmas.List.Sums.{sum_by-cons}
use Rattle.kn_event.specs.declared.entry.Entry.{Entry}
use Rattle.kn_event.specs.declared.entry.Row.{Row}
use Rattle.kn_event.specs.declared.entry.Row.TheVariants as row
use Rattle.kn_event.specs.declared.event.Act.{Act}
use Rattle.kn_event.specs.declared.event.Act.TheVariants as act
use Rattle.kn_event.specs.declared.event.Stand.TheVariants as stand
use Rattle.kn_event.specs.declared.revision.Spec.{Spec}
use Rattle.kn_event.specs.Lists.{contains}
use Rattle.kn_trace.specs.declared.candidate.Cand.{Cand}
use Rattle.kn_trace.specs.Rows.{taken_by}
use Rattle.kn_trace.specs.Trace.{Trace, entry, arrivals, assigned, each_row, ended, has_begun, has_free_seat, has_not_begun, has_run, limit_of, live, live_pods, next_starting, pod_of, ready_pods, running_at, stand_at, stand_of, stand_of_arrived, stand_where}
use Rattle.kn_trace.specs.Capacity.{breaker_full, capacity, pod_full, seats_of}
use Rattle.kn_trace.specs.Choice.{candidates, choice}
use Rattle.kn_trace.specs.Settling.{next_choice}
use Rattle.kn_trace.specs.Events.{act_row, due, due_by}
use Rattle.kn_record.specs.declared.admission.Place.{Place}
use Rattle.kn_record.specs.declared.admission.Pod.{Pod}
use Rattle.kn_record.specs.declared.admission.Request.{Request}
use Rattle.kn_record.specs.Admission.{Admission, admission, candidates_in, capacity_in, is_assigned_place, is_at, is_held_place, is_ready_now, is_through, live_requests, next_in, place_at, place_of, placed, placed_in, pods, queues_at, request_of, runs_at, runs_somewhere, stepped, waits}
use Rattle.kn_record.specs.Made.{IsMade, IsNumbered, IsRecordOf}
use Rattle.kn_record.specs.Views.{AreByPlace, AreViews, due_in, is_free, is_full, stand_found, stand_in, stand_of_place}
use Rattle.kn_record.proofs.Members.{filter-members}
use Rattle.kn_record.proofs.Pods.{live-pods, ready-pods}
use Rattle.kn_record.proofs.Views.{live-requests, placed-requests}
use Rattle.kn_record.proofs.Kept.{made_kept}
use Rattle.kn_record.proofs.Words.{at_pod-count, at_pod-members, held-placed, in_breaker-placed, in_use-count, is_running-placed, proxied-placed, running_at-count, running_at-members, waiting-placed, waiting_by, agrees}
use Rattle.kn_record.proofs.Queues.{queued_at-placed}
use Rattle.kn_record.proofs.PodViews.{by_number, draining-pods, live_is_starting, pods_limits, ready_limits, starting-pods}
use Rattle.kn_record.proofs.Reacting.{act-holds, contains-fewer, due_taken}
use Rattle.kn_record.proofs.Appends.{record-push, stands_lost}

-- ---- the views by place

pub by_place : (c : Trace) → IsNumbered c → AreByPlace c
by_place c num = record {
  held = held-placed c num;
  waiting = waiting-placed c num;
  in_breaker = in_breaker-placed c num;
  queued = λ p. queued_at-placed c p num;
  is_at_pod = λ p r. at_pod-members c p r num;
  count_at_pod = λ p. at_pod-count c p num;
  is_running_at = λ p r. running_at-members c p r num;
  count_running_at = λ p. running_at-count c p num;
  in_use = in_use-count c num;
  is_running = λ r. is_running-placed c r num;
}

pub made_by_place : (s : Spec) (c : Trace) → IsMade s c → AreByPlace c
made_by_place s c made = by_place c (made_kept s c made).requests

-- ---- who is due

-- who is due, of the live requests
due-requests : (s : Spec) (t : ℕ) (c : Trace) → IsNumbered c → due s t c ≡ due_in s.timeout_ms t (live_requests c)
unfolding due live_requests request_of has_not_begun has_begun place_of
due-requests s t c num = first ∙ from c
  where
    test : ℕ → Bool
    test r = not (ended c r) && waits (place_of c r)

    first : filter (has_not_begun c) (filter_map (due_by s.timeout_ms t) c) ≡ filter test (filter_map (due_by s.timeout_ms t) c)
    first = filter-members (has_not_begun c) test (filter_map (due_by s.timeout_ms t) c)
        (λ r h. waiting_by _ _ _ _ (ended c r) _ (agrees c r num (true_from_ne_false (contains r (each_row taken_by c)) (λ n. let no = contains-fewer (due_by s.timeout_ms t) (λ (e : Entry). taken_by e.row) (due_taken s.timeout_ms t) r c n in absurd (cc)))))

    from : (d : Trace) → filter test (filter_map (due_by s.timeout_ms t) d) ≡ due_in s.timeout_ms t (filter_map (λ (e : Entry). request_of c e.time (taken_by e.row)) d)
    from [] = refl
    from (e ∷ d) = by (taken_by e.row) (nat_le (e.time + s.timeout_ms) t) refl (from d)
      where
        step : (r : ℕ) (g w b : Bool) (us : List ℕ) (vs : List Request) → ended c r ≡ g → waits (place_of c r) ≡ w → nat_le (e.time + s.timeout_ms) t ≡ b → filter test us ≡ due_in s.timeout_ms t vs
            → filter test (cons_option (cond b (Some r) None) us) ≡ due_in s.timeout_ms t (cons_option (then_some (not g) (record { number = r; time = e.time; place = place_of c r })) vs)
        step r true w false us vs eg ew eb h = h
        step r true w true us vs eg ew eb h = rw eg h
        step r false true true us vs eg ew eb h = rw (eg, ew, eb) (ap (λ (l : List ℕ). r ∷ l) h)
        step r false true false us vs eg ew eb h = rw (ew, eb) h
        step r false false true us vs eg ew eb h = rw (eg, ew) h
        step r false false false us vs eg ew eb h = rw (ew) h

        by : (o : Option ℕ) (b : Bool) → nat_le (e.time + s.timeout_ms) t ≡ b → filter test (filter_map (due_by s.timeout_ms t) d) ≡ due_in s.timeout_ms t (filter_map (λ (e : Entry). request_of c e.time (taken_by e.row)) d)
            → filter test (cons_option (cond b o None) (filter_map (due_by s.timeout_ms t) d)) ≡ due_in s.timeout_ms t (cons_option (request_of c e.time o) (filter_map (λ (e : Entry). request_of c e.time (taken_by e.row)) d))
        by None true eb h = h
        by None false eb h = h
        by (Some r) b eb h = step r (ended c r) (waits (place_of c r)) b _ _ refl refl eb h

-- ---- where a request stands

stand_place : (s n : Bool) (o : Option ℕ) → stand_at (s || n) o ≡ stand_of_place (place_at o s n)
stand_place s n None = refl
stand_place true n (Some p) = refl
stand_place false true (Some p) = refl
stand_place false false (Some p) = refl

-- where a request stands, of the live requests
stand-requests : (c : Trace) (r : ℕ) → stand_found (find (λ (q : Request). q.number == r) (live_requests c)) ≡ stand_of_arrived (contains r (live c)) (has_begun c r) (pod_of c r)
unfolding live live_requests request_of has_begun place_of
stand-requests c r = from c
  where
    from : (d : Trace) → stand_found (find (λ (q : Request). q.number == r) (filter_map (λ (e : Entry). request_of c e.time (taken_by e.row)) d))
        ≡ stand_of_arrived (contains r (filter (λ r. not (ended c r)) (each_row taken_by d))) (has_begun c r) (pod_of c r)
    from [] = refl
    from (e ∷ d) = by (taken_by e.row) (from d)
      where
        step : (q : ℕ) (g m : Bool) (us : List ℕ) (vs : List Request) → (q == r) ≡ m → stand_found (find (λ (q : Request). q.number == r) vs) ≡ stand_of_arrived (contains r us) (has_begun c r) (pod_of c r)
            → stand_found (find (λ (q : Request). q.number == r) (cons_option (then_some (not g) (record { number = q; time = e.time; place = place_of c q })) vs))
            ≡ stand_of_arrived (contains r (cond (not g) (q ∷ us) us)) (has_begun c r) (pod_of c r)
        step q true m us vs k h = h
        step q false true us vs k h = rw k (ap (λ (x : ℕ). stand_of_place (place_of c x)) (eqb-true q r k) ∙ sym (stand_place (assigned c r) (has_run c r) (pod_of c r)))
        step q false false us vs k h = rw k h

        by : (o : Option ℕ) → stand_found (find (λ (q : Request). q.number == r) (filter_map (λ (e : Entry). request_of c e.time (taken_by e.row)) d))
            ≡ stand_of_arrived (contains r (filter (λ r. not (ended c r)) (each_row taken_by d))) (has_begun c r) (pod_of c r)
            → stand_found (find (λ (q : Request). q.number == r) (cons_option (request_of c e.time o) (filter_map (λ (e : Entry). request_of c e.time (taken_by e.row)) d)))
            ≡ stand_of_arrived (contains r (filter (λ r. not (ended c r)) (cons_option o (each_row taken_by d)))) (has_begun c r) (pod_of c r)
        by None rest = rest
        by (Some q) rest = step q (ended c q) (q == r) _ _ refl rest

stand-record : (c : Trace) (r : ℕ) → stand_of c r ≡ stand_in (admission c) r
unfolding stand_of admission
stand-record c r = rw (sym (stand-requests c r)) (by (nat_lt r (arrivals c)))
  where
    by : (b : Bool) → stand_where b (stand_found (find (λ (q : Request). q.number == r) (live_requests c))) ≡ (if b then stand_found (find (λ (q : Request). q.number == r) (live_requests c)) else stand.Unknown)
    by true = refl
    by false = refl

-- ---- what the choice reads

map-agree : {X Y : Type 0} (f g : X → Y) → ((x : X) → f x ≡ g x) → (xs : List X) → map f xs ≡ map g xs
map-agree f g same [] = refl
map-agree {X} {Y} f g same (x ∷ xs) = rw (same x) (ap (λ (l : List Y). g x ∷ l) (map-agree f g same xs))

count_in : (test : Place → Bool) (c : Trace) → length (placed test c) ≡ length (placed_in test (live_requests c))
count_in test c = ap (λ (l : List ℕ). length l) (placed-requests test c)

-- the candidates
candidates-record : (c : Trace) → IsNumbered c → candidates c ≡ candidates_in (live_requests c) (pods c)
unfolding candidates candidates_in
candidates-record c num =
    map-agree (λ p. record { pod = p; limit = limit_of c p; running = length (running_at c p) }) (λ p. cand p (limit_of c p)) (λ p. rw (running_at-count c p num, count_in (runs_at p) c) refl) (ready_pods c)
    ∙ ready_limits cand c
  where
    cand : ℕ → ℕ → Cand
    cand p n = record { pod = p; limit = n; running = length (placed_in (runs_at p) (live_requests c)) }

-- the capacity
capacity-record : (s : Spec) (c : Trace) → capacity s c ≡ capacity_in s.slots.max (pods c)
unfolding capacity capacity_in
capacity-record s c =
    ap (λ (n : ℕ). min s.slots.max n)
    (sum_by-map (λ p. seats_of s.slots.max (limit_of c p)) (ready_pods c)
    ∙ ap (λ (l : List ℕ). sum_by (λ n. n) l) (ready_limits (λ p n. seats_of s.slots.max n) c)
    ∙ map-sum (λ (q : Pod). seats_of s.slots.max q.limit) (filter (λ (q : Pod). is_ready_now q.readiness) (pods c)))
  where
    map-sum : (f : Pod → ℕ) (xs : List Pod) → sum_by (λ n. n) (map f xs) ≡ sum_by f xs
    map-sum f [] = refl
    map-sum f (x ∷ xs) = let rest = map-sum f xs in let e = sum_by-cons f x xs in let h = sum_by-cons (λ (y : ℕ). y) (f x) (map f xs) in omega arith

    sum_by-map : (f : ℕ → ℕ) (xs : List ℕ) → sum_by f xs ≡ sum_by (λ n. n) (map f xs)
    sum_by-map f [] = refl
    sum_by-map f (x ∷ xs) = let rest = sum_by-map f xs in let e = sum_by-cons f x xs in let h = sum_by-cons (λ (y : ℕ). y) (f x) (map f xs) in omega arith

-- the next choice
next-record : (s : Spec) (c : Trace) → IsNumbered c → next_choice s c ≡ next_in s (admission c)
unfolding next_choice next_in choice admission
next-record s c num = rw (capacity-record s c, candidates-record c num, in_use-count c num, count_in is_assigned_place c) refl

-- ---- all of them

-- of each pod of the record, whether it has a free seat and whether it is full
free_pods : (c : Trace) → IsNumbered c → All (λ (q : Pod). has_free_seat c q.number ≡ is_free (live_requests c) q) (pods c)
unfolding has_free_seat
free_pods c num =
    All-weaker (λ (q : Pod). limit_of c q.number ≡ q.limit) (λ (q : Pod). has_free_seat c q.number ≡ is_free (live_requests c) q) (λ q e. rw (e, running_at-count c q.number num, count_in (runs_at q.number) c) refl) (pods c) (pods_limits c)

full_pods : (c : Trace) → IsNumbered c → All (λ (q : Pod). pod_full c q.number ≡ is_full (live_requests c) q) (pods c)
unfolding pod_full
full_pods c num =
    All-weaker (λ (q : Pod). limit_of c q.number ≡ q.limit) (λ (q : Pod). pod_full c q.number ≡ is_full (live_requests c) q) (λ q e. rw (e, at_pod-count c q.number num, count_in (is_at q.number) c) refl) (pods c) (pods_limits c)

views_of : (s : Spec) (c : Trace) → IsNumbered c → AreViews s (admission c) c
unfolding admission breaker_full next_starting
views_of s c num = record {
  arrivals = refl;
  turn = refl;
  live = live-requests c;
  held = held-placed c num ∙ placed-requests is_held_place c;
  waiting = waiting-placed c num ∙ placed-requests waits c;
  in_breaker = in_breaker-placed c num ∙ placed-requests is_through c;
  full = rw (in_breaker-placed c num, count_in is_through c) refl;
  queued = λ p. queued_at-placed c p num ∙ placed-requests (queues_at p) c;
  is_at_pod = λ p r. at_pod-members c p r num ∙ ap (λ (l : List ℕ). contains r l) (placed-requests (is_at p) c);
  count_at_pod = λ p. at_pod-count c p num ∙ count_in (is_at p) c;
  is_running_at = λ p r. running_at-members c p r num ∙ ap (λ (l : List ℕ). contains r l) (placed-requests (runs_at p) c);
  count_running_at = λ p. running_at-count c p num ∙ count_in (runs_at p) c;
  in_use = in_use-count c num ∙ count_in is_assigned_place c;
  is_running = λ r. is_running-placed c r num ∙ ap (λ (l : List ℕ). contains r l) (placed-requests runs_somewhere c);
  proxied = λ r. proxied-placed c r num ∙ ap (λ (l : List ℕ). contains r l) (placed-requests is_assigned_place c);
  due = λ t. due-requests s t c num;
  stand = λ r. stand-record c r;
  created = refl;
  pods = live-pods c;
  starting = starting-pods c;
  is_starting = λ p h. live_is_starting c p h ∙ ap (λ (l : List ℕ). contains p l) (starting-pods c);
  next_starting = λ from. ap (λ (l : List ℕ). find (λ p. nat_le from p) l) (starting-pods c);
  ready = ready-pods c;
  draining = draining-pods c;
  limits = pods_limits c;
  free = free_pods c num;
  pod_full = full_pods c num;
  free_at = λ p h. by_number (has_free_seat c) (is_free (live_requests c)) p (pods c) (free_pods c num) h;
  full_at = λ p h. by_number (pod_full c) (is_full (live_requests c)) p (pods c) (full_pods c num) h;
  assignments = refl;
  robin = refl;
  candidates = candidates-record c num;
  capacity = capacity-record s c;
  next = next-record s c num;
}

-- a record that stands for a trace answers each view
pub are_views : (s : Spec) (a : Admission) (c : Trace) → IsRecordOf a c → AreViews s a c
are_views s a c h = rw h.kept (whole h.requests)
  where
    whole : IsNumbered c → AreViews s (admission c) c
    whole num = views_of s c num

-- the row of an act, whichever it is
lost-stands : (s : Spec) (a : Admission) (c : Trace) (t p : ℕ) (x : Row) → IsRecordOf a c → act_row s c (act.Lost p) ≡ Some x → IsRecordOf (stepped t x a) (c ++ entry t x ∷ [])
unfolding act_row
lost-stands s a c t p x h e = by (contains p (live_pods c)) refl e
  where
    P : Row → Type 0
    P y = IsRecordOf (stepped t y a) (c ++ entry t y ∷ [])

    by : (b : Bool) → contains p (live_pods c) ≡ b → Some (cond b (row.LostPod p) (row.NoPod p)) ≡ Some x → P x
    by true live e = let same : row.LostPod p ≡ x = cc in subst P same (stands_lost a c t p h live)
    by false live e = let same : row.NoPod p ≡ x = cc in subst P same (record-push s a c t (row.NoPod p) h tt)

act-stands : (s : Spec) (a : Admission) (c : Trace) (t : ℕ) (did : Act) (x : Row) → IsRecordOf a c → act_row s c did ≡ Some x → ((p : ℕ) → did ≡ act.Lost p → ⊥) → IsRecordOf (stepped t x a) (c ++ entry t x ∷ [])
act-stands s a c t did x h e other = record-push s a c t x h (rw e at (act-holds s t c did (λ p lost. absurd (other p lost)))).0

pub stands_act : (s : Spec) (a : Admission) (c : Trace) (t : ℕ) (did : Act) (x : Row) → IsRecordOf a c → act_row s c did ≡ Some x → IsRecordOf (stepped t x a) (c ++ entry t x ∷ [])
stands_act s a c t (act.Lost p) x h e = lost-stands s a c t p x h e
stands_act s a c t did x h e = act-stands s a c t did x h e (λ p lost. absurd (cc))

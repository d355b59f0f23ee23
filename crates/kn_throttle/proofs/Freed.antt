-- A pod at which one has ended is touched only where it may have something to do.
use Rattle.std.proofs.Common.{◌≡◌, ℕ, ◌+◌, ◌-◌, Bool, true, false, not, List, [], ◌∷◌, length, get_or, refl, sym, ap, ◌∙◌, arith}
use Rattle.std.specs.Prelude.{◌==◌, ◌&&◌, nat_lt, Some, if◌then◌else◌}
use Rattle.std.proofs.lemmas.Bool.{eqb-true}
use Rattle.std.proofs.lemmas.Bool.Decides.{nat_tests}
use Rattle.kn_event.specs.declared.revision.Spec.{Spec}
use Rattle.kn_event.specs.Lists.{contains}
use Rattle.kn_trace.specs.declared.candidate.Cand.{Cand}
use Rattle.kn_trace.specs.Trace.{is_empty}
use Rattle.kn_breaker.specs.Breaker as breaker
use Rattle.kn_seats.specs.Seats as seats
use Rattle.kn_seats.specs.Pods.{has_free_seat, pod_at, requests_at_all}
use Rattle.kn_policy.specs.Policy as policy
use Rattle.kn_record.specs.declared.admission.Request.{Request}
use Rattle.kn_record.specs.declared.admission.Pod.{Pod}
use Rattle.kn_record.specs.declared.admission.Place.TheVariants as place
use Rattle.kn_record.specs.Admission.{Admission, is_at, is_draining_now, placed_in}
use Rattle.kn_record.specs.Order.{IsInOrder}
use Rattle.kn_record.specs.Views.{is_pod_where, pod_numbered, pod_numbers}
use Rattle.kn_table.specs.Moves.{Leaves}
use Rattle.kn_throttle.specs.declared.touched.Touched.{Touched}
use Rattle.kn_throttle.specs.Breaker.{released}
use Rattle.kn_throttle.specs.Candidates.{ended, with_changed}
use Rattle.kn_throttle.specs.Kept.{IsKept, can_leave, can_run}
use Rattle.kn_throttle.specs.Pods.{AreAscending}
use Rattle.kn_throttle.specs.Touched.{Covers, one_more}
use Rattle.kn_throttle.proofs.Ended.{kept_given_back}
use Rattle.kn_throttle.proofs.Parts.{pod_of}
use Rattle.kn_throttle.proofs.Same.{same_can_leave, same_can_run, same_ended}
use Rattle.kn_throttle.proofs.Walking.{each_found, leave-seat, run-seat}

-- something changes at pod p and nowhere else, and that pod has nothing to do
covers_idle : (p : ℕ) (old new : Pod → Bool) (all : List Pod) (t : Touched) → AreAscending all → is_pod_where new (pod_numbered p all) ≡ false → ((q : Pod) → (p == q.number) ≡ false → new q ≡ old q) → Covers old all t → Covers new all t
covers_idle p old new all t rise idle same c = record { others = λ k d h u. by (get_or all k d) (p == (get_or all k d).number) refl (each_found all rise k d h) (c.others k d h u); named = c.named }
  where
    by : (q : Pod) (b : Bool) → (p == q.number) ≡ b → pod_numbered q.number all ≡ Some q → old q ≡ false → new q ≡ false
    by q true e f less =
        let here : pod_numbered p all ≡ Some q = rw (eqb-true p q.number e) f in
        rw here at idle
    by q false e f less = same q e ∙ less

some_queued : (b : Bool) (xs : List ℕ) → (b && nat_lt 0 (length xs)) ≡ (b && not (is_empty xs))
some_queued b [] = refl
some_queued b (x ∷ xs) = let some : nat_lt 0 (length (x ∷ xs)) ≡ true = grind (arith, nat_tests) in rw some refl

-- a pod of the seats drains where the record's does
drains-seat : (s : Spec) (a : Admission) (b : breaker.State) (t : seats.State) (k : List Cand) (p : policy.State) (run leave : Touched) (n : ℕ) → IsKept s a b t k p run leave → contains n (pod_numbers a.pods) ≡ true
    → is_pod_where (λ (q : Pod). is_draining_now q.readiness) (pod_numbered n a.pods) ≡ (pod_at n t.pods).draining
drains-seat s a b t k p run leave n h there =
    let pod = pod_of a.live n a.pods there in
    rw (h.seats, pod.seat, pod.found) refl

pub kept_freed : (s : Spec) (a : Admission) (b d : breaker.State) (t u : seats.State) (k : List Cand) (p : policy.State) (run leave : Touched) (r n : ℕ) (x next draining : Bool) (new : List Request) → IsKept s a b t k p run leave
    → IsInOrder (record a { live = new }) → length new + 1 ≡ length a.live → Leaves r (place.Running n x) a.live new → contains n (pod_numbers a.pods) ≡ true
    → d ≡ released x b → u ≡ seats.change n (λ pod. record pod { running = pod.running - 1 }) t → requests_at_all u.pods + 1 ≡ requests_at_all t.pods
    → next ≡ (has_free_seat (pod_at n u.pods) && nat_lt 0 (length (pod_at n u.pods).queued)) → draining ≡ (pod_at n u.pods).draining
    → IsKept s (record a { live = new }) d u (with_changed n ended k) p (if next then one_more n run else run) (if draining then one_more n leave else leave)
kept_freed s a b d t u k p run leave r n x next draining new h order less l there freed e count free drains =
    let all = kept_given_back s a b d t u k p run leave r n x new h order less l there freed e count in
    record { sound = all.sound; breaker = all.breaker; seats = all.seats; placed = all.placed; candidates = all.candidates; policy = all.policy; runs = runs next free all; leaves = leaves draining drains all }
  where
    runs : (c : Bool) → c ≡ (has_free_seat (pod_at n u.pods) && nat_lt 0 (length (pod_at n u.pods).queued)) → IsKept s (record a { live = new }) d u (with_changed n ended k) p (one_more n run) (one_more n leave)
        → Covers (can_run new) a.pods (if c then one_more n run else run)
    runs true f all = all.runs
    runs false f all =
        let idle = run-seat s (record a { live = new }) d u (with_changed n ended k) p (one_more n run) (one_more n leave) n all there ∙ sym (some_queued (has_free_seat (pod_at n u.pods)) (pod_at n u.pods).queued) ∙ sym f in
        covers_idle n (can_run a.live) (can_run new) a.pods run h.sound.order.pods idle (λ q g. same_can_run a.live new q (same_ended r q.number (place.Running n x) a.live new l g)) h.runs

    leaves : (c : Bool) → c ≡ (pod_at n u.pods).draining → IsKept s (record a { live = new }) d u (with_changed n ended k) p (one_more n run) (one_more n leave)
        → Covers (can_leave new) a.pods (if c then one_more n leave else leave)
    leaves true f all = all.leaves
    leaves false f all =
        let stays = drains-seat s (record a { live = new }) d u (with_changed n ended k) p (one_more n run) (one_more n leave) n all there ∙ sym f in
        let idle = leave-seat s (record a { live = new }) d u (with_changed n ended k) p (one_more n run) (one_more n leave) n all there ∙ ap (λ (y : Bool). y && is_empty (placed_in (is_at n) new)) stays in
        covers_idle n (can_leave a.live) (can_leave new) a.pods leave h.sound.order.pods idle (λ q g. same_can_leave a.live new q (same_ended r q.number (place.Running n x) a.live new l g)) h.leaves

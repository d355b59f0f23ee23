-- The pod at which a queued request may run next, where its seats say whether one may.
use Rattle.std.proofs.Common.{◌≡◌, ℕ, Bool, true, false, not, List, [], ◌∷◌, refl, sym, ◌∙◌, Option, Some, None, IfSome}
use Rattle.std.specs.Prelude.{◌&&◌, if◌then◌else◌, slice_get}
use Rattle.kn_event.specs.declared.revision.Spec.{Spec}
use Rattle.kn_event.specs.Lists.{contains}
use Rattle.kn_trace.specs.declared.candidate.Cand.{Cand}
use Rattle.kn_trace.specs.Trace.{first_of, is_empty}
use Rattle.kn_breaker.specs.Breaker as breaker
use Rattle.kn_seats.specs.Seats as seats
use Rattle.kn_seats.specs.Pods.{has_free_seat, pod_at}
use Rattle.kn_policy.specs.Policy as policy
use Rattle.kn_record.specs.declared.admission.Pod.{Pod}
use Rattle.kn_record.specs.Admission.{Admission}
use Rattle.kn_record.specs.Views.{is_pod_where, pod_numbered, pod_numbers}
use Rattle.kn_throttle.specs.declared.touched.Touched.{Touched}
use Rattle.kn_throttle.specs.Kept.{IsKept, can_run}
use Rattle.kn_throttle.specs.Pods.{AreAscending, pods_where}
use Rattle.kn_throttle.proofs.Dispatching.{first_there, found_where}
use Rattle.kn_throttle.proofs.Walking.{run-seat}

-- this pod is there, and it is the first that passes if it does
abbrev pub IsFirst : (Pod → Bool) → List Pod → ℕ → Type 0
IsFirst test all p = first_of (pods_where test all) ≡ (if is_pod_where test (pod_numbered p all) then Some p else None)

pub first_is : (test : Pod → Bool) (all : List Pod) (o : Option ℕ) → AreAscending all → o ≡ first_of (pods_where test all) → IfSome o (λ p. contains p (pod_numbers all) ≡ true) × IfSome o (IsFirst test all)
first_is test all None rise e = (tt, tt)
first_is test all (Some p) rise e =
    let found = found_where test all p rise (first_there p _ (sym e)) in
    let passes : is_pod_where test (pod_numbered p all) ≡ true = rw found.found found.passes in
    (found.there, sym e ∙ rw passes refl)

no_next : (free : Bool) (xs : List ℕ) → None ≡ (if free then slice_get xs 0 else None) → (free && not (is_empty xs)) ≡ false
no_next false xs e = refl
no_next true [] e = refl
no_next true (x ∷ xs) e = absurd (cc)

some_next : (r : ℕ) (free : Bool) (xs : List ℕ) → Some r ≡ (if free then slice_get xs 0 else None) → (free && not (is_empty xs)) ≡ true
some_next r false xs e = absurd (cc)
some_next r true [] e = absurd (cc)
some_next r true (x ∷ xs) e = refl

module _ (s : Spec) (a : Admission) (b : breaker.State) (t : seats.State) (k : List Cand) (p : policy.State) (run leave : Touched) (n : ℕ) where
  -- no request was taken from its queue
  pub none_runs : IsKept s a b t k p run leave → contains n (pod_numbers a.pods) ≡ true → IsFirst (can_run a.live) a.pods n
      → None ≡ (if has_free_seat (pod_at n t.pods) then slice_get (pod_at n t.pods).queued 0 else None) → first_of (pods_where (can_run a.live) a.pods) ≡ None
  none_runs h there first e =
      let may = run-seat s a b t k p run leave n h there ∙ no_next (has_free_seat (pod_at n t.pods)) (pod_at n t.pods).queued e in
      first ∙ rw may refl

  -- one was
  pub one_runs : (r : ℕ) → IsKept s a b t k p run leave → contains n (pod_numbers a.pods) ≡ true → IsFirst (can_run a.live) a.pods n
      → Some r ≡ (if has_free_seat (pod_at n t.pods) then slice_get (pod_at n t.pods).queued 0 else None) → first_of (pods_where (can_run a.live) a.pods) ≡ Some n
  one_runs r h there first e =
      let may = run-seat s a b t k p run leave n h there ∙ some_next r (has_free_seat (pod_at n t.pods)) (pod_at n t.pods).queued e in
      first ∙ rw may refl

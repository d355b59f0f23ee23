-- What one more row changes of the pods of a trace, by what the record of the trace says.
use Rattle.std.proofs.Common.{◌≡◌, ℕ, Bool, true, false, ◌||◌, List, [], ◌∷◌, ◌++◌, refl, sym, ap, ◌∙◌, nat_eq, reverse, append-nil}
use Rattle.std.specs.Prelude.{Some, if◌then◌else◌}
use Rattle.std.proofs.lemmas.List.Folds.{list_any-append}
use Rattle.kn_event.specs.declared.entry.Row.{Row}
use Rattle.kn_event.specs.declared.entry.Row.TheVariants as row
use Rattle.kn_event.specs.declared.event.Act.TheVariants as act
use Rattle.kn_event.specs.declared.revision.Spec.{Spec}
use Rattle.kn_event.specs.Lists.{contains}
use Rattle.kn_trace.specs.Rows.{created_by}
use Rattle.kn_trace.specs.Trace.{Trace, created, draining, entry, is_starting, live_pods, ready_pods, starting_pods}
use Rattle.kn_trace.specs.Events.{act_row}
use Rattle.kn_trace.specs.Scale.{drain_order}
use Rattle.kn_record.specs.declared.admission.Pod.{Pod}
use Rattle.kn_record.specs.declared.admission.Readiness.{Readiness}
use Rattle.kn_record.specs.declared.admission.Readiness.TheVariants as readiness
use Rattle.kn_record.specs.Admission.{Admission, admission, drained, is_draining_now, is_ready_now, is_starting_now, more_by, pods_after, pods_in, readied, stepped}
use Rattle.kn_record.specs.Made.{IsMade, IsProper, IsRecordOf}
use Rattle.kn_record.specs.Order.{IsInOrder}
use Rattle.kn_record.specs.Views.{AreViews}
use Rattle.kn_pods.specs.Pods.{PodsState, ArePodsOf, after_row, is_live, lost_row, no_pods, ready_row, with_drained}
use Rattle.kn_pods.proofs.Places.{without_absent}
use Rattle.kn_pods.proofs.Lists.{Ascend, apart, contains-kinds, contains-reverse, pods_in-created, pods_in-gone, pods_in-limited, pods_in-marked_in, pods_in-marked_out, pods_in-marked_same}

-- what the record's laws say
pub record RecordFacts : Type 0 where
  pub pushed : (s : Spec) (c : Trace) (t : ℕ) (x : Row) → IsMade s c → IsProper s c x → admission (c ++ entry t x ∷ []) ≡ stepped t x (admission c)
  pub stands : (s : Spec) (c : Trace) → IsMade s c → IsRecordOf (admission c) c
  pub views : (s : Spec) (a : Admission) (c : Trace) → IsRecordOf a c → AreViews s a c
  pub order : (s : Spec) (a : Admission) (c : Trace) → IsMade s c → IsRecordOf a c → IsInOrder a
  pub row : (s : Spec) (c : Trace) (t : ℕ) (x : Row) → IsMade s c → IsProper s c x → IsMade s (c ++ entry t x ∷ [])

pub stands_for_none : ArePodsOf no_pods []
unfolding created starting_pods ready_pods draining
stands_for_none = record { created = refl; starting = refl; ready = refl; draining = refl }

-- ---- of the record's list of pods

abbrev state_of : ℕ → List Pod → PodsState
state_of n all = record { created = n; starting = pods_in is_starting_now all; ready = pods_in is_ready_now all; draining = pods_in is_draining_now all }

same_state : (x y : PodsState) → x.created ≡ y.created → x.starting ≡ y.starting → x.ready ≡ y.ready → x.draining ≡ y.draining → x ≡ y
same_state x y c s r d = λ i. record { created = c i; starting = s i; ready = r i; draining = d i }

starts_no_more : (f : Readiness) → is_starting_now (readied f) ≡ false
starts_no_more readiness.Starting = refl
starts_no_more readiness.Ready = refl
starts_no_more readiness.Draining = refl

still_drains : (f : Readiness) → is_draining_now (readied f) ≡ is_draining_now f
still_drains readiness.Starting = refl
still_drains readiness.Ready = refl
still_drains readiness.Draining = refl

is_ready_then : (f : Readiness) → is_starting_now f ≡ true → is_ready_now (readied f) ≡ true
is_ready_then readiness.Starting e = refl
is_ready_then readiness.Ready e = refl
is_ready_then readiness.Draining e = absurd (cc)

not_ready : (f : Readiness) → is_starting_now f ≡ true → is_ready_now f ≡ false
not_ready readiness.Starting e = refl
not_ready readiness.Ready e = absurd (cc)
not_ready readiness.Draining e = absurd (cc)

neither : (f : Readiness) → is_draining_now f ≡ true → (is_starting_now f ≡ false) × (is_ready_now f ≡ false)
neither readiness.Starting e = absurd (cc)
neither readiness.Ready e = absurd (cc)
neither readiness.Draining e = (refl, refl)

module _ (p n : ℕ) (all : List Pod) (rise : Ascend all) where
  after_ready : contains p (pods_in is_starting_now all) ≡ true → after_row (row.Ready p) (state_of n all) ≡ state_of n (pods_after (row.Ready p) all)
  after_ready h = same_state _ _ refl (sym (pods_in-marked_out p is_starting_now readied starts_no_more all))
      (sym (pods_in-marked_in p is_starting_now is_ready_now readied is_ready_then all rise h)) (sym (pods_in-marked_same p is_draining_now readied still_drains all))

  after_drain : (b : Bool) → contains p (pods_in is_starting_now all) ≡ b → (b || contains p (pods_in is_ready_now all)) ≡ true
      → with_drained p (state_of n all) ≡ state_of n (pods_after (row.Drain p) all)
  after_drain true e h =
      rw e
      (same_state _ _ refl (sym (pods_in-marked_out p is_starting_now drained (λ f. refl) all))
      (sym (pods_in-marked_out p is_ready_now drained (λ f. refl) all ∙ without_absent p (pods_in is_ready_now all) (apart p is_starting_now is_ready_now not_ready all rise e)))
      (sym (pods_in-marked_in p is_starting_now is_draining_now drained (λ f k. refl) all rise e)))
  after_drain false e h =
      rw e
      (same_state _ _ refl (sym (pods_in-marked_out p is_starting_now drained (λ f. refl) all ∙ without_absent p (pods_in is_starting_now all) e))
      (sym (pods_in-marked_out p is_ready_now drained (λ f. refl) all))
      (sym (pods_in-marked_in p is_ready_now is_draining_now drained (λ f k. refl) all rise h)))

  after_remove : contains p (pods_in is_draining_now all) ≡ true → after_row (row.Remove p) (state_of n all) ≡ state_of n (pods_after (row.Remove p) all)
  after_remove h = same_state _ _ refl
      (sym (pods_in-gone p is_starting_now all ∙ without_absent p (pods_in is_starting_now all) (apart p is_draining_now is_starting_now (λ f e. (neither f e).0) all rise h)))
      (sym (pods_in-gone p is_ready_now all ∙ without_absent p (pods_in is_ready_now all) (apart p is_draining_now is_ready_now (λ f e. (neither f e).1) all rise h)))
      (sym (pods_in-gone p is_draining_now all))

  after_lost : after_row (row.LostPod p) (state_of n all) ≡ state_of n (pods_after (row.LostPod p) all)
  after_lost = same_state _ _ refl (sym (pods_in-gone p is_starting_now all)) (sym (pods_in-gone p is_ready_now all)) (sym (pods_in-gone p is_draining_now all))

-- ---- of the trace

-- what the trace must be before the row, of the record
abbrev IsFit : Row → List Pod → Type 0
IsFit (row.Ready p) all = contains p (pods_in is_starting_now all) ≡ true
IsFit (row.Drain p) all = (contains p (pods_in is_starting_now all) || contains p (pods_in is_ready_now all)) ≡ true
IsFit (row.Remove p) all = contains p (pods_in is_draining_now all) ≡ true
IsFit _ all = Unit {0}

after_fit : (n : ℕ) (all : List Pod) → Ascend all → (x : Row) → IsFit x all → after_row x (state_of n all) ≡ state_of (more_by (created_by x) n) (pods_after x all)
after_fit n all rise (row.Create p limit) h =
    let x : Pod = record { number = p; limit = limit; readiness = readiness.Starting } in
    same_state _ _ refl (sym (pods_in-created is_starting_now all x)) (sym (pods_in-created is_ready_now all x ∙ append-nil (pods_in is_ready_now all)))
    (sym (pods_in-created is_draining_now all x ∙ append-nil (pods_in is_draining_now all)))
after_fit n all rise (row.Ready p) h = after_ready p n all rise h
after_fit n all rise (row.Drain p) h = after_drain p n all rise (contains p (pods_in is_starting_now all)) refl h
after_fit n all rise (row.Remove p) h = after_remove p n all rise h
after_fit n all rise (row.LostPod p) h = after_lost p n all rise
after_fit n all rise (row.Limit p limit) h =
    same_state _ _ refl (sym (pods_in-limited p limit is_starting_now all)) (sym (pods_in-limited p limit is_ready_now all)) (sym (pods_in-limited p limit is_draining_now all))
after_fit n all rise x h = refl

contains-drain_order : (p : ℕ) (c : Trace) → contains p (drain_order c) ≡ (contains p (starting_pods c) || contains p (ready_pods c))
unfolding drain_order
contains-drain_order p c =
    list_any-append (λ y. nat_eq y p) (reverse (starting_pods c)) (reverse (ready_pods c))
    ∙ ap (λ b. b || contains p (reverse (ready_pods c))) (contains-reverse p (starting_pods c)) ∙ ap (λ b. contains p (starting_pods c) || b) (contains-reverse p (ready_pods c))

module _ (facts : RecordFacts) (s : Spec) (c : Trace) (made : IsMade s c) where
  views : AreViews s (admission c) c
  views = facts.views s (admission c) c (facts.stands s c made)

  rise : Ascend (admission c).pods
  rise = (facts.order s (admission c) c made (facts.stands s c made)).pods

  is_state : (pods : PodsState) → ArePodsOf pods c → pods ≡ state_of (admission c).created (admission c).pods
  is_state pods stands = same_state _ _ (stands.created ∙ views.created) (stands.starting ∙ views.starting) (stands.ready ∙ views.ready) (stands.draining ∙ views.draining)

  from_state : (pods : PodsState) → pods ≡ state_of (admission c).created (admission c).pods → ArePodsOf pods c
  from_state pods e = record {
    created = ap (λ (x : PodsState). x.created) e ∙ sym views.created;
    starting = ap (λ (x : PodsState). x.starting) e ∙ sym views.starting;
    ready = ap (λ (x : PodsState). x.ready) e ∙ sym views.ready;
    draining = ap (λ (x : PodsState). x.draining) e ∙ sym views.draining;
  }

  fits : (x : Row) → IsProper s c x → IsFit x (admission c).pods
  fits (row.Ready p) h = sym (ap (contains p) views.starting) ∙ h
  fits (row.Drain p) h =
      ap (λ xs. contains p xs || contains p (pods_in is_ready_now (admission c).pods)) (sym views.starting) ∙ ap (λ xs. contains p (starting_pods c) || contains p xs) (sym views.ready)
      ∙ sym (contains-drain_order p c) ∙ h
  fits (row.Remove p) h = sym (ap (contains p) views.draining) ∙ h.0
  fits x h = tt

pub stands_row : RecordFacts → (s : Spec) (c : Trace) (t : ℕ) (x : Row) (pods : PodsState) → IsMade s c → IsProper s c x → ArePodsOf pods c → ArePodsOf (after_row x pods) (c ++ entry t x ∷ [])
unfolding stepped
stands_row facts s c t x pods made proper stands =
    let a = admission c in
    let next = facts.pushed s c t x made proper in
    from_state facts s (c ++ entry t x ∷ []) (facts.row s c t x made proper) (after_row x pods)
    (ap (after_row x) (is_state facts s c made pods stands) ∙ after_fit a.created a.pods (rise facts s c made) x (fits facts s c made x proper)
    ∙ sym (ap (λ (b : Admission). state_of b.created b.pods) next))

pub live_by : RecordFacts → (s : Spec) (c : Trace) (p : ℕ) (pods : PodsState) → IsMade s c → ArePodsOf pods c → contains p (live_pods c) ≡ is_live p pods
live_by facts s c p pods made stands =
    ap (contains p) (views facts s c made).pods ∙ contains-kinds p (admission c).pods ∙ sym (ap (is_live p) (is_state facts s c made pods stands))

-- what is said of a pod that is live, or not; that starts, is Ready or drains
ready_where : (p : ℕ) (live starting is_starting ready draining : Bool) → live ≡ ((starting || ready) || draining) → (live ≡ true → is_starting ≡ starting)
    → (if live then (if is_starting then row.Ready p else row.NotStarting p) else row.NoPod p)
    ≡ (if starting then row.Ready p else (if ready || draining then row.NotStarting p else row.NoPod p))
ready_where p true true i r d e f = rw (f refl) refl
ready_where p true false i true d e f = rw (f refl) refl
ready_where p true false i false true e f = rw (f refl) refl
ready_where p true false i false false e f = absurd (cc)
ready_where p false true i r d e f = absurd (cc)
ready_where p false false i true d e f = absurd (cc)
ready_where p false false i false true e f = absurd (cc)
ready_where p false false i false false e f = refl

pub ready_by : RecordFacts → (s : Spec) (c : Trace) (p : ℕ) (pods : PodsState) → IsMade s c → ArePodsOf pods c → act_row s c (act.Ready p) ≡ Some (ready_row p pods)
unfolding act_row
ready_by facts s c p pods made stands =
    let v = views facts s c made in
    ap Some (ready_where p (contains p (live_pods c)) (contains p pods.starting) (is_starting c p) (contains p pods.ready) (contains p pods.draining) (live_by facts s c p pods made stands)
    (λ live. v.is_starting p live ∙ sym (ap (contains p) (stands.starting ∙ v.starting))))

lost_where : (p : ℕ) (live : Bool) → (if live then row.LostPod p else row.NoPod p) ≡ lost_row p live
lost_where p true = refl
lost_where p false = refl

pub lost_by : RecordFacts → (s : Spec) (c : Trace) (p : ℕ) (pods : PodsState) → IsMade s c → ArePodsOf pods c → act_row s c (act.Lost p) ≡ Some (lost_row p (is_live p pods))
unfolding act_row
lost_by facts s c p pods made stands = ap Some (lost_where p (contains p (live_pods c)) ∙ ap (lost_row p) (live_by facts s c p pods made stands))

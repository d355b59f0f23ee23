-- What an event does to an activator, as a group sees it.
use Rattle.std.proofs.Common.{◌≡◌, ◌≤◌, ◌<◌, inl, inr, ℕ, suc, max, Bool, true, false, List, [], ◌∷◌, ◌++◌, length, get_or, refl, ap, ◌∙◌, sym, subst, arith, ◌||◌, eq-eqb, cond}
use Rattle.std.specs.Prelude.{◌==◌, Some}
use Rattle.std.specs.List.{All, find, range_with_len}
use Rattle.std.proofs.Math.Logic.{∥∥₁_elim}
use Rattle.std.proofs.lemmas.Bool.{cases_eq, eqb-true}
use Rattle.std.proofs.lemmas.List.Folds.{list_any_at}
use Rattle.std.proofs.lemmas.List.FromFn.{get_or-range_with_len, length-range_with_len}
use denote.Struct.Props.{props}
use Rattle.kn_event.specs.declared.event.Act.{Act}
use Rattle.kn_event.specs.declared.event.Act.TheVariants as act
use Rattle.kn_event.specs.declared.event.Event.{Event}
use Rattle.kn_event.specs.declared.event.Stand.TheVariants as stand
use Rattle.kn_event.specs.declared.revision.Kind.TheVariants as kind
use Rattle.kn_event.specs.declared.revision.Spec.{Spec}
use Rattle.kn_event.specs.Lists.{contains}
use Rattle.kn_trace.specs.Events.{react}
use Rattle.kn_trace.specs.Trace.{Trace, draining, limit_of, live_pods}
use Rattle.kn_trace.specs.Trace as trace
use Rattle.kn_record.specs.declared.admission.Pod.{Pod}
use Rattle.kn_record.specs.Admission.{Admission}
use Rattle.kn_record.specs.Made.{IsMade}
use Rattle.kn_record.specs.Made as made
use Rattle.kn_record.specs.Views.{AreViews, pod_numbers}
use Rattle.kn_throttle.specs.Gauges.{limit_in, limit_where}
use Rattle.kn_core.specs.State.{RevisionState, StandsFor}
use Rattle.kn_limits.specs.Limits.{StaysPods}
use Rattle.kn_slices.specs.Activators.{Goes, HasPod, HasPods, IsActivator, limit_at, running_at}
use Rattle.kn_slices.specs.Calls.{IsChangedBy}
use Rattle.kn_slices.specs.Group.{Keeps, Sets}

-- the laws that are used
pub record Laws : Type 0 where
  pub views : (s : Spec) (a : Admission) (c : Trace) → made.IsRecordOf a c → AreViews s a c
  pub runs : (s : Spec) (c : Trace) (e : Event) (p : ℕ) → IsMade s c → 1 ≤ limit_of (c ++ react s c e) p
      → length (trace.running_at (c ++ react s c e) p) ≤ max (length (trace.running_at c p)) (limit_of (c ++ react s c e) p)
  pub stay : (s : Spec) (c : Trace) (e : Event) (p : ℕ) → IsMade s c → ((q : ℕ) → e.act ≡ act.Lost q → ⊥)
      → ((r : ℕ) (ok : Bool) → e.act ≡ act.Finish r ok → trace.stand_of c r ≡ stand.Running p → ⊥)
      → length (trace.running_at c p) ≤ length (trace.running_at (c ++ react s c e) p)
  pub limits : (s : Spec) (c : Trace) (e : Event) (q pods : ℕ) → s.kind ≡ kind.Fixed pods → ((n : ℕ) → e.act ≡ act.Limit q n → ⊥) → limit_of (c ++ react s c e) q ≡ limit_of c q
  pub set : (s : Spec) (c : Trace) (e : Event) (q n pods : ℕ) → s.kind ≡ kind.Fixed pods → e.act ≡ act.Limit q n → contains q (live_pods c) ≡ true → limit_of (c ++ react s c e) q ≡ n
  pub pods : (s : Spec) (c : Trace) (e : Event) (pods : ℕ) → s.kind ≡ kind.Fixed pods → ((p : ℕ) → e.act ≡ act.Lost p → ⊥) → draining c ≡ [] → StaysPods c (c ++ react s c e)

pub first_has : (pods q : ℕ) → q < pods → contains q (range_with_len 0 pods) ≡ true
first_has pods q low =
    let all = range_with_len 0 pods in
    let inside : q < length all = omega (arith, low, length-range_with_len 0 pods) in
    let at : get_or all q 0 ≡ q = get_or-range_with_len 0 pods q 0 low ∙ omega arith in
    list_any_at (λ y. y == q) all q 0 inside (eq-eqb (get_or all q 0) q at)

pub there : (pods q : ℕ) (x : RevisionState) → HasPods pods x → q < pods → contains q (pod_numbers x.parts.throttle.admission.pods) ≡ true
there pods q x has low = ap (contains q) has.numbers ∙ first_has pods q low

head_or : (c : Trace) (p : ℕ) (q : Pod) (all : List Pod) → limit_of c q.number ≡ q.limit → (contains p (pod_numbers all) ≡ true → limit_in p all ≡ limit_of c p)
    → (b : Bool) → (q.number == p) ≡ b → (b || contains p (pod_numbers all)) ≡ true → limit_where (cond b (Some q) (find (λ (q : Pod). q.number == p) all)) ≡ limit_of c p
head_or c p q all one more true e h = sym one ∙ ap (limit_of c) (eqb-true q.number p e)
head_or c p q all one more false e h = more h

-- a limit of the record is that of the trace
pub limit_is : (c : Trace) (p : ℕ) (all : List Pod) → All (λ (q : Pod). limit_of c q.number ≡ q.limit) all → contains p (pod_numbers all) ≡ true → limit_in p all ≡ limit_of c p
limit_is c p [] each h = absurd (cc)
limit_is c p (q ∷ all) each h = head_or c p q all (each 0 q (omega arith)) (λ h. limit_is c p all (λ k d low. each (suc k) d (omega (arith, low))) h) (q.number == p) refl h

-- of a trace that it stands for
goes_at : Laws → (pods : ℕ) (e : Event) (x y : RevisionState) (c : Trace) → IsChangedBy pods e x y → StandsFor x c → Goes pods e x y
goes_at laws pods e x y c by old =
    let new = by.stands c old in
    let has = by.has in
    let fixed = by.fixed in
    let d = c ++ react x.spec c e in
    let vx = laws.views x.spec x.parts.throttle.admission c old.parts.admission in
    let vy = laws.views y.spec y.parts.throttle.admission d new.parts.admission in
    let stays = laws.pods x.spec c e pods fixed by.lost (vx.draining ∙ has.none) in
    let has' : HasPods pods y = record { numbers = sym vy.pods ∙ (stays.live ∙ (vx.pods ∙ has.numbers)); none = sym vy.draining ∙ stays.none } in
    let lx : (q : ℕ) → q < pods → limit_at q x ≡ limit_of c q = λ q low. limit_is c q x.parts.throttle.admission.pods vx.limits (there pods q x has low) in
    let ly : (q : ℕ) → q < pods → limit_at q y ≡ limit_of d q = λ q low. limit_is d q y.parts.throttle.admission.pods vy.limits (there pods q y has' low) in
    record {
      has = has';
      others = λ q low no_limit. ly q low ∙ (laws.limits x.spec c e q pods fixed no_limit ∙ sym (lx q low));
      here = λ q n low is. ly q low ∙ laws.set x.spec c e q n pods fixed is (ap (contains q) vx.pods ∙ there pods q x has low);
      runs = λ q low some.
          let r = laws.runs x.spec c e q old.parts.made (subst (λ n. 1 ≤ n) (ly q low) some) in
          let a : running_at q y ≡ length (trace.running_at d q) = sym (vy.count_running_at q) in
          let b : running_at q x ≡ length (trace.running_at c q) = sym (vx.count_running_at q) in
          let l = ly q low in
          omega (arith, r, a, b, l);
      stays = λ q low spares.
          let r = laws.stay x.spec c e q old.parts.made by.lost (λ k ok is at. spares.finish c k ok old is at) in
          let a : running_at q y ≡ length (trace.running_at d q) = sym (vy.count_running_at q) in
          let b : running_at q x ≡ length (trace.running_at c q) = sym (vx.count_running_at q) in
          omega (arith, r, a, b);
    }

goes_prop : (pods : ℕ) (e : Event) (x y : RevisionState) → IsProp (Goes pods e x y)
goes_prop pods e x y = hlevel props

-- of whichever trace it stands for
pub goes_of : Laws → (pods : ℕ) (e : Event) (x y : RevisionState) → IsChangedBy pods e x y → Goes pods e x y
goes_of laws pods e x y by = ∥∥₁_elim by.some (goes_prop pods e x y) (λ z. goes_at laws pods e x y z.0 by z.1)

-- ---- what a group needs of it

pub limits_apart : (p q n m : ℕ) → (q ≡ p → ⊥) → act.Limit p n ≡ act.Limit q m → ⊥
limits_apart p q n m other e = let same : p ≡ q = cc in other (sym same)

pub keeps_of : (pods : ℕ) (e : Event) (x y : RevisionState) → Goes pods e x y → IsActivator pods x → ((q n : ℕ) → e.act ≡ act.Limit q n → ⊥) → Keeps limit_at running_at pods x y
keeps_of pods e x y goes is other = record {
  limits = λ q low. goes.others q low (other q);
  runs = λ q low. goes.runs q low (subst (λ n. 1 ≤ n) (sym (goes.others q low (other q))) (is.limits q low));
}

limit_left : (pods : ℕ) (e : Event) (x y : RevisionState) → Goes pods e x y → IsActivator pods x → ((q n : ℕ) → e.act ≡ act.Limit q n → 1 ≤ n) → (q : ℕ) → q < pods → (a : Act) → e.act ≡ a → 1 ≤ limit_at q y
limit_left pods e x y goes is some q low (act.Limit p n) e_is = elim (cases_eq q p) [
  | inl same ↦ subst (λ k. 1 ≤ k) (sym (goes.here q n low (e_is ∙ ap (λ z. act.Limit z n) (sym same)))) (some p n e_is)
  | inr other ↦ subst (λ k. 1 ≤ k) (sym (goes.others q low (λ m f. limits_apart p q n m other (sym e_is ∙ f)))) (is.limits q low)
]
limit_left pods e x y goes is some q low a e_is = subst (λ k. 1 ≤ k) (sym (goes.others q low (λ m f. let g = sym e_is ∙ f in absurd cc))) (is.limits q low)

pub still_activator : (pods : ℕ) (e : Event) (x y : RevisionState) → Goes pods e x y → IsActivator pods x → y.spec ≡ x.spec → ((q n : ℕ) → e.act ≡ act.Limit q n → 1 ≤ n) → IsActivator pods y
still_activator pods e x y goes is same some = record {
  fixed = subst (λ (s : Spec). s.kind ≡ kind.Fixed pods) (sym same) is.fixed;
  has = goes.has;
  limits = λ q low. limit_left pods e x y goes is some q low e.act refl;
}

pub sets_of : (pods : ℕ) (e : Event) (x y : RevisionState) (p n : ℕ) → Goes pods e x y → IsActivator pods x → e.act ≡ act.Limit p n → p < pods → 1 ≤ n → Sets limit_at running_at pods p n x y
sets_of pods e x y p n goes is e_is low some = record {
  here = goes.here p n low e_is;
  others = λ q inside other. goes.others q inside (λ m f. limits_apart p q n m other (sym e_is ∙ f));
  runs = λ q inside. goes.runs q inside (limit_left pods e x y goes is (λ k m f. least k m f) q inside e.act refl);
}
  where
    least : (k m : ℕ) → e.act ≡ act.Limit k m → 1 ≤ m
    least k m f = let g : act.Limit p n ≡ act.Limit k m = sym e_is ∙ f in let h : n ≡ m = cc in subst (λ z. 1 ≤ z) h some

pub has_pod : (pods p : ℕ) (x : RevisionState) → IsActivator pods x → p < pods → HasPod p x
has_pod pods p x is low = there pods p x is.has low

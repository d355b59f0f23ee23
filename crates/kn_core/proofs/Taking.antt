-- An act's own row, of all parts.
use Rattle.std.proofs.Common.{◌≡◌, ℕ, ◌≤◌, Bool, true, false, List, [], ◌∷◌, ◌++◌, length, refl, sym, ap, ◌∙◌, subst, append-nil, arith, Option, Some}
use Rattle.std.specs.Prelude.{IsSome, not, ◌==◌, ◌&&◌}
use Rattle.std.specs.List.{filter}
use Rattle.std.proofs.lemmas.List.{length-map}
use Rattle.std.proofs.Math.Bridge.{le_prop}
use Rattle.std.proofs.Math.Logic.{∥∥₁_elim, ∥∥₁_map}
use Rattle.kn_event.specs.declared.entry.Phase.TheVariants as phase
use Rattle.kn_event.specs.declared.entry.Row.{Row}
use Rattle.kn_event.specs.declared.entry.Row.TheVariants as row
use Rattle.kn_event.specs.declared.event.Act.{Act}
use Rattle.kn_event.specs.declared.event.Stand.{Stand}
use Rattle.kn_event.specs.declared.revision.Spec.{Spec}
use Rattle.kn_trace.specs.Events.{act_row, activation, entries_of}
use Rattle.kn_trace.specs.Rows.{ended_by}
use Rattle.kn_trace.specs.Scale.{is_in_phase, phase_of, where_true}
use Rattle.kn_trace.specs.Trace.{Trace, entry, is_empty, proxied, ready_pods, stand_of}
use Rattle.kn_record.specs.declared.admission.Pod.{Pod}
use Rattle.kn_record.specs.Admission.{Admission, pods_after, stepped}
use Rattle.kn_record.specs.Made.{Holds, IsMade, IsProper, IsRecordOf}
use Rattle.kn_record.specs.Views.{AreViews}
use Rattle.kn_laws.specs.Kinds.{IsActRow, is_act_row}
use Rattle.kn_pods.specs.Pods.{PodsState, ArePodsOf, after_row}
use Rattle.kn_scaler.specs.Stands.{ScalerState}
use Rattle.kn_throttle.specs.State as throttle
use Rattle.kn_core.specs.Scaling.{IsNextIn, IsNextInSome}
use Rattle.kn_core.specs.State.{ArePartsOf, ArePartsOfSome, IsScalerOf, PartsState}
use Rattle.kn_core.specs.Changes.{AddsRow, HasFewPods, IsReadyFor, ending_of, woken}
use Rattle.kn_core.proofs.Measured.{heard}

-- who ends with an act's own row is whom the act names
pub own_ends : (a : Act) (x : Row) → IsActRow a (Some x) → (q : ℕ) → ended_by x ≡ Some q → ending_of a ≡ Some q
own_ends a (row.Finish r ok) h = λ q e. rw h.1 (cc)
own_ends a (row.Cancel r) h = λ q e. rw h.1 (cc)
own_ends a (row.Expire r) h = absurd (let g = h.0 in cc)
own_ends a (row.LostRequest r) h = absurd (let g = h.0 in cc)
own_ends a _ h = λ q e. absurd (cc)

-- the row of a phase leaves throttler and pods
record AreOf (s : Spec) (a : Admission) (ps : PodsState) (c : Trace) : Type 0 where
  made : IsMade s c
  admission : IsRecordOf a c
  pods : ArePodsOf ps c

module _ (makes : (s : Spec) (c : Trace) (t : ℕ) (x : Row) → IsMade s c → IsProper s c x → IsMade s (c ++ entry t x ∷ []))
    (goes : (s : Spec) (c : Trace) (t : ℕ) (x : Row) (pods : PodsState) → IsMade s c → IsProper s c x → ArePodsOf pods c → ArePodsOf (after_row x pods) (c ++ entry t x ∷ []))
    (steps : (s : Spec) (a : Admission) (c : Trace) (t : ℕ) (x : Row) → IsRecordOf a c → IsProper s c x → IsRecordOf (stepped t x a) (c ++ entry t x ∷ [])) where
  phase_kept : (s : Spec) (a : Admission) (pods : PodsState) (t : ℕ) (c : Trace) (b : Bool) → AreOf s a pods c → AreOf s a pods (c ++ where_true b (entry t (row.Phase phase.Active) ∷ []))
  unfolding stepped
  phase_kept s a pods t c false k = rw (append-nil c) k
  phase_kept s a pods t c true k = record {
    made = makes s c t (row.Phase phase.Active) k.made tt;
    admission = steps s a c t (row.Phase phase.Active) k.admission tt;
    pods = goes s c t (row.Phase phase.Active) pods k.made tt k.pods;
  }

  woken_kept : (s : Spec) (a : Admission) (pods : PodsState) (t : ℕ) (c : Trace) (own : Option Row) → AreOf s a pods c → AreOf s a pods (c ++ woken own t c)
  unfolding activation
  woken_kept s a pods t c (Some (row.Ready p)) k = phase_kept s a pods t c (is_in_phase phase.Activating (phase_of c) && not (is_empty (ready_pods c))) k
  woken_kept s a pods t c _ k = rw (append-nil c) k

  -- all parts after the row, and that of the phase
  pub parts_took : (s : Spec) (c : Trace) (t : ℕ) (x : Row) (old mid new : PartsState) → IsProper s c x → AddsRow t x old mid → new.throttle ≡ mid.throttle → new.pods ≡ mid.pods
      → (ArePodsOf mid.pods (c ++ entry t x ∷ []) → IsScalerOf s new.scaler ((c ++ entry t x ∷ []) ++ woken (Some x) t (c ++ entry t x ∷ []))) → ArePartsOf s old c
      → ArePartsOf s new ((c ++ entry t x ∷ []) ++ woken (Some x) t (c ++ entry t x ∷ []))
  parts_took s c t x old mid new proper adds threw kept scaler h =
      let d : Trace = c ++ entry t x ∷ [] in
      let pods = subst (λ (p : PodsState). ArePodsOf p d) (sym adds.pods) (goes s c t x old.pods h.made proper h.pods) in
      let admission = subst (λ (y : throttle.State). IsRecordOf y.admission d) (sym adds.throttle) (steps s old.throttle.admission c t x h.admission proper) in
      let all = woken_kept s mid.throttle.admission mid.pods t d (Some x) (record { made = makes s c t x h.made proper; admission = admission; pods = pods }) in
      record {
        spec = ap (λ (y : throttle.State). y.spec) (threw ∙ adds.throttle) ∙ h.spec;
        made = all.made;
        admission = subst (λ (y : throttle.State). IsRecordOf y.admission (d ++ woken (Some x) t d)) (sym threw) all.admission;
        pods = subst (λ (p : PodsState). ArePodsOf p (d ++ woken (Some x) t d)) (sym kept) all.pods;
        scaler = scaler pods;
      }

-- what the autoscaler hears of a row, told where the request stood that ends with it
module _ (old mid : PartsState) (t : ℕ) (x : Row) (a : Act) (at : Stand) (through : Bool) where
  pub row_next : (s : Spec) (c : Trace) → AddsRow t x old mid → ArePartsOf s old c → IsProper s c x
      → (IsSome old.scaler → (q : ℕ) → ended_by x ≡ Some q → at ≡ stand_of c q) → (IsSome old.scaler → (q : ℕ) → ended_by x ≡ Some q → through ≡ proxied c q) → IsNextIn mid.scaler x at through s c
  row_next s c adds h proper stands handed =
      subst (λ (o : Option ScalerState). IsNextIn o x at through s c) (sym adds.scaler) (record {
        made = h.made;
        proper = proper;
        told = heard old.scaler x at through c (λ some. record { stands = stands some; handed = handed some });
        scaler = h.scaler;
      })

  pub row_next_some : ((s : Spec) (a : Admission) (c : Trace) → IsRecordOf a c → AreViews s a c) → HasFewPods old → AddsRow t x old mid → ((s : Spec) (c : Trace) → ArePartsOf s old c → act_row s c a ≡ Some x)
      → ((s : Spec) (c : Trace) (q : ℕ) → IsSome old.scaler → ArePartsOf s old c → ended_by x ≡ Some q → at ≡ stand_of c q) → ((s : Spec) (c : Trace) (q : ℕ) → IsSome old.scaler → ArePartsOf s old c → ended_by x ≡ Some q → through ≡ proxied c q)
      → IsReadyFor (λ s c. entries_of t (act_row s c a)) old → IsNextInSome mid.scaler x at through
  row_next_some views few adds said stands handed some =
      ∥∥₁_map some (λ (h : (c : Trace) × ArePartsOf old.throttle.spec old c × Holds (IsProper old.throttle.spec) c (entries_of t (act_row old.throttle.spec c a))).
      let s = old.throttle.spec in
      let proper = (subst (λ (o : Option Row). Holds (IsProper s) h.0 (entries_of t o)) (said s h.0 h.1) h.2).0 in
      (s, h.0, row_next s h.0 adds h.1 proper (λ one q. stands s h.0 q one h.1) (λ one q. handed s h.0 q one h.1)))

-- the same, told where the request stood that may end with the act
pub own_next : (old mid : PartsState) (t : ℕ) (x : Row) (a : Act) (at : Stand) (through : Bool) (s : Spec) (c : Trace) → IsActRow a (Some x) → AddsRow t x old mid → ArePartsOf s old c → IsProper s c x
    → (IsSome old.scaler → (q : ℕ) → ending_of a ≡ Some q → at ≡ stand_of c q) → (IsSome old.scaler → (q : ℕ) → ending_of a ≡ Some q → through ≡ proxied c q) → IsNextIn mid.scaler x at through s c
own_next old mid t x a at through s c is_act adds h proper stands handed =
    row_next old mid t x a at through s c adds h proper (λ some q e. stands some q (own_ends a x is_act q e)) (λ some q e. handed some q (own_ends a x is_act q e))

pub own_next_some : ((s : Spec) (a : Admission) (c : Trace) → IsRecordOf a c → AreViews s a c) → ((s : Spec) (c : Trace) (a : Act) → IsActRow a (act_row s c a)) → (old mid : PartsState) (t : ℕ) (x : Row) (a : Act) (at : Stand) (through : Bool)
    → HasFewPods old → AddsRow t x old mid → ((s : Spec) (c : Trace) → ArePartsOf s old c → act_row s c a ≡ Some x)
    → ((s : Spec) (c : Trace) (q : ℕ) → IsSome old.scaler → ArePartsOf s old c → ending_of a ≡ Some q → at ≡ stand_of c q) → ((s : Spec) (c : Trace) (q : ℕ) → IsSome old.scaler → ArePartsOf s old c → ending_of a ≡ Some q → through ≡ proxied c q)
    → IsReadyFor (λ s c. entries_of t (act_row s c a)) old → IsNextInSome mid.scaler x at through
own_next_some views acts old mid t x a at through few adds said stands handed some =
    let is_act = λ (s : Spec) (c : Trace) (h : ArePartsOf s old c). subst (IsActRow a) (said s c h) (acts s c a) in
    row_next_some old mid t x a at through views few adds said
    (λ s c q one h e. stands s c q one h (own_ends a x (is_act s c h) q e)) (λ s c q one h e. handed s c q one h (own_ends a x (is_act s c h) q e)) some

-- no more pods than before
fewer : (p : ℕ) (all : List Pod) → length (filter (λ (q : Pod). not (p == q.number)) all) ≤ length all
fewer p [] = omega arith
fewer p (q ∷ all) = by (p == q.number) refl (fewer p all)
  where
    by : (b : Bool) → (p == q.number) ≡ b → length (filter (λ (q : Pod). not (p == q.number)) all) ≤ length all → length (filter (λ (q : Pod). not (p == q.number)) (q ∷ all)) ≤ length (q ∷ all)
    by true e rec = rw e (omega (arith, rec))
    by false e rec = rw e (omega (arith, rec))

pub few_after : (x : Row) (all : List Pod) → is_act_row x ≡ true → length (pods_after x all) ≤ length all
few_after (row.Create p n) all h = absurd (cc)
few_after (row.Drain p) all h = absurd (cc)
few_after (row.Remove p) all h = absurd (cc)
few_after (row.Limit p n) all h = rw (length-map all _) (omega arith)
few_after (row.Ready p) all h = rw (length-map all _) (omega arith)
few_after (row.LostPod p) all h = fewer p all
few_after _ all h = omega arith

pub own_few : ((s : Spec) (c : Trace) (a : Act) → IsActRow a (act_row s c a)) → (old mid : PartsState) (t : ℕ) (x : Row) (a : Act) → HasFewPods old → AddsRow t x old mid → ((s : Spec) (c : Trace) → ArePartsOf s old c → act_row s c a ≡ Some x)
    → ArePartsOfSome old → HasFewPods mid
unfolding stepped
own_few acts old mid t x a few adds said some =
    ∥∥₁_elim some le_prop (λ (h : (c : Trace) × ArePartsOf old.throttle.spec old c).
    let is_act = subst (IsActRow a) (said old.throttle.spec h.0 h.1) (acts old.throttle.spec h.0 a) in
    let same : length mid.throttle.admission.pods ≡ length (pods_after x old.throttle.admission.pods) = ap (λ (y : throttle.State). length y.admission.pods) adds.throttle in
    omega (arith, few, same, few_after x old.throttle.admission.pods is_act.0))

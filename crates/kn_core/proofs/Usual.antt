-- An arrival or a finish at which nobody's time is over, and the first row of a settling.
use Rattle.std.proofs.Common.{◌≡◌, ℕ, Bool, true, false, List, [], ◌∷◌, ◌++◌, map, refl, sym, ap, ◌∙◌, subst, append-nil, append_assoc, Option, None, Some}
use Rattle.std.specs.Option.{is_some}
use Rattle.std.specs.Prelude.{not}
use Rattle.std.proofs.Math.Logic.{∥∥₁_map}
use Rattle.kn_event.specs.declared.entry.Entry.{Entry}
use Rattle.kn_event.specs.declared.entry.Row.{Row}
use Rattle.kn_event.specs.declared.entry.Row.TheVariants as row
use Rattle.kn_event.specs.declared.event.Act.{Act}
use Rattle.kn_event.specs.declared.event.Act.TheVariants as act
use Rattle.kn_event.specs.declared.event.Event.{Event}
use Rattle.kn_event.specs.declared.event.Stand.TheVariants as stand
use Rattle.kn_event.specs.declared.revision.Spec.{Spec}
use Rattle.kn_trace.specs.Events.{departures, due, expiries, losses}
use Rattle.kn_trace.specs.Rows.{arrived_by, ended_by}
use Rattle.kn_trace.specs.Settling.{settling}
use Rattle.kn_trace.specs.Trace.{Trace, entry, first_of}
use Rattle.kn_record.specs.declared.admission.Pod.{Pod}
use Rattle.kn_record.specs.Admission.{pods_after}
use Rattle.kn_record.specs.Made.{Holds, IsMade, IsProper, IsRecordOf}
use Rattle.kn_record.specs.Walks.{BeginsWith, gone_after}
use Rattle.kn_pods.specs.Pods.{PodsState, ArePodsOf, after_row}
use Rattle.kn_scaler.specs.Rows.{says_scale}
use Rattle.kn_throttle.specs.declared.throttle.dispatching.Dispatch.{Dispatch}
use Rattle.kn_throttle.specs.declared.throttle.dispatching.Dispatch.TheVariants as dispatch
use Rattle.kn_throttle.specs.Rows.{dispatch_row}
use Rattle.kn_throttle.specs.State as throttle
use Rattle.kn_core.specs.declared.first.OwnRow.{OwnRow}
use Rattle.kn_core.specs.declared.first.OwnRow.TheVariants as own
use Rattle.kn_core.specs.Changes.{AddsProper, IsReadyFor, woken}
use Rattle.kn_core.specs.Dispatched.{AddsFirst}
use Rattle.kn_core.specs.Firsts.{dispatched, is_usual_act, own_row}
use Rattle.kn_core.specs.Scaling.{IsNextIn, IsNextInSome}
use Rattle.kn_core.specs.State.{ArePartsOf, IsScalerOf, PartsState}
use Rattle.kn_core.proofs.After.{parts_row}
use Rattle.kn_core.proofs.Measured.{heard}
use Rattle.kn_core.proofs.Scaled.{holds_behind}

-- ---- nobody leaves before the act

no_expiries : (s : Spec) (t : ℕ) (c : Trace) → None ≡ first_of (due s t c) → expiries s t c ≡ []
unfolding expiries
no_expiries s t c h = by (due s t c) h
  where
    by : (rs : List ℕ) → None ≡ first_of rs → map (λ r. entry t (row.Expire r)) rs ≡ []
    by [] h = refl
    by (r ∷ rs) h = absurd (cc)

no_losses : (t : ℕ) (c : Trace) (a : Act) → is_usual_act a ≡ true → losses t c a ≡ []
unfolding losses
no_losses t c (act.Arrive tag) h = refl
no_losses t c (act.Finish r ok) h = refl
no_losses t c _ h = absurd (cc)

pub nobody_leaves : (s : Spec) (c : Trace) (e : Event) → is_usual_act e.act ≡ true → None ≡ first_of (due s e.time c) → departures s c e ≡ []
unfolding departures
nobody_leaves s c e usual none = rw (no_expiries s e.time c none) (no_losses e.time (c ++ []) e.act usual)

pub none_by : (o : Option ℕ) (b : Bool) → is_some o ≡ not b → b ≡ true → None ≡ o
none_by None b h is = refl
none_by (Some x) true h is = absurd (cc)
none_by (Some x) false h is = absurd (cc)

pub stays_parts : (s : Spec) (c : Trace) (e : Event) (x : PartsState) → departures s c e ≡ [] → ArePartsOf s x c → ArePartsOf s x (gone_after s c e)
stays_parts s c e x none h = subst (λ (es : List Entry). ArePartsOf s x (c ++ es)) (sym none) (subst (ArePartsOf s x) (sym (append-nil c)) h)

-- ---- the own row

pub own_woken : (x : OwnRow) (t : ℕ) (c : Trace) → woken (Some (own_row x)) t c ≡ []
own_woken (own.Admit r tag) t c = refl
own_woken (own.Direct r p) t c = refl
own_woken (own.QueueFull r) t c = refl
own_woken (own.PodFull r p) t c = refl
own_woken (own.Overload r) t c = refl
own_woken (own.Finish r ok) t c = refl
own_woken (own.NotRunning r) t c = refl

pub own_scale : (x : OwnRow) → says_scale (own_row x) ≡ false
own_scale (own.Admit r tag) = refl
own_scale (own.Direct r p) = refl
own_scale (own.QueueFull r) = refl
own_scale (own.PodFull r p) = refl
own_scale (own.Overload r) = refl
own_scale (own.Finish r ok) = refl
own_scale (own.NotRunning r) = refl

-- ---- a dispatch

ended_none : (d : Dispatch) (q : ℕ) → ended_by (dispatch_row d) ≡ Some q → ⊥
ended_none (dispatch.Run r) q h = absurd (cc)
ended_none (dispatch.Assign r p) q h = absurd (cc)

pub dispatch_scale : (d : Dispatch) → says_scale (dispatch_row d) ≡ false
dispatch_scale (dispatch.Run r) = refl
dispatch_scale (dispatch.Assign r p) = refl

pub dispatch_pods : (d : Dispatch) (pods : PodsState) → after_row (dispatch_row d) pods ≡ pods
dispatch_pods (dispatch.Run r) pods = refl
dispatch_pods (dispatch.Assign r p) pods = refl

pub dispatch_live : (d : Dispatch) (all : List Pod) → pods_after (dispatch_row d) all ≡ all
dispatch_live (dispatch.Run r) all = refl
dispatch_live (dispatch.Assign r p) all = refl

pub dispatch_comes : (d : Dispatch) → arrived_by (dispatch_row d) ≡ None
dispatch_comes (dispatch.Run r) = refl
dispatch_comes (dispatch.Assign r p) = refl

-- what the autoscaler hears
dispatch_next : (x : PartsState) (d : Dispatch) (s : Spec) (c : Trace) → ArePartsOf s x c → IsProper s c (dispatch_row d) → IsNextIn x.scaler (dispatch_row d) stand.Held false s c
dispatch_next x d s c h proper = record {
  made = h.made;
  proper = proper;
  told = heard x.scaler (dispatch_row d) stand.Held false c (λ some. record { stands = λ q e. absurd (ended_none d q e); handed = λ q e. absurd (ended_none d q e) });
  scaler = h.scaler;
}

-- the settling begins with the row
abbrev pub Begins : ℕ → Dispatch → PartsState → Type 0
Begins t d x = (s : Spec) (c : Trace) → ArePartsOf s x c → BeginsWith (settling s t) t (dispatch_row d) x.throttle.admission c

first_proper : (t : ℕ) (d : Dispatch) (x : PartsState) (s : Spec) (c : Trace) → Begins t d x → ArePartsOf s x c → Holds (IsProper s) c (settling s t c) → IsProper s c (dispatch_row d)
first_proper t d x s c begins h proper = (subst (Holds (IsProper s) c) (begins s c h).0 proper).0

pub dispatch_some : (x : PartsState) (t : ℕ) (d : Dispatch) → Begins t d x → IsReadyFor (λ s c. settling s t c) x
    → IsNextInSome x.scaler (dispatch_row d) stand.Held false
dispatch_some x t d begins some =
    ∥∥₁_map some (λ (h : (c : Trace) × ArePartsOf x.throttle.spec x c × Holds (IsProper x.throttle.spec) c (settling x.throttle.spec t c)).
    let s = x.throttle.spec in
    (s, h.0, dispatch_next x d s h.0 h.1 (first_proper t d x s h.0 begins h.1 h.2)))

module _ (makes : (s : Spec) (c : Trace) (t : ℕ) (x : Row) → IsMade s c → IsProper s c x → IsMade s (c ++ entry t x ∷ []))
    (goes : (s : Spec) (c : Trace) (t : ℕ) (x : Row) (pods : PodsState) → IsMade s c → IsProper s c x → ArePodsOf pods c → ArePodsOf (after_row x pods) (c ++ entry t x ∷ [])) where
  pub dispatch_adds : (t : ℕ) (d : Dispatch) (old new : PartsState) → Begins t d old → new.throttle ≡ throttle.with_row t (dispatch_row d) old.throttle → new.pods ≡ old.pods
      → ((s : Spec) (c : Trace) → IsNextIn old.scaler (dispatch_row d) stand.Held false s c → IsScalerOf s new.scaler (c ++ entry t (dispatch_row d) ∷ [])) → AddsFirst t (Some d) old new
  dispatch_adds t d old new begins threw pods heard = record {
    begins = λ s c h. (begins s c h).0;
    stands = λ s c h all.
        let proper = first_proper t d old s c begins h all in
        parts_row makes goes s c t (dispatch_row d) old new proper
        (subst (λ (y : throttle.State). IsRecordOf y.admission (c ++ entry t (dispatch_row d) ∷ [])) (sym threw) (begins s c h).1)
        (ap (λ (y : throttle.State). y.spec) threw) (pods ∙ sym (dispatch_pods d old.pods)) (heard s c (dispatch_next old d s c h proper)) h;
  }

-- what is left of the settling
pub rest_ready : (t : ℕ) (d : Option Dispatch) (old new : PartsState) → AddsFirst t d old new → IsReadyFor (λ s c. settling s t c) old → IsReadyFor (λ s c. settling s t c) new
rest_ready t d old new first some =
    ∥∥₁_map some (λ (h : (c : Trace) × ArePartsOf old.throttle.spec old c × Holds (IsProper old.throttle.spec) c (settling old.throttle.spec t c)).
    let s = old.throttle.spec in
    let here : Trace = h.0 ++ dispatched t d in
    let k = first.stands s h.0 h.1 h.2 in
    let proper = holds_behind (IsProper s) h.0 (dispatched t d) (settling s t here) (subst (Holds (IsProper s) h.0) (first.begins s h.0 h.1) h.2) in
    (here, subst (λ (z : Spec). ArePartsOf z new here) (sym k.spec) k, subst (λ (z : Spec). Holds (IsProper z) here (settling z t here)) (sym k.spec) proper))

-- both together
pub first_then : (t : ℕ) (d : Option Dispatch) (old mid new : PartsState) (before after : List Entry) → AddsFirst t d old mid → before ≡ [] → AddsProper (λ s c. settling s t c) mid new before after
    → AddsProper (λ s c. settling s t c) old new before (dispatched t d ++ after)
first_then t d old mid new before after first empty rest = record {
  logged = λ s c h all.
      let here : Trace = c ++ dispatched t d in
      let proper = holds_behind (IsProper s) c (dispatched t d) (settling s t here) (subst (Holds (IsProper s) c) (first.begins s c h) all) in
      let left : after ≡ settling s t here = subst (λ (es : List Entry). after ≡ es ++ settling s t here) empty (rest.logged s here (first.stands s c h all) proper) in
      subst (λ (es : List Entry). dispatched t d ++ after ≡ es ++ settling s t c) (sym empty) (ap (λ (es : List Entry). dispatched t d ++ es) left ∙ sym (first.begins s c h));
  stands = λ s c h all.
      let here : Trace = c ++ dispatched t d in
      let proper = holds_behind (IsProper s) c (dispatched t d) (settling s t here) (subst (Holds (IsProper s) c) (first.begins s c h) all) in
      subst (ArePartsOf s new) (append_assoc c (dispatched t d) (settling s t here) ∙ ap (λ (es : List Entry). c ++ es) (sym (first.begins s c h))) (rest.stands s here (first.stands s c h all) proper);
}

-- The own row of an arrival or a finish, told the autoscaler with where the request stood that ends with it.
use Rattle.std.proofs.Common.{◌≡◌, ℕ, ◌≤◌, Bool, false, [], ◌∷◌, ◌++◌, length, sym, ap, ◌∙◌, subst, append-nil, append_assoc, Option, None, Some}
use Rattle.kn_event.specs.declared.entry.Row.{Row}
use Rattle.kn_event.specs.declared.entry.Row.TheVariants as row
use Rattle.kn_event.specs.declared.event.Act.{Act}
use Rattle.kn_event.specs.declared.event.Act.TheVariants as act
use Rattle.kn_event.specs.declared.event.Stand.{Stand}
use Rattle.kn_event.specs.declared.event.Stand.TheVariants as stand
use Rattle.kn_event.specs.declared.revision.Spec.{Spec}
use Rattle.kn_trace.specs.Events.{act_row, entries_of}
use Rattle.kn_trace.specs.Rows.{ended_by}
use Rattle.kn_trace.specs.Trace.{Trace, entry, proxied, stand_of}
use Rattle.kn_record.specs.declared.admission.Place.{Place}
use Rattle.kn_record.specs.Admission.{Admission, is_assigned_place, stepped}
use Rattle.kn_record.specs.Made.{IsMade, IsProper, IsRecordOf}
use Rattle.kn_record.specs.Order.{AreTimed}
use Rattle.kn_record.specs.Views.{AreViews, stand_of_place}
use Rattle.kn_laws.specs.Kinds.{IsActRow}
use Rattle.kn_pods.specs.Pods.{PodsState, ArePodsOf, after_row}
use Rattle.kn_scaler.specs.Stands.{ScalerState}
use Rattle.kn_throttle.specs.State as throttle
use Rattle.kn_core.specs.declared.first.OwnRow.{OwnRow}
use Rattle.kn_core.specs.declared.first.OwnRow.TheVariants as own
use Rattle.kn_core.specs.Changes.{AddsOwn, AddsRow, IsInOrderAt, IsReadyFor, woken}
use Rattle.kn_core.specs.Firsts.{own_row}
use Rattle.kn_core.specs.Scaling.{IsNextInSome, TakesRow}
use Rattle.kn_core.specs.State.{ArePartsOf, IsMeasuredAt, PartsState}
use Rattle.kn_core.proofs.After.{some_of_ready}
use Rattle.kn_core.proofs.Openings.{timed_by_row}
use Rattle.kn_core.proofs.Taking.{own_ends, own_few, parts_took, row_next, row_next_some}
use Rattle.kn_core.proofs.Usual.{own_scale, own_woken}

-- throttler and pods have taken the row of an act, and this is where the request stood that ends with it
pub record IsToldWith (a : Act) (t : ℕ) (o : OwnRow) (at : Stand) (through : Bool) (old mid : PartsState) : Type 0 where
  pub adds : AddsRow t (own_row o) old mid
  pub said : (s : Spec) (c : Trace) → ArePartsOf s old c → act_row s c a ≡ Some (own_row o)
  pub stands : (s : Spec) (c : Trace) (q : ℕ) → ArePartsOf s old c → ended_by (own_row o) ≡ Some q → at ≡ stand_of c q
  pub handed : (s : Spec) (c : Trace) (q : ℕ) → ArePartsOf s old c → ended_by (own_row o) ≡ Some q → through ≡ proxied c q

-- nobody ends with the row of an arrival
pub arrival_told : ((s : Spec) (c : Trace) (a : Act) → IsActRow a (act_row s c a)) → (a : Act) (t tag : ℕ) (o : OwnRow) (old mid : PartsState) → a ≡ act.Arrive tag → AddsRow t (own_row o) old mid
    → ((s : Spec) (c : Trace) → ArePartsOf s old c → act_row s c (act.Arrive tag) ≡ Some (own_row o)) → IsToldWith a t o stand.Held false old mid
arrival_told acts a t tag o old mid is adds said = record {
  adds = adds;
  said = λ s c h. ap (act_row s c) is ∙ said s c h;
  stands = λ s c q h e. absurd (nobody s c q h e);
  handed = λ s c q h e. absurd (nobody s c q h e);
}
  where
    nobody : (s : Spec) (c : Trace) (q : ℕ) → ArePartsOf s old c → ended_by (own_row o) ≡ Some q → ⊥
    nobody s c q h e =
        let none : None ≡ Some q = own_ends (act.Arrive tag) (own_row o) (subst (IsActRow (act.Arrive tag)) (said s c h) (acts s c (act.Arrive tag))) q e in
        absurd (cc)

-- a finish, of which the throttler alone takes the row
module _ (a : Act) (t r : ℕ) (ok : Bool) (old : PartsState) (before after : throttle.State) (pods : PodsState) (scaler : Option ScalerState) (view : record { throttle = before; pods = pods; scaler = scaler } ≡ old) (is : a ≡ act.Finish r ok) where
  of_record : (s : Spec) (c : Trace) → ArePartsOf s old c → IsRecordOf before.admission c
  of_record s c h = let k = subst (λ (x : PartsState). ArePartsOf s x c) (sym view) h in k.admission

  -- it ran at this place
  pub finish_told : (x : Place) (at : Stand) (through : Bool) → after ≡ throttle.with_row t (row.Finish r ok) before
      → ((s : Spec) (c : Trace) → IsRecordOf before.admission c → act_row s c (act.Finish r ok) ≡ Some (row.Finish r ok))
      → ((c : Trace) → IsRecordOf before.admission c → stand_of c r ≡ stand_of_place x) → ((c : Trace) → IsRecordOf before.admission c → proxied c r ≡ is_assigned_place x)
      → at ≡ stand_of_place x → through ≡ is_assigned_place x → IsToldWith a t (own.Finish r ok) at through old (record { throttle = after; pods = pods; scaler = scaler })
  finish_told x at through ended said stood handed at_is through_is = record {
    adds = record {
      throttle = ended ∙ ap (λ (y : PartsState). throttle.with_row t (row.Finish r ok) y.throttle) view;
      pods = ap (λ (y : PartsState). y.pods) view;
      scaler = ap (λ (y : PartsState). y.scaler) view;
    };
    said = λ s c h. ap (act_row s c) is ∙ said s c (of_record s c h);
    stands = λ s c q h e. at_is ∙ sym (stood c (of_record s c h)) ∙ ap (stand_of c) (cc);
    handed = λ s c q h e. through_is ∙ sym (handed c (of_record s c h)) ∙ ap (proxied c) (cc);
  }

  -- it didn't run
  pub stays_told : after ≡ throttle.with_row t (row.NotRunning r) before → ((s : Spec) (c : Trace) → IsRecordOf before.admission c → act_row s c (act.Finish r ok) ≡ Some (row.NotRunning r))
      → IsToldWith a t (own.NotRunning r) stand.Held false old (record { throttle = after; pods = pods; scaler = scaler })
  stays_told stays said = record {
    adds = record {
      throttle = stays ∙ ap (λ (y : PartsState). throttle.with_row t (row.NotRunning r) y.throttle) view;
      pods = ap (λ (y : PartsState). y.pods) view;
      scaler = ap (λ (y : PartsState). y.scaler) view;
    };
    said = λ s c h. ap (act_row s c) is ∙ said s c (of_record s c h);
    stands = λ s c q h e. absurd (cc);
    handed = λ s c q h e. absurd (cc);
  }

module _ (a : Act) (t : ℕ) (o : OwnRow) (at : Stand) (through : Bool) (old mid : PartsState) (told : IsToldWith a t o at through old mid) (ready : IsReadyFor (λ s c. entries_of t (act_row s c a)) old) (order : IsInOrderAt t old) where
  -- the autoscaler may be told
  pub own_heard : ((s : Spec) (a : Admission) (c : Trace) → IsRecordOf a c → AreViews s a c) → IsNextInSome mid.scaler (own_row o) at through
  own_heard views = row_next_some old mid t (own_row o) a at through views order.few told.adds told.said (λ s c q one. told.stands s c q) (λ s c q one. told.handed s c q) ready

  -- the parts once it was
  module _ (new : PartsState) (threw : new.throttle ≡ mid.throttle) where
    pub own_adds : ((s : Spec) (c : Trace) (t : ℕ) (x : Row) → IsMade s c → IsProper s c x → IsMade s (c ++ entry t x ∷ []))
        → ((s : Spec) (c : Trace) (t : ℕ) (x : Row) (pods : PodsState) → IsMade s c → IsProper s c x → ArePodsOf pods c → ArePodsOf (after_row x pods) (c ++ entry t x ∷ []))
        → ((s : Spec) (a : Admission) (c : Trace) (t : ℕ) (x : Row) → IsRecordOf a c → IsProper s c x → IsRecordOf (stepped t x a) (c ++ entry t x ∷ []))
        → new.pods ≡ mid.pods → TakesRow (own_row o) at through mid.scaler new.scaler → AddsOwn t (Some (own_row o)) old new [] (entry t (own_row o) ∷ [])
    own_adds makes goes steps kept takes = record {
      logged = λ s c h proper. ap (λ es. entry t (own_row o) ∷ es) (sym (own_woken o t (c ++ entry t (own_row o) ∷ [])));
      stands = λ s c h proper.
          let here : Trace = c ++ entry t (own_row o) ∷ [] in
          let measured : IsMeasuredAt t mid.scaler = subst (IsMeasuredAt t) (sym told.adds.scaler) order.measured in
          let next = row_next old mid t (own_row o) a at through s c told.adds h proper.0 (λ one q. told.stands s c q h) (λ one q. told.handed s c q h) in
          subst (ArePartsOf s new) (append_assoc c (entry t (own_row o) ∷ []) (woken (Some (own_row o)) t here))
          (parts_took makes goes steps s c t (own_row o) old mid new proper.0 told.adds threw kept (λ pods. rw (own_woken o t here, append-nil here) (takes s c t measured (own_scale o) next)) h);
    }

    pub own_order : ((s : Spec) (c : Trace) (a : Act) → IsActRow a (act_row s c a)) → ((a : Admission) (clock t : ℕ) (x : Row) → AreTimed clock a → clock ≤ t → AreTimed t (stepped t x a))
        → ((t : ℕ) → IsMeasuredAt t mid.scaler → IsMeasuredAt t new.scaler) → IsInOrderAt t new
    own_order acts step keeps = record {
      timed = timed_by_row step t (own_row o) _ _ (threw ∙ told.adds.throttle) order.timed;
      few =
          subst (λ (y : throttle.State). length y.admission.pods ≤ 20500) (sym threw)
          (own_few acts old mid t (own_row o) a order.few told.adds told.said (some_of_ready (λ s c. entries_of t (act_row s c a)) old ready));
      measured = keeps t (subst (IsMeasuredAt t) (sym told.adds.scaler) order.measured);
    }

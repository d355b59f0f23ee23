-- The parts of a revision in the course of an event.
use Rattle.std.proofs.Common.{◌≡◌, ℕ, ◌≤◌, [], ◌∷◌, ◌++◌, length, refl, sym, ap, ◌∙◌, subst, append_assoc, arith, Option}
use Rattle.std.proofs.lemmas.List.{length-map}
use Rattle.std.proofs.Math.Bridge.{le_prop}
use Rattle.std.proofs.Math.Logic.{∥∥₁_elim, ∥∥₁_map}
use Rattle.kn_event.specs.Revision.{AreInRange}
use Rattle.kn_event.specs.declared.entry.Entry.{Entry}
use Rattle.kn_event.specs.declared.entry.Row.{Row}
use Rattle.kn_event.specs.declared.event.Event.{Event}
use Rattle.kn_event.specs.declared.revision.Spec.{Spec}
use Rattle.kn_event.specs.Lists.{or_else}
use Rattle.kn_trace.specs.Events.{act_row, entries_of}
use Rattle.kn_trace.specs.Laws.{IsSettled}
use Rattle.kn_trace.specs.Rows.{phase_by}
use Rattle.kn_trace.specs.Scale.{phase_of, scale_rows}
use Rattle.kn_trace.specs.Trace.{Trace, entry, live_pods}
use Rattle.kn_record.specs.declared.admission.Pod.{Pod}
use Rattle.kn_record.specs.Admission.{Admission}
use Rattle.kn_record.specs.Made.{Holds, IsMade, IsProper, IsRecordOf}
use Rattle.kn_record.specs.Views.{AreViews}
use Rattle.kn_record.specs.Walks.{ArePartsProper, gone_after}
use Rattle.kn_laws.specs.Facts.{RowFacts}
use Rattle.kn_laws.specs.Kinds.{Each}
use Rattle.kn_pods.specs.Pods.{PodsState, ArePodsOf, after_row}
use Rattle.kn_scaler.specs.Rows.{is_quiet}
use Rattle.kn_core.specs.State.{ArePartsOf, ArePartsOfSome, PartsState}
use Rattle.kn_core.specs.Changes.{ArePartsOfSettled, HasFewPods, own_and_woken, woken}
use Rattle.kn_core.proofs.Active.{DrainFew}
use Rattle.kn_core.proofs.Events.{Whole, few_drain, own_proper, whole, woken_after}

pub settled_mid : (old mid : PartsState) → ((s : Spec) (c : Trace) → ArePartsOf s old c → ArePartsOf s mid c) → ArePartsOfSettled old → ArePartsOfSettled mid
settled_mid old mid goes some =
    ∥∥₁_map some (λ (h : (c : Trace) × ArePartsOf old.throttle.spec old c × IsSettled old.throttle.spec c).
    let k = goes old.throttle.spec h.0 h.1 in
    (h.0, subst (λ (z : Spec). ArePartsOf z mid h.0) (sym k.spec) k, subst (λ (z : Spec). IsSettled z h.0) (sym k.spec) h.2))

pub some_of_settled : (x : PartsState) → ArePartsOfSettled x → ArePartsOfSome x
some_of_settled x some = ∥∥₁_map some (λ (h : (c : Trace) × ArePartsOf x.throttle.spec x c × IsSettled x.throttle.spec c). (h.0, h.1))

pub pods_same : ((s : Spec) (a : Admission) (c : Trace) → IsRecordOf a c → AreViews s a c) → (x : PartsState) (s : Spec) (c : Trace) → ArePartsOf s x c → length x.throttle.admission.pods ≡ length (live_pods c)
pods_same views x s c h = sym (ap length (views s x.throttle.admission c h.admission).pods ∙ length-map x.throttle.admission.pods (λ (q : Pod). q.number))

pub few_settled : ((s : Spec) (a : Admission) (c : Trace) → IsRecordOf a c → AreViews s a c) → ((s : Spec) (c : Trace) → AreInRange s → IsMade s c → IsSettled s c → length (live_pods c) ≤ 20500)
    → (x : PartsState) → AreInRange x.throttle.spec → ArePartsOfSettled x → HasFewPods x
few_settled views few x ranges some =
    ∥∥₁_elim some le_prop (λ (h : (c : Trace) × ArePartsOf x.throttle.spec x c × IsSettled x.throttle.spec c).
    let same = pods_same views x x.throttle.spec h.0 h.1 in
    let most = few x.throttle.spec h.0 ranges h.1.made h.2 in
    omega (arith, same, most))

-- the parts after departures, and after the act's own row
pub record Went (s : Spec) (c : Trace) (e : Event) (own : Option Row) (gone took : PartsState) : Type 0 where
  pub left : ArePartsOf s gone (gone_after s c e)
  pub by_act : act_row s (gone_after s c e) e.act ≡ own
  pub rows : Whole s c e own
  pub stands : ArePartsOf s took (woken_after s c e own)
  pub few : DrainFew c → DrainFew (woken_after s c e own)

module _ (makes : (s : Spec) (c : Trace) (t : ℕ) (x : Row) → IsMade s c → IsProper s c x → IsMade s (c ++ entry t x ∷ []))
    (goes : (s : Spec) (c : Trace) (t : ℕ) (x : Row) (pods : PodsState) → IsMade s c → IsProper s c x → ArePodsOf pods c → ArePodsOf (after_row x pods) (c ++ entry t x ∷ []))
    (rows : RowFacts) where
  -- the own row is proper
  pub own_ready : (s : Spec) (c : Trace) (e : Event) (gone : PartsState) → ArePartsProper s c e → ArePartsOf s gone (gone_after s c e) → Holds (IsProper s) (gone_after s c e) (entries_of e.time (act_row s (gone_after s c e) e.act))
  own_ready s c e gone proper h = own_proper makes goes rows s c e (act_row s (gone_after s c e) e.act) h.made proper refl

  module _ (push : (c : Trace) (x : Entry) → phase_of (c ++ x ∷ []) ≡ or_else (phase_by x.row) (phase_of c)) (quiet : (s : Spec) (t : ℕ) (c : Trace) (want : ℕ) → Each is_quiet (scale_rows s t c want)) where
    pub went : (s : Spec) (c : Trace) (e : Event) (own : Option Row) (gone took : PartsState) → IsMade s c → IsSettled s c → ArePartsProper s c e → ArePartsOf s gone (gone_after s c e)
        → (ArePartsOf s gone (gone_after s c e) → act_row s (gone_after s c e) e.act ≡ own)
        → (ArePartsOf s gone (gone_after s c e) → Holds (IsProper s) (gone_after s c e) (entries_of e.time own) → ArePartsOf s took (gone_after s c e ++ own_and_woken e.time own (gone_after s c e)))
        → Went s c e own gone took
    went s c e own gone took made settled proper h said takes =
        let by_act = said h in
        let all = whole makes goes rows s c e own h.made proper by_act push quiet made settled in
        let did = entries_of e.time own in
        let mid = subst (ArePartsOf s took) (sym (append_assoc (gone_after s c e) did (woken own e.time (gone_after s c e ++ did)))) (takes h all.did) in
        record { left = h; by_act = by_act; rows = all; stands = mid; few = few_drain makes goes rows s c e own h.made proper by_act made mid.made }

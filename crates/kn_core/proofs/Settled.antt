-- The parts after the rows of a settling.
use Rattle.std.proofs.Common.{◌≡◌, ℕ, true, List, [], ◌∷◌, ◌++◌, refl, sym, ◌∙◌, subst}
use Rattle.std.proofs.Math.Logic.{∥∥₁_map}
use Rattle.kn_event.specs.declared.entry.Entry.{Entry}
use Rattle.kn_event.specs.declared.entry.Row.{Row}
use Rattle.kn_event.specs.declared.entry.Row.TheVariants as row
use Rattle.kn_event.specs.declared.revision.Spec.{Spec}
use Rattle.kn_trace.specs.Settling.{settling}
use Rattle.kn_trace.specs.Trace.{Trace, entry}
use Rattle.kn_record.specs.Made.{Holds, IsMade, IsProper, IsRecordOf}
use Rattle.kn_laws.specs.Kinds.{Each, EachAt}
use Rattle.kn_pods.specs.Pods.{PodsState, ArePodsOf, after_row}
use Rattle.kn_scaler.specs.Rows.{settles}
use Rattle.kn_core.specs.Scaling.{AreNextIn, AreNextInSome}
use Rattle.kn_core.specs.State.{ArePartsOf, IsMeasuredAt, IsScalerOf, PartsState}
use Rattle.kn_core.specs.Changes.{IsReadyFor, after_removal, after_removals}
use Rattle.kn_core.proofs.Traces.{removals_alone, rows_made, rows_pods}

settling_alone : (x : Row) (pods : PodsState) → settles x ≡ true → after_removal x pods ≡ after_row x pods
settling_alone (row.Run r) pods h = refl
settling_alone (row.Assign r p) pods h = refl
settling_alone (row.Remove p) pods h = refl
settling_alone _ pods h = absurd (cc)

module _ (makes : (s : Spec) (c : Trace) (t : ℕ) (x : Row) → IsMade s c → IsProper s c x → IsMade s (c ++ entry t x ∷ []))
    (goes : (s : Spec) (c : Trace) (t : ℕ) (x : Row) (pods : PodsState) → IsMade s c → IsProper s c x → ArePodsOf pods c → ArePodsOf (after_row x pods) (c ++ entry t x ∷ []))
    (s : Spec) (c es : Trace) (old new : PartsState) where
  pub parts_settled : Each settles es → Holds (IsProper s) c es → new.pods ≡ after_removals es old.pods → new.throttle.spec ≡ old.throttle.spec → IsRecordOf new.throttle.admission (c ++ es)
      → IsScalerOf s new.scaler (c ++ es) → ArePartsOf s old c → ArePartsOf s new (c ++ es)
  parts_settled each proper pods spec admission scaler h = record {
    spec = spec ∙ h.spec;
    made = rows_made makes goes s c es h.made proper;
    admission = admission;
    pods = subst (λ (p : PodsState). ArePodsOf p (c ++ es)) (sym (pods ∙ removals_alone settles settling_alone es old.pods each)) (rows_pods makes goes s c es old.pods h.made proper h.pods);
    scaler = scaler;
  }

-- what the autoscaler hears
pub settled_next : (x : PartsState) (t : ℕ) (es : List Entry) (s : Spec) (c : Trace) → IsMeasuredAt t x.scaler → Each settles es → EachAt t es → Holds (IsProper s) c es → ArePartsOf s x c → AreNextIn x.scaler es s c
settled_next x t es s c measured kind at proper h = record { made = h.made; proper = proper; time = t; measured = measured; at = at; kind = kind; scaler = h.scaler }

pub settled_next_some : ((s : Spec) (t : ℕ) (c : Trace) → Each settles (settling s t c)) → ((s : Spec) (t : ℕ) (c : Trace) → EachAt t (settling s t c))
    → (x : PartsState) (t : ℕ) (es : List Entry) → IsMeasuredAt t x.scaler → ((s : Spec) (c : Trace) → ArePartsOf s x c → es ≡ settling s t c) → IsReadyFor (λ s c. settling s t c) x → AreNextInSome x.scaler es
settled_next_some kinds times x t es measured same some =
    ∥∥₁_map some (λ (h : (c : Trace) × ArePartsOf x.throttle.spec x c × Holds (IsProper x.throttle.spec) c (settling x.throttle.spec t c)).
    let s = x.throttle.spec in
    (s, h.0, subst (λ (l : List Entry). AreNextIn x.scaler l s h.0) (sym (same s h.0 h.1)) (settled_next x t (settling s t h.0) s h.0 measured (kinds s t h.0) (times s t h.0) h.2 h.1)))

-- What comes to the autoscaler with a row.
use Rattle.std.proofs.Common.{◌≡◌, ℕ, Bool, List, [], ◌∷◌, length, refl, sym, ap, ◌∙◌, arith, Option, None, Some}
use Rattle.std.proofs.Math.Logic.{∥∥₁_map}
use Rattle.kn_event.specs.declared.entry.Row.{Row}
use Rattle.kn_event.specs.declared.event.Stand.{Stand}
use Rattle.kn_event.specs.declared.revision.Spec.{Spec}
use Rattle.std.specs.Prelude.{IsSome, nat_lt, not}
use Rattle.std.proofs.lemmas.Bool.{lt-ltb}
use Rattle.kn_trace.specs.Load.{has_ready_pod}
use Rattle.kn_trace.specs.Scale.{count_ready}
use Rattle.kn_trace.specs.Trace.{Trace, entry, is_empty, proxied, ready_pods, stand_of}
use Rattle.kn_record.specs.Made.{Holds, IsProper, IsRecordOf}
use Rattle.kn_places.specs.Ends.{IsToldOf}
use Rattle.kn_scaler.specs.Stands.{ScalerState}
use Rattle.kn_core.specs.Scaling.{IsHeardOf, IsNextIn, IsNextInSome}
use Rattle.kn_core.specs.State.{ArePartsOf, IsScalerOfSome, PartsState, ArePartsOfSome}
use Rattle.kn_core.specs.Changes.{EndsOnly, IsReadyFor}

-- only an autoscaler that is there is told
pub heard : (o : Option ScalerState) (y : Row) (at : Stand) (through : Bool) (c : Trace) → (IsSome o → IsToldOf c y at through) → IsHeardOf o c y at through
heard None y at through c told = tt
heard (Some z) y at through c told = told refl

pub next_in : (x : PartsState) (y : Row) (r : ℕ) (at : Stand) (through : Bool) (s : Spec) (c : Trace) → EndsOnly y r → ArePartsOf s x c → IsProper s c y → at ≡ stand_of c r → through ≡ proxied c r → IsNextIn x.scaler y at through s c
next_in x y r at through s c ends h proper stands handed = record {
  made = h.made;
  proper = proper;
  told = heard x.scaler y at through c (λ some. record {
    stands = λ q e. stands ∙ ap (stand_of c) (ends q e);
    handed = λ q e. handed ∙ ap (proxied c) (ends q e);
  });
  scaler = h.scaler;
}

pub next_in_some : (x : PartsState) (y : Row) (r : ℕ) (at : Stand) (through : Bool) → EndsOnly y r
    → ((c : Trace) → IsRecordOf x.throttle.admission c → at ≡ stand_of c r) → ((c : Trace) → IsRecordOf x.throttle.admission c → through ≡ proxied c r) → IsReadyFor (λ s c. entry 0 y ∷ []) x → IsNextInSome x.scaler y at through
next_in_some x y r at through ends stands handed some =
    ∥∥₁_map some (λ (h : (c : Trace) × ArePartsOf x.throttle.spec x c × Holds (IsProper x.throttle.spec) c (entry 0 y ∷ [])).
    (x.throttle.spec, h.0, next_in x y r at through x.throttle.spec h.0 ends h.1 h.2.0 (stands h.0 h.1.admission) (handed h.0 h.1.admission)))

pub scaler_of_parts : (x : PartsState) → ArePartsOfSome x → IsScalerOfSome x.scaler
scaler_of_parts x some = ∥∥₁_map some (λ (h : (c : Trace) × ArePartsOf x.throttle.spec x c). (x.throttle.spec, h.0, h.1.made, h.1.scaler))

-- whether a pod is Ready, by how many are
pub ready_some : (c : Trace) (n : ℕ) → n ≡ count_ready c → has_ready_pod c ≡ nat_lt 0 n
unfolding count_ready
ready_some c n e = rw e (by (ready_pods c))
  where
    by : (ps : List ℕ) → not (is_empty ps) ≡ nat_lt 0 (length ps)
    by [] = refl
    by (p ∷ ps) = sym (lt-ltb 0 (length (p ∷ ps)) (omega arith))

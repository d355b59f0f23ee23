-- The autoscaler's place, where there is one.
use Rattle.std.proofs.Common.{◌≡◌, ℕ, Bool, true, false, List, [], ◌∷◌, ◌++◌, refl, sym, ap, ◌∙◌, subst, Option, None, Some, IfNone, IfSome}
use Rattle.std.specs.Prelude.{◌==◌}
use Rattle.std.proofs.Math.Logic.{∥∥₁_map}
use Rattle.kn_event.specs.declared.entry.Row.{Row}
use Rattle.kn_event.specs.declared.entry.Row.TheVariants as row
use Rattle.kn_event.specs.declared.event.Act.TheVariants as act
use Rattle.kn_event.specs.declared.event.Stand.{Stand}
use Rattle.kn_event.specs.declared.revision.Kind.{Kind}
use Rattle.kn_event.specs.declared.revision.Kind.TheVariants as kind
use Rattle.kn_event.specs.declared.revision.Spec.{Spec}
use Rattle.kn_trace.specs.Events.{scaler_rows, wake_where}
use Rattle.kn_trace.specs.Scale.{wanted}
use Rattle.kn_trace.specs.Trace.{Trace, entry}
use Rattle.kn_record.specs.Made.{IsMade}
use Rattle.kn_scaler.specs.Rows.{ready_rows, says_scale, settles}
use Rattle.kn_scaler.specs.Stands.{AreNextOfSome, AreNextRows, IsNextOfSome, ScalerState, StandsForSome, IsScalerOfTrace}
use Rattle.kn_event.specs.declared.entry.Entry.{Entry}
use Rattle.kn_scaler.specs.declared.scaler.Ruled.{Ruled}
use Rattle.kn_laws.specs.Kinds.{Each}
use Rattle.kn_core.specs.Scaling.{AreNextIn, AreNextInSome, IsAtZero, IsNextIn, IsNextInSome, IsWokenBy, RulesWake, WakesNone}
use Rattle.kn_core.specs.State.{IsScalerOf, IsScalerOfSome, IsUnscaled}
use Rattle.kn_core.proofs.Traces.{is_unscaled_row, says_unscaled, unscaled_more}

pub scaler_of_some : (o : Option ScalerState) (y : ScalerState) → o ≡ Some y → IsScalerOfSome o → StandsForSome y
scaler_of_some o y e some =
    ∥∥₁_map (subst IsScalerOfSome e some) (λ (h : (s : Spec) × (c : Trace) × IsMade s c × IsScalerOf s (Some y) c).
    (h.1, subst (λ (s : Spec). IsMade s h.1) (sym h.3.stands.spec) h.2, subst (λ (s : Spec). IsScalerOfTrace s y h.1) (sym h.3.stands.spec) h.3.stands))

pub next_of_some : (o : Option ScalerState) (y : ScalerState) (x : Row) (at : Stand) (through : Bool) → o ≡ Some y → IsNextInSome o x at through → IsNextOfSome y x at through
next_of_some o y x at through e some =
    ∥∥₁_map (subst (λ (z : Option ScalerState). IsNextInSome z x at through) e some) (λ (h : (s : Spec) × (c : Trace) × IsNextIn (Some y) x at through s c).
    (h.0, h.1, record { stands = h.2.scaler.stands; made = h.2.made; proper = h.2.proper; told = h.2.told }))

pub unscaled_row : (s : Spec) (c : Trace) (t : ℕ) (x : Row) → says_scale x ≡ false → IsUnscaled s c → IsUnscaled s (c ++ entry t x ∷ [])
unscaled_row s c t x says h = unscaled_more s c (entry t x ∷ []) (says_unscaled x says, tt) h

pub unscaled_ready : (s : Spec) (c : Trace) (t p : ℕ) → IsUnscaled s c → IsUnscaled s (c ++ ready_rows t c p)
unscaled_ready s c t p h = rw h.phase (unscaled_more s c (entry t (row.Ready p) ∷ []) (refl, tt) h)

settles_unscaled : (es : Trace) → Each settles es → Each is_unscaled_row es
settles_unscaled [] h = tt
settles_unscaled (e ∷ es) h = (by e.row h.0, settles_unscaled es h.1)
  where
    by : (x : Row) → settles x ≡ true → is_unscaled_row x ≡ true
    by (row.Phase x) k = absurd (cc)
    by (row.Mode m) k = absurd (cc)
    by _ k = refl

pub unscaled_rows : (s : Spec) (c es : Trace) → Each settles es → IsUnscaled s c → IsUnscaled s (c ++ es)
unscaled_rows s c es each h = unscaled_more s c es (settles_unscaled es each) h

pub next_rows : (y : ScalerState) (es : List Entry) (s : Spec) (c : Trace) → AreNextIn (Some y) es s c → AreNextRows y es s c
next_rows y es s c k = record { stands = k.scaler.stands; made = k.made; proper = k.proper; at = rw k.measured k.at; kind = k.kind }

pub next_rows_some : (o : Option ScalerState) (y : ScalerState) (es : List Entry) → o ≡ Some y → AreNextInSome o es → AreNextOfSome y es
next_rows_some o y es e some =
    ∥∥₁_map (subst (λ (z : Option ScalerState). AreNextInSome z es) e some) (λ (h : (s : Spec) × (c : Trace) × AreNextIn (Some y) es s c). (h.0, h.1, next_rows y es h.0 h.1 h.2))

-- ---- where a request was admitted

admitted_rows : (s : Spec) (t : ℕ) (c : Trace) (tag r g : ℕ) (b : Bool) → s.kind ≡ kind.Kpa → (wanted s c == 0) ≡ b → scaler_rows s.kind s t c (act.Arrive tag) (Some (row.Admit r g)) ≡ wake_where b s t c
admitted_rows s t c tag r g b scales e = ap (λ (k : Kind). scaler_rows k s t c (act.Arrive tag) (Some (row.Admit r g))) scales ∙ ap (λ (x : Bool). wake_where x s t c) e

pub woken_none : (t : ℕ) (y : ScalerState) (answer : Option Ruled) → IfNone answer (IsAtZero false y) → IfNone answer (WakesNone t (Some y))
woken_none t y None h = λ s c tag r g k. admitted_rows s t c tag r g false k.kind (h s c k.stands)
woken_none t y (Some x) h = tt

pub woken_some : (t ready : ℕ) (old new : ScalerState) (answer : Option Ruled) → IfSome answer (λ (x : Ruled). IsWokenBy t ready old new x) → IfSome answer (λ (x : Ruled). RulesWake t ready (Some old) (Some new) x)
woken_some t ready old new None h = tt
woken_some t ready old new (Some x) h = record {
  some = λ s c tag r g k. admitted_rows s t c tag r g true k.kind (h.some s c k.stands);
  ruled = λ s c is k. h.ruled s c is k.stands;
  stands = λ s c is k. record { kind = k.kind; stands = h.stands s c is k.stands };
}

-- The parts after a row, and in a loop of rows.
use Rattle.std.proofs.Common.{◌≡◌, ℕ, Bool, true, false, List, [], ◌∷◌, ◌++◌, refl, sym, ap, ◌∙◌, subst, append-nil, append_assoc, Option}
use Rattle.std.specs.Prelude.{⊤}
use Rattle.std.proofs.Math.Logic.{∥∥₁_map}
use Rattle.kn_event.specs.declared.entry.Entry.{Entry}
use Rattle.kn_event.specs.declared.entry.Row.{Row}
use Rattle.kn_event.specs.declared.entry.Row.TheVariants as row
use Rattle.kn_event.specs.declared.revision.Spec.{Spec}
use Rattle.kn_trace.specs.Trace.{Trace, entry}
use Rattle.kn_record.specs.Made.{Holds, IsMade, IsProper, IsRecordOf}
use Rattle.kn_record.specs.Walks.{BeginsWith}
use Rattle.kn_pods.specs.Pods.{PodsState, ArePodsOf, after_row}
use Rattle.kn_throttle.specs.State as throttle
use Rattle.kn_scaler.specs.Stands.{ScalerState}
use Rattle.kn_core.specs.State.{ArePartsOf, ArePartsOfSome, IsMeasuredAt, IsScalerOf, PartsState}
use Rattle.kn_core.specs.Changes.{AddsProper, IsReadyFor, LeavesParts}

-- a row with which a request ends
abbrev pub is_end_row : Row → Bool
is_end_row (row.Expire r) = true
is_end_row (row.LostRequest r) = true
is_end_row _ = false

end_alone : (x : Row) (pods : PodsState) → is_end_row x ≡ true → after_row x pods ≡ pods
end_alone (row.Expire r) pods h = refl
end_alone (row.LostRequest r) pods h = refl
end_alone _ pods h = absurd (cc)

module _ (makes : (s : Spec) (c : Trace) (t : ℕ) (x : Row) → IsMade s c → IsProper s c x → IsMade s (c ++ entry t x ∷ []))
    (goes : (s : Spec) (c : Trace) (t : ℕ) (x : Row) (pods : PodsState) → IsMade s c → IsProper s c x → ArePodsOf pods c → ArePodsOf (after_row x pods) (c ++ entry t x ∷ []))
    (s : Spec) (c : Trace) (t : ℕ) (x : Row) (old new : PartsState) where
  pub parts_row : IsProper s c x → IsRecordOf new.throttle.admission (c ++ entry t x ∷ []) → new.throttle.spec ≡ old.throttle.spec → new.pods ≡ after_row x old.pods
      → IsScalerOf s new.scaler (c ++ entry t x ∷ []) → ArePartsOf s old c → ArePartsOf s new (c ++ entry t x ∷ [])
  parts_row proper admission spec pods scaler h = record {
    spec = spec ∙ h.spec;
    made = makes s c t x h.made proper;
    admission = admission;
    pods = subst (λ (p : PodsState). ArePodsOf p (c ++ entry t x ∷ [])) (sym pods) (goes s c t x old.pods h.made proper h.pods);
    scaler = scaler;
  }

-- ---- in a loop

pub leaves_all : (s : Spec) (all : Trace → List Entry) (c : Trace) (x : PartsState) (log : List Entry) → ArePartsOf s x c → Holds (IsProper s) c (all c) → LeavesParts s all all c x log log
leaves_all s all c x log parts proper = record { here = c; parts = parts; proper = proper; rows = refl; whole = refl }

module _ (s : Spec) (all left : Trace → List Entry) (c : Trace) (x : PartsState) (old log : List Entry) (l : LeavesParts s all left c x old log) where
  -- the first row that is left
  pub leaves_proper : (t : ℕ) (y : Row) → left l.here ≡ entry t y ∷ left (l.here ++ entry t y ∷ []) → IsProper s l.here y
  leaves_proper t y first = (subst (Holds (IsProper s) l.here) first l.proper).0

  pub leaves_more : (t : ℕ) (y : Row) (new : PartsState) → left l.here ≡ entry t y ∷ left (l.here ++ entry t y ∷ []) → ArePartsOf s new (l.here ++ entry t y ∷ []) → LeavesParts s all left c new old (log ++ entry t y ∷ [])
  leaves_more t y new first parts = record {
    here = l.here ++ entry t y ∷ [];
    parts = parts;
    proper = (subst (Holds (IsProper s) l.here) first l.proper).1;
    rows = append_assoc log (entry t y ∷ []) (left (l.here ++ entry t y ∷ [])) ∙ ap (λ (es : List Entry). log ++ es) (sym first) ∙ l.rows;
    whole = append_assoc l.here (entry t y ∷ []) (left (l.here ++ entry t y ∷ [])) ∙ ap (λ (es : List Entry). l.here ++ es) (sym first) ∙ l.whole;
  }

  -- nothing is left
  leaves_logged : left l.here ≡ [] → log ≡ old ++ all c
  leaves_logged none = sym (append-nil log) ∙ ap (λ (es : List Entry). log ++ es) (sym none) ∙ l.rows

  leaves_stands : left l.here ≡ [] → ArePartsOf s x (c ++ all c)
  leaves_stands none = subst (ArePartsOf s x) (sym (append-nil l.here) ∙ ap (λ (es : List Entry). l.here ++ es) (sym none) ∙ l.whole) l.parts

pub leaves_adds : (rows : Spec → Trace → List Entry) (old x : PartsState) (was log : List Entry) → ((s : Spec) (c : Trace) → ArePartsOf s old c → Holds (IsProper s) c (rows s c) → LeavesParts s (rows s) (rows s) c x was log)
    → ((s : Spec) (h : Trace) → ArePartsOf s x h → rows s h ≡ []) → AddsProper rows old x was log
leaves_adds rows old x was log on none = record {
  logged = λ s c h proper. let l = on s c h proper in leaves_logged s (rows s) (rows s) c x was log l (none s l.here l.parts);
  stands = λ s c h proper. let l = on s c h proper in leaves_stands s (rows s) (rows s) c x was log l (none s l.here l.parts);
}

-- the parts once the autoscaler has heard of a row that is still to come
pub record Measured (t : ℕ) (y : Row) (here mid : PartsState) : Type 0 where
  pub throttle : mid.throttle ≡ here.throttle
  pub pods : mid.pods ≡ here.pods
  pub measured : IsMeasuredAt t mid.scaler
  pub scaler : (s : Spec) (c : Trace) → ArePartsOf s here c → IsProper s c y → IsScalerOf s mid.scaler (c ++ entry t y ∷ [])

-- a request ends
pub ended_more : ((s : Spec) (c : Trace) (t : ℕ) (x : Row) → IsMade s c → IsProper s c x → IsMade s (c ++ entry t x ∷ []))
    → ((s : Spec) (c : Trace) (t : ℕ) (x : Row) (pods : PodsState) → IsMade s c → IsProper s c x → ArePodsOf pods c → ArePodsOf (after_row x pods) (c ++ entry t x ∷ []))
    → (s : Spec) (all left : Trace → List Entry) (c : Trace) (here mid new : PartsState) (old log : List Entry) (t : ℕ) (x : Row) → is_end_row x ≡ true
    → (l : LeavesParts s all left c here old log) → BeginsWith left t x here.throttle.admission l.here → Measured t x here mid
    → new.throttle ≡ throttle.with_row t x here.throttle → new.pods ≡ mid.pods → new.scaler ≡ mid.scaler
    → LeavesParts s all left c new old (log ++ entry t x ∷ [])
ended_more makes goes s all left c here mid new old log t x ends l begins m threw pods scaler =
    let proper = leaves_proper s all left c here old log l t x begins.0 in
    let admission = subst (λ (y : throttle.State). IsRecordOf y.admission (l.here ++ entry t x ∷ [])) (sym threw) begins.1 in
    let heard = subst (λ (o : Option ScalerState). IsScalerOf s o (l.here ++ entry t x ∷ [])) (sym scaler) (m.scaler s l.here l.parts proper) in
    leaves_more s all left c here old log l t x new begins.0
    (parts_row makes goes s l.here t x here new proper admission (ap (λ (y : throttle.State). y.spec) threw) (pods ∙ m.pods ∙ sym (end_alone x here.pods ends)) heard l.parts)

-- the parts stand for some trace at which the first row left is proper
pub ready_row : (rows : Spec → Trace → List Entry) (old x : PartsState) (was log : List Entry) (t : ℕ) (y : Row) → x.throttle.spec ≡ old.throttle.spec
    → ((s : Spec) (c : Trace) → ArePartsOf s old c → Holds (IsProper s) c (rows s c) → LeavesParts s (rows s) (rows s) c x was log)
    → ((s : Spec) (h : Trace) → ArePartsOf s x h → rows s h ≡ entry t y ∷ rows s (h ++ entry t y ∷ [])) → IsReadyFor rows old → IsReadyFor (λ s c. entry 0 y ∷ []) x
ready_row rows old x was log t y spec on first some =
    ∥∥₁_map some (λ (h : (c : Trace) × ArePartsOf old.throttle.spec old c × Holds (IsProper old.throttle.spec) c (rows old.throttle.spec c)).
    let s = old.throttle.spec in
    let l = on s h.0 h.1 h.2 in
    let proper = leaves_proper s (rows s) (rows s) h.0 x was log l t y (first s l.here l.parts) in
    (l.here, subst (λ (z : Spec). ArePartsOf z x l.here) (sym spec) l.parts, subst (λ (z : Spec). IsProper z l.here y × ⊤) (sym spec) (proper, tt)))

-- so it is of no row at all
pub some_of_ready : (rows : Spec → Trace → List Entry) (x : PartsState) → IsReadyFor rows x → ArePartsOfSome x
some_of_ready rows x some = ∥∥₁_map some (λ (h : (c : Trace) × ArePartsOf x.throttle.spec x c × Holds (IsProper x.throttle.spec) c (rows x.throttle.spec c)). (h.0, h.1))

pub ready_of_some : (rows : Spec → Trace → List Entry) (x : PartsState) → ((s : Spec) (c : Trace) → ArePartsOf s x c → Holds (IsProper s) c (rows s c)) → ArePartsOfSome x → IsReadyFor rows x
ready_of_some rows x proper some = ∥∥₁_map some (λ (h : (c : Trace) × ArePartsOf x.throttle.spec x c). (h.0, h.1, proper x.throttle.spec h.0 h.1))

-- so they do after more rows
pub ready_more : (rows more : Spec → Trace → List Entry) (old new : PartsState) → ((s : Spec) (c : Trace) → ArePartsOf s old c → ArePartsOf s new (c ++ more s c))
    → ((s : Spec) (c : Trace) → ArePartsOf s old c → Holds (IsProper s) (c ++ more s c) (rows s (c ++ more s c))) → ArePartsOfSome old → IsReadyFor rows new
ready_more rows more old new goes proper some =
    ∥∥₁_map some (λ (h : (c : Trace) × ArePartsOf old.throttle.spec old c).
    let s = old.throttle.spec in
    let all = goes s h.0 h.1 in
    let d : Trace = h.0 ++ more s h.0 in
    (d, subst (λ (z : Spec). ArePartsOf z new d) (sym all.spec) all, subst (λ (z : Spec). Holds (IsProper z) d (rows z d)) (sym all.spec) (proper s h.0 h.1)))

pub some_more : (more : Spec → Trace → List Entry) (old new : PartsState) → ((s : Spec) (c : Trace) → ArePartsOf s old c → ArePartsOf s new (c ++ more s c)) → ArePartsOfSome old → ArePartsOfSome new
some_more more old new goes some =
    ∥∥₁_map some (λ (h : (c : Trace) × ArePartsOf old.throttle.spec old c).
    let all = goes old.throttle.spec h.0 h.1 in
    (h.0 ++ more old.throttle.spec h.0, subst (λ (z : Spec). ArePartsOf z new (h.0 ++ more old.throttle.spec h.0)) (sym all.spec) all))

-- the same rows in other words
pub ready_same : (rows others : Spec → Trace → List Entry) (x : PartsState) → ((s : Spec) (c : Trace) → rows s c ≡ others s c) → IsReadyFor rows x → IsReadyFor others x
ready_same rows others x same some =
    ∥∥₁_map some (λ (h : (c : Trace) × ArePartsOf x.throttle.spec x c × Holds (IsProper x.throttle.spec) c (rows x.throttle.spec c)).
    (h.0, h.1, subst (Holds (IsProper x.throttle.spec) h.0) (same x.throttle.spec h.0) h.2))

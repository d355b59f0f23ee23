-- The rows of a decision.
use Rattle.std.proofs.Common.{◌≡◌, ℕ, ◌≤◌, Bool, true, false, List, [], ◌∷◌, ◌++◌, refl, sym, ap, ◌∙◌, subst, append_assoc, Option, None, Some, inl, inr}
use Rattle.std.specs.Prelude.{not, option_map}
use Rattle.std.specs.Bool.{then_some}
use Rattle.kn_event.specs.Revision.{AreInRange}
use Rattle.kn_event.specs.declared.entry.Decision.{Decision}
use Rattle.kn_event.specs.declared.entry.Entry.{Entry}
use Rattle.kn_event.specs.declared.entry.Mode.{Mode}
use Rattle.kn_event.specs.declared.entry.Phase.{Phase}
use Rattle.kn_event.specs.declared.entry.Row.{Row}
use Rattle.kn_event.specs.declared.entry.Row.TheVariants as row
use Rattle.kn_event.specs.declared.event.Act.{Act}
use Rattle.kn_event.specs.declared.event.Act.TheVariants as act
use Rattle.kn_event.specs.declared.revision.Kind.{Kind}
use Rattle.kn_event.specs.declared.revision.Kind.TheVariants as kind
use Rattle.kn_event.specs.declared.revision.Spec.{Spec}
use Rattle.kn_trace.specs.Events.{row_of, scaler_rows}
use Rattle.kn_scaling.specs.Decide.{Ruling}
use Rattle.kn_scaling.specs.Burst.{is_same_mode}
use Rattle.kn_trace.specs.Scale.{decision_at, decision_rows, drain_order, is_in_phase, mode_of, phase_of, scale_rows, tick_rows, tick_rows_of, wake_decision_at, wake_rows, where_true}
use Rattle.kn_trace.specs.Trace.{Trace, entry, first_of}
use Rattle.kn_record.specs.Admission.{Admission, stepped}
use Rattle.kn_record.specs.Made.{Holds, IsMade, IsProper, IsRecordOf}
use Rattle.kn_record.specs.Walks.{stepped_by}
use Rattle.kn_laws.specs.Kinds.{Each, IsActRow}
use Rattle.kn_pods.specs.Pods.{PodsState, ArePodsOf, after_row}
use Rattle.kn_throttle.specs.State as throttle
use Rattle.kn_scaler.specs.Rows.{ruled_by, ruling_rows, tick_rulings}
use Rattle.kn_scaler.specs.declared.scaler.Ruled.{Ruled}
use Rattle.kn_core.specs.Changes.{is_admitted, is_own_of, says_act}
use Rattle.kn_core.specs.Ruled.{mode_said, phase_said, said_rows}
use Rattle.kn_core.specs.State.{ArePartsOf, IsFixed, IsScalerOf, PartsState}
use Rattle.kn_core.proofs.Scaled.{holds_front}
use Rattle.kn_core.proofs.Traces.{pods_alone, rows_made, rows_pods}

-- a row of a decision but those of pods
abbrev pub is_ruling_row : Row → Bool
is_ruling_row (row.Decided d) = true
is_ruling_row row.NoData = true
is_ruling_row (row.Phase x) = true
is_ruling_row (row.Mode m) = true
is_ruling_row _ = false

ruling_alone : (x : Row) (pods : PodsState) → is_ruling_row x ≡ true → after_row x pods ≡ pods
ruling_alone (row.Decided d) pods h = refl
ruling_alone row.NoData pods h = refl
ruling_alone (row.Phase x) pods h = refl
ruling_alone (row.Mode m) pods h = refl
ruling_alone _ pods h = absurd (cc)

ruled_one : (t : ℕ) (x : Row) (a : Admission) → is_ruling_row x ≡ true → stepped t x a ≡ a
unfolding stepped
ruled_one t (row.Decided d) a h = refl
ruled_one t row.NoData a h = refl
ruled_one t (row.Phase x) a h = refl
ruled_one t (row.Mode m) a h = refl
ruled_one t _ a h = absurd (cc)

ruled_stepped : (es : Trace) (a : Admission) → Each is_ruling_row es → stepped_by es a ≡ a
ruled_stepped [] a h = refl
ruled_stepped (e ∷ es) a h = rw (ruled_one e.time e.row a h.0) (ruled_stepped es a h.1)

where_kind : (b : Bool) (e : Entry) → is_ruling_row e.row ≡ true → Each is_ruling_row (where_true b (e ∷ []))
where_kind true e h = (h, tt)
where_kind false e h = tt

append_kind : (xs ys : Trace) → Each is_ruling_row xs → Each is_ruling_row ys → Each is_ruling_row (xs ++ ys)
append_kind [] ys h k = k
append_kind (x ∷ xs) ys h k = (h.0, append_kind xs ys h.1 k)

pub ruling_kind : (t : ℕ) (c : Trace) (made : Ruling) → Each is_ruling_row (ruling_rows t c made)
ruling_kind t c made = (
  refl,
  append_kind (where_true (not (is_in_phase made.phase (phase_of c))) (entry t (row.Phase made.phase) ∷ [])) (where_true (not (is_same_mode made.decision.mode (mode_of c))) (entry t (row.Mode made.decision.mode) ∷ []))
      (where_kind (not (is_in_phase made.phase (phase_of c))) (entry t (row.Phase made.phase)) refl) (where_kind (not (is_same_mode made.decision.mode (mode_of c))) (entry t (row.Mode made.decision.mode)) refl),
)

pub tick_kind : (t : ℕ) (c : Trace) (o : Option Ruling) → Each is_ruling_row (tick_rulings t c o)
tick_kind t c None = (refl, tt)
tick_kind t c (Some made) = ruling_kind t c made

-- the parts after such rows, which throttler and pods leave
pub parts_ruled : ((s : Spec) (c : Trace) (t : ℕ) (x : Row) → IsMade s c → IsProper s c x → IsMade s (c ++ entry t x ∷ []))
    → ((s : Spec) (c : Trace) (t : ℕ) (x : Row) (pods : PodsState) → IsMade s c → IsProper s c x → ArePodsOf pods c → ArePodsOf (after_row x pods) (c ++ entry t x ∷ []))
    → ((s : Spec) (a : Admission) (c es : Trace) → IsRecordOf a c → Holds (IsProper s) c es → IsRecordOf (stepped_by es a) (c ++ es))
    → (s : Spec) (c es : Trace) (old new : PartsState) → Each is_ruling_row es → Holds (IsProper s) c es → new.throttle ≡ old.throttle → new.pods ≡ old.pods → IsScalerOf s new.scaler (c ++ es) → ArePartsOf s old c
    → ArePartsOf s new (c ++ es)
parts_ruled makes goes rows s c es old new each proper threw kept scaler h = record {
  spec = ap (λ (y : throttle.State). y.spec) threw ∙ h.spec;
  made = rows_made makes goes s c es h.made proper;
  admission = subst (λ (a : Admission). IsRecordOf a (c ++ es)) (ruled_stepped es old.throttle.admission each ∙ ap (λ (y : throttle.State). y.admission) (sym threw)) (rows s old.throttle.admission c es h.admission proper);
  pods = subst (λ (p : PodsState). ArePodsOf p (c ++ es)) (pods_alone is_ruling_row ruling_alone es old.pods each ∙ sym kept) (rows_pods makes goes s c es old.pods h.made proper h.pods);
  scaler = scaler;
}

-- pods that stand for both traces scale alike
pub scale_same : (s : Spec) (t want : ℕ) (pods : PodsState) (c d : Trace) → ArePodsOf pods c → ArePodsOf pods d → scale_rows s t c want ≡ scale_rows s t d want
unfolding scale_rows drain_order
scale_same s t want pods c d one two =
    let a = sym one.created ∙ two.created in
    let b = sym one.starting ∙ two.starting in
    let e = sym one.ready ∙ two.ready in
    rw (a, b, e) refl

phase_same : (t : ℕ) (b : Bool) (x : Phase) → phase_said t (then_some b x) ≡ where_true b (entry t (row.Phase x) ∷ [])
phase_same t true x = refl
phase_same t false x = refl

mode_same : (t : ℕ) (b : Bool) (m : Mode) → mode_said t (then_some b m) ≡ where_true b (entry t (row.Mode m) ∷ [])
mode_same t true m = refl
mode_same t false m = refl

-- what is said of a decision are its rows
pub said_ruling : (t : ℕ) (c : Trace) (made : Ruling) (ruled : Ruled) → ruled ≡ ruled_by c made → said_rows t ruled ≡ ruling_rows t c made
said_ruling t c made ruled e =
    rw (e, phase_same t (not (is_in_phase made.phase (phase_of c))) made.phase, mode_same t (not (is_same_mode made.decision.mode (mode_of c))) made.decision.mode) refl

-- ---- what the autoscaler adds

pub scaler_none : (k : Kind) (s : Spec) (t : ℕ) (c : Trace) (a : Act) (did : Option Row) → IsFixed k → scaler_rows k s t c a did ≡ []
scaler_none (kind.Fixed n) s t c a did h = refl
scaler_none kind.Kpa s t c a did h = absurd h

-- these rows are of this decision
pub record Decides (s : Spec) (c : Trace) (t : ℕ) (ruled : Ruled) (heard es : List Entry) : Type 0 where
  pub made : Ruling
  pub same : ruled ≡ ruled_by c made
  pub ruling : heard ≡ ruling_rows t c made
  pub rows : es ≡ ruling_rows t c made ++ where_true ruled.decision.applied (scale_rows s t c ruled.decision.want)

made_of : {X Y : Type 0} (f : X → Y) (o : Option X) (y : Y) → Some y ≡ option_map f o → (x : X) × (o ≡ Some x) × (y ≡ f x)
made_of f None y e = absurd (cc)
made_of f (Some x) y e = (x, refl, cc)

module _ (split : (s : Spec) (t : ℕ) (c : Trace) (made : Ruling) → decision_rows s t c made ≡ ruling_rows t c made ++ where_true made.decision.applied (scale_rows s t c made.decision.want)) where
  decides_by : (s : Spec) (c : Trace) (t : ℕ) (ruled : Ruled) (made : Ruling) (heard rows : List Entry) → ruled ≡ ruled_by c made → heard ≡ ruling_rows t c made → rows ≡ decision_rows s t c made → Decides s c t ruled heard rows
  decides_by s c t ruled made heard rows same ruling e = record {
    made = made;
    same = same;
    ruling = ruling;
    rows = e ∙ split s t c made ∙ ap (λ (d : Decision). ruling_rows t c made ++ where_true d.applied (scale_rows s t c d.want)) (sym (ap (λ (r : Ruled). r.decision) same));
  }

  pub tick_decides : (s : Spec) (c : Trace) (t : ℕ) (ruled : Ruled) → s.kind ≡ kind.Kpa → Some ruled ≡ option_map (ruled_by c) (decision_at s c t) → Decides s c t ruled (tick_rulings t c (decision_at s c t)) (scaler_rows s.kind s t c act.Tick None)
  unfolding tick_rows
  tick_decides s c t ruled scales e =
      let found = made_of (ruled_by c) (decision_at s c t) ruled e in
      decides_by s c t ruled found.0 (tick_rulings t c (decision_at s c t)) (scaler_rows s.kind s t c act.Tick None) found.2 (ap (tick_rulings t c) found.1) (ap (λ (k : Kind). scaler_rows k s t c act.Tick None) scales ∙ ap (tick_rows_of s t c) found.1)

  pub wake_decides : (s : Spec) (c : Trace) (t tag r g : ℕ) (ruled : Ruled) → scaler_rows s.kind s t c (act.Arrive tag) (Some (row.Admit r g)) ≡ wake_rows s t c → ruled ≡ ruled_by c (wake_decision_at s c t)
      → Decides s c t ruled (ruling_rows t c (wake_decision_at s c t)) (scaler_rows s.kind s t c (act.Arrive tag) (Some (row.Admit r g)))
  unfolding wake_rows
  wake_decides s c t tag r g ruled wakes same = decides_by s c t ruled (wake_decision_at s c t) (ruling_rows t c (wake_decision_at s c t)) (scaler_rows s.kind s t c (act.Arrive tag) (Some (row.Admit r g))) same refl wakes

pub no_data : (s : Spec) (c : Trace) (t : ℕ) → s.kind ≡ kind.Kpa → None ≡ option_map (ruled_by c) (decision_at s c t) → (decision_at s c t ≡ None) × (scaler_rows s.kind s t c act.Tick None ≡ entry t row.NoData ∷ [])
unfolding tick_rows
no_data s c t scales e =
    let none = by (decision_at s c t) e in
    (none, ap (λ (k : Kind). scaler_rows k s t c act.Tick None) scales ∙ ap (tick_rows_of s t c) none)
  where
    by : (o : Option Ruling) → None ≡ option_map (ruled_by c) o → o ≡ None
    by None e = refl
    by (Some x) e = absurd (cc)

module _ (makes : (s : Spec) (c : Trace) (t : ℕ) (x : Row) → IsMade s c → IsProper s c x → IsMade s (c ++ entry t x ∷ []))
    (goes : (s : Spec) (c : Trace) (t : ℕ) (x : Row) (pods : PodsState) → IsMade s c → IsProper s c x → ArePodsOf pods c → ArePodsOf (after_row x pods) (c ++ entry t x ∷ []))
    (follows : (s : Spec) (a : Admission) (c es : Trace) → IsRecordOf a c → Holds (IsProper s) c es → IsRecordOf (stepped_by es a) (c ++ es))
    (s : Spec) (c : Trace) (t : ℕ) (ruled : Ruled) (heard rows : List Entry) (d : Decides s c t ruled heard rows) (old mid : PartsState) where
  -- the parts once the autoscaler has decided
  pub decides_mid : Holds (IsProper s) c rows → mid.throttle ≡ old.throttle → mid.pods ≡ old.pods → IsScalerOf s mid.scaler (c ++ heard) → ArePartsOf s old c → ArePartsOf s mid (c ++ ruling_rows t c d.made)
  decides_mid proper threw kept scaler h =
      parts_ruled makes goes follows s c (ruling_rows t c d.made) old mid (ruling_kind t c d.made)
      (holds_front (IsProper s) c (ruling_rows t c d.made) (where_true ruled.decision.applied (scale_rows s t c ruled.decision.want)) (subst (Holds (IsProper s) c) d.rows proper)) threw kept (subst (λ (es : List Entry). IsScalerOf s mid.scaler (c ++ es)) d.ruling scaler) h

  -- at most 500 pods are wanted
  pub decides_want : AreInRange s → Holds (IsProper s) c rows → ruled.decision.want ≤ 500
  decides_want ranges proper = rw (ap (λ (r : Ruled). r.decision.want) d.same) ((subst (Holds (IsProper s) c) d.rows proper).0 ranges)

  scaled_same : ArePartsOf s old c → ArePartsOf s mid (c ++ ruling_rows t c d.made) → mid.pods ≡ old.pods
      → where_true ruled.decision.applied (scale_rows s t (c ++ ruling_rows t c d.made) ruled.decision.want) ≡ where_true ruled.decision.applied (scale_rows s t c ruled.decision.want)
  scaled_same h k kept = ap (where_true ruled.decision.applied) (sym (scale_same s t ruled.decision.want old.pods c (c ++ ruling_rows t c d.made) h.pods (subst (λ (p : PodsState). ArePodsOf p (c ++ ruling_rows t c d.made)) kept k.pods)))

  pub decides_logged : (was log : List Entry) → ArePartsOf s old c → ArePartsOf s mid (c ++ ruling_rows t c d.made) → mid.pods ≡ old.pods
      → log ≡ (was ++ said_rows t ruled) ++ where_true ruled.decision.applied (scale_rows s t (c ++ ruling_rows t c d.made) ruled.decision.want) → log ≡ was ++ rows
  decides_logged was log h k kept e =
      e ∙ append_assoc was (said_rows t ruled) (where_true ruled.decision.applied (scale_rows s t (c ++ ruling_rows t c d.made) ruled.decision.want))
      ∙ ap (λ (es : List Entry). was ++ (es ++ where_true ruled.decision.applied (scale_rows s t (c ++ ruling_rows t c d.made) ruled.decision.want))) (said_ruling t c d.made ruled d.same)
      ∙ ap (λ (es : List Entry). was ++ (ruling_rows t c d.made ++ es)) (scaled_same h k kept)
      ∙ ap (λ (es : List Entry). was ++ es) (sym d.rows)

  pub decides_stands : (new : PartsState) → ArePartsOf s old c → ArePartsOf s mid (c ++ ruling_rows t c d.made) → mid.pods ≡ old.pods
      → ArePartsOf s new ((c ++ ruling_rows t c d.made) ++ where_true ruled.decision.applied (scale_rows s t (c ++ ruling_rows t c d.made) ruled.decision.want)) → ArePartsOf s new (c ++ rows)
  decides_stands new h k kept all =
      subst (ArePartsOf s new)
      (append_assoc c (ruling_rows t c d.made) (where_true ruled.decision.applied (scale_rows s t (c ++ ruling_rows t c d.made) ruled.decision.want))
      ∙ ap (λ (es : List Entry). c ++ (ruling_rows t c d.made ++ es)) (scaled_same h k kept)
      ∙ ap (λ (es : List Entry). c ++ es) (sym d.rows)) all

  pub decides_first : row_of (first_of rows) ≡ Some (row.Decided ruled.decision)
  decides_first = rw d.rows (ap (λ (r : Ruled). Some (row.Decided r.decision)) (sym d.same))

-- a decision is of its act alone
pub tick_any : (k : Kind) (s : Spec) (t : ℕ) (c : Trace) (own : Option Row) → scaler_rows k s t c act.Tick own ≡ scaler_rows k s t c act.Tick None
tick_any (kind.Fixed n) s t c own = refl
tick_any kind.Kpa s t c own = refl

pub wake_any : (k : Kind) (s : Spec) (t : ℕ) (c : Trace) (tag : ℕ) (own : Option Row) → scaler_rows k s t c (act.Arrive tag) own ≡ scaler_rows k s t c (act.Arrive 0) own
wake_any (kind.Fixed n) s t c tag own = refl
wake_any kind.Kpa s t c tag (Some (row.Admit r g)) = refl
wake_any kind.Kpa s t c tag _ = refl

pub admit_any : (k : Kind) (s : Spec) (t : ℕ) (c : Trace) (own : Option Row) → is_admitted own ≡ true → scaler_rows k s t c (act.Arrive 0) own ≡ scaler_rows k s t c (act.Arrive 0) (Some (row.Admit 0 0))
admit_any (kind.Fixed n) s t c own h = refl
admit_any kind.Kpa s t c (Some (row.Admit r g)) h = refl
admit_any kind.Kpa s t c _ h = absurd (cc)

pub refused_none : (k : Kind) (s : Spec) (t : ℕ) (c : Trace) (own : Option Row) → is_admitted own ≡ false → scaler_rows k s t c (act.Arrive 0) own ≡ []
refused_none (kind.Fixed n) s t c own h = refl
refused_none kind.Kpa s t c (Some (row.Admit r g)) h = absurd (cc)
refused_none kind.Kpa s t c _ h = refl

pub no_tick : (k : Kind) (s : Spec) (t : ℕ) (c : Trace) (a : Act) → (a ≡ act.Tick → ⊥) → scaler_rows k s t c a None ≡ []
no_tick (kind.Fixed n) s t c a other = refl
no_tick kind.Kpa s t c act.Tick other = absurd (other refl)
no_tick kind.Kpa s t c _ other = refl

-- an act with a row of its own adds what an arrival with that row does
own_rows : (k : Kind) (s : Spec) (t : ℕ) (c : Trace) (a : Act) (x : Row) → is_own_of a (Some x) ≡ true → scaler_rows k s t c a (Some x) ≡ scaler_rows k s t c (act.Arrive 0) (Some x)
own_rows (kind.Fixed n) s t c a x h = refl
own_rows kind.Kpa s t c act.Tick x h = absurd (cc)
own_rows kind.Kpa s t c (act.Arrive tag) x h = wake_any kind.Kpa s t c tag (Some x)
own_rows kind.Kpa s t c _ (row.Admit r tag) h = absurd (cc)
own_rows kind.Kpa s t c _ _ h = refl

pub own_adds : (k : Kind) (s : Spec) (t : ℕ) (c : Trace) (a : Act) (own : Option Row) (x : Row) → own ≡ Some x → is_own_of a own ≡ true → scaler_rows k s t c a own ≡ scaler_rows k s t c (act.Arrive 0) own
own_adds k s t c a own x is fits =
    ap (λ o. scaler_rows k s t c a o) is ∙ own_rows k s t c a x (subst (λ o. is_own_of a o ≡ true) is fits) ∙ ap (λ o. scaler_rows k s t c (act.Arrive 0) o) (sym is)

-- the row of an act is so
pub own_says : (a : Act) (own : Option Row) → IsActRow a own → says_act own ≡ true
own_says a None h = refl
own_says a (Some x) h = h.0

pub own_fits : (a : Act) (own : Option Row) → IsActRow a own → is_own_of a own ≡ true
own_fits act.Tick None h = refl
own_fits _ None h = refl
own_fits a (Some (row.Admit r tag)) h = rw h.1 refl
own_fits a (Some (row.QueueFull r pod)) h = rw h.1.1 refl
own_fits a (Some (row.Overload r)) h = rw h.1.1 refl
own_fits a (Some (row.Direct r p)) h = rw h.1.1 refl
own_fits a (Some (row.Finish r ok)) h = rw h.1 refl
own_fits a (Some (row.NotRunning r)) h = rw h.1.1 refl
own_fits a (Some (row.Cancel r)) h = rw h.1 refl
own_fits a (Some (row.NotWaiting r)) h = rw h.1 refl
own_fits a (Some (row.Ready p)) h = rw h.1 refl
own_fits a (Some (row.NotStarting p)) h = rw h.1 refl
own_fits a (Some (row.Limit p n)) h = rw h.1 refl
own_fits a (Some (row.LostPod p)) h = rw h.1 refl
own_fits a (Some (row.NoPod p)) h = elim h.1 [ inl e ↦ rw e refl | inr f ↦ elim f [ inl g ↦ rw g.1 refl | inr g ↦ rw g refl ] ]
own_fits a (Some x) h = absurd (let g = h.0 in cc)

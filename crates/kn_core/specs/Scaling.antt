-- The rows that come to an autoscaler, and what it decides, where the revision has one.
use Rattle.std.specs.Prelude.{◌≡◌, ◌==◌, ℕ, Bool, true, false, List, [], ◌∷◌, ◌++◌, option_map, IsSome, Option, None, Some, ⊤}
use Rattle.kn_event.specs.declared.entry.Entry.{Entry}
use Rattle.kn_event.specs.declared.entry.Phase.TheVariants as phase
use Rattle.kn_event.specs.declared.entry.Row.{Row}
use Rattle.kn_event.specs.declared.entry.Row.TheVariants as row
use Rattle.kn_event.specs.declared.event.Act.TheVariants as act
use Rattle.kn_event.specs.declared.event.Stand.{Stand}
use Rattle.kn_event.specs.declared.revision.Kind.TheVariants as kind
use Rattle.kn_event.specs.declared.revision.Spec.{Spec}
use Rattle.kn_trace.specs.Events.{scaler_rows}
use Rattle.kn_trace.specs.Load.{has_ready_pod}
use Rattle.kn_trace.specs.Scale.{count_ready, decision_at, is_in_phase, phase_of, wake_decision_at, wake_rows, wanted, where_true}
use Rattle.kn_trace.specs.Trace.{Trace, entry, proxied, stand_of}
use Rattle.kn_record.specs.Made.{Holds, IsMade, IsProper}
use Rattle.kn_laws.specs.Kinds.{Each, EachAt, is_act_row}
use Rattle.kn_places.specs.Ends.{IsToldOf}
use Rattle.kn_pods.specs.Pods.{ArePodsOf}
use Rattle.kn_scaler.specs.Rows.{ready_rows, ruled_by, ruling_rows, says_scale, settles, tick_rulings}
use Rattle.kn_scaler.specs.Stands.{ScalerState, IsScalerOfTrace}
use Rattle.kn_scaler.specs.declared.scaler.Ruled.{Ruled}
use Rattle.kn_core.specs.Changes.{woken}
use Rattle.kn_core.specs.State.{ArePartsOf, IsMeasuredAt, IsScalerOf, PartsState}

-- where a request stands that ends with the row, as an autoscaler is told
abbrev pub IsHeardOf : Option ScalerState → Trace → Row → Stand → Bool → Type 0
IsHeardOf None c x at through = ⊤
IsHeardOf (Some y) c x at through = IsToldOf c x at through

-- a row that is proper after a trace that events made, and where a request stands that ends with it
pub record IsNextIn (o : Option ScalerState) (x : Row) (at : Stand) (through : Bool) (s : Spec) (c : Trace) : Type 0 where
  pub made : IsMade s c
  pub proper : IsProper s c x
  pub told : IsHeardOf o c x at through
  pub scaler : IsScalerOf s o c

abbrev pub IsNextInSome : Option ScalerState → Row → Stand → Bool → Type 0
IsNextInSome o x at through = ∥ ((s : Spec) × (c : Trace) × IsNextIn o x at through s c) ∥₁

-- rows of a settling that are proper one after the other after such a trace, at the time of what is measured
pub record AreNextIn (o : Option ScalerState) (es : List Entry) (s : Spec) (c : Trace) : Type 0 where
  pub made : IsMade s c
  pub proper : Holds (IsProper s) c es
  pub time : ℕ
  pub measured : IsMeasuredAt time o
  pub at : EachAt time es
  pub kind : Each settles es
  pub scaler : IsScalerOf s o c

abbrev pub AreNextInSome : Option ScalerState → List Entry → Type 0
AreNextInSome o es = ∥ ((s : Spec) × (c : Trace) × AreNextIn o es s c) ∥₁

-- ---- the autoscaler after a row, or rows

-- the seconds that are over count, where a pod is Ready or none is, as was said
abbrev pub KeepsScaler : Bool → Option ScalerState → Option ScalerState → Type 0
KeepsScaler ready old new = (s : Spec) (c : Trace) → IsMade s c → has_ready_pod c ≡ ready → IsScalerOf s old c → IsScalerOf s new c

-- it has taken a row but those of the scale
abbrev pub TakesRow : Row → Stand → Bool → Option ScalerState → Option ScalerState → Type 0
TakesRow x at through old new = (s : Spec) (c : Trace) (t : ℕ) → IsMeasuredAt t old → says_scale x ≡ false → IsNextIn old x at through s c → IsScalerOf s new (c ++ entry t x ∷ [])

-- it has taken the rows of a settling
abbrev pub TakesRows : List Entry → Option ScalerState → Option ScalerState → Type 0
TakesRows es old new = (s : Spec) (c : Trace) → AreNextIn old es s c → IsScalerOf s new (c ++ es)

-- the revision waits for its first Ready pod
abbrev pub is_waiting_for_pod : Trace → Bool
is_waiting_for_pod c = is_in_phase phase.Activating (phase_of c)

-- it has taken the rows of a pod that is Ready, with so many Ready pods
abbrev pub TakesReady : ℕ → ℕ → Option ScalerState → Option ScalerState → Type 0
TakesReady t ready old new = (s : Spec) (c : Trace) (p : ℕ) → count_ready (c ++ entry t (row.Ready p) ∷ []) ≡ ready → IsScalerOf s old c → IsScalerOf s new (c ++ ready_rows t c p)

-- ---- the autoscaler of the parts

-- it has heard of a row but those of the scale, that comes to the parts
abbrev pub HearsRow : Row → PartsState → Option ScalerState → Type 0
HearsRow x old new = (s : Spec) (c : Trace) (t : ℕ) → IsMeasuredAt t old.scaler → says_scale x ≡ false → ArePartsOf s old c → IsProper s c x → IsScalerOf s new (c ++ entry t x ∷ [])

-- it has heard of an act's own row, once the pods have: the log has the row with which a revision that waited is active
pub record HearsOwn (time : ℕ) (x : Row) (at : Stand) (through : Bool) (old new : PartsState) (before after : List Entry) : Type 0 where
  pub logged : (s : Spec) (c : Trace) → IsNextIn old.scaler x at through s c → after ≡ before ++ woken (Some x) time (c ++ entry time x ∷ [])
  pub scaler : (s : Spec) (c : Trace) → is_act_row x ≡ true → ArePodsOf old.pods (c ++ entry time x ∷ []) → IsNextIn old.scaler x at through s c
      → IsScalerOf s new.scaler ((c ++ entry time x ∷ []) ++ woken (Some x) time (c ++ entry time x ∷ []))

-- so it has of a pod that is Ready
pub record HearsReady (time : ℕ) (old new : PartsState) (before after : List Entry) : Type 0 where
  pub logged : (s : Spec) (c : Trace) → IsScalerOf s old.scaler c → after ≡ before ++ where_true (is_waiting_for_pod c) (entry time (row.Phase phase.Active) ∷ [])
  pub scaler : (s : Spec) (c : Trace) (p : ℕ) → ArePodsOf old.pods (c ++ entry time (row.Ready p) ∷ []) → IsScalerOf s old.scaler c → IsScalerOf s new.scaler (c ++ ready_rows time c p)

-- where the request stands that may end with a row, and whether the activator handed it to its pod, as an autoscaler is told
pub record SaysBeforeEnd (r : Option ℕ) (x : PartsState) (at : Stand) (through : Bool) : Type 0 where
  pub stand : (s : Spec) (c : Trace) (q : ℕ) → IsSome x.scaler → ArePartsOf s x c → r ≡ Some q → at ≡ stand_of c q
  pub proxied : (s : Spec) (c : Trace) (q : ℕ) → IsSome x.scaler → ArePartsOf s x c → r ≡ Some q → through ≡ proxied c q

-- ---- what the autoscaler decides, with so many Ready pods

-- at a tick; none is that there is no data
pub record RulesTick (time ready : ℕ) (old new : Option ScalerState) (answer : Option Ruled) : Type 0 where
  pub kind : (s : Spec) (c : Trace) → IsScalerOf s old c → s.kind ≡ kind.Kpa
  pub ruled : (s : Spec) (c : Trace) → count_ready c ≡ ready → IsScalerOf s old c → answer ≡ option_map (ruled_by c) (decision_at s c time)
  pub stands : (s : Spec) (c : Trace) → count_ready c ≡ ready → IsScalerOf s old c → IsScalerOf s new (c ++ tick_rulings time c (decision_at s c time))

-- where a request was admitted, and no pod is wanted
pub record RulesWake (time ready : ℕ) (old new : Option ScalerState) (answer : Ruled) : Type 0 where
  pub some : (s : Spec) (c : Trace) (tag r g : ℕ) → IsScalerOf s old c → scaler_rows s.kind s time c (act.Arrive tag) (Some (row.Admit r g)) ≡ wake_rows s time c
  pub ruled : (s : Spec) (c : Trace) → count_ready c ≡ ready → IsScalerOf s old c → answer ≡ ruled_by c (wake_decision_at s c time)
  pub stands : (s : Spec) (c : Trace) → count_ready c ≡ ready → IsScalerOf s old c → IsScalerOf s new (c ++ ruling_rows time c (wake_decision_at s c time))

-- where some pod is wanted, nothing is decided
abbrev pub WakesNone : ℕ → Option ScalerState → Type 0
WakesNone t o = (s : Spec) (c : Trace) (tag r g : ℕ) → IsScalerOf s o c → scaler_rows s.kind s t c (act.Arrive tag) (Some (row.Admit r g)) ≡ []

-- no pod is wanted, or some pod is
abbrev pub IsAtZero : Bool → ScalerState → Type 0
IsAtZero b y = (s : Spec) (c : Trace) → IsScalerOfTrace s y c → (wanted s c == 0) ≡ b

-- so an autoscaler itself decides where a request was admitted
pub record IsWokenBy (time ready : ℕ) (old new : ScalerState) (answer : Ruled) : Type 0 where
  pub some : IsAtZero true old
  pub ruled : (s : Spec) (c : Trace) → count_ready c ≡ ready → IsScalerOfTrace s old c → answer ≡ ruled_by c (wake_decision_at s c time)
  pub stands : (s : Spec) (c : Trace) → count_ready c ≡ ready → IsScalerOfTrace s old c → IsScalerOfTrace s new (c ++ ruling_rows time c (wake_decision_at s c time))

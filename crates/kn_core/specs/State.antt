-- What contracts see of a revision, and which traces it stands for.
use Rattle.std.specs.Prelude.{◌≡◌, ℕ, ◌+◌, ◌*◌, ◌<◌, ◌≤◌, ◌^◌, Option, None, Some, ⊤}
use Rattle.kn_event.specs.Revision.{AreInRange}
use Rattle.kn_event.specs.declared.entry.Mode.TheVariants as mode
use Rattle.kn_event.specs.declared.event.Stand.{Stand}
use Rattle.kn_event.specs.declared.event.Stand.TheVariants as stand
use Rattle.kn_event.specs.declared.revision.Kind.{Kind}
use Rattle.kn_event.specs.declared.revision.Kind.TheVariants as kind
use Rattle.kn_event.specs.declared.revision.Spec.{Spec}
use Rattle.kn_trace.specs.Scale.{mode_of, phase_of}
use Rattle.kn_trace.specs.Trace.{Trace}
use Rattle.kn_record.specs.Made.{IsMade, IsRecordOf}
use Rattle.kn_record.specs.Order.{AreTimed}
use Rattle.kn_laws.specs.History.{IsMadeBy}
use Rattle.kn_pods.specs.Pods.{PodsState, ArePodsOf}
use Rattle.kn_throttle.specs.State as throttle
use Rattle.kn_scaler.specs.Stands.{ScalerState, IsScalerOfTrace}

pub record PartsState : Type 0 where
  pub throttle : throttle.State
  pub pods : PodsState
  pub scaler : Option ScalerState

pub record RevisionState : Type 0 where
  pub spec : Spec
  pub start : ℕ
  pub clock : ℕ
  pub events : ℕ
  pub parts : PartsState

abbrev pub IsFixed : Kind → Type 0
IsFixed (kind.Fixed n) = ⊤
IsFixed kind.Kpa = ⊥

-- a revision that doesn't scale has no phase, and its requests go through the activator
pub record IsUnscaled (s : Spec) (c : Trace) : Type 0 where
  pub fixed : IsFixed s.kind
  pub phase : phase_of c ≡ None
  pub mode : mode_of c ≡ mode.Proxy

pub record IsScaled (s : Spec) (y : ScalerState) (c : Trace) : Type 0 where
  pub kind : s.kind ≡ kind.Kpa
  pub stands : IsScalerOfTrace s y c

-- the autoscaler of the trace, where its revision scales
abbrev pub IsScalerOf : Spec → Option ScalerState → Trace → Type 0
IsScalerOf s None c = IsUnscaled s c
IsScalerOf s (Some y) c = IsScaled s y c

-- so it is of some trace
abbrev pub IsScalerOfSome : Option ScalerState → Type 0
IsScalerOfSome o = ∥ ((s : Spec) × (c : Trace) × IsMade s c × IsScalerOf s o c) ∥₁

-- what it measures is up to this time
abbrev pub IsMeasuredAt : ℕ → Option ScalerState → Type 0
IsMeasuredAt t None = ⊤
IsMeasuredAt t (Some y) = y.stats.time ≡ t

abbrev pub IsMeasuredBy : ℕ → Option ScalerState → Type 0
IsMeasuredBy t None = ⊤
IsMeasuredBy t (Some y) = y.stats.time ≤ t

-- each part stands for the trace, whose rows were proper when they came
pub record ArePartsOf (s : Spec) (x : PartsState) (c : Trace) : Type 0 where
  pub spec : x.throttle.spec ≡ s
  pub made : IsMade s c
  pub admission : IsRecordOf x.throttle.admission c
  pub pods : ArePodsOf x.pods c
  pub scaler : IsScalerOf s x.scaler c

-- some events made the trace, from the start up to the clock, and the parts stand for it
pub record StandsFor (x : RevisionState) (c : Trace) : Type 0 where
  pub events : IsMadeBy x.spec x.start x.clock x.events c
  pub parts : ArePartsOf x.spec x.parts c

-- it stands for some trace
abbrev pub StandsForSome : RevisionState → Type 0
StandsForSome x = ∥ ((c : Trace) × StandsFor x c) ∥₁

-- the parts stand for some trace
abbrev pub ArePartsOfSome : PartsState → Type 0
ArePartsOfSome x = ∥ ((c : Trace) × ArePartsOf x.throttle.spec x c) ∥₁

-- of so many live requests, one waits or runs
abbrev pub IsAmongLive : Stand → ℕ → Type 0
IsAmongLive stand.Unknown live = ⊤
IsAmongLive stand.Ended live = ⊤
IsAmongLive _ live = 0 < live

-- what is kept of a revision
pub record IsKept (x : RevisionState) : Type 0 where
  pub clock : x.clock ≤ 2 ^ 42
  pub spec : x.parts.throttle.spec ≡ x.spec
  pub timed : AreTimed x.clock x.parts.throttle.admission
  pub measured : IsMeasuredBy x.clock x.parts.scaler
  pub ranges : AreInRange x.spec
  -- an event creates 500 pods at most
  pub events : x.events ≤ 2 ^ 54
  pub created : x.parts.pods.created ≤ 500 * (x.events + 1)
  pub some : StandsForSome x

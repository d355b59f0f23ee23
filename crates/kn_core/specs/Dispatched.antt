-- The first row of a settling.
use Rattle.std.specs.Prelude.{◌≡◌, ℕ, ◌++◌, Option}
use Rattle.kn_event.specs.declared.revision.Spec.{Spec}
use Rattle.kn_trace.specs.Settling.{settling}
use Rattle.kn_trace.specs.Trace.{Trace}
use Rattle.kn_record.specs.Made.{Holds, IsProper}
use Rattle.kn_throttle.specs.declared.throttle.dispatching.Dispatch.{Dispatch}
use Rattle.kn_core.specs.Firsts.{dispatched}
use Rattle.kn_core.specs.State.{ArePartsOf, PartsState}

-- for each trace that the parts stand for: the settling begins with that row, if it is one, and the parts stand for the trace with it
pub record AddsFirst (t : ℕ) (d : Option Dispatch) (old new : PartsState) : Type 0 where
  pub begins : (s : Spec) (c : Trace) → ArePartsOf s old c → settling s t c ≡ dispatched t d ++ settling s t (c ++ dispatched t d)
  pub stands : (s : Spec) (c : Trace) → ArePartsOf s old c → Holds (IsProper s) c (settling s t c) → ArePartsOf s new (c ++ dispatched t d)

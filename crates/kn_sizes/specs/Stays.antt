-- What stays so, whatever happens.
use Rattle.std.specs.Prelude.{List, ◌++◌}
use Rattle.kn_event.specs.declared.event.Event.{Event}
use Rattle.kn_event.specs.declared.revision.Spec.{Spec}
use Rattle.kn_trace.specs.Trace.{Trace}
use Rattle.kn_trace.specs.Events.{added, react}

-- P holds of the trace after one event more, and after any further events
pub record HoldsOnwards (s : Spec) (c : Trace) (P : Trace → Type 0) : Type 0 where
  pub once : (e : Event) → P (c ++ react s c e)
  pub ever : (es : List Event) → P (c ++ added s c es)

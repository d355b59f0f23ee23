-- A run so far, and what one more event makes of it.
use Rattle.std.specs.Prelude.{◌≡◌, ℕ, ◌+◌, ◌≤◌, ◌^◌, List, [], ◌∷◌, ◌++◌, map, unwrap_or}
use Rattle.kn_event.specs.declared.entry.Entry.{Entry}
use Rattle.kn_event.specs.declared.event.Event.{Event}
use Rattle.kn_event.specs.declared.revision.Spec.{Spec}
use Rattle.kn_trace.specs.Events.{opening, react, trace_of}
use Rattle.kn_trace.specs.Trace.{Trace, last_of}
use Rattle.kn_record.specs.Made.{IsMade}
use Rattle.kn_core.specs.State.{RevisionState, StandsFor}

-- its specification, its start, and the events that came
pub record Run : Type 0 where
  pub spec : Spec
  pub start : ℕ
  pub events : List Event

-- before the first event
abbrev pub begun : Spec → ℕ → Run
begun s start = record { spec = s; start = start; events = [] }

-- with one more event
abbrev pub later : Run → Event → Run
later r e = record { spec = r.spec; start = r.start; events = r.events ++ e ∷ [] }

-- all entries so far
abbrev pub trace : Run → Trace
trace r = trace_of r.spec r.start r.events

-- the time of the last event, or the start
abbrev pub now_of : Run → ℕ
now_of r = unwrap_or (last_of (map (λ (e : Event). e.time) r.events)) r.start

-- a revision after the opening, whose entries these are
pub record IsOpened (r : Run) (x : RevisionState) (log : List Entry) : Type 0 where
  pub none : r.events ≡ []
  pub stands : StandsFor x (trace r)
  pub spec : x.spec ≡ r.spec
  pub clock : x.clock ≡ r.start
  pub rows : log ≡ opening r.spec r.start
  pub trace_is : trace r ≡ log
  pub made : IsMade r.spec (trace r)
  pub times : r.start ≤ 2 ^ 42

-- a revision after one more event, whose entries these are
pub record IsStep (r : Run) (e : Event) (x : RevisionState) (log : List Entry) : Type 0 where
  pub stands : StandsFor x (trace (later r e))
  pub spec : x.spec ≡ r.spec
  pub clock : x.clock ≡ e.time
  pub rows : log ≡ react r.spec (trace r) e
  pub trace_is : trace (later r e) ≡ trace r ++ log
  pub made : IsMade r.spec (trace r)
  pub order : now_of r ≤ e.time
  pub times : e.time ≤ 2 ^ 42

-- a revision that stands for this run
pub record IsRunOf (r : Run) (x : RevisionState) : Type 0 where
  pub stands : StandsFor x (trace r)
  pub spec : x.spec ≡ r.spec
  pub now : now_of r ≡ x.clock

-- a revision took one more event, behind whatever run it stood for
pub record Takes (old : RevisionState) (e : Event) (new : RevisionState) : Type 0 where
  pub steps : (r : Run) → IsRunOf r old → IsStep r e new (react r.spec (trace r) e)
  pub spec : new.spec ≡ old.spec
  pub clock : new.clock ≡ e.time
  pub events : new.events ≡ old.events + 1

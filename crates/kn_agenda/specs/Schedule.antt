-- What contracts see of a schedule, and which events it has made.
use Rattle.std.specs.Prelude.{◌≡◌, ℕ, ◌≤◌, List, length}
use Rattle.kn_event.specs.declared.event.Event.{Event}
use Rattle.kn_trace.specs.Trace.{arrivals}
use Rattle.kn_core.specs.State.{RevisionState, StandsFor}
use Rattle.kn_agenda.specs.declared.item.Item.{Item}
use Rattle.kn_agenda.specs.Workload.{IsWorkload, Workload}
use Rattle.kn_agenda.specs.Agenda.{AgendaState}
use Rattle.kn_agenda.specs.Due.{IsNext, ticks_of}
use Rattle.kn_agenda.specs.Keeps.{Keeps}
use Rattle.kn_agenda.specs.Runs.{NobodyWaitsBelow, Runs, so_far}

pub record ScheduleState : Type 0 where
  pub workload : Workload
  pub revision : RevisionState
  pub agenda : AgendaState
  pub waits : ℕ
  pub ticks : ℕ

-- it made these events of its workload, each of which came next
pub record Made (es : List Event) (x : ScheduleState) : Type 0 where
  pub runs : Runs x.workload es x.revision.clock
  pub revision : StandsFor x.revision (so_far x.workload es)
  pub spec : x.revision.spec ≡ x.workload.spec
  pub keeps : Keeps x.workload.jobs (so_far x.workload es) x.agenda.finishes x.agenda.starting
  pub room : length x.workload.jobs ≤ x.agenda.room
  pub low : x.waits ≤ arrivals (so_far x.workload es)
  pub waits : NobodyWaitsBelow (so_far x.workload es) x.waits
  pub ticks : x.ticks ≡ ticks_of es
  pub events : x.revision.events ≡ length es

-- so it is of some events
abbrev pub MadeSome : ScheduleState → Type 0
MadeSome x = ∥ ((es : List Event) × Made es x) ∥₁

-- what is kept of a schedule
pub record IsKept (x : ScheduleState) : Type 0 where
  pub good : IsWorkload x.workload
  pub some : MadeSome x

-- behind some events that it made this item comes next
abbrev pub ComesToSome : ScheduleState → Item → Type 0
ComesToSome x item = ∥ ((es : List Event) × Made es x × IsNext x.workload (so_far x.workload es) (ticks_of es) item) ∥₁

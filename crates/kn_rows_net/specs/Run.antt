-- A run: a specification, a start and events; what is printed of it, what its events are told, and where its requests stand.
use Rattle.std.specs.Prelude.{◌≡◌, ℕ, List, map, length}
use Rattle.std.specs.List.{range_with_len}
use Rattle.kn_event.specs.declared.event.Event.{Event}
use Rattle.kn_event.specs.declared.event.Told.{Told}
use Rattle.kn_event.specs.declared.event.Told.TheVariants as told
use Rattle.kn_event.specs.declared.event.Stand.{Stand}
use Rattle.kn_event.specs.declared.revision.Spec.{Spec}
use Rattle.kn_scaling.specs.Decide.{no_load}
use Rattle.kn_scaling.specs.Worked.{decided_at}
use Rattle.kn_trace.specs.Trace.{stand_of}
use Rattle.kn_trace.specs.Report.{last_line, totals}
use Rattle.kn_trace.specs.Events.{opening, tolds, trace_of}
use Rattle.kn_trace.specs.Worked.{Reports}

pub record Run : Type 0 where
  pub spec : Spec
  pub start : ℕ
  pub events : List Event

-- the lines of the report, without the last one
abbrev pub Prints : Run → List (List ℕ) → Type 0
Prints run lines = Reports run.spec run.start run.events lines

-- the last line of the report, of a journal of this version
abbrev pub Ends : Run → ℕ → List ℕ → Type 0
Ends run version line = last_line version (length run.events) (totals (trace_of run.spec run.start run.events)) ≡ line

-- a decision whose numbers are left out: they stand in its line of the report
abbrev pub decided : Told
decided = told.Decided (decided_at 0 0 no_load no_load 0).decision

abbrev pub without_numbers : Told → Told
without_numbers (told.Decided d) = decided
without_numbers answer = answer

-- what each event is told
abbrev pub Tells : Run → List Told → Type 0
Tells run answers = map without_numbers (tolds run.spec (opening run.spec run.start) run.events) ≡ answers

-- where the requests stand after the last event, from number 0 on; the last one hasn't arrived
abbrev pub Leaves : Run → List Stand → Type 0
Leaves run stands = map (stand_of (trace_of run.spec run.start run.events)) (range_with_len 0 (length stands)) ≡ stands

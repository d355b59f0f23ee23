-- What a pass has seen of a request.
use Rattle.std.specs.Prelude.{◌≡◌, ◌≢◌, ℕ, Bool, true, Option}
use Rattle.kn_event.specs.declared.event.Act.TheVariants as act
use Rattle.kn_event.specs.declared.event.Stand.{Stand}
use Rattle.kn_event.specs.declared.event.Stand.TheVariants as stand
use Rattle.kn_trace.specs.Outcome.{Outcome, outcome_of}
use Rattle.kn_trace.specs.Trace.{Trace, stand_of}
use Rattle.kn_sizes.specs.Course.{runs_by}
use Rattle.kn_core.specs.State.{StandsFor}
use Rattle.kn_cell.specs.declared.course.Course.{Course}
use Rattle.kn_cell.specs.declared.course.Course.TheVariants as course
use Rattle.kn_cell.specs.declared.course.Run.{Run}
use Rattle.kn_cell.specs.Course.{IsCourseOf}
use Rattle.kn_cell.specs.Lists.{Each}
use Rattle.kn_cell.specs.History.{rows_by, trace_after}
use Rattle.kn_cell.specs.Shown.{PassView}
use Rattle.kn_request.specs.Laws.{is_left}

-- the trace after all that the pass has seen, of a trace that the opening stands for
abbrev pub sight : PassView → Trace → Trace
sight p c = trace_after p.opening.spec c p.seen

-- where the request stands
abbrev pub StandsAt : PassView → ℕ → Stand → Type 0
StandsAt p r s = (c : Trace) → StandsFor p.opening c → stand_of (sight p c) r ≡ s

-- how the request goes on
abbrev pub HasCourse : PassView → ℕ → Course → Type 0
HasCourse p r x = (c : Trace) → StandsFor p.opening c → IsCourseOf p.book (sight p c) r x

-- where the request runs, and by which way it came there
abbrev pub RunsAt : PassView → ℕ → Run → Type 0
RunsAt p r x = HasCourse p r (course.Runs x)

abbrev pub IsRunning : PassView → ℕ → Type 0
IsRunning p r = (c : Trace) → StandsFor p.opening c → runs_by (stand_of (sight p c) r) ≡ true

abbrev pub IsKnown : PassView → ℕ → Type 0
IsKnown p r = (c : Trace) → StandsFor p.opening c → stand_of (sight p c) r ≢ stand.Unknown

-- how the request ended
abbrev pub EndsBy : PassView → ℕ → (Option Outcome → Type 0) → Type 0
EndsBy p r P = (c : Trace) → StandsFor p.opening c → P (outcome_of (sight p c) r)

-- it waits, runs, or lapsed: nobody finished it, and it was not lost
abbrev pub IsLeft : PassView → ℕ → Type 0
IsLeft p r = (c : Trace) → StandsFor p.opening c → is_left (stand_of (sight p c) r) (outcome_of (sight p c) r) ≡ true

-- no other pass finished or cancelled the request
abbrev pub IsAlone : PassView → ℕ → Type 0
IsAlone p r = Each (λ x. x.pass ≢ p.number → ((ok : Bool) → x.event.act ≢ act.Finish r ok) × (x.event.act ≢ act.Cancel r)) p.seen

-- `mine` is what the log has of the pass
abbrev pub IsOwn : PassView → Type 0
IsOwn p = p.mine ≡ rows_by p.number p.seen

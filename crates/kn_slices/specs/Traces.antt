-- What contracts see of a group, and its rules in the words of its activators' traces.
use Rattle.std.specs.Prelude.{◌≡◌, ℕ, ◌+◌, ◌<◌, ◌≤◌, List, [], ◌++◌, map, length, Option, None, slice_index_or, slice_set}
use Rattle.kn_event.specs.declared.entry.Entry.{Entry}
use Rattle.kn_event.specs.declared.event.Act.TheVariants as act
use Rattle.kn_event.specs.declared.event.Event.{Event}
use Rattle.kn_event.specs.declared.revision.Spec.{Spec}
use Rattle.kn_trace.specs.Events.{react}
use Rattle.kn_trace.specs.Laws.{IsInert, IsLawful, IsSettled}
use Rattle.kn_trace.specs.Trace.{Trace, limit_of}
use Rattle.kn_trace.specs.Trace as trace
use Rattle.kn_core.specs.State.{RevisionState, StandsFor}
use Rattle.kn_slices.specs.Activators.{AreSliced, limit_at, running_at}
use Rattle.kn_slices.specs.declared.change.Change.{Change}
use Rattle.kn_slices.specs.Slices.{due_change, forces_from, hold, runs, unset}

-- the limit at the opening, and the start; the activators, and of each pod the limit that is wanted and the one that is in force
pub record GroupState : Type 0 where
  pub limit : ℕ
  pub start : ℕ
  pub parts : List RevisionState
  pub wanted : List ℕ
  pub force : List ℕ

abbrev pub specs_of : List RevisionState → List Spec
specs_of parts = map (λ x. x.spec) parts

-- the time of each activator's last event, and how many it took
abbrev pub clocks_of : List RevisionState → List ℕ
clocks_of parts = map (λ x. x.clock) parts

abbrev pub counts_of : List RevisionState → List ℕ
counts_of parts = map (λ x. x.events) parts

-- the due change
abbrev pub due_of : GroupState → Option Change
due_of g = due_change limit_at running_at (length g.parts) g.parts g.wanted

-- the event that makes it
abbrev pub made_at : ℕ → Change → Event
made_at time x = record { time = time; act = act.Limit x.pod x.limit }

-- activator i; any other where there is none
abbrev pub part_at : GroupState → ℕ → RevisionState → RevisionState
part_at g i d = slice_index_or g.parts i d

-- what each activator is, and where it started, is as before
pub record IsSameGroup (old new : GroupState) : Type 0 where
  pub limit : new.limit ≡ old.limit
  pub start : new.start ≡ old.start
  pub specs : specs_of new.parts ≡ specs_of old.parts

-- ---- traces

abbrev pub trace_at : List Trace → ℕ → Trace
trace_at cs i = slice_index_or cs i []

-- each activator stands for its trace
pub record AreTraces (parts : List RevisionState) (cs : List Trace) : Type 0 where
  pub same : length cs ≡ length parts
  pub each : (i : ℕ) (d : RevisionState) → i < length parts → StandsFor (slice_index_or parts i d) (trace_at cs i)

abbrev pub limit_by : ℕ → Trace → ℕ
limit_by p c = limit_of c p

abbrev pub running_by : ℕ → Trace → ℕ
running_by p c = length (trace.running_at c p)

-- the due change, and the limits in force after a call
abbrev pub due_among : List Trace → List ℕ → Option Change
due_among cs wanted = due_change limit_by running_by (length cs) cs wanted

abbrev pub forces_by : List Trace → List ℕ → List ℕ → List ℕ
forces_by cs wanted force = forces_from limit_by running_by cs 0 wanted force

-- what an event of activator i adds, and the traces with it
abbrev pub rows_of : GroupState → List Trace → ℕ → RevisionState → Event → List Entry
rows_of g cs i d e = react (part_at g i d).spec (trace_at cs i) e

abbrev pub traces_after : GroupState → List Trace → ℕ → RevisionState → Event → List Trace
traces_after g cs i d e = slice_set cs i (trace_at cs i ++ rows_of g cs i d e)

-- of one pod: no more run than the limit in force, and that is what is wanted where no more is held
pub record IsSafe (running held wanted force : ℕ) : Type 0 where
  pub within : running ≤ force
  pub same : held ≤ wanted → force ≡ wanted

-- so it is of each pod, by all activators' traces
abbrev pub AreSafe : GroupState → Type 0
AreSafe g = (cs : List Trace) (p : ℕ) → AreTraces g.parts cs → p < length g.wanted
    → IsSafe (runs (running_by p) cs) (hold (limit_by p) (running_by p) cs) (slice_index_or g.wanted p 0) (slice_index_or g.force p 0)

-- each activator's trace is lawful and settled, and an event that is refused then adds nothing else
abbrev pub AreLawful : GroupState → Type 0
AreLawful g = (cs : List Trace) (i : ℕ) (d : RevisionState) → AreTraces g.parts cs → i < length g.parts
    → IsLawful (part_at g i d).spec (trace_at cs i) × IsSettled (part_at g i d).spec (trace_at cs i) × ((e : Event) → IsInert (part_at g i d).spec (trace_at cs i) e)

-- no limit is still to change: each activator's limit is its slice, the wanted limits are in force, and no change is due
pub record IsCalm (g : GroupState) : Type 0 where
  pub slices : AreSliced g.parts g.wanted
  pub force : g.force ≡ g.wanted
  pub none : (cs : List Trace) → AreTraces g.parts cs → due_among cs g.wanted ≡ None

-- ---- how many changes are left

-- at how many pods an activator's limit isn't its slice
abbrev pub unset_of : GroupState → ℕ → RevisionState → ℕ
unset_of g i d = unset limit_at (length g.parts) i g.wanted (part_at g i d)

-- those pods, and the events that it took
abbrev pub load_of : GroupState → ℕ → RevisionState → ℕ
load_of g i d = (part_at g i d).events + unset_of g i d

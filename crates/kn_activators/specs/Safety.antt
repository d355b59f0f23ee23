-- What holds after each line of several activators: of each pod no more run, over all of them, than the limit then in force.
use Rattle.std.specs.Prelude.{ℕ, ◌<◌, List, [], ◌∷◌, take, Option, None, Some, Result, Ok, Err, slice_index_or, ⊤}
use Rattle.kn_event.specs.declared.event.Event.{Event}
use Rattle.kn_trace.specs.Laws.{IsInert, IsLawful, IsSettled}
use Rattle.kn_journal.specs.Causes.{Cause}
use Rattle.kn_slices.specs.Slices.{hold, runs}
use Rattle.kn_slices.specs.Traces.{IsSafe, limit_by, running_by, trace_at}
use Rattle.kn_activators.specs.declared.event.GroupEvent.{GroupEvent}
use Rattle.kn_activators.specs.declared.setup.GroupSetup.{GroupSetup}
use Rattle.kn_activators.specs.Reading.{IsGroupEvent}
use Rattle.kn_activators.specs.Sharing.{Sharing, by_lines, opened, spec_of}
use Rattle.kn_activators.specs.Verdict.{Input, input_of}

-- of each pod no more requests run there, over all activators, than the limit in force, and that is the wanted limit where no more
-- is held
abbrev pub IsSafeSharing : GroupSetup → Sharing → Type 0
IsSafeSharing s x = (p : ℕ) → p < s.pods
    → IsSafe (runs (running_by p) x.traces) (hold (limit_by p) (running_by p) x.traces) (slice_index_or x.wanted p 0) (slice_index_or x.force p 0)

-- each activator's trace is lawful and settled, and an event that is refused then adds nothing else
abbrev pub IsLawfulSharing : GroupSetup → Sharing → Type 0
IsLawfulSharing s x = (i : ℕ) → i < s.activators
    → IsLawful (spec_of s i) (trace_at x.traces i) × IsSettled (spec_of s i) (trace_at x.traces i) × ((e : Event) → IsInert (spec_of s i) (trace_at x.traces i) e)

-- the numbers of each are in range
abbrev pub AreGroupEvents : GroupSetup → List GroupEvent → Type 0
AreGroupEvents s [] = ⊤
AreGroupEvents s (e ∷ more) = IsGroupEvent s.activators s.pods e × AreGroupEvents s more

-- so it is after the opening and after each line
abbrev pub AfterEachLine : (GroupSetup → Sharing → Type 0) → GroupSetup → ℕ → List GroupEvent → Type 0
AfterEachLine P s start events = (n : ℕ) → P s (by_lines s (take n events) (opened s start)).now

-- ---- of what bytes say, where a setup and a start are read

abbrev pub OnInput : Result Input Cause → (Input → Type 0) → Type 0
OnInput (Ok t) P = P t
OnInput (Err cause) P = ⊤

abbrev pub OnInputOf : Option (List ℕ) → (Input → Type 0) → Type 0
OnInputOf None P = ⊤
OnInputOf (Some xs) P = OnInput (input_of xs) P

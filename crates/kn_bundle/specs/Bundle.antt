-- What the bytes of a bundle say: journals one after the other. Lines are counted through all of them.
use Rattle.std.specs.Prelude.{ℕ, zero, suc, ◌+◌, ◌++◌, true, List, [], ◌∷◌, length, Option, None, Some, Result, Ok, Err, ⊤}
use Rattle.kn_event.specs.declared.event.Event.{Event}
use Rattle.kn_journal.specs.declared.journal.Journal.{Journal}
use Rattle.kn_journal.specs.declared.journal.Setup.{Setup}
use Rattle.kn_journal.specs.Bundle.{first_of_part, next_of_part, opening_by}
use Rattle.kn_journal.specs.Causes.{Cause, no_end}
use Rattle.kn_journal.specs.Journal.{journal_of, start_part}
use Rattle.kn_journal.specs.Lines.{lines}
use Rattle.kn_journal.specs.Parts.{Part, part}

-- ---- the events of a journal, up to its `end`

-- with the number of that line and the lines behind it; or why the first refused line is refused
pub record Course : Type 0 where
  pub events : List Event
  pub ends : Result (Part ⊤) Cause

abbrev pub no_events : Result (Part ⊤) Cause → Course
no_events ends = record { events = []; ends = ends }

abbrev pub with_event : Event → Course → Course
with_event e more = record { events = e ∷ more.events; ends = more.ends }

abbrev pub course_on : Option Event → ℕ → List (List ℕ) → (Event → Course) → Course
course_on None n left next = no_events (Ok (part tt n left))
course_on (Some e) n left next = with_event e (next e)

abbrev pub then_course : Result (Part (Option Event)) Cause → (Event → ℕ → Course) → Course
then_course (Err cause) next = no_events (Err cause)
then_course (Ok p) next = course_on p.value p.number p.left (λ e. next e p.number)

-- after line n and this time
unfoldable pub course : ℕ → ℕ → ℕ → List (List ℕ) → Course
course version last n [] = then_course (next_of_part version last n []) (λ e number. no_events (Err no_end))
course version last n (line ∷ more) = then_course (next_of_part version last n (line ∷ more)) (λ e number. course version e.time number more)

-- ---- one journal, behind its first line

-- it is whole, with the number of its `end`, and the lines behind that. Or its first refused line, and the journal before that one, where
-- its start was read
pub data Stage : Type 0 where
  ended : Journal → ℕ → List (List ℕ) → Stage
  stopped : Option Journal → Cause → Stage

abbrev pub or_stopped : {T : Type 0} → Result (Part T) Cause → (T → ℕ → List (List ℕ) → Stage) → Stage
or_stopped (Ok p) next = next p.value p.number p.left
or_stopped (Err cause) next = stopped None cause

abbrev pub stage_on : Journal → Result (Part ⊤) Cause → Stage
stage_on j (Ok p) = ended j p.number p.left
stage_on j (Err cause) = stopped (Some j) cause

abbrev pub from_course : ℕ → Setup → ℕ → Course → Stage
from_course version setup start c = stage_on (journal_of version setup start c.events) c.ends

-- of this version, whose first line is line n: the setup, the start, the events and `end`
unfoldable pub journal_in : ℕ → ℕ → List (List ℕ) → Stage
journal_in version n ls =
    or_stopped (opening_by true version n ls) (λ opening n ls.
    or_stopped (start_part n ls) (λ start n ls. from_course opening.version opening.setup start (course opening.version start n ls)))

-- ---- all journals

-- the whole ones in order; the one whose `end` wasn't read, where its start was; and why the first refused line is refused, if one is
pub record Bundle : Type 0 where
  pub whole : List Journal
  pub opened : Option Journal
  pub refused : Option Cause

abbrev pub no_journal : Option Journal → Option Cause → Bundle
no_journal opened refused = record { whole = []; opened = opened; refused = refused }

abbrev pub with_journals : List Journal → Bundle → Bundle
with_journals js b = record { whole = js ++ b.whole; opened = b.opened; refused = b.refused }

abbrev pub bundle_on : Stage → (ℕ → List (List ℕ) → Bundle) → Bundle
bundle_on (ended j n left) next = with_journals (j ∷ []) (next n left)
bundle_on (stopped opened cause) next = no_journal opened (Some cause)

abbrev pub behind_first : Option ℕ → ℕ → List (List ℕ) → (ℕ → List (List ℕ) → Bundle) → Bundle
behind_first None n left next = no_journal None None
behind_first (Some version) n left next = bundle_on (journal_in version n left) next

abbrev pub from_first : Result (Part (Option ℕ)) Cause → (ℕ → List (List ℕ) → Bundle) → Bundle
from_first (Ok p) next = behind_first p.value p.number p.left next
from_first (Err cause) next = no_journal None (Some cause)

-- after line n: at most so many journals
unfoldable pub bundle_by : ℕ → ℕ → List (List ℕ) → Bundle
bundle_by zero n ls = no_journal None None
bundle_by (suc most) n ls = from_first (first_of_part n ls) (λ n left. bundle_by most n left)

-- of these lines; each journal has a line at least, so that all are read
unfoldable pub bundle_of_lines : List (List ℕ) → Bundle
bundle_of_lines ls = bundle_by (length ls + 1) 0 ls

-- of these bytes: journals one after the other, each with its first line, up to its `end`. A line behind `end` is a first line, and
-- behind the last `end` the input ends
unfoldable pub bundle : List ℕ → Bundle
bundle bytes = bundle_of_lines (lines bytes)

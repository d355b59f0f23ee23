-- What the bytes of an input say: several activators and their events, or what stands before the first refused line and its cause.
use Rattle.std.specs.Prelude.{ℕ, ◌++◌, ⊤, nat_le, List, [], ◌∷◌, length, Option, None, Some, Result, Ok, Err, codes, if◌then◌else◌}
use Rattle.std.specs.Str.{bytes_eq}
use Rattle.kn_event.specs.declared.fault.LineError.{LineError}
use Rattle.kn_preamble.specs.declared.error.SetupError.{SetupError}
use Rattle.kn_preamble.specs.declared.first.FirstLine.TheVariants.{Slices as SlicesLine}
use Rattle.kn_preamble.specs.declared.setting.FixedLine.{FixedLine}
use Rattle.kn_preamble.specs.SetupLine.{fixed_line}
use Rattle.kn_journal.specs.Causes.{Cause, bad_line, bad_setup, time_back, time_too_large}
use Rattle.kn_journal.specs.Journal.{first_part, start_part, time_most}
use Rattle.kn_journal.specs.Lines.{lines}
use Rattle.kn_journal.specs.Parts.{Part, part, then_part, with_line}
use Rattle.kn_journal.specs.declared.error.JournalError.{JournalError}
use Rattle.kn_activators.specs.declared.event.GroupEvent.{GroupEvent}
use Rattle.kn_activators.specs.declared.setup.GroupSetup.{GroupSetup}
use Rattle.kn_activators.specs.Reading.{group_event_of}
use Rattle.kn_activators.specs.Sharing.{end_line, run_text, time_of}
use Rattle.kn_journal.specs.Series.{Read, end_part, item_in, none_read, then_events}

-- ---- the setup

abbrev pub setup_with : ℕ → FixedLine → GroupSetup
setup_with many f = record { activators = many; limit = f.limit; pods = f.pods; timeout_s = f.timeout_s; slots = f.slots }

abbrev pub setup_in : ℕ → ℕ → List (List ℕ) → Result FixedLine SetupError → Result (Part GroupSetup) Cause
setup_in many n left (Ok f) = Ok (part (setup_with many f) n left)
setup_in many n left (Err why) = Err (bad_setup n why)

abbrev pub setup_line_in : ℕ → ℕ → List ℕ → List (List ℕ) → Result (Part GroupSetup) Cause
setup_line_in many number line left = setup_in many number left (fixed_line many line)

-- a `fixed` line whose limit has something for each of so many activators
unfoldable pub setup_part : ℕ → ℕ → List (List ℕ) → Result (Part GroupSetup) Cause
setup_part many n lines = with_line n lines (setup_line_in many)

-- `kact slices N`, and then a setup for N activators
unfoldable pub opening_part : ℕ → List (List ℕ) → Result (Part GroupSetup) Cause
opening_part n lines = then_part (first_part SlicesLine n lines) setup_part

-- ---- the events

-- an event is judged by its line first, then by the greatest time, then by the last time
abbrev pub in_time : ℕ → ℕ → Result GroupEvent LineError → Result GroupEvent Cause
in_time n last (Ok a) =
    if nat_le (time_of a) time_most then (if nat_le last (time_of a) then Ok a else Err (time_back n last (time_of a))) else Err (time_too_large n)
in_time n last (Err why) = Err (bad_line n why)

-- so the line of this number is judged
abbrev pub judged : GroupSetup → ℕ → ℕ → List ℕ → Result GroupEvent Cause
judged s last number line = in_time number last (group_event_of s.activators s.pods line)

abbrev pub next_in : GroupSetup → ℕ → ℕ → List ℕ → List (List ℕ) → Result (Part (Option GroupEvent)) Cause
next_in s last number line left =
    if bytes_eq line (codes "end") then end_part number left else item_in number left (judged s last number line)

-- the next event after line n and this time, or none where `end` ends the input
unfoldable pub next_part : GroupSetup → ℕ → ℕ → List (List ℕ) → Result (Part (Option GroupEvent)) Cause
next_part s last n lines = with_line n lines (next_in s last)

-- all events after line n and this time
unfoldable pub read_events : GroupSetup → ℕ → ℕ → List (List ℕ) → Read GroupEvent
read_events s last n [] = then_events (next_part s last n []) (λ a number. none_read None)
read_events s last n (line ∷ more) = then_events (next_part s last n (line ∷ more)) (λ a number. read_events s (time_of a) number more)

-- ---- the whole

-- the setup, the start and the events, and the cause of the first refused line, if there is one
pub record Input : Type 0 where
  pub setup : GroupSetup
  pub start : ℕ
  pub read : Read GroupEvent

-- line 1 is `kact slices N`; then come the setup, the start, the events and `end`, and then the end of the input
unfoldable pub input_of_lines : List (List ℕ) → Result Input Cause
input_of_lines all =
    then_part (opening_part 0 all) (λ setup n more.
    then_part (start_part n more) (λ start n more. Ok (record { setup = setup; start = start; read = read_events setup start n more })))

unfoldable pub input_of : List ℕ → Result Input Cause
input_of bytes = input_of_lines (lines bytes)

-- ---- what is written, and why it ends

-- the last line, where all lines are good
abbrev pub ending : ℕ → Option Cause → List ℕ
ending events None = end_line events
ending events (Some cause) = []

-- the rows of the opening and of the events before the first refused line; nothing where no start was read
abbrev pub text_of : Result Input Cause → List ℕ
text_of (Ok t) = run_text t.setup t.start t.read.events ++ ending (length t.read.events) t.read.refused
text_of (Err cause) = []

abbrev pub refusal_of : Result Input Cause → Option Cause
refusal_of (Ok t) = t.read.refused
refusal_of (Err cause) = Some cause

-- ---- calls that read

-- what is said of an event that was read
abbrev pub OnEvent : Result (Option GroupEvent) JournalError → (GroupEvent → Type 0) → Type 0
OnEvent (Ok (Some e)) P = P e
OnEvent _ P = ⊤

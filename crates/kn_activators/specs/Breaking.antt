-- What was written where the source failed amid an input of several activators.
use Rattle.std.specs.Prelude.{◌≡◌, ◌⊎◌, ℕ, ◌-◌, ◌++◌, Bool, false, List, [], length, Option, Some, Result, Ok, Err}
use Rattle.std.specs.Io.KnownBytes.{prepend_known}
use Rattle.kn_io.specs.declared.traits.Source.{Ghosts}
use Rattle.kn_io.specs.declared.traits.Faulty.{Ghosts as Counted}
use Rattle.kn_journal.specs.declared.error.JournalError.{JournalError}
use Rattle.kn_journal.specs.Causes.{Cause, IsGoodSoFar, no_end}
use Rattle.kn_journal.specs.Drawing.{Draws}
use Rattle.kn_journal.specs.Lines.{lines}
use Rattle.kn_journal.specs.Reading.{AreWhole, EndsWithLf, TakesPart, most_taken}
use Rattle.kn_journal.specs.Telling.{LinesState, StopsAmid, TakesEnd}
use Rattle.kn_activators.specs.declared.setup.GroupSetup.{GroupSetup}
use Rattle.kn_activators.specs.Sharing.{Sharing, by_lines, run_text}
use Rattle.kn_activators.specs.Verdict.{Input, input_of, opening_part, read_events, refusal_of}

-- some first bytes of a text, maybe none or all
abbrev pub IsFrontOf : List ℕ → List ℕ → Type 0
IsFrontOf text front = (rest : List ℕ) × (text ≡ front ++ rest)

-- the rows of the opening and of the events, without the last line; nothing where no start was read
abbrev pub rows_of : Result Input Cause → List ℕ
rows_of (Ok t) = run_text t.setup t.start t.read.events
rows_of (Err cause) = []

-- bytes that end with LF; or no start is among them, and no line begins in them and ends behind them
abbrev pub AreEnded : List ℕ → List ℕ → Type 0
AreEnded bytes mid = EndsWithLf bytes ⊎ (AreWhole bytes mid × (input_of bytes ≡ Err no_end))

-- of the bytes taken, the lines that had ended are all good, and what was written is their rows; no LF stands behind them
pub record Breaks (xs : List ℕ) (left : Option (List ℕ)) (front : List ℕ) : Type 0 where
  pub bytes : List ℕ
  pub mid : List ℕ
  pub split : xs ≡ bytes ++ mid
  pub ended : AreEnded bytes mid
  pub good : IsGoodSoFar (refusal_of (input_of bytes))
  pub rows : front ≡ rows_of (input_of bytes)
  pub rest : TakesPart (Some mid) left

-- so many bytes were given, and all of them taken but those beyond 2^56
abbrev pub BreaksBeyond : List ℕ → Option (List ℕ) → ℕ → List ℕ → Type 0
BreaksBeyond xs left given front = (beyond : List ℕ) × (length beyond ≡ given - most_taken) × Breaks xs (prepend_known beyond left) front

-- .. where no start is among them
pub record BreaksBefore (xs : List ℕ) (left : Option (List ℕ)) : Type 0 where
  pub bytes : List ℕ
  pub mid : List ℕ
  pub split : xs ≡ bytes ++ mid
  pub whole : AreWhole bytes mid
  pub reads : input_of bytes ≡ Err no_end
  pub rest : TakesPart (Some mid) left

-- .. of the bytes behind a start, whose line has this number and was cut or not: what waited, and the rows of the events in them
pub record BreaksIn (cut : Bool) (s : GroupSetup) (x : Sharing) (last number : ℕ) (xs : List ℕ) (left : Option (List ℕ)) (waiting front : List ℕ) : Type 0 where
  pub bytes : List ℕ
  pub mid : List ℕ
  pub split : xs ≡ bytes ++ mid
  pub ended : ((bytes ≡ []) × (cut ≡ false)) ⊎ EndsWithLf bytes
  pub good : IsGoodSoFar (read_events s last number (lines bytes)).refused
  pub rows : front ≡ waiting ++ (by_lines s (read_events s last number (lines bytes)).events x).text
  pub rest : TakesPart (Some mid) left

-- ---- where a call that reads stopped

-- some first bytes of a line were taken, maybe none, or `end` before them
abbrev pub StopsAtEvent : Option (List ℕ) → Option (List ℕ) → Type 0
StopsAtEvent old new = TakesPart old new ⊎ TakesEnd old new

-- a call that reads an event, and what it does to its input and to its source
abbrev pub DrawsEvent : {X : Type 0} → Option JournalError → LinesState → LinesState → Ghosts X → Counted X → X → X → Type 0
DrawsEvent e old new own faulty before now = Draws StopsAtEvent e old.input new.input own faulty before now

-- .. one that reads the setup
abbrev pub DrawsSetup : {X : Type 0} → Option JournalError → LinesState → LinesState → Ghosts X → Counted X → X → X → Type 0
DrawsSetup e old new own faulty before now = Draws (StopsAmid (opening_part old.number)) e old.input new.input own faulty before now

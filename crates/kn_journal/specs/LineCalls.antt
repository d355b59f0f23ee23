-- What the calls that take lines say of them, from the bytes ahead of the source up to the part that they read.
use Rattle.std.specs.Prelude.{◌≡◌, ℕ, ◌+◌, ◌<◌, ◌≤◌, Bool, true, List, ◌∷◌, ◌++◌, Contains, IfErr, Option, None, Some, Result, Ok, length, take, drop, slice_range, ⊤}
use Rattle.kn_io.specs.declared.traits.Source.{Ghosts}
use Rattle.kn_io.specs.declared.traits.Faulty.{Ghosts as Counted}
use Rattle.kn_event.specs.declared.event.Event.{Event}
use Rattle.kn_event.specs.EventLine.{IsInJournalRange, IsInVersion}
use Rattle.kn_journal.specs.declared.error.JournalError.{JournalError}
use Rattle.kn_journal.specs.Bundle.{next_by}
use Rattle.kn_journal.specs.Causes.{Cause}
use Rattle.kn_journal.specs.Drawing.{Draws, error_in}
use Rattle.kn_journal.specs.Journal.{time_most}
use Rattle.kn_journal.specs.Series.{nothing_part}
use Rattle.kn_journal.specs.Lines.{fits, line_most, lines}
use Rattle.kn_journal.specs.Parts.{Part}
use Rattle.kn_journal.specs.Reading.{Ahead, Counts, TakesLine, TakesText, unread}
use Rattle.kn_journal.specs.Telling.{Gives, IsEventFault, IsLineFault, LeavesRest, LinesState, OnEvent, StopsAmid, Tells}

-- ---- what is ahead

-- behind so many bytes the first LF stands
abbrev pub HasLfAt : List ℕ → ℕ → Type 0
HasLfAt ahead len = ahead ≡ take len ahead ++ 10 ∷ drop (len + 1) ahead

-- from this place on, an LF stands first at that one
abbrev pub HasLfFrom : List ℕ → ℕ → ℕ → Type 0
HasLfFrom ahead from at = drop from ahead ≡ slice_range ahead from at ++ 10 ∷ drop (at + 1) ahead

-- so many bytes are the first line, whatever comes behind what is ahead
abbrev pub HasLineOf : List ℕ → ℕ → Type 0
HasLineOf ahead len = (later : List ℕ) → lines (ahead ++ later) ≡ take len ahead ∷ lines (drop (len + 1) ahead ++ later)

-- this line comes first, and its LF stands behind so many bytes, whatever comes behind what is ahead
abbrev pub HasFirstLine : List ℕ → List ℕ → ℕ → Type 0
HasFirstLine ahead line len = (later : List ℕ) → lines (ahead ++ later) ≡ line ∷ lines (drop (len + 1) ahead ++ later)

-- this line was taken of what is ahead
abbrev pub TakesAhead : Ahead → Ahead → List ℕ → Type 0
TakesAhead old new line = (later : List ℕ) → lines (old.ahead ++ later) ≡ line ∷ lines (new.ahead ++ later)

-- .. as a text, whatever the source has left
abbrev pub TextAhead : Bool → Ahead → Ahead → Type 0
TextAhead cut old new = (left : Option (List ℕ)) → TakesText cut (unread old left) (unread new left)

-- each byte that was taken was ahead
abbrev pub IsFromAhead : Ahead → Ahead → Type 0
IsFromAhead old new = new.taken + length new.ahead ≡ old.taken + length old.ahead

-- ---- a line

-- what is a line's content
pub record IsContent (line : List ℕ) : Type 0 where
  -- it is as long as a line may be at most
  pub fits : length line ≤ line_most
  pub no_lf : ¬ Contains line 10

-- the first line was taken, or there is none
abbrev pub ReadsLine : {X : Type 0} → List ℕ → Ahead → Ahead → Ghosts X → X → X → Bool → Type 0
ReadsLine line old new own before now more = TakesLine (unread old (own.left before)) (unread new (own.left now)) more line

-- .. as a text
abbrev pub ReadsText : {X : Type 0} → Bool → Ahead → Ahead → Ghosts X → X → X → Type 0
ReadsText cut old new own before now = TakesText cut (unread old (own.left before)) (unread new (own.left now))

-- each byte that is gone was counted
abbrev pub CountsGone : {X : Type 0} → Ahead → Ahead → Ghosts X → X → X → Type 0
CountsGone old new own before now = Counts (unread old (own.left before)) (unread new (own.left now)) old.taken new.taken

-- no line is left behind the one read last
abbrev pub FindsNothing : {X : Type 0} → LinesState → LinesState → Ghosts X → X → X → Type 0
FindsNothing old new own before now = Gives (nothing_part old.number) tt new.number (unread old.input (own.left before)) (unread new.input (own.left now))

-- the next line was taken, and it is the line read last
pub record TakesNext {X : Type 0} (old new : LinesState) (own : Ghosts X) (before now : X) : Type 0 where
  -- it is the first line of what was unread
  pub line : TakesLine (unread old.input (own.left before)) (unread new.input (own.left now)) true new.line
  -- .. and was taken with its end
  pub text : TakesText new.cut (unread old.input (own.left before)) (unread new.input (own.left now))
  pub number : new.number ≡ old.number + 1
  -- it is as long as a line may be at most
  pub fits : fits new.line ≡ true
  pub no_lf : ¬ Contains new.line 10
  -- its bytes were counted
  pub count : old.input.taken + length new.line ≤ new.input.taken
  -- .. and so was its end, or what the end of the input left of it
  pub strict : old.input.taken < new.input.taken

-- an event of a journal of this version, which follows this time
pub record IsNextEvent (version last : ℕ) (e : Event) : Type 0 where
  -- it is at the last time or later
  pub order : last ≤ e.time
  -- .. and no later than any event may be
  pub times : e.time ≤ time_most
  pub range : IsInJournalRange e.act
  -- the version has such acts
  pub act : IsInVersion version e.act

-- the first line ahead is this event's, of a journal alone or in a bundle
abbrev pub TellsEvent : ℕ → ℕ → LinesState → LinesState → Event → Type 0
TellsEvent version last old new e = (bundle : Bool) (left : Option (List ℕ)) → Tells (next_by bundle version last old.number) new.number (unread old.input left) (unread new.input left) (Ok (Some e))

-- a call for the next event leaves the source alone where a line was ahead
pub record SparesSource {X : Type 0} (old : Ahead) (before now : X) (result : Result (Option Event) JournalError) : Type 0 where
  -- .. and is the event's
  pub ready : OnEvent result (λ e. Contains old.ahead 10 → now ≡ before)
  -- .. or is refused as an event's
  pub refused : IfErr result (λ e. IsEventFault e → Contains old.ahead 10 → now ≡ before)

-- ---- a part of lines

-- a call that reads this part behind the line read last
abbrev pub TellsPart : {X T : Type 0} → (ℕ → List (List ℕ) → Result (Part T) Cause) → LinesState → LinesState → Ghosts X → X → X → Result T JournalError → Type 0
TellsPart read old new own before now r = Tells (read old.number) new.number (unread old.input (own.left before)) (unread new.input (own.left now)) r

-- where it refused a line, all that came behind that one is unread
abbrev pub RestOf : {X T : Type 0} → (ℕ → List (List ℕ) → Result (Part T) Cause) → LinesState → LinesState → Ghosts X → X → X → Result T JournalError → Type 0
RestOf read old new own before now r =
    IfErr r (λ e. IsLineFault e → LeavesRest (read old.number) old.number None e (unread old.input (own.left before)) (unread new.input (own.left now)))

-- .. of a part that begins with a first line
abbrev pub RestOfFirst : {X T : Type 0} → (ℕ → List (List ℕ) → Result (Part T) Cause) → LinesState → LinesState → Ghosts X → X → X → Result T JournalError → Type 0
RestOfFirst read old new own before now r =
    IfErr r (λ e. IsLineFault e → LeavesRest (read old.number) old.number (Some (old.number + 1)) e (unread old.input (own.left before)) (unread new.input (own.left now)))

-- its lines were taken, of which the last one was cut or not
abbrev pub TakesLines : {X : Type 0} → LinesState → LinesState → Ghosts X → X → X → Type 0
TakesLines old new own before now = ReadsText new.cut old.input new.input own before now

-- what it does to its input and to its source
abbrev pub DrawsBy : {X T : Type 0} → (Option (List ℕ) → Option (List ℕ) → Type 0) → LinesState → LinesState → Ghosts X → Counted X → X → X → Result T JournalError → Type 0
DrawsBy Amid old new own faulty before now r = Draws Amid (error_in r) old.input new.input own faulty before now

-- .. where a fault of the source stops it amid this part
abbrev pub DrawsIn : {X T : Type 0} → (ℕ → List (List ℕ) → Result (Part T) Cause) → LinesState → LinesState → Ghosts X → Counted X → X → X → Result T JournalError → Type 0
DrawsIn read old new own faulty before now r = DrawsBy (StopsAmid (read old.number)) old new own faulty before now r

-- of what was taken at a fault nothing is said
abbrev pub Anywhere : Option (List ℕ) → Option (List ℕ) → Type 0
Anywhere old new = ⊤

-- a call that reads this part of the lines behind the one read last
abbrev pub Reads : {T : Type 0} → (ℕ → List (List ℕ) → Result (Part T) Cause) → LinesState → LinesState → Option (List ℕ) → Option (List ℕ) → Result T JournalError → Type 0
Reads read old new before now r = Tells (read old.number) new.number (unread old.input before) (unread new.input now) r

-- .. and what it does to its input and to its source
abbrev pub DrawsLines : {X : Type 0} → Option JournalError → LinesState → LinesState → Ghosts X → Counted X → X → X → Type 0
DrawsLines e old new own faulty before now = Draws Anywhere e old.input new.input own faulty before now

-- What a call of the reader tells of its input. Of an input that isn't known nothing is said.
use Rattle.std.specs.Prelude.{◌≡◌, ◌⊎◌, ℕ, ◌+◌, ◌++◌, Bool, true, false, List, [], ◌∷◌, length, Option, None, Some, Result, Ok, Err, codes, ⊤}
use Rattle.kn_event.specs.declared.event.Event.{Event}
use Rattle.kn_journal.specs.declared.error.JournalError.{JournalError}
use Rattle.kn_journal.specs.declared.error.JournalError.TheVariants as error
use Rattle.kn_config.specs.declared.config.ConfigError.{ConfigError}
use Rattle.kn_config.specs.declared.config.ConfigError.TheVariants as config_fault
use Rattle.kn_revision.specs.declared.error.SpecError.{SpecError}
use Rattle.kn_revision.specs.declared.error.SpecError.TheVariants as spec_fault
use Rattle.kn_preamble.specs.declared.error.SetupError.TheVariants as setup_error
use Rattle.kn_journal.specs.declared.journal.Setup.{Setup}
use Rattle.kn_journal.specs.declared.journal.Opening.{Opening}
use Rattle.kn_journal.specs.Causes.{Cause, error_of, no_end}
use Rattle.kn_journal.specs.Lines.{fits, lines}
use Rattle.kn_journal.specs.Parts.{Part, part}
use Rattle.kn_journal.specs.Reading.{Ahead, AreWhole, EndsWithLf, TakesPart}

-- what a reader has: the bytes ahead with their count, the line read last, its number, and whether the input said its end then
pub record LinesState : Type 0 where
  pub input : Ahead
  pub line : List ℕ
  pub number : ℕ
  pub cut : Bool

-- what a reader of a journal has: its input, the number of the line read last, whether the input said its end then, the version,
-- the last time, the error that it answers from then on, whether a journal ends at its `end`, and whether a first line was taken
-- before the setup
pub record ReaderState : Type 0 where
  pub input : Ahead
  pub number : ℕ
  pub cut : Bool
  pub version : ℕ
  pub last : ℕ
  pub failed : Option JournalError
  pub bundle : Bool
  pub begun : Bool

-- the lines of the old bytes give this part, up to line number n, and the lines of the new ones are left
abbrev pub Gives : {T : Type 0} → (List (List ℕ) → Result (Part T) Cause) → T → ℕ → Option (List ℕ) → Option (List ℕ) → Type 0
Gives read x n None new = ⊤
Gives read x n (Some xs) None = ⊥
Gives read x n (Some xs) (Some ys) = read (lines xs) ≡ Ok (part x n (lines ys))

-- an error is the cause; a fault of the source and want of memory say nothing of the bytes
abbrev pub Refused : {T : Type 0} → JournalError → Result (Part T) Cause → Type 0
Refused error.ReadFault r = ⊤
Refused error.Memory r = ⊤
Refused e r = (cause : Cause) × (error_of cause ≡ e) × (r ≡ Err cause)

abbrev pub Refuses : {T : Type 0} → (List (List ℕ) → Result (Part T) Cause) → JournalError → Option (List ℕ) → Type 0
Refuses read e None = ⊤
Refuses read e (Some xs) = Refused e (read (lines xs))

-- a call that reads this part
abbrev pub Tells : {T : Type 0} → (List (List ℕ) → Result (Part T) Cause) → ℕ → Option (List ℕ) → Option (List ℕ) → Result T JournalError → Type 0
Tells read n old new (Ok x) = Gives read x n old new
Tells read n old new (Err e) = Refuses read e old

-- a call that reads a version and a setup, and answers the setup
abbrev pub TellsOpening : (List (List ℕ) → Result (Part Opening) Cause) → ℕ → ℕ → Option (List ℕ) → Option (List ℕ) → Result Setup JournalError → Type 0
TellsOpening read version n old new (Ok setup) = Gives read (record { version = version; setup = setup }) n old new
TellsOpening read version n old new (Err e) = Refuses read e old

-- a call that reads a first line of this version, or finds none at the end of the input
abbrev pub TellsFirst : (List (List ℕ) → Result (Part (Option ℕ)) Cause) → ℕ → ℕ → Option (List ℕ) → Option (List ℕ) → Result Bool JournalError → Type 0
TellsFirst read version n old new (Ok true) = Gives read (Some version) n old new
TellsFirst read version n old new (Ok false) = Gives read None n old new
TellsFirst read version n old new (Err e) = Refuses read e old

-- a call that reads this part stopped at a fault: whole lines were taken of which none is refused, and then some first bytes
-- of a line, maybe none
abbrev pub StopsAmid : {T : Type 0} → (List (List ℕ) → Result (Part T) Cause) → Option (List ℕ) → Option (List ℕ) → Type 0
StopsAmid read None new = ⊤
StopsAmid read (Some xs) None = ⊥
StopsAmid read (Some xs) (Some ys) = (text mid : List ℕ) × (xs ≡ text ++ mid) × AreWhole text mid × (read (lines text) ≡ Err no_end) × TakesPart (Some mid) (Some ys)

-- the line `end` was taken with its LF, and then some first bytes of a line, maybe none
abbrev pub TakesEnd : Option (List ℕ) → Option (List ℕ) → Type 0
TakesEnd None new = ⊤
TakesEnd (Some xs) None = ⊥
TakesEnd (Some xs) (Some ys) = (text mid : List ℕ) × (xs ≡ text ++ mid) × EndsWithLf text × (lines text ≡ codes "end" ∷ []) × TakesPart (Some mid) (Some ys)

-- a call for the next event stopped at a fault: some first bytes of a line were taken; or, where a journal doesn't end at its
-- `end`, that line before them
abbrev pub AmidNext : Bool → Option (List ℕ) → Option (List ℕ) → Type 0
AmidNext true old new = TakesPart old new
AmidNext false old new = TakesPart old new ⊎ TakesEnd old new

-- why something was refused
abbrev pub IsCauseOf : {T : Type 0} → JournalError → Result T Cause → Type 0
IsCauseOf e r = (cause : Cause) × (error_of cause ≡ e) × (r ≡ Err cause)

-- the fault of a line that was read whole
abbrev pub IsLineFault : JournalError → Type 0
IsLineFault error.ReadFault = ⊥
IsLineFault (error.LineTooLong n) = ⊥
IsLineFault error.NoEnd = ⊥
IsLineFault error.Memory = ⊥
IsLineFault _ = ⊤

-- the fault of an event's line
abbrev pub IsEventFault : JournalError → Type 0
IsEventFault (error.BadLine n why) = ⊤
IsEventFault (error.TimeBack n before own) = ⊤
IsEventFault (error.TimeTooLarge n) = ⊤
IsEventFault _ = ⊥

-- the line that an error names, if it names one; a bad first line is this one
abbrev pub refused_line : Option ℕ → JournalError → Option ℕ
refused_line first error.ReadFault = None
refused_line first (error.LineTooLong n) = Some n
refused_line first (error.BadFirstLine due) = first
refused_line first (error.BadSetup n why) = Some n
refused_line first (error.BadLine n why) = Some n
refused_line first (error.TimeBack n before own) = Some n
refused_line first (error.TimeTooLarge n) = Some n
refused_line first error.NoEnd = None
refused_line first (error.AfterEnd n) = Some n
refused_line first (error.TooMany n) = Some n
refused_line first error.Memory = None

-- after line n some lines were taken, of which the refused one is the last. They are refused so by themselves, and all that came
-- after them is unread
abbrev pub LeavesRest : {T : Type 0} → (List (List ℕ) → Result (Part T) Cause) → ℕ → Option ℕ → JournalError → Option (List ℕ) → Option (List ℕ) → Type 0
LeavesRest read n first e None new = ⊤
LeavesRest read n first e (Some xs) None = ⊥
LeavesRest read n first e (Some xs) (Some ys) = (own : List (List ℕ)) × (lines xs ≡ own ++ lines ys) × (refused_line first e ≡ Some (n + length own)) × IsCauseOf e (read own)

-- a line by itself, with its number
abbrev pub Judges : {T : Type 0} → (ℕ → List ℕ → List (List ℕ) → Result (Part T) Cause) → ℕ → List ℕ → Result T JournalError → Type 0
Judges next n line (Ok x) = (left : List (List ℕ)) → next n line left ≡ Ok (part x n left)
Judges next n line (Err e) = (cause : Cause) × (error_of cause ≡ e) × ((left : List (List ℕ)) → next n line left ≡ Err cause)

-- after line n no line could be read
abbrev pub LacksLine : ℕ → JournalError → List (List ℕ) → Type 0
LacksLine n error.ReadFault ls = ⊤
LacksLine n error.NoEnd ls = ls ≡ []
LacksLine n (error.LineTooLong m) ls = (m ≡ n + 1) × (l : List ℕ) × (more : List (List ℕ)) × (ls ≡ l ∷ more) × (fits l ≡ false)
LacksLine n _ ls = ⊥

abbrev pub Lacks : ℕ → JournalError → Option (List ℕ) → Type 0
Lacks n e None = ⊤
Lacks n e (Some xs) = LacksLine n e (lines xs)

-- what is said of the version of a first line that was read
abbrev pub OnFirst : Result (Option ℕ) JournalError → (ℕ → Type 0) → Type 0
OnFirst (Ok (Some version)) P = P version
OnFirst _ P = ⊤

-- what it is where no line could be read: at the end of the input there is no further journal
abbrev pub none_at_end : JournalError → Result (Option ℕ) JournalError
none_at_end error.NoEnd = Ok None
none_at_end e = Err e

-- what is said of an event that was read
abbrev pub OnEvent : Result (Option Event) JournalError → (Event → Type 0) → Type 0
OnEvent (Ok (Some e)) P = P e
OnEvent _ P = ⊤

-- what a refused block is, which ends in this line
abbrev pub config_error : ℕ → ConfigError → JournalError
config_error n config_fault.Memory = error.Memory
config_error n why = error.BadSetup n (setup_error.Config why)

abbrev pub revision_error : ℕ → SpecError → JournalError
revision_error n spec_fault.Memory = error.Memory
revision_error n why = error.BadSetup n (setup_error.Revision why)

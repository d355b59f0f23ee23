-- How far a journal had been read where writing failed.
use Rattle.std.specs.Prelude.{◌≡◌, ◌⊎◌, ℕ, ◌+◌, ◌≤◌, ◌++◌, false, List, [], ◌∷◌, length, Option, None, Some, ⊤}
use Rattle.std.specs.Io.KnownBytes.{Appends, prepend_known}
use Rattle.kn_event.specs.declared.event.Event.{Event}
use Rattle.kn_journal.specs.declared.journal.Journal.{Journal}
use Rattle.kn_journal.specs.Causes.{no_end}
use Rattle.kn_journal.specs.Journal.{bad, read_events, verdict_of_lines}
use Rattle.kn_journal.specs.Lines.{fits, lines}
use Rattle.kn_journal.specs.Reading.{TakesPart}
use Rattle.kn_teller.specs.Manner.{Manner, told}
use Rattle.kn_teller.specs.Run.{Run}
use Rattle.kn_follow.specs.Account.{Account}

-- no line that could be taken: none, or one that is too long
abbrev pub HasNoLine : List (List ℕ) → Type 0
HasNoLine [] = ⊤
HasNoLine (l ∷ ls) = fits l ≡ false

-- some first bytes of the first of these lines were taken, maybe none
abbrev pub AreBegun : List (List ℕ) → Option (List ℕ) → Type 0
AreBegun ls left = (bytes : List ℕ) × (ls ≡ lines bytes) × TakesPart (Some bytes) left

-- of these lines two were taken at most, and some first bytes of the next one, maybe none. Where that one is too long, or there is
-- none, nothing is said of what is left
pub record StopsSoon (all : List (List ℕ)) (left : Option (List ℕ)) : Type 0 where
  pub taken : List (List ℕ)
  pub others : List (List ℕ)
  pub split : all ≡ taken ++ others
  pub few : length taken ≤ 2
  pub stops : AreBegun others left ⊎ HasNoLine others

-- of the lines behind a start: some first ones are events, and behind these reading stopped soon. What is told of all of these
-- events but the last one was written, but for 65,536 bytes at most
pub record CutsIn (version : ℕ) (m : Manner) (run : Run) (last number : ℕ) (all : List (List ℕ)) (left : Option (List ℕ)) (waiting : List ℕ) (old new : Option (List ℕ)) : Type 0 where
  pub own : List (List ℕ)
  pub rest : List (List ℕ)
  pub split : all ≡ own ++ rest
  pub before : List Event
  pub latest : List Event
  pub one : length latest ≤ 1
  pub events : read_events version last number own ≡ record { events = before ++ latest; refused = Some no_end }
  pub soon : StopsSoon rest left
  pub front : List ℕ
  pub held : Appends old new front
  pub most : length (waiting ++ told m run before) ≤ length front + 65536

abbrev pub FollowsCut : ℕ → Manner → Run → ℕ → ℕ → Option (List ℕ) → Option (List ℕ) → List ℕ → Option (List ℕ) → Option (List ℕ) → Type 0
FollowsCut version m run last number None left waiting old new = ⊤
FollowsCut version m run last number (Some xs) left waiting old new = CutsIn version m run last number (lines xs) left waiting old new

-- of all lines: some first ones are a journal but for its end, and behind these reading stopped soon. What is written of its start
-- and all of its events but the last one was written, but for 65,536 bytes at most
pub record CutsAt (a : Account) (all : List (List ℕ)) (left old new : Option (List ℕ)) : Type 0 where
  pub own : List (List ℕ)
  pub rest : List (List ℕ)
  pub split : all ≡ own ++ rest
  pub journal : Journal
  pub reads : verdict_of_lines own ≡ bad (Some journal) no_end
  pub before : List Event
  pub latest : List Event
  pub one : length latest ≤ 1
  pub events : journal.events ≡ before ++ latest
  pub soon : StopsSoon rest left
  pub front : List ℕ
  pub held : Appends old new front
  pub most : (journal.events ≡ []) ⊎ (length (a.body (record journal { events = before })) ≤ length front + 65536)

abbrev pub IsCut : Account → Option (List ℕ) → Option (List ℕ) → Option (List ℕ) → Option (List ℕ) → Type 0
IsCut a None left old new = ⊤
IsCut a (Some xs) left old new = CutsAt a (lines xs) left old new

-- the same but for at most 65,536 bytes that were read ahead
abbrev pub LeavesCut : Account → Option (List ℕ) → Option (List ℕ) → Option (List ℕ) → Option (List ℕ) → Type 0
LeavesCut a known left old new = (ahead : List ℕ) × (length ahead ≤ 65536) × IsCut a known (prepend_known ahead left) old new

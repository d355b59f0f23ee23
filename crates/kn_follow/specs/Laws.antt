-- What is so of journals that are followed, as laws that proofs above stand on.
use Rattle.std.specs.Prelude.{◌≡◌, ◌⊎◌, ℕ, ◌+◌, ◌-◌, ◌≤◌, List, [], ◌∷◌, ◌++◌, length, Option, Some}
use Rattle.kn_event.specs.declared.event.Event.{Event}
use Rattle.kn_io.specs.Causes.{Rose}
use Rattle.kn_journal.specs.declared.error.JournalError.{JournalError}
use Rattle.kn_journal.specs.declared.error.JournalError.TheVariants as error
use Rattle.kn_preamble.specs.declared.first.FirstLine.TheVariants.{Journal as JournalLine}
use Rattle.kn_journal.specs.declared.status.Status.{Status}
use Rattle.kn_journal.specs.declared.status.Status.TheVariants as status
use Rattle.kn_journal.specs.Journal.{opening_part}
use Rattle.kn_journal.specs.Lines.{lines}
use Rattle.kn_journal.specs.Reading.{Ahead, IsSpent, most_taken, unread}
use Rattle.kn_journal.specs.Telling.{IsLineFault, LeavesRest}
use Rattle.kn_report.specs.Waiting.{Adds}
use Rattle.kn_teller.specs.Manner.{Manner, told}
use Rattle.kn_teller.specs.Run.{Run, later, now_of}
use Rattle.kn_follow.specs.Account.{Account, SaysSame}
use Rattle.kn_follow.specs.Calls.{Draws, IsBroken, IsCaused}
use Rattle.kn_follow.specs.Cutting.{LeavesCut}
use Rattle.kn_follow.specs.Endings.{IsBehind, IsFollowed, IsRefusal, Stops, status_of}
use Rattle.kn_follow.specs.Following.{FollowsInput, ran}

-- of what a manner tells of events behind a run
pub record TellingLaws : Type 0 where
  -- of none it tells nothing
  pub none : (m : Manner) (run : Run) → told m run [] ≡ []
  -- of some events and others behind them, what it tells of the first, and then of the others behind the run with the first
  pub more : (m : Manner) (run : Run) (es others : List Event) → told m run (es ++ others) ≡ told m run es ++ told m (ran run es) others
  -- so of one event more
  pub next : (m : Manner) (run : Run) (es : List Event) (e : Event) → told m run (es ++ e ∷ []) ≡ told m run es ++ m.tells (ran run es) e
  -- the clock of a run with one event more is that event's time
  pub clock : (run : Run) (e : Event) → now_of (later run e) ≡ e.time

-- of one call and another behind it, as one; counts of faults stand at `before`, then at `mid`, then at `now`
pub record CallLaws : Type 0 where
  -- what both drew of the source
  pub draws : {a b d : Ahead} {given given_mid given_now before mid now : ℕ} → Draws a b given given_mid before mid → Draws b d given_mid given_now mid now → Draws a d given given_now before now
  -- a count that didn't fall in the first and rose in the second rose in both
  pub rose : (before mid now : ℕ) → before ≤ mid → Rose mid now → Rose before now
  -- so the sink's, where writing failed in the second
  pub caused : {before mid now : ℕ} {result : Status} → before ≤ mid → IsCaused mid now result → IsCaused before now result
  -- and the source's, where reading failed in the second, unless all bytes were taken that may be
  pub broken : {input : Ahead} {before mid now : ℕ} → before ≤ mid → IsSpent input → Rose mid now ⊎ (input.taken ≡ most_taken) → IsBroken input before now
  -- what is ahead where reading failed is what was given beyond these
  pub beyond : (input : Ahead) (given : ℕ) → input.taken + length input.ahead ≡ given → IsSpent input → length input.ahead ≡ given - most_taken
  -- where nothing is ahead, what the source has left is unread
  pub fresh : (input : Ahead) (left : Option (List ℕ)) → input.ahead ≡ [] → unread input left ≡ left

-- of how reading ends: the status that a reader's error makes, and what is left of the input
pub record EndingLaws : Type 0 where
  -- it is never a good end
  pub never_ok : (e : JournalError) → status_of e ≡ status.Ok → ⊥
  -- nor a fault of writing
  pub never_write_fault : (e : JournalError) → status_of e ≡ status.WriteFault → ⊥
  -- only a fault of reading makes a read fault
  pub read_fault : (e : JournalError) → status_of e ≡ status.ReadFault → e ≡ error.ReadFault
  -- only want of memory makes a status that doesn't come behind a start
  pub followed : (e : JournalError) → (e ≡ error.Memory → ⊥) → IsFollowed (status_of e)
  -- where what waits is written first, it ends in one that comes behind a start, if it would without
  pub stop_followed : (waiting : List ℕ) (old new : Option (List ℕ)) (end result : Status) → Stops waiting old new end result → IsFollowed end → IsFollowed result
  -- and in a read fault only if it would without
  pub stop_read_fault : (waiting : List ℕ) (old new : Option (List ℕ)) (end result : Status) → Stops waiting old new end result → result ≡ status.ReadFault → end ≡ status.ReadFault
  -- where x came behind p, which waited, and it ends with q, which waits now, written first, it does so with p and x
  pub stop_behind : (a b d : Option (List ℕ)) (p q x : List ℕ) (end result : Status)
      → Adds a b p q x → Stops q b d end result → Stops (p ++ x) a d end result
  -- where a line of the setup is refused, the status names it, and what is left stands behind it
  pub behind_setup : (known new : Option (List ℕ)) (e : JournalError) → (IsLineFault e → LeavesRest (opening_part JournalLine 0) 0 (Some 1) e known new) → IsRefusal (status_of e)
      → IsBehind (status_of e) known new
  -- where no line is left, no byte is
  pub none_left : (bytes : List ℕ) → lines bytes ≡ [] → bytes ≡ []

-- of two accounts that write the same of each journal: what is so of one is so of the other
pub record AccountLaws : Type 0 where
  -- what is written of an input, and how it ends
  pub input : (a b : Account) (known left : Option (List ℕ)) (given : ℕ) (old new : Option (List ℕ)) (result : Status) → SaysSame a b
      → FollowsInput a known left given old new result → FollowsInput b known left given old new result
  -- how far an input was read where writing failed
  pub cut : (a b : Account) (known left old new : Option (List ℕ)) → SaysSame a b → LeavesCut a known left old new → LeavesCut b known left old new

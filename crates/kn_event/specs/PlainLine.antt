-- What stands in bytes that are spelled plainly.
use Rattle.std.specs.Prelude.{◌≡◌, ◌≢◌, ℕ, ◌^◌, ◌+◌, ◌<◌, ◌≤◌, ◌∷◌, ◌++◌, Bool, List, length, drop, get_or, replicate}
use Rattle.std.specs.Fmt.{decimal}
use Rattle.std.specs.Str.Parse.{digits_value}
use Rattle.core.specs.Float.Numeral.{digits_len}
use Rattle.kn_event.specs.declared.event.Act.{Act}
use Rattle.kn_event.specs.EventLine.{act_text, event_text, IsInJournalRange, IsInVersion, Spells}
use Rattle.kn_event.specs.EntryLine.{outcome_word}
use Rattle.kn_event.specs.declared.event.Event.{Event}

-- a number stands there, and ends there
pub record IsNumberAt (bytes : List ℕ) (from n to : ℕ) : Type 0 where
  pub within : to ≤ length bytes
  pub text : drop from bytes ≡ decimal n ++ drop to bytes
  pub small : n < 2 ^ 64

-- an LF stands at `to`, right there or behind CRs
pub record IsLfFrom (bytes : List ℕ) (from to : ℕ) : Type 0 where
  pub crs : ℕ
  pub within : to < length bytes
  pub text : drop from bytes ≡ replicate crs 13 ++ 10 ∷ drop (to + 1) bytes

-- a number stands there, and behind it, and CRs if there are any, an LF
pub record IsNumberAhead (bytes : List ℕ) (from n to : ℕ) : Type 0 where
  pub crs : ℕ
  pub within : to < length bytes
  pub text : drop from bytes ≡ decimal n ++ (replicate crs 13 ++ 10 ∷ drop (to + 1) bytes)
  pub small : n < 2 ^ 64

-- an outcome stands first, and behind it, and CRs if there are any, an LF
pub record IsOutcomeAhead (bytes : List ℕ) (ok : Bool) (to : ℕ) : Type 0 where
  pub crs : ℕ
  pub within : to < length bytes
  pub text : bytes ≡ outcome_word ok ++ (replicate crs 13 ++ 10 ∷ drop (to + 1) bytes)

-- the act's text stands first, and behind it, and CRs if there are any, an LF, at `to`; each version has the act
pub record IsActAhead (bytes : List ℕ) (a : Act) (to : ℕ) : Type 0 where
  pub crs : ℕ
  pub within : to < length bytes
  pub text : bytes ≡ act_text a ++ (replicate crs 13 ++ 10 ∷ drop (to + 1) bytes)
  pub range : IsInJournalRange a
  pub act : (version : ℕ) → IsInVersion version a

-- each version has the event, and the line is its text with some CRs behind it, if any
pub record SpellsToCrs (line : List ℕ) (e : Event) : Type 0 where
  pub crs : ℕ
  pub whole : line ≡ event_text e ++ replicate crs 13
  pub spells : (version : ℕ) → Spells version (event_text e) e

-- eight digits that are worth n, of which the first is no 0
pub record AreEightDigits (bytes : List ℕ) (n : ℕ) : Type 0 where
  pub lead : get_or bytes 0 0 ≢ 48
  pub len : digits_len bytes ≡ 8
  pub value : n ≡ digits_value 10 bytes

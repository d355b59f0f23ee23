-- What following one journal of a bundle writes, in the words of an account.
use Rattle.std.specs.Prelude.{◌≡◌, ℕ, zero, suc, ◌-◌, ◌++◌, Bool, true, false, nat_lt, List, [], ◌∷◌, length, Option, None, Some, ⊤}
use Rattle.std.specs.Io.KnownBytes.{Appends, prepend_known}
use Rattle.kn_journal.specs.declared.error.JournalError.TheVariants as error
use Rattle.kn_journal.specs.declared.journal.Journal.{Journal}
use Rattle.kn_journal.specs.declared.status.Status.{Status}
use Rattle.kn_journal.specs.declared.status.Status.TheVariants as status
use Rattle.kn_journal.specs.Causes.{Cause, IsGoodSoFar, error_of}
use Rattle.kn_journal.specs.Lines.{lines}
use Rattle.kn_journal.specs.Reading.{AreWhole, TakesPart, most_taken}
use Rattle.kn_follow.specs.Account.{Account, SaysSame}
use Rattle.kn_follow.specs.Endings.{Writes, status_of}
use Rattle.kn_bundle.specs.Bundle.{Bundle, bundle, bundle_of_lines}

-- ---- of a bundle

-- of a journal whose `end` wasn't read
abbrev pub text_of_opened : Account → Option Journal → List ℕ
text_of_opened a None = []
text_of_opened a (Some j) = a.body j

-- of the journal of this number, from 0, of the whole ones and the one behind them
abbrev pub text_at : Account → ℕ → List Journal → Option Journal → List ℕ
text_at a zero [] opened = text_of_opened a opened
text_at a (suc k) [] opened = []
text_at a zero (j ∷ js) opened = a.body j ++ a.close j
text_at a (suc k) (j ∷ js) opened = text_at a k js opened

-- what is written of journal k: all of it where it is whole, as far as it goes where it is the one whose `end` wasn't read, else nothing
abbrev pub text_in : Account → ℕ → Bundle → List ℕ
text_in a k b = text_at a k b.whole b.opened

abbrev pub end_by : Option Cause → Bool → Status
end_by None true = status.Ok
end_by None false = status.BadInput error.NoEnd
end_by (Some cause) has = status_of (error_of cause)

-- where no fault comes: the first refused line; else whether there is a journal k
abbrev pub end_in : ℕ → Bundle → Status
end_in k b = end_by b.refused (nat_lt k (length b.whole))

-- where reading failed: whole lines of the bytes were taken, of which none is refused, and some first bytes of a line, maybe none. What
-- is written of journal k in these lines was written
pub record BreaksIn (a : Account) (k : ℕ) (xs : List ℕ) (left : Option (List ℕ)) (front : List ℕ) : Type 0 where
  pub bytes : List ℕ
  pub mid : List ℕ
  pub split : xs ≡ bytes ++ mid
  pub whole : AreWhole bytes mid
  pub good : IsGoodSoFar (bundle bytes).refused
  pub text : front ≡ text_in a k (bundle bytes)
  pub rest : TakesPart (Some mid) left

-- so many bytes were given, and all of them taken but those beyond 2^56
abbrev pub BreaksBeyond : Account → ℕ → List ℕ → Option (List ℕ) → ℕ → List ℕ → Type 0
BreaksBeyond a k xs left given front = (beyond : List ℕ) × (length beyond ≡ given - most_taken) × BreaksIn a k xs (prepend_known beyond left) front

-- where memory was lacking for a journal's setup or its revision: the lines before that journal are whole journals, and what is
-- written of journal k among them was written
pub record LacksMemory (a : Account) (k : ℕ) (all : List (List ℕ)) (front : List ℕ) : Type 0 where
  pub own : List (List ℕ)
  pub left : List (List ℕ)
  pub split : all ≡ own ++ left
  pub unopened : (bundle_of_lines own).opened ≡ None
  pub unrefused : (bundle_of_lines own).refused ≡ None
  pub text : front ≡ text_in a k (bundle_of_lines own)

-- as `Writes`, but for memory, which may be lacking behind some text
abbrev pub WritesUnless : List ℕ → Status → (List ℕ → Type 0) → (List ℕ → Type 0) → Option (List ℕ) → Option (List ℕ) → Status → Type 0
WritesUnless text end Breaks Lacks old new status.Memory = (front : List ℕ) × Appends old new front × Lacks front
WritesUnless text end Breaks Lacks old new result = Writes text end Breaks old new result

-- of an input with these bytes, of which these are left and so many were given
abbrev pub FollowsBundle : Account → ℕ → Option (List ℕ) → Option (List ℕ) → ℕ → Option (List ℕ) → Option (List ℕ) → Status → Type 0
FollowsBundle a k None left given old new result = ⊤
FollowsBundle a k (Some xs) left given old new result =
    WritesUnless (text_in a k (bundle xs)) (end_in k (bundle xs)) (BreaksBeyond a k xs left given) (LacksMemory a k (lines xs)) old new result

-- of two accounts that write the same of each journal: what is so of one is so of the other
abbrev pub FollowsSame : Type 0
FollowsSame = (a b : Account) (k : ℕ) (known left : Option (List ℕ)) (given : ℕ) (old new : Option (List ℕ)) (result : Status) → SaysSame a b
    → FollowsBundle a k known left given old new result → FollowsBundle b k known left given old new result

-- Several setups, from the call that reads them.
use Rattle.std.proofs.Common.{◌≡◌, ◌+◌, ◌∙◌, ℕ, List, [], ap, subst}
use Rattle.std.specs.Prelude.{Option, None, Some, Result, Ok, Err, OnOk, Bool, true, false, ◌∷◌, ◌++◌, if◌then◌else◌, ⊤}
use Rattle.std.specs.Io.KnownBytes.{prepend_known}
use Rattle.std.proofs.lemmas.Iterator.Adapters.{option_map_id}
use Rattle.kn_preamble.specs.declared.first.FirstLine.TheVariants.{Setups as SetupsLine}
use Rattle.kn_journal.specs.declared.error.JournalError.{JournalError}
use Rattle.kn_journal.specs.declared.journal.Setup.{Setup}
use Rattle.kn_journal.specs.Bundle.{listed_part, setups_behind, setups_end, setups_part}
use Rattle.kn_journal.specs.Causes.{Cause, after_end, line_too_long}
use Rattle.kn_journal.specs.Journal.{first_part}
use Rattle.kn_journal.specs.Lines.{fits, lines}
use Rattle.kn_journal.specs.Parts.{Part, part, then_part}
use Rattle.kn_journal.specs.Reading.{EndsThere}
use Rattle.kn_journal.specs.Telling.{ReaderState, Tells}
use Rattle.kn_serve.specs.Laws.{WideLaws}
use Rattle.kn_many.specs.Setups.{SaysSetups}

pub setups_said : (count m : ℕ) (left new : Option (List ℕ)) (r : Result (List Setup) JournalError) → Tells (listed_part 0 count) m left new r → SaysSetups count left r
setups_said count m None new r h = tt
setups_said count m (Some xs) None (Ok setups) h = absurd h
setups_said count m (Some xs) (Some ys) (Ok setups) h = record { number = m; left = lines ys; read = h }
setups_said count m (Some xs) new (Err e) h = h

-- a second part leaves no line where it leaves none whatever the first one was
none_then : {S T : Type 0} (r : Result (Part S) Cause) (next : S → ℕ → List (List ℕ) → Result (Part T) Cause) (p : Part T)
    → ((x : S) (n : ℕ) (ls : List (List ℕ)) → next x n ls ≡ Ok p → p.left ≡ []) → then_part r next ≡ Ok p → p.left ≡ []
none_then (Ok q) next p none e = none q.value q.number q.left e
none_then (Err cause) next p none e = cc

none_behind : (setups : List Setup) (n : ℕ) (ls : List (List ℕ)) (p : Part (List Setup)) → setups_end setups n ls ≡ Ok p → p.left ≡ []
none_behind setups n [] p e = cc
none_behind setups n (l ∷ ls) p e = absurd (by_fit (fits l) e)
  where
    by_fit : (t : Bool) → then_part (if t then Err (after_end (n + 1)) else Err (line_too_long (n + 1))) (λ (_ : ⊤) n left. Ok (part setups n left)) ≡ Ok p → ⊥
    by_fit true e = cc
    by_fit false e = cc

none_listed : (n count : ℕ) (ls : List (List ℕ)) (p : Part (List Setup)) → listed_part n count ls ≡ Ok p → p.left ≡ []
unfolding listed_part setups_part
none_listed n count ls p e =
    none_then (first_part SetupsLine n ls) (λ _ n lines. setups_part n count lines) p
    (λ _ n lines. none_then (setups_behind n count lines) setups_end p (λ setups n ls. none_behind setups n ls p)) e

-- behind the last setup nothing of the input is left
pub setups_out : WideLaws → (count m : ℕ) (old : Option (List ℕ)) (ahead : List ℕ) (left : Option (List ℕ)) (r : Result (List Setup) JournalError)
    → Tells (listed_part 0 count) m old (prepend_known ahead left) r → OnOk r (EndsThere old left)
setups_out laws count m old ahead left (Err e) h = tt
setups_out laws count m None ahead left (Ok setups) h = tt
setups_out laws count m (Some xs) ahead None (Ok setups) h = absurd h
setups_out laws count m (Some xs) ahead (Some zs) (Ok setups) h =
    ap (λ l. Some l) (laws.drained ahead zs (none_listed 0 count (lines xs) (part setups m (lines (ahead ++ zs))) h))

-- a reader that is new reads from line 1, with nothing ahead
pub told_from_start : (r : ReaderState) (count m : ℕ) (left new : Option (List ℕ)) (result : Result (List Setup) JournalError) → r.input.ahead ≡ [] → r.number ≡ 0
    → Tells (listed_part r.number count) m (prepend_known r.input.ahead left) new result → Tells (listed_part 0 count) m left new result
told_from_start r count m left new result ahead number h =
    subst (λ (x : Option (List ℕ)). Tells (listed_part 0 count) m x new result) (ap (λ (bs : List ℕ). prepend_known bs left) ahead ∙ option_map_id left)
    (subst (λ (n : ℕ). Tells (listed_part n count) m (prepend_known r.input.ahead left) new result) number h)

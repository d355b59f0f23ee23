-- Setups of different revisions, one after the other.
use Rattle.std.proofs.Common.{◌≡◌, ◌+◌, ◌-◌, ◌≤◌, ℕ, zero, suc, true, false, List, [], ◌∷◌, ◌++◌, refl, sym, ap, subst, arith}
use Rattle.std.specs.Prelude.{Option, None, Some, Result, Ok, Err}
use Rattle.std.specs.List.{list_any}
use Rattle.kn_journal.specs.declared.error.JournalError.{JournalError}
use Rattle.kn_journal.specs.declared.error.JournalError.TheVariants as error
use Rattle.kn_preamble.specs.declared.error.SetupError.TheVariants as setup_error
use Rattle.kn_preamble.specs.declared.first.FirstLine.TheVariants.{Setups as SetupsLine}
use Rattle.kn_journal.specs.declared.journal.Setup.{Setup}
use Rattle.kn_journal.specs.Bundle.{AreSetups, is_same, listed_part, new_in, new_part, setups_behind, setups_end, setups_part, with_setup}
use Rattle.kn_journal.specs.Causes.{Cause, bad_setup}
use Rattle.kn_journal.specs.Journal.{IsSetup, first_part}
use Rattle.kn_journal.specs.Series.{nothing_part}
use Rattle.kn_journal.specs.Lines.{lines}
use Rattle.kn_journal.specs.Parts.{Part, part, then_part}
use Rattle.kn_journal.specs.Setup.{setup_part}
use Rattle.kn_journal.specs.Telling.{Gives, Refuses, Tells}
use Rattle.kn_journal.proofs.Tellings.{refused-on, then-gives, then-refuses}

-- ---- a setup of a revision that none of these is of

pub new-none : (before : List Setup) (n : ℕ) (e : JournalError) (old : Option (List ℕ)) → Refuses (setup_part n) e old → Refuses (new_part before n) e old
unfolding new_part
new-none before n e old h = then-refuses (setup_part n) (new_in before) e old h

is_one : (before : List Setup) (n m : ℕ) (s : Setup) (mid : Option (List ℕ)) → m ≡ n → list_any (is_same s) before ≡ true → Refuses (new_in before s n) (error.BadSetup m setup_error.Duplicate) mid
is_one before n m s None e is = tt
is_one before n m s (Some xs) e is = (bad_setup n setup_error.Duplicate, ap (λ (x : ℕ). error.BadSetup x setup_error.Duplicate) (sym e), rw is refl)

pub new-same : (before : List Setup) (n m number : ℕ) (s : Setup) (old mid : Option (List ℕ)) → number ≡ m → Gives (setup_part n) s m old mid → list_any (is_same s) before ≡ true
    → Refuses (new_part before n) (error.BadSetup number setup_error.Duplicate) old
unfolding new_part
new-same before n m number s old mid e h is =
    then-gives (setup_part n) (new_in before) s m m old mid mid (Err (error.BadSetup number setup_error.Duplicate)) h (is_one before m number s mid e is)

is_other : (before : List Setup) (m : ℕ) (s : Setup) (mid : Option (List ℕ)) → list_any (is_same s) before ≡ false → Gives (new_in before s m) s m mid mid
is_other before m s None is = tt
is_other before m s (Some xs) is = rw is refl

pub new-tells : (before : List Setup) (n m : ℕ) (s : Setup) (old mid : Option (List ℕ)) → Gives (setup_part n) s m old mid → list_any (is_same s) before ≡ false
    → Gives (new_part before n) s m old mid
unfolding new_part
new-tells before n m s old mid h is = then-gives (setup_part n) (new_in before) s m m old mid mid (Ok s) h (is_other before m s mid is)

-- ---- several

abbrev pub pushed : List Setup → Setup → ℕ → List (List ℕ) → Result (Part (List Setup)) Cause
pushed before s n left = Ok (part (before ++ s ∷ []) n left)

pushed-gives : (before : List Setup) (s : Setup) (n : ℕ) (new : Option (List ℕ)) → Gives (pushed before s n) (before ++ s ∷ []) n new new
pushed-gives before s n None = tt
pushed-gives before s n (Some xs) = refl

pub none-behind : (n : ℕ) (old : Option (List ℕ)) → Gives (setups_behind n 0) [] n old old
unfolding setups_behind
none-behind n None = tt
none-behind n (Some xs) = refl

pub one-more : (n k m j : ℕ) (before : List Setup) (s : Setup) (old mid new : Option (List ℕ)) → Gives (setups_behind n k) before m old mid → Gives (new_part before m) s j mid new
    → Gives (setups_behind n (k + 1)) (before ++ s ∷ []) j old new
unfolding setups_behind
one-more n k m j before s old mid new h more =
    let all : List Setup = before ++ s ∷ [] in
    let count : suc k ≡ k + 1 = omega arith in
    let both : Gives (setups_behind n (suc k)) all j old new =
    then-gives (setups_behind n k) with_setup before m j old mid new (Ok all) h
    (then-gives (new_part before m) (pushed before) s j j mid new new (Ok all) more (pushed-gives before s j new)) in
    subst (λ (x : ℕ). Gives (setups_behind n x) all j old new) count both

-- where one is refused, so are more
refused-more : (n k i all : ℕ) (ls : List (List ℕ)) (cause : Cause) → k + i ≡ all → setups_behind n k ls ≡ Err cause → setups_behind n all ls ≡ Err cause
unfolding setups_behind
refused-more n k zero all ls cause e h =
    let count : k ≡ all = omega (arith, e) in
    subst (λ (x : ℕ). setups_behind n x ls ≡ Err cause) count h
refused-more n k (suc i) all ls cause e h =
    let count : suc (k + i) ≡ all = omega (arith, e) in
    let fewer : setups_behind n (k + i) ls ≡ Err cause = refused-more n k i (k + i) ls cause refl h in
    let more : setups_behind n (suc (k + i)) ls ≡ Err cause = ap (λ (r : Result (Part (List Setup)) Cause). then_part r with_setup) fewer in
    subst (λ (x : ℕ). setups_behind n x ls ≡ Err cause) count more

refuses-more : (n k all : ℕ) (e : JournalError) (old : Option (List ℕ)) → k ≤ all → Refuses (setups_behind n k) e old → Refuses (setups_behind n all) e old
refuses-more n k all e None few h = tt
refuses-more n k all e (Some xs) few h =
    let count : k + (all - k) ≡ all = omega (arith, few) in
    refused-on e (setups_behind n k (lines xs)) _ (λ cause g. refused-more n k (all - k) all (lines xs) cause count g) h

pub one-refused : (n k m all : ℕ) (before : List Setup) (e : JournalError) (old mid : Option (List ℕ)) → Gives (setups_behind n k) before m old mid → Refuses (new_part before m) e mid → k + 1 ≤ all
    → Refuses (setups_part n all) e old
unfolding setups_behind setups_part
one-refused n k m all before e old mid h more few =
    let within : suc k ≤ all = omega (arith, few) in
    let here : Refuses (setups_behind n (suc k)) e old =
    then-gives (setups_behind n k) with_setup before m m old mid mid (Err e) h (then-refuses (new_part before m) (pushed before) e mid more) in
    then-refuses (setups_behind n all) setups_end e old (refuses-more n (suc k) all e old within here)

-- ---- and the end of the input

abbrev pub as_all : List Setup → Unit {0} → ℕ → List (List ℕ) → Result (Part (List Setup)) Cause
as_all setups u n left = Ok (part setups n left)

as_all-gives : (setups : List Setup) (u : Unit {0}) (n : ℕ) (new : Option (List ℕ)) → Gives (as_all setups u n) setups n new new
as_all-gives setups u n None = tt
as_all-gives setups u n (Some xs) = refl

pub all-behind : (n k m j : ℕ) (setups : List Setup) (u : Unit {0}) (old mid new : Option (List ℕ)) → Gives (setups_behind n k) setups m old mid → Gives (nothing_part m) u j mid new
    → Gives (setups_part n k) setups j old new
unfolding setups_part
all-behind n k m j setups u old mid new h ended =
    then-gives (setups_behind n k) setups_end setups m j old mid new (Ok setups) h
    (then-gives (nothing_part m) (as_all setups) u j j mid new new (Ok setups) ended (as_all-gives setups u j new))

pub not-ended : (n k m : ℕ) (setups : List Setup) (e : JournalError) (old mid : Option (List ℕ)) → Gives (setups_behind n k) setups m old mid → Refuses (nothing_part m) e mid
    → Refuses (setups_part n k) e old
unfolding setups_part
not-ended n k m setups e old mid h more =
    then-gives (setups_behind n k) setups_end setups m m old mid mid (Err e) h (then-refuses (nothing_part m) (as_all setups) e mid more)

-- ---- behind a first line

abbrev pub listed_behind : ℕ → ℕ → ℕ → List (List ℕ) → Result (Part (List Setup)) Cause
listed_behind k version n ls = setups_part n k ls

pub listed-tells : (n k m j version : ℕ) (old mid new : Option (List ℕ)) (r : Result (List Setup) JournalError) → Gives (first_part SetupsLine n) version m old mid → Tells (setups_part m k) j mid new r
    → Tells (listed_part n k) j old new r
unfolding listed_part
listed-tells n k m j version old mid new r h more = then-gives (first_part SetupsLine n) (listed_behind k) version m j old mid new r h more

pub not-listed : (n k : ℕ) (e : JournalError) (old : Option (List ℕ)) → Refuses (first_part SetupsLine n) e old → Refuses (listed_part n k) e old
unfolding listed_part
not-listed n k e old h = then-refuses (first_part SetupsLine n) (listed_behind k) e old h

-- ---- each one's text

pub all-kept : (setups : List Setup) (s : Setup) → AreSetups setups → IsSetup s → AreSetups (setups ++ s ∷ [])
all-kept [] s h k = (k, tt)
all-kept (x ∷ xs) s h k = (h.0, all-kept xs s h.1 k)

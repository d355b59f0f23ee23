-- The bytes of a line that spells an event.
use Rattle.std.proofs.Common.{◌≡◌, ◌^◌, ◌<◌, ◌≤◌, ℕ, Bool, true, false, List, [], ◌∷◌, ◌++◌, length, length-append, refl, ◌∙◌, subst, arith, lit<}
use Rattle.std.specs.Fmt.{decimal}
use Rattle.std.specs.List.{list_all}
use Rattle.std.proofs.lemmas.Fmt.{decimal_nonempty, length-decimal-le}
use Rattle.std.proofs.lemmas.Grind.{common_steps}
use Rattle.std.proofs.lemmas.List.Folds.{list_all-append}
use Rattle.kn_event.specs.declared.event.Act.{Act}
use Rattle.kn_event.specs.declared.event.Act.TheVariants as act
use Rattle.kn_event.specs.declared.event.Event.{Event}
use Rattle.kn_event.specs.Numbers.{is_digit}
use Rattle.kn_event.specs.EntryLine.{labelled, with_number, with_numbers, outcome_word}
use Rattle.kn_event.specs.EventLine.{act_text, event_text, IsInJournalRange, is_printable, limit_most, Spells}
use Rattle.kn_event.proofs.Numerals.{and-parts, is_numeral-decimal, numeral_digits}

digit_is_printable : (b : ℕ) → is_digit b ≡ true → is_printable b ≡ true
digit_is_printable b h = grind (arith, common_steps)

digits-printable : (bs : List ℕ) → list_all is_digit bs ≡ true → list_all is_printable bs ≡ true
digits-printable [] h = refl
digits-printable (b ∷ bs) h =
    let parts = and-parts (is_digit b) (list_all is_digit bs) h in
    rw (digit_is_printable b parts.0) (digits-printable bs parts.1)

number-printable : (n : ℕ) → n < 2 ^ 64 → list_all is_printable (decimal n) ≡ true
number-printable n h = digits-printable (decimal n) (numeral_digits (decimal n) (is_numeral-decimal n h))

both-printable : (xs ys : List ℕ) → list_all is_printable xs ≡ true → list_all is_printable ys ≡ true → list_all is_printable (xs ++ ys) ≡ true
both-printable xs ys p q = list_all-append is_printable xs ys ∙ rw (p, q) refl

outcome-printable : (ok : Bool) → list_all is_printable (outcome_word ok) ≡ true
outcome-printable true = refl
outcome-printable false = refl

limit_is_number : (n : ℕ) → n ≤ limit_most → n < 2 ^ 64
limit_is_number n h = omega arith

act-printable : (a : Act) → IsInJournalRange a → list_all is_printable (act_text a) ≡ true
unfolding act_text with_number with_numbers labelled
act-printable (act.Arrive n) h = number-printable n h
act-printable (act.Finish n ok) h = both-printable (decimal n) (outcome_word ok) (number-printable n h) (outcome-printable ok)
act-printable (act.Cancel n) h = number-printable n h
act-printable act.Pass h = refl
act-printable (act.Ready n) h = number-printable n h
act-printable (act.Limit p n) h = both-printable (decimal p) (32 ∷ decimal n) (number-printable p h.0) (number-printable n (limit_is_number n h.1))
act-printable (act.Lost n) h = number-printable n h
act-printable act.Tick h = refl

pub line-printable : (version : ℕ) (line : List ℕ) (e : Event) → Spells version line e → list_all is_printable line ≡ true
unfolding event_text
line-printable version line e spelled =
    let P : List ℕ → Type 0 = λ x. list_all is_printable x ≡ true in
    subst P spelled.text (both-printable (decimal e.time) (act_text e.act) (number-printable e.time spelled.time) (act-printable e.act spelled.range))

number-most : (n : ℕ) → n < 2 ^ 64 → length (decimal n) ≤ 20
number-most n h = length-decimal-le 20 n (lit< tt) (omega arith) h

outcome-length : (ok : Bool) → length (outcome_word ok) ≤ 5
outcome-length true = omega arith
outcome-length false = omega arith

act-length : (a : Act) → IsInJournalRange a → (5 ≤ length (act_text a)) × (length (act_text a) ≤ 60)
unfolding act_text with_number with_numbers labelled
act-length (act.Arrive n) h = let k = number-most n h in (omega arith, omega arith)
act-length (act.Finish n ok) h =
    let k = number-most n h in
    let o = outcome-length ok in
    let whole = length-append (decimal n) (outcome_word ok) in
    (omega arith, omega arith)
act-length (act.Cancel n) h = let k = number-most n h in (omega arith, omega arith)
act-length act.Pass h = (omega arith, omega arith)
act-length (act.Ready n) h = let k = number-most n h in (omega arith, omega arith)
act-length (act.Limit p n) h =
    let k = number-most p h.0 in
    let m = number-most n (limit_is_number n h.1) in
    let whole = length-append (decimal p) (32 ∷ decimal n) in
    (omega arith, omega arith)
act-length (act.Lost n) h = let k = number-most n h in (omega arith, omega arith)
act-length act.Tick h = (omega arith, omega arith)

line-length : (version : ℕ) (line : List ℕ) (e : Event) → Spells version line e → (6 ≤ length line) × (length line ≤ 100)
unfolding event_text
line-length version line e spelled =
    let P : List ℕ → Type 0 = λ x. (6 ≤ length x) × (length x ≤ 100) in
    let whole = length-append (decimal e.time) (act_text e.act) in
    let some = decimal_nonempty e.time spelled.time in
    let most = number-most e.time spelled.time in
    let rest = act-length e.act spelled.range in
    subst P spelled.text (omega arith, omega arith)

pub line-least : (version : ℕ) (line : List ℕ) (e : Event) → Spells version line e → 6 ≤ length line
line-least version line e spelled = (line-length version line e spelled).0

pub line-most : (version : ℕ) (line : List ℕ) (e : Event) → Spells version line e → length line ≤ 100
line-most version line e spelled = (line-length version line e spelled).1

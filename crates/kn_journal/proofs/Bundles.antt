-- Where the next journal of a bundle begins.
use Rattle.std.proofs.Common.{◌≡◌, ◌+◌, ℕ, Bool, true, false, List, [], ◌∷◌, refl, sym, ap, ◌∙◌, subst}
use Rattle.std.specs.Prelude.{Option, None, Some, Result, Ok, Err, IfErr, nat_eq, if◌then◌else◌}
use Rattle.kn_preamble.specs.declared.first.FirstLine.TheVariants.{Journal as JournalLine}
use Rattle.kn_preamble.specs.First.{version_of}
use Rattle.kn_journal.specs.declared.error.JournalError.{JournalError}
use Rattle.kn_journal.specs.declared.error.JournalError.TheVariants as error
use Rattle.kn_journal.specs.Bundle.{first_of_in, first_of_part, version_of_in}
use Rattle.kn_journal.specs.Causes.{Cause, after_end, bad_first_line, error_of}
use Rattle.kn_journal.specs.Lines.{fits, lines}
use Rattle.kn_journal.specs.Parts.{Part, with_line}
use Rattle.kn_journal.specs.Reading.{IsOver, TakesLine}
use Rattle.kn_journal.specs.Telling.{Gives, IsLineFault, Judges, LeavesRest, Refused, Tells, refused_line}
use Rattle.kn_journal.proofs.Consumed.{with_line-fits}
use Rattle.kn_journal.proofs.Rests.{IsNamed, refused-named}
use Rattle.kn_journal.proofs.Tellings.{line-tells, lines-nil}

-- ---- the first line

pub no_first-one : (number : ℕ) (line : List ℕ) → None ≡ version_of line → nat_eq number 1 ≡ true → Judges first_of_in number line (Err (error.BadFirstLine JournalLine))
no_first-one number line none one = (bad_first_line JournalLine, refl, λ left. rw (sym none, one) refl)

pub no_first-later : (number : ℕ) (line : List ℕ) → None ≡ version_of line → nat_eq number 1 ≡ false → Judges first_of_in number line (Err (error.AfterEnd number))
no_first-later number line none later = (after_end number, refl, λ left. rw (sym none, later) refl)

-- where a line is left it is read
first_of-line : (n : ℕ) (xs line : List ℕ) (more : List (List ℕ)) → lines xs ≡ line ∷ more → first_of_part n (lines xs) ≡ with_line n (lines xs) first_of_in
first_of-line n xs line more h = rw h refl

of-line : (n number : ℕ) (old new : Option (List ℕ)) (line : List ℕ) (r : Result (Option ℕ) JournalError) → TakesLine old new true line → Tells (λ ls. with_line n ls first_of_in) number old new r
    → Tells (first_of_part n) number old new r
of-line n number None new line (Ok x) h t = tt
of-line n number (Some xs) None line (Ok x) h t = absurd h
of-line n number (Some xs) (Some ys) line (Ok x) h t = first_of-line n xs line (lines ys) h ∙ t
of-line n number None new line (Err e) h t = tt
of-line n number (Some xs) None line (Err e) h t = absurd h
of-line n number (Some xs) (Some ys) line (Err e) h t = subst (Refused e) (sym (first_of-line n xs line (lines ys) h)) t

pub first_of-tells : (n number : ℕ) (old new : Option (List ℕ)) (line : List ℕ) (r : Result (Option ℕ) JournalError) → TakesLine old new true line → fits line ≡ true → number ≡ n + 1
    → Judges first_of_in number line r → Tells (first_of_part n) number old new r
first_of-tells n number old new line r h fit is j = of-line n number old new line r h (line-tells n number old new line first_of_in r h fit is j)

abbrev refused_by : ℕ → Bool → Result (Part (Option ℕ)) Cause
refused_by number b = Err (if b then bad_first_line JournalLine else after_end number)

first_of-named : (number : ℕ) → IsNamed (Some number) first_of_in number
first_of-named number = λ line cause h. by_version (version_of line) cause h
  where
    by_number : (b : Bool) (cause : Cause) → refused_by number b ≡ Err cause → refused_line (Some number) (error_of cause) ≡ Some number
    by_number true cause g = refused-named (Some number) number (bad_first_line JournalLine) cause (refused_by number true) g refl refl
    by_number false cause g = refused-named (Some number) number (after_end number) cause (refused_by number false) g refl refl

    by_version : (v : Option ℕ) (cause : Cause) → version_of_in number [] v ≡ Err cause → refused_line (Some number) (error_of cause) ≡ Some number
    by_version (Some version) cause g = cc
    by_version None cause g = by_number (nat_eq number 1) cause g

-- the line is the only one that is taken
first_of-leaves : (n : ℕ) (old new : Option (List ℕ)) (line : List ℕ) (e : JournalError) (cause : Cause) → TakesLine old new true line → fits line ≡ true → error_of cause ≡ e
    → refused_line (Some (n + 1)) e ≡ Some (n + 1) → first_of_in (n + 1) line [] ≡ Err cause → LeavesRest (first_of_part n) n (Some (n + 1)) e old new
first_of-leaves n None new line e cause h fit is named refused = tt
first_of-leaves n (Some xs) None line e cause h fit is named refused = absurd h
first_of-leaves n (Some xs) (Some ys) line e cause h fit is named refused = (line ∷ [], h, named, (cause, is, with_line-fits n line [] first_of_in fit ∙ refused))

pub first_of-rest : (n number : ℕ) (old new : Option (List ℕ)) (line : List ℕ) (r : Result (Option ℕ) JournalError) → TakesLine old new true line → fits line ≡ true → number ≡ n + 1
    → Judges first_of_in number line r → IfErr r (λ e. IsLineFault e → LeavesRest (first_of_part n) n (Some (n + 1)) e old new)
first_of-rest n number old new line (Ok x) h fit is j = tt
first_of-rest n number old new line (Err e) h fit is (cause, same, refused) = λ k.
    let told : first_of_in (n + 1) line [] ≡ Err cause = subst (λ (m : ℕ). first_of_in m line [] ≡ Err cause) is (refused []) in
    first_of-leaves n old new line e cause h fit same (subst (λ (x : JournalError). refused_line (Some (n + 1)) x ≡ Some (n + 1)) same (first_of-named (n + 1) line cause told)) told

-- where the input said its end no line is left
pub first_of-over : (n : ℕ) (cut : Bool) (old : Option (List ℕ)) → cut ≡ true → IsOver cut old → Gives (first_of_part n) None n old old
first_of-over n cut None is h = tt
first_of-over n true (Some xs) is h =
    let none : lines xs ≡ [] = ap lines h ∙ lines-nil in
    rw none refl
first_of-over n false (Some xs) is h = cc

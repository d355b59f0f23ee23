-- Calls that read, one after the other, wherever they stop.
use Rattle.std.proofs.Common.{◌≡◌, ◌∙◌, refl, ℕ, List, Option, None, Some, subst, arith}
use Rattle.std.specs.Prelude.{Result, Ok, Err}
use Rattle.std.proofs.lemmas.Grind.{common_steps}
use Rattle.kn_io.specs.declared.traits.Source.{Ghosts}
use Rattle.kn_io.specs.declared.traits.Faulty.{Ghosts as Counted}
use Rattle.kn_journal.specs.declared.error.JournalError.{JournalError}
use Rattle.kn_journal.specs.declared.error.JournalError.TheVariants as error
use Rattle.kn_journal.specs.Causes.{Cause, after_end, bad_first_line, bad_line, bad_setup, error_of, line_too_long, no_end, time_back, time_too_large, too_many}
use Rattle.kn_journal.specs.Drawing.{Draws, error_in}
use Rattle.kn_journal.specs.Parts.{Part}
use Rattle.kn_journal.specs.Reading.{Ahead}
use Rattle.kn_journal.specs.Telling.{IsCauseOf, Judges}
use Rattle.kn_journal.specs.LineCalls.{Anywhere}

-- no fault of the source
abbrev pub IsNoFault : Option JournalError → Type 0
IsNoFault (Some error.ReadFault) = ⊥
IsNoFault _ = Unit {0}

no_fault : {A : Type 0} {e : Option JournalError} → IsNoFault e → e ≡ Some error.ReadFault → A
no_fault other h = absurd (subst IsNoFault h other)

-- one that went well, and then another
pub draws_more : {X : Type 0} {own : Ghosts X} {faulty : Counted X} {A B : Option (List ℕ) → Option (List ℕ) → Type 0} {e : Option JournalError} {x y z : Ahead} {s t u : X}
    → Draws A None x y own faulty s t → Draws B e y z own faulty t u → Draws Anywhere e x z own faulty s u
draws_more d f = record {
  amid = λ h. tt;
  spent = f.spent;
  fault = λ h. let why = f.fault h in let least = d.never_falls in grind (arith, common_steps);
  grows = omega (arith, d.grows, f.grows);
  balance = let p = d.balance in let q = f.balance in omega (arith, p, q);
  never_falls = omega (arith, d.never_falls, f.never_falls);
  apart_stays = f.apart_stays ∙ d.apart_stays;
}

-- the same call
pub draws_so : {X : Type 0} {own : Ghosts X} {faulty : Counted X} {A : Option (List ℕ) → Option (List ℕ) → Type 0} {e : Option JournalError} {x y : Ahead} {s t : X}
    → Draws A e x y own faulty s t → Draws Anywhere e x y own faulty s t
draws_so d = record {
  amid = λ h. tt;
  spent = d.spent;
  fault = d.fault;
  grows = d.grows;
  balance = d.balance;
  never_falls = d.never_falls;
  apart_stays = d.apart_stays;
}

-- one that went well, with what was made of it
pub draws_well : {X : Type 0} {own : Ghosts X} {faulty : Counted X} {A : Option (List ℕ) → Option (List ℕ) → Type 0} {e : Option JournalError} {x y : Ahead} {s t : X}
    → IsNoFault e → Draws A None x y own faulty s t → Draws Anywhere e x y own faulty s t
draws_well other d = record {
  amid = λ h. tt;
  spent = λ h. no_fault other h;
  fault = λ h. no_fault other h;
  grows = d.grows;
  balance = d.balance;
  never_falls = d.never_falls;
  apart_stays = d.apart_stays;
}

-- nothing was taken
pub draws_none : {X : Type 0} {own : Ghosts X} {faulty : Counted X} (x : Ahead) (s : X) → Draws Anywhere None x x own faulty s s
draws_none x s = record {
  amid = λ h. tt;
  spent = λ h. no_fault {e = None} tt h;
  fault = λ h. no_fault {e = None} tt h;
  grows = omega arith;
  balance = omega arith;
  never_falls = omega arith;
  apart_stays = refl;
}

-- what refuses a line is no fault of the source
cause-no_fault : (cause : Cause) → IsNoFault (Some (error_of cause))
cause-no_fault (line_too_long line) = tt
cause-no_fault (bad_first_line due) = tt
cause-no_fault (bad_setup line why) = tt
cause-no_fault (bad_line line why) = tt
cause-no_fault (time_back line before at) = tt
cause-no_fault (time_too_large line) = tt
cause-no_fault no_end = tt
cause-no_fault (after_end line) = tt
cause-no_fault (too_many line) = tt

pub refused-no_fault : {T : Type 0} (r : Result T Cause) (e : JournalError) → IsCauseOf e r → IsNoFault (Some e)
refused-no_fault r e (cause, is, more) = subst (λ (x : JournalError). IsNoFault (Some x)) is (cause-no_fault cause)

pub judged-no_fault : {T : Type 0} (next : ℕ → List ℕ → List (List ℕ) → Result (Part T) Cause) (n : ℕ) (line : List ℕ) (r : Result T JournalError) → Judges next n line r → IsNoFault (error_in r)
judged-no_fault next n line (Ok x) j = tt
judged-no_fault next n line (Err e) (cause, is, more) = subst (λ (x : JournalError). IsNoFault (Some x)) is (cause-no_fault cause)

-- Calls that read, one after the other.
use Rattle.std.proofs.Common.{◌≡◌, ◌∙◌, ◌+◌, ◌≤◌, inr, refl, subst, sym, ℕ, List, length, Option, None, Some, arith}
use Rattle.std.specs.Prelude.{Result, Ok, Err, IfErr}
use Rattle.std.proofs.lemmas.Grind.{common_steps}
use Rattle.kn_io.specs.declared.traits.Source.{Ghosts}
use Rattle.kn_io.specs.declared.traits.Faulty.{Ghosts as Counted}
use Rattle.kn_config.specs.declared.config.ConfigError.{ConfigError}
use Rattle.kn_config.specs.declared.config.ConfigError.TheVariants as config_fault
use Rattle.kn_revision.specs.declared.error.SpecError.{SpecError}
use Rattle.kn_revision.specs.declared.error.SpecError.TheVariants as spec_fault
use Rattle.kn_journal.specs.Causes.{Cause, after_end, bad_first_line, bad_line, bad_setup, error_of, line_too_long, no_end, time_back, time_too_large, too_many}
use Rattle.kn_journal.specs.declared.error.JournalError.{JournalError}
use Rattle.kn_journal.specs.declared.error.JournalError.TheVariants as error
use Rattle.kn_journal.specs.Drawing.{Draws, error_in}
use Rattle.kn_journal.specs.Parts.{Part}
use Rattle.kn_journal.specs.Reading.{Ahead, most_taken, unread}
use Rattle.kn_journal.specs.Telling.{Judges, config_error, revision_error}

-- no fault of the source
abbrev pub IsNoFault : Option JournalError → Type 0
IsNoFault (Some error.ReadFault) = ⊥
IsNoFault _ = Unit {0}

no_fault : {A : Type 0} {e : Option JournalError} → IsNoFault e → e ≡ Some error.ReadFault → A
no_fault other h = absurd (subst IsNoFault h other)

-- one that went well, and then another
pub draws_more : {X : Type 0} {own : Ghosts X} {faulty : Counted X} {A B C : Option (List ℕ) → Option (List ℕ) → Type 0} {e : Option JournalError} {x y z : Ahead} {s t u : X}
    → Draws A None x y own faulty s t → Draws B e y z own faulty t u → (e ≡ Some error.ReadFault → C (unread x (own.left s)) (unread z (own.left u))) → Draws C e x z own faulty s u
draws_more d f amid = record {
  amid = amid;
  spent = f.spent;
  fault = λ h. let why = f.fault h in let least = d.never_falls in grind (arith, common_steps);
  grows = omega (arith, d.grows, f.grows);
  balance = let p = d.balance in let q = f.balance in omega (arith, p, q);
  never_falls = omega (arith, d.never_falls, f.never_falls);
  apart_stays = f.apart_stays ∙ d.apart_stays;
}

-- the same call, amid something that it is part of
pub draws_in : {X : Type 0} {own : Ghosts X} {faulty : Counted X} {A B : Option (List ℕ) → Option (List ℕ) → Type 0} {e : Option JournalError} {x y : Ahead} {s t : X}
    → Draws A e x y own faulty s t → (A (unread x (own.left s)) (unread y (own.left t)) → B (unread x (own.left s)) (unread y (own.left t))) → Draws B e x y own faulty s t
draws_in d wider = record {
  amid = λ h. wider (d.amid h);
  spent = d.spent;
  fault = d.fault;
  grows = d.grows;
  balance = d.balance;
  never_falls = d.never_falls;
  apart_stays = d.apart_stays;
}

-- one that went well, with what was made of it
pub draws_well : {X : Type 0} {own : Ghosts X} {faulty : Counted X} {A B : Option (List ℕ) → Option (List ℕ) → Type 0} {e : Option JournalError} {x y : Ahead} {s t : X}
    → IsNoFault e → Draws A None x y own faulty s t → Draws B e x y own faulty s t
draws_well other d = record {
  amid = λ h. no_fault other h;
  spent = λ h. no_fault other h;
  fault = λ h. no_fault other h;
  grows = d.grows;
  balance = d.balance;
  never_falls = d.never_falls;
  apart_stays = d.apart_stays;
}

-- two that went well
pub draws_both : {X : Type 0} {own : Ghosts X} {faulty : Counted X} {A B : Option (List ℕ) → Option (List ℕ) → Type 0} {x y z : Ahead} {s t u : X}
    → Draws A None x y own faulty s t → Draws B None y z own faulty t u → Draws A None x z own faulty s u
draws_both d f = draws_more d f (λ h. no_fault {e = None} tt h)

-- bytes were taken that were ahead
pub draws_ahead : {X : Type 0} {own : Ghosts X} {faulty : Counted X} {A : Option (List ℕ) → Option (List ℕ) → Type 0} (x y : Ahead) (s : X)
    → x.taken ≤ y.taken → y.taken + length y.ahead ≡ x.taken + length x.ahead → Draws A None x y own faulty s s
draws_ahead x y s least counted = record {
  amid = λ h. no_fault {e = None} tt h;
  spent = λ h. no_fault {e = None} tt h;
  fault = λ h. no_fault {e = None} tt h;
  grows = least;
  balance = omega (arith, counted);
  never_falls = omega arith;
  apart_stays = refl;
}

-- nothing was taken
pub draws_none : {X : Type 0} {own : Ghosts X} {faulty : Counted X} {A : Option (List ℕ) → Option (List ℕ) → Type 0} (x : Ahead) (s : X) → Draws A None x x own faulty s s
draws_none x s = draws_ahead x x s (omega arith) refl

-- one that went well, and took the last byte that may be taken
pub draws_all : {X : Type 0} {own : Ghosts X} {faulty : Counted X} {A B : Option (List ℕ) → Option (List ℕ) → Type 0} {e : Option JournalError} {x y : Ahead} {s t : X}
    → Draws A None x y own faulty s t → y.taken ≡ most_taken → B (unread x (own.left s)) (unread y (own.left t)) → Draws B e x y own faulty s t
draws_all d full amid = record {
  amid = λ h. amid;
  spent = λ h. (omega (arith, full), inr full);
  fault = λ h. inr full;
  grows = d.grows;
  balance = d.balance;
  never_falls = d.never_falls;
  apart_stays = d.apart_stays;
}

-- what refuses a line is no fault of the source
pub cause-no_fault : (cause : Cause) → IsNoFault (Some (error_of cause))
cause-no_fault (line_too_long line) = tt
cause-no_fault (bad_first_line due) = tt
cause-no_fault (bad_setup line why) = tt
cause-no_fault (bad_line line why) = tt
cause-no_fault (time_back line before at) = tt
cause-no_fault (time_too_large line) = tt
cause-no_fault no_end = tt
cause-no_fault (after_end line) = tt
cause-no_fault (too_many line) = tt

pub judged-no_fault : {T : Type 0} (next : ℕ → List ℕ → List (List ℕ) → Result (Part T) Cause) (n : ℕ) (line : List ℕ) (r : Result T JournalError) → Judges next n line r → IsNoFault (error_in r)
judged-no_fault next n line (Ok x) j = tt
judged-no_fault next n line (Err e) (cause, is, more) = subst (λ (x : JournalError). IsNoFault (Some x)) is (cause-no_fault cause)

pub config-no_fault : (n : ℕ) (why : ConfigError) → IsNoFault (Some (config_error n why))
config-no_fault n config_fault.NotJson = tt
config-no_fault n config_fault.DataShape = tt
config-no_fault n (config_fault.NotText key) = tt
config-no_fault n (config_fault.BadValue key why) = tt
config-no_fault n (config_fault.OutOfRange key) = tt
config-no_fault n config_fault.Memory = tt

pub revision-no_fault : (n : ℕ) (why : SpecError) → IsNoFault (Some (revision_error n why))
revision-no_fault n spec_fault.NotJson = tt
revision-no_fault n (spec_fault.Missing field) = tt
revision-no_fault n (spec_fault.NotText key) = tt
revision-no_fault n (spec_fault.BadValue key why) = tt
revision-no_fault n (spec_fault.OutOfRange key) = tt
revision-no_fault n spec_fault.ZeroInitial = tt
revision-no_fault n spec_fault.Memory = tt

-- nor is want of memory
pub memory-no_fault : {T : Type 0} (r : Result T JournalError) → IfErr r (λ e. e ≡ error.Memory) → IsNoFault (error_in r)
memory-no_fault (Ok x) h = tt
memory-no_fault (Err e) h = subst (λ (x : JournalError). IsNoFault (Some x)) (sym h) tt

-- Faults of the source and of the sink.
use Rattle.std.proofs.Common.{◌≡◌, ◌≤◌, ◌+◌, ◌-◌, ℕ, List, [], length, ap, subst, sym, inl, inr, arith}
use Rattle.std.specs.Prelude.{◌⊎◌, Option, None, Some, Result, Ok, Err, IfErr, OnErr}
use Rattle.kn_io.specs.Causes.{Rose}
use Rattle.kn_io.specs.declared.traits.Source.{Ghosts}
use Rattle.kn_io.specs.declared.traits.Faulty.{Ghosts as Counted}
use Rattle.kn_journal.specs.declared.error.JournalError.{JournalError}
use Rattle.kn_journal.specs.declared.error.JournalError.TheVariants as journal
use Rattle.kn_journal.specs.Drawing.{Draws}
use Rattle.kn_journal.specs.Reading.{Ahead, most_taken}
use Rattle.kn_journal.specs.LineCalls.{Anywhere}
use Rattle.kn_activators.specs.declared.error.GroupError.{GroupError}
use Rattle.kn_activators.specs.declared.error.GroupError.TheVariants as error
use Rattle.kn_activators.specs.Replaying.{Stops, read_error}
use Rattle.kn_activators.proofs.Breaks.{beyond_is}
use Rattle.kn_activators.proofs.Drawings.{draws_less}

abbrev failed : GroupError → Result (Unit {0}) GroupError
failed e = Err e

pub rose_on : (a b c : ℕ) → a ≤ b → Rose b c → Rose a c
rose_on a b c low h = omega (arith, low, h)

pub error_is : (e : GroupError) → failed e ≡ failed error.Output → e ≡ error.Output
error_is e h = cc

pub failed_of : {P : Type 0} (r : Result (Unit {0}) GroupError) → OnErr r P → r ≡ Err error.Output → P
failed_of {P} r h is = subst (λ (z : Result (Unit {0}) GroupError). OnErr z P) is h

module _ {X : Type 0} {own : Ghosts X} {faulty : Counted X} {x y : Ahead} {s t : X} where
  pub draws_stopped : (e : JournalError) (w : List ℕ) (p q : Option (List ℕ)) (result : GroupError) → Stops e w p q result → Draws Anywhere (Some e) x y own faulty s t
      → Draws Anywhere (read_error (failed result)) x y own faulty s t
  draws_stopped e w p q result (inl (is, all)) d = subst (λ (z : GroupError). Draws Anywhere (read_error (failed z)) x y own faulty s t) (sym is) d
  draws_stopped e w p q result (inr (is, some)) d = subst (λ (z : GroupError). Draws Anywhere (read_error (failed z)) x y own faulty s t) (sym is) (draws_less d)

  pub draws_finished : (r : Result (Unit {0}) GroupError) → IfErr r (λ e. e ≡ error.Output) → Draws Anywhere None x y own faulty s t → Draws Anywhere (read_error r) x y own faulty s t
  draws_finished (Ok u) is d = d
  draws_finished (Err e) is d = subst (λ (z : GroupError). Draws Anywhere (read_error (failed z)) x y own faulty s t) (sym is) d

all_given : (given now taken ahead before waits most : ℕ) → before ≡ 0 → waits ≡ 0 → taken ≡ most → given + (taken + ahead) ≡ now + (before + waits) → given + most ≤ now
all_given given now taken ahead before waits most none empty full balance = omega arith

pub at_fault : {X : Type 0} {own : Ghosts X} {faulty : Counted X} (e : Option JournalError) (x y : Ahead) (s t : X) → x.taken ≡ 0 → x.ahead ≡ [] → Draws Anywhere e x y own faulty s t
    → e ≡ Some journal.ReadFault → Rose (faulty.faults s) (faulty.faults t) ⊎ (own.given s + most_taken ≤ own.given t)
at_fault {X} {own} {faulty} e x y s t none empty d is = by (d.fault is)
  where
    by : Rose (faulty.faults s) (faulty.faults t) ⊎ (y.taken ≡ most_taken) → Rose (faulty.faults s) (faulty.faults t) ⊎ (own.given s + most_taken ≤ own.given t)
    by (inl rose) = inl rose
    by (inr full) = inr (all_given (own.given s) (own.given t) y.taken (length y.ahead) x.taken (length x.ahead) most_taken none (ap length empty) full d.balance)

-- all was given that was taken or is ahead
pub beyond_at : {X : Type 0} {own : Ghosts X} {faulty : Counted X} (e : Option JournalError) (x y : Ahead) (s t : X) → x.taken ≡ 0 → x.ahead ≡ [] → Draws Anywhere e x y own faulty s t
    → e ≡ Some journal.ReadFault → length y.ahead ≡ (own.given t - own.given s) - most_taken
beyond_at {X} {own} {faulty} e x y s t none empty d is =
    let given : y.taken + length y.ahead ≡ own.given t - own.given s = given_is (own.given s) (own.given t) y.taken (length y.ahead) x.taken (length x.ahead) none (ap length empty) d.balance in
    beyond_is y (own.given t - own.given s) given (d.spent is)
  where
    given_is : (given now taken ahead before waits : ℕ) → before ≡ 0 → waits ≡ 0 → given + (taken + ahead) ≡ now + (before + waits) → taken + ahead ≡ now - given
    given_is given now taken ahead before waits none empty balance = omega (arith, none, empty, balance)

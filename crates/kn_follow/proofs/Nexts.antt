-- What a reader's call for the next event says.
use Rattle.std.proofs.Common.{◌≡◌, ◌+◌, ◌≤◌, ◌∙◌, ℕ, Bool, false, List, [], length, ap, subst, refl, arith, inl, inr}
use Rattle.std.specs.Prelude.{◌⊎◌, Option, None, Some, Result, Ok, Err, IfErr, OnOk}
use Rattle.kn_event.specs.declared.event.Event.{Event}
use Rattle.kn_io.specs.Causes.{Rose}
use Rattle.kn_journal.specs.declared.error.JournalError.{JournalError}
use Rattle.kn_journal.specs.declared.error.JournalError.TheVariants as error
use Rattle.kn_core.specs.State.{RevisionState}
use Rattle.kn_journal.specs.Bundle.{next_by}
use Rattle.kn_journal.specs.Calls.{KeepsJournal, ReadsAhead}
use Rattle.kn_journal.specs.Journal.{next_part}
use Rattle.kn_journal.specs.declared.status.Status.{Status}
use Rattle.kn_journal.specs.LineCalls.{IsFromAhead, IsNextEvent}
use Rattle.kn_journal.specs.Reading.{Ahead, IsOver, IsSpent, TakesPart, TakesText, most_taken, unread}
use Rattle.kn_journal.specs.Telling.{Gives, IsLineFault, LeavesRest, OnEvent, ReaderState, Refuses, TakesEnd, Tells}
use Rattle.kn_report.specs.AddingLaws.{AddingLaws}
use Rattle.kn_report.specs.Waiting.{Adds}
use Rattle.kn_follow.specs.Calls.{Draws, IsBroken, IsCaused, IsNext, IsSound, StopsBy, TakesEvent}
use Rattle.kn_follow.proofs.Statuses.{rose_on}

-- the clauses of the reader that speak of an event
pub record OfEvent (before after : ReaderState) (old new : Option (List ℕ)) (r : Result (Option Event) JournalError) : Type 0 where
  pub text : OnEvent r (λ e. TakesText after.cut old new)
  pub event : OnEvent r (IsNextEvent before.version before.last)
  pub last : OnEvent r (λ e. after.last ≡ e.time)
  pub bytes : OnEvent r (λ e. before.input.taken + 6 ≤ after.input.taken)
  pub good : OnOk r (after.failed ≡ None)
  pub alone : after.bundle ≡ false
  pub few : after.input.taken ≤ most_taken

-- and those that speak of an error
pub record OfError (before after : ReaderState) (old new : Option (List ℕ)) (faults faults_now : ℕ) (r : Result (Option Event) JournalError) : Type 0 where
  pub rest : IfErr r (λ e. IsLineFault e → LeavesRest (next_part before.version before.last before.number) before.number None e old new)
  pub memory : r ≡ Err error.Memory → ⊥
  pub uncut : before.cut ≡ false
  pub amid : r ≡ Err error.ReadFault → TakesPart old new ⊎ TakesEnd old new
  pub spent : r ≡ Err error.ReadFault → IsSpent after.input
  pub fault : r ≡ Err error.ReadFault → Rose faults faults_now ⊎ (after.input.taken ≡ most_taken)

pub next_is : (before after : ReaderState) (old new : Option (List ℕ)) (faults faults_now : ℕ) (r : Result (Option Event) JournalError)
    → Tells (next_part before.version before.last before.number) after.number old new r → OfEvent before after old new r → OfError before after old new faults faults_now r
    → IsNext before after old new faults faults_now r
next_is before after old new faults faults_now (Ok (Some e)) tells event stop = record {
  gives = tells;
  text = event.text;
  order = event.event.order;
  times = event.event.times;
  last = event.last;
  range = event.event.range;
  bytes = event.bytes;
  sound = record { good = event.good; alone = event.alone; few = event.few };
}
next_is before after old new faults faults_now (Ok None) tells event stop = tells
next_is before after old new faults faults_now (Err e) tells event stop = record {
  refuses = λ over. tells;
  rest = stop.rest;
  memory = λ is. stop.memory (ap (λ (x : JournalError). Err x) is);
  breaks = λ is. record {
    uncut = stop.uncut;
    amid = stop.amid (ap (λ (x : JournalError). Err x) is);
    spent = stop.spent (ap (λ (x : JournalError). Err x) is);
    fault = stop.fault (ap (λ (x : JournalError). Err x) is);
  };
}

-- behind the end of the input
pub no_end_stops : (before after : ReaderState) (old new : Option (List ℕ)) (faults faults_now : ℕ) → (IsOver before.cut old → Refuses (next_part before.version before.last before.number) error.NoEnd old)
    → StopsBy before after old new faults faults_now error.NoEnd
no_end_stops before after old new faults faults_now h = record { refuses = h; rest = λ none. absurd none; memory = λ is. cc; breaks = λ is. cc }

-- ---- one call after another

pub draws_on : {a b d : Ahead} {x y z k l m : ℕ} → Draws a b x y k l → Draws b d y z l m → Draws a d x z k m
draws_on h e = record { balance = omega (arith, h.balance, e.balance); never_falls = omega (arith, h.never_falls, e.never_falls) }

pub caused_on : {a b d : ℕ} {result : Status} → a ≤ b → IsCaused b d result → IsCaused a d result
caused_on {a} {b} {d} h cause = record { never_falls = omega (arith, h, cause.never_falls); failed = λ is. rose_on a b d h (cause.failed is) }

pub broken_on : {input : Ahead} {a b d : ℕ} → a ≤ b → IsSpent input → Rose b d ⊎ (input.taken ≡ most_taken) → IsBroken input a d
broken_on {input} {a} {b} {d} h spent fault = record { spent = spent; fault = by_fault fault }
  where
    by_fault : Rose b d ⊎ (input.taken ≡ most_taken) → Rose a d ⊎ (most_taken ≤ input.taken)
    by_fault (inl rose) = inl (rose_on a b d h rose)
    by_fault (inr all) = inr (omega (arith, all))

-- ---- an event that is found

-- it is found, ahead or by a read; what waited was written or waits, and the revision is as it was
pub record FindsEvent (before after : ReaderState) (old new : Option (List ℕ)) (e : Event) (x y : RevisionState) (waiting now : List ℕ) (held held_now : Option (List ℕ))
    (given given_now faults faults_now failed failed_now : ℕ) : Type 0 where
  pub taken : TakesEvent before after old new e
  pub adds : Adds held held_now waiting now []
  pub revision : y ≡ x
  pub version : after.version ≡ before.version
  pub draws : Draws before.input after.input given given_now faults faults_now
  pub cause : failed ≤ failed_now
  pub fits : length now ≤ 65536

-- one that is ahead
pub found_ahead : AddingLaws → (before after : ReaderState) (left : Option (List ℕ)) (e : Event) (x : RevisionState) (waiting : List ℕ) (held : Option (List ℕ)) (given faults failed : ℕ)
    → IsSound before → ((left : Option (List ℕ)) → ReadsAhead before after left e) → IsNextEvent before.version before.last e → after.last ≡ e.time → before.input.taken + 6 ≤ after.input.taken
    → KeepsJournal before after → after.input.taken ≤ most_taken → after.failed ≡ before.failed → IsFromAhead before.input after.input → length waiting ≤ 65536
    → FindsEvent before after (unread before.input left) (unread after.input left) e x x waiting waiting held held given given faults faults failed failed
found_ahead laws before after left e x waiting held given faults failed sound reads event last bytes journal few still balance fits = record {
  taken = record {
    gives = subst (λ (b : Bool). Gives (next_by b before.version before.last before.number) (Some e) after.number (unread before.input left) (unread after.input left)) sound.alone (reads left).tells;
    text = (reads left).text;
    order = event.order;
    times = event.times;
    last = last;
    range = event.range;
    bytes = bytes;
    sound = record { good = still ∙ sound.good; alone = journal.bundle ∙ sound.alone; few = few };
  };
  adds = laws.nothing;
  revision = refl;
  version = journal.version;
  draws = record { balance = omega (arith, balance); never_falls = omega arith };
  cause = omega arith;
  fits = fits;
}

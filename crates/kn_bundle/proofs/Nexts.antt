-- What a reader's call for the next event says in a bundle.
use Rattle.std.proofs.Common.{◌≡◌, ◌+◌, ◌≤◌, ℕ, Bool, true, List, refl, ap, sym, subst}
use Rattle.std.specs.Prelude.{◌⊎◌, Option, None, Some, Result, Ok, Err, OnOk}
use Rattle.kn_event.specs.declared.event.Event.{Event}
use Rattle.kn_io.specs.Causes.{Rose}
use Rattle.kn_journal.specs.declared.error.JournalError.{JournalError}
use Rattle.kn_journal.specs.declared.error.JournalError.TheVariants as error
use Rattle.kn_journal.specs.Bundle.{next_by, next_of_part}
use Rattle.kn_journal.specs.Causes.{Cause, error_of, no_end}
use Rattle.kn_journal.specs.LineCalls.{IsNextEvent}
use Rattle.kn_journal.specs.Lines.{lines}
use Rattle.kn_journal.specs.Reading.{IsOver, IsSpent, TakesText, most_taken}
use Rattle.kn_journal.specs.Telling.{AmidNext, OnEvent, ReaderState, Refuses, Tells}
use Rattle.kn_journal.specs.Texts.{TextLaws}
use Rattle.kn_bundle.specs.Calls.{IsNextOf, StopsByOf}

-- its clauses
pub record SaysNext (before after : ReaderState) (old new : Option (List ℕ)) (faults faults_now : ℕ) (r : Result (Option Event) JournalError) : Type 0 where
  pub tells : Tells (next_by true before.version before.last before.number) after.number old new r
  pub text : OnOk r (TakesText after.cut old new)
  pub event : OnEvent r (IsNextEvent before.version before.last)
  pub last : OnEvent r (λ e. after.last ≡ e.time)
  pub bytes : OnEvent r (λ e. before.input.taken + 6 ≤ after.input.taken)
  pub good : OnOk r (after.failed ≡ None)
  pub few : after.input.taken ≤ most_taken
  pub bundle : after.bundle ≡ true
  pub memory : r ≡ Err error.Memory → ⊥
  pub amid : r ≡ Err error.ReadFault → AmidNext true old new
  pub spent : r ≡ Err error.ReadFault → IsSpent after.input
  pub fault : r ≡ Err error.ReadFault → Rose faults faults_now ⊎ (after.input.taken ≡ most_taken)

pub next_is : (before after : ReaderState) (old new : Option (List ℕ)) (faults faults_now : ℕ) (r : Result (Option Event) JournalError) → SaysNext before after old new faults faults_now r
    → IsNextOf before after old new faults faults_now r
next_is before after old new faults faults_now (Ok (Some e)) says = record {
  gives = says.tells;
  text = says.text;
  order = says.event.order;
  times = says.event.times;
  last = says.last;
  range = says.event.range;
  bytes = says.bytes;
  within = record { good = says.good; few = says.few; bundle = says.bundle };
}
next_is before after old new faults faults_now (Ok None) says =
    record { gives = says.tells; text = says.text; within = record { good = says.good; few = says.few; bundle = says.bundle } }
next_is before after old new faults faults_now (Err e) says = record {
  refuses = λ over. says.tells;
  memory = λ is. says.memory (ap (λ (x : JournalError). Err x) is);
  breaks = λ is. record {
    amid = says.amid (ap (λ (x : JournalError). Err x) is);
    spent = says.spent (ap (λ (x : JournalError). Err x) is);
    fault = says.fault (ap (λ (x : JournalError). Err x) is);
  };
}

-- behind the end of the input no event is
over_refuses : (laws : TextLaws) (version last n : ℕ) (old : Option (List ℕ)) → IsOver true old → Refuses (next_of_part version last n) error.NoEnd old
unfolding next_of_part
over_refuses laws version last n None h = tt
over_refuses laws version last n (Some xs) h =
    let P : List ℕ → Type 0 = λ zs. (cause : Cause) × (error_of cause ≡ error.NoEnd) × (next_of_part version last n (lines zs) ≡ Err cause) in
    subst P (sym h) (no_end, refl, ap (λ (ls : List (List ℕ)). next_of_part version last n ls) laws.none)

pub cut_stops : (laws : TextLaws) (before after : ReaderState) (old new : Option (List ℕ)) (faults faults_now : ℕ) → before.cut ≡ true → StopsByOf before after old new faults faults_now error.NoEnd
cut_stops laws before after old new faults faults_now cut = record {
  refuses = λ over. over_refuses laws before.version before.last before.number old (subst (λ (b : Bool). IsOver b old) cut over);
  memory = λ is. cc;
  breaks = λ is. cc;
}

-- What makes a session of what its calls say, and what is so of it then; and what else those who serve several revisions take of it.
use Rattle.std.specs.Prelude.{◌≡◌, ◌≤◌, ◌^◌, ◌++◌, ℕ, false, All, List, [], length, Option, Err}
use Rattle.kn_io.specs.Causes.{Rose}
use Rattle.kn_trace.specs.Events.{opening}
use Rattle.kn_core.specs.State.{StandsFor}
use Rattle.kn_cell.specs.Lists.{Each}
use Rattle.kn_journal.specs.declared.error.JournalError.{JournalError}
use Rattle.kn_journal.specs.declared.error.JournalError.TheVariants as error
use Rattle.kn_journal.specs.declared.status.Status.TheVariants as status
use Rattle.kn_journal.specs.Journal.{IsSetup, good, journal_text, verdict}
use Rattle.kn_journal.specs.Lines.{lines}
use Rattle.kn_plan.specs.declared.wide_plan.WidePlan.{WidePlan}
use Rattle.kn_plan.specs.Plan.{AsksForMany}
use Rattle.kn_print.specs.Printed.{HasSmall}
use Rattle.kn_replay.specs.Replaying.{status_of}
use Rattle.kn_session.specs.Session.{IsFine, IsOneHistory}
use Rattle.kn_serve.specs.Front.{SaysFront}
use Rattle.kn_serve.specs.Running.{IsSession, IsStart, Session, journal_of}
use Rattle.kn_serve.specs.Shut.{IsShutWhere, status_of_opening}
use Rattle.kn_serve.specs.declared.open_error.OpenError.{OpenError}
use Rattle.kn_serve.specs.declared.open_error.OpenError.TheVariants as open_error

-- a revision was opened from the setup at the start, and this is the one history of it, with as many marks as there are slots
pub record IsOpenedAs (reading : ℕ → Type 0) (slots : ℕ) (x : Session) : Type 0 where
  pub begins : IsStart reading x.start
  pub opens : StandsFor x.opened (opening x.setup.spec x.start)
  pub spec : x.opened.spec ≡ x.setup.spec
  pub clock : x.opened.clock ≡ x.start
  pub one : IsOneHistory slots x.opened x.history
  pub faults : length x.faults ≡ slots
  pub wants : length x.wants ≡ slots
  pub fine : All (λ b. b ≡ false) x.faults → All (λ b. b ≡ false) x.wants → Each IsFine x.history

pub record RunLaws (reading : ℕ → Type 0) : Type 0 where
  pub session : (slots : ℕ) (x : Session) → IsOpenedAs reading slots x → IsSession reading slots x
  -- its journal reads as it
  pub reads : (slots : ℕ) (x : Session) → IsSession reading slots x → x.start ≤ 2 ^ 42 → All (λ p. HasSmall p.event.act) x.history → IsSetup x.setup
      → verdict (journal_text (journal_of x)) ≡ good (journal_of x)
  -- which errors of a setup make a status
  pub read_fault : (e : JournalError) → status_of e ≡ status.ReadFault → e ≡ error.ReadFault
  pub no_write_fault : (e : JournalError) → status_of e ≡ status.WriteFault → ⊥
  -- want of memory says nothing of a setup
  pub memory : (left : Option (List ℕ)) → SaysFront left (Err error.Memory)

pub record WideLaws : Type 0 where
  -- an input that has no line left, with what was read ahead of it, has no byte left
  pub drained : (ahead left : List ℕ) → lines (ahead ++ left) ≡ [] → left ≡ []
  -- where an opener gave nothing for a plan that the words ask for, its error says how they end
  pub shut : (words : List (List ℕ)) (plan : WidePlan) (before after : ℕ) (e : OpenError) → AsksForMany words plan → (e ≡ open_error.Failed → Rose before after)
      → IsShutWhere (AsksForMany words) (Rose before after) (status_of_opening e)

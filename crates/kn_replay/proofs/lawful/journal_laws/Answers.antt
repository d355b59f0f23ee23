use Rattle.std.specs.Prelude.{◌≡◌, take}
use Rattle.std.proofs.Common.{ℕ}
use Rattle.kn_event.specs.declared.event.Event.{Event}
use Rattle.kn_event.specs.declared.revision.Spec.{Spec}
use Rattle.kn_trace.specs.Trace.{Trace}
use Rattle.kn_trace.specs.Events.{trace_of}
use Rattle.kn_trace.specs.Laws.{IsInert, IsLawful, IsSettled}
use Rattle.kn_laws.specs.Beside.{LeavesTheRest}
use Rattle.kn_laws.specs.Losses.{LosesNothing}
use Rattle.kn_laws.specs.Refusals.{RefusesByAnswer}
use Rattle.kn_core.specs.Refused.{LeavesByAnswer}
use Rattle.kn_replay.specs.Report.{trace_of_journal}
use Rattle.kn_replay.proofs.Laws.{on_any, on_version}
use Rattle.kn_replay.proofs.lawful.journal_laws.Goals as goal

pub returns-clause-lawful : goal.returns-clause-lawful
returns-clause-lawful c bytes =
    on_any bytes (λ j. IsLawful j.setup.spec (trace_of_journal j)) (λ j. c.trace_laws.ensures.lawful j.setup.spec j.start j.events)

pub returns-clause-settled : goal.returns-clause-settled
returns-clause-settled c bytes =
    on_any bytes (λ j. (n : ℕ) → IsSettled j.setup.spec (trace_of j.setup.spec j.start (take n j.events)))
    (λ j n. c.trace_laws.ensures.settled j.setup.spec j.start (take n j.events))

pub returns-clause-inert : goal.returns-clause-inert
returns-clause-inert c bytes =
    on_any bytes (λ j. (n : ℕ) (e : Event) → IsInert j.setup.spec (trace_of j.setup.spec j.start (take n j.events)) e)
    (λ j n e. c.trace_laws.ensures.inert j.setup.spec j.start (take n j.events) e)

leaves_by : (s : Spec) (c : Trace) (e : Event) → RefusesByAnswer s c e → LeavesTheRest s c e → LeavesByAnswer s c e
leaves_by s c e answers beside told =
    let x = answers.told told in
    record { row = x.0; adds = x.1; rest = beside x.0 x.1.is x.1.refuses; scale = answers.keeps told }

pub returns-clause-beside : goal.returns-clause-beside
returns-clause-beside c bytes =
    on_any bytes (λ j. (n : ℕ) (e : Event) → LeavesByAnswer j.setup.spec (trace_of j.setup.spec j.start (take n j.events)) e)
    (λ j n e. leaves_by j.setup.spec (trace_of j.setup.spec j.start (take n j.events)) e (c.trace_laws.ensures.answers j.setup.spec j.start (take n j.events) e)
    (c.trace_laws.ensures.beside j.setup.spec j.start (take n j.events) e))

pub returns-clause-no_loss : goal.returns-clause-no_loss
returns-clause-no_loss c bytes =
    on_version c.spellings_are_read.ensures.event bytes (λ j. j.version ≡ 1 → LosesNothing (trace_of_journal j))
    (λ j none is. c.loss_laws.ensures.nothing j.setup.spec j.start j.events (none is))

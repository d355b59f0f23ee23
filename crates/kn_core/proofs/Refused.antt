-- What stays as it was after an event that is told a refusal.
use Rattle.kn_event.specs.declared.event.Event.{Event}
use Rattle.kn_event.specs.declared.revision.Spec.{Spec}
use Rattle.kn_trace.specs.Trace.{Trace}
use Rattle.kn_trace.specs.Laws.{IsSettled}
use Rattle.kn_record.specs.Made.{IsMade}
use Rattle.kn_laws.specs.Beside.{LeavesTheRest}
use Rattle.kn_laws.specs.Refusals.{RefusesByAnswer}
use Rattle.kn_core.specs.Refused.{LeavesByAnswer}

pub leaves_by : (s : Spec) (c : Trace) (e : Event) → RefusesByAnswer s c e → LeavesTheRest s c e → LeavesByAnswer s c e
leaves_by s c e answers beside told =
    let x = answers.told told in
    record { row = x.0; adds = x.1; rest = beside x.0 x.1.is x.1.refuses; scale = answers.keeps told }

pub leaves_all : ((s : Spec) (c : Trace) (e : Event) → IsMade s c → IsSettled s c → RefusesByAnswer s c e)
    → ((s : Spec) (c : Trace) (e : Event) → IsMade s c → IsSettled s c → LeavesTheRest s c e)
    → (s : Spec) (c : Trace) (e : Event) → IsMade s c → IsSettled s c → LeavesByAnswer s c e
leaves_all answers beside s c e made settled = leaves_by s c e (answers s c e made settled) (beside s c e made settled)

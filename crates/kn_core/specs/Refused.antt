-- An event that is told a refusal: what stays as it was.
use Rattle.std.specs.Prelude.{◌≡◌, true, ◌++◌}
use Rattle.kn_event.specs.declared.entry.Row.{Row}
use Rattle.kn_event.specs.declared.event.Event.{Event}
use Rattle.kn_event.specs.declared.revision.Spec.{Spec}
use Rattle.kn_trace.specs.Trace.{Trace}
use Rattle.kn_trace.specs.Events.{expiries, react, told_of}
use Rattle.kn_record.specs.Admission.{admission}
use Rattle.kn_laws.specs.Beside.{refused}
use Rattle.kn_laws.specs.Refusals.{AddsRefusal, KeepsScale, is_told_refusal}

-- the event adds its expiries and one refusal. The record of requests and pods is that after the expiries, but for the number
-- of a refused arrival and a turn; pods, phase, mode, decisions and the wanted scale are those from before
pub record LeavesAll (s : Spec) (c : Trace) (e : Event) : Type 0 where
  pub row : Row
  pub adds : AddsRefusal s c e row
  pub rest : admission (c ++ react s c e) ≡ refused row (admission (c ++ expiries s e.time c))
  pub scale : KeepsScale s c (c ++ react s c e)

-- so it is of an event that is told a refusal
abbrev pub LeavesByAnswer : Spec → Trace → Event → Type 0
LeavesByAnswer s c e = is_told_refusal (told_of s c e) ≡ true → LeavesAll s c e

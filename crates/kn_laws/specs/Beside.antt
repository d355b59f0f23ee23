-- What goes on beside a refusal.
use Rattle.std.specs.Prelude.{◌≡◌, true, ◌++◌, Some}
use Rattle.kn_event.specs.declared.entry.Row.{Row}
use Rattle.kn_event.specs.declared.event.Event.{Event}
use Rattle.kn_event.specs.declared.revision.Spec.{Spec}
use Rattle.kn_trace.specs.Rows.{arrived_by, turned_by}
use Rattle.kn_trace.specs.Trace.{Trace}
use Rattle.kn_trace.specs.Events.{act_row, expiries, react}
use Rattle.kn_trace.specs.Laws.{is_refusal}
use Rattle.kn_record.specs.Admission.{Admission, admission, more_by}

-- a refused arrival takes a number, and one that was refused at its pod a turn; all else stays
abbrev pub refused : Row → Admission → Admission
refused x a = record a { arrivals = more_by (arrived_by x) a.arrivals; turn = more_by (turned_by x) a.turn }

-- after a refused event the record is that after its expiries, but for numbers and turns
abbrev pub LeavesTheRest : Spec → Trace → Event → Type 0
LeavesTheRest s c e = (x : Row) → act_row s (c ++ expiries s e.time c) e.act ≡ Some x → is_refusal x ≡ true
    → admission (c ++ react s c e) ≡ refused x (admission (c ++ expiries s e.time c))

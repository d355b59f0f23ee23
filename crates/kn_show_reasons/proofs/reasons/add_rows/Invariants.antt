use Rattle.std.proofs.Common.{◌≡◌, ◌≤◌, ◌++◌, List, take}
use Rattle.kn_event.specs.declared.event.Event.{Event}
use Rattle.kn_trace.specs.Trace.{Trace}
use Rattle.kn_report.specs.Waiting.{Adds}
use Rattle.kn_show_reasons.specs.Reasons.{rows_text}
use Rattle.kn_show_reasons.specs.State.{Follows, Knows}
use Rattle.kn_show_reasons.proofs.reasons.add_rows.Given as goal

abbrev pub invariant-loop-e : goal.invariant-loop-e
invariant-loop-e g l = record {
  held : (es : List Event) (c : Trace) → Follows l.spec es l.tag l.fn.seen c l.e-items → Adds (g.O.Sink.held l.fn.out) (g.O.Sink.held l.out) l.fn.waiting l.waiting (rows_text l.spec c (take l.e-index l.e-items));
  knows : (es : List Event) (c : Trace) → Follows l.spec es l.tag l.fn.seen c l.e-items → Knows l.seen es (c ++ take l.e-index l.e-items);
  ready : l.seen.ready ≡ l.fn.seen.ready;
  later : g.O.Faulty.faults l.fn.out ≤ g.O.Faulty.faults l.out;
}

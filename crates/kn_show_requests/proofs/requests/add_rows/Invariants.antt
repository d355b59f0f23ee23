use Rattle.std.proofs.Common.{◌≤◌, ◌++◌, List, take}
use Rattle.kn_event.specs.declared.event.Event.{Event}
use Rattle.kn_event.specs.declared.revision.Spec.{Spec}
use Rattle.kn_trace.specs.Trace.{Trace}
use Rattle.kn_report.specs.Waiting.{Adds}
use Rattle.kn_lives.specs.Lives.{AreLives, ComeNext}
use Rattle.kn_show_requests.specs.Requests.{rows_text}
use Rattle.kn_show_requests.proofs.requests.add_rows.Given as goal

abbrev pub invariant-loop-e : goal.invariant-loop-e
invariant-loop-e g l = record {
  held : (s : Spec) (es : List Event) (c : Trace) → ComeNext s es l.tag c l.e-items → AreLives l.fn.lives es c → Adds (g.O.Sink.held l.fn.out) (g.O.Sink.held l.out) l.fn.waiting l.waiting (rows_text es c (take l.e-index l.e-items));
  lives : (s : Spec) (es : List Event) (c : Trace) → ComeNext s es l.tag c l.e-items → AreLives l.fn.lives es c → AreLives l.lives es (c ++ take l.e-index l.e-items);
  later : g.O.Faulty.faults l.fn.out ≤ g.O.Faulty.faults l.out;
}

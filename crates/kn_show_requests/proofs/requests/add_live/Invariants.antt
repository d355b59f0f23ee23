use Rattle.std.proofs.Common.{◌≤◌, List}
use Rattle.kn_event.specs.declared.event.Event.{Event}
use Rattle.kn_trace.specs.Trace.{Trace}
use Rattle.kn_report.specs.Waiting.{Adds}
use Rattle.kn_lives.specs.Lives.{AreLives}
use Rattle.kn_show_requests.specs.Requests.{live_below}
use Rattle.kn_show_requests.proofs.requests.add_live.Given as goal

abbrev pub invariant-loop-r : goal.invariant-loop-r
invariant-loop-r g l = record {
  held : (es : List Event) (c : Trace) → AreLives l.lives es c → Adds (g.O.Sink.held l.fn.out) (g.O.Sink.held l.out) l.fn.waiting l.waiting (live_below es c l.r);
  later : g.O.Faulty.faults l.fn.out ≤ g.O.Faulty.faults l.out;
}

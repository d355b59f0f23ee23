use Rattle.std.proofs.Common.{◌≡◌, ◌≤◌, ◌+◌, ◌*◌, List, length}
use Rattle.kn_journal.specs.Journal.{time_most}
use Rattle.std.specs.Prelude.{None}
use Rattle.kn_journal.specs.Drawing.{Draws}
use Rattle.kn_journal.specs.Reading.{IsOver, most_taken, unread}
use Rattle.kn_journal.specs.LineCalls.{Anywhere}
use Rattle.kn_activators.specs.declared.event.GroupEvent.{GroupEvent}
use Rattle.kn_activators.specs.Sharing.{Sharing, by_lines}
use Rattle.kn_activators.specs.Standing.{AreBefore, IsBelow, Stands}
use Rattle.kn_report.specs.Waiting.{Adds}
use Rattle.kn_activators.proofs.Breaks.{HasRead}
use Rattle.kn_activators.proofs.EventLines.{GoesOn}
use Rattle.kn_activators.proofs.follow.follow.Given as goal

abbrev pub invariant-loop-count : goal.invariant-loop-count
invariant-loop-count g l = record {
  on : (x : Sharing) → Stands l.fn.replay.group x → IsOver l.fn.lines.cut (unread l.fn.lines.input (g.S.Source.left l.fn.source))
      → (es : List GroupEvent) × Stands l.replay.group (by_lines l.setup es x).now × Adds (g.O.Sink.held l.fn.out) (g.O.Sink.held l.out) l.fn.replay.waiting l.replay.waiting (by_lines l.setup es x).text
      × (length es ≡ l.count) × GoesOn l.setup l.start l.fn.lines.number (unread l.fn.lines.input (g.S.Source.left l.fn.source)) es l.last l.lines.number (unread l.lines.input (g.S.Source.left l.source))
      × HasRead l.fn.lines.cut l.lines.cut l.setup l.start l.fn.lines.number (unread l.fn.lines.input (g.S.Source.left l.fn.source)) es l.last l.lines.number (unread l.lines.input (g.S.Source.left l.source));
  setup : l.replay.setup ≡ l.setup;
  order : AreBefore l.last l.replay.group;
  times : l.last ≤ time_most;
  few : IsBelow (l.count + 1) l.replay.group;
  taken : l.fn.lines.input.taken + 6 * l.count ≤ l.lines.input.taken;
  most : l.lines.input.taken ≤ most_taken;
  source : Draws Anywhere None l.fn.lines.input l.lines.input g.S.Source g.S.Faulty l.fn.source l.source;
  later : g.O.Faulty.faults l.fn.out ≤ g.O.Faulty.faults l.out;
}

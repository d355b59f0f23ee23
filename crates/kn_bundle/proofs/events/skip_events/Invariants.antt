use Rattle.std.proofs.Common.{◌≡◌, ◌≤◌, ◌+◌, ◌*◌, List}
use Rattle.kn_event.specs.declared.event.Event.{Event}
use Rattle.kn_journal.specs.Reading.{unread}
use Rattle.kn_follow.specs.Calls.{Draws}
use Rattle.kn_bundle.specs.Calls.{IsWithin}
use Rattle.kn_bundle.proofs.Alongs.{IsAlong}
use Rattle.kn_bundle.proofs.Courses.{GoesOn}
use Rattle.kn_bundle.proofs.events.skip_events.Given as goal

abbrev pub invariant-loop-count : goal.invariant-loop-count
invariant-loop-count g l = record {
  on : (es : List Event) × GoesOn l.fn.reader.version l.fn.reader.last l.fn.reader.number (unread l.fn.reader.input (g.S.Source.left l.fn.source)) es l.reader.last l.reader.number (unread l.reader.input (g.S.Source.left l.source));
  along : IsAlong l.fn.reader.cut l.reader.cut (unread l.fn.reader.input (g.S.Source.left l.fn.source)) (unread l.reader.input (g.S.Source.left l.source));
  within : IsWithin l.reader;
  version : l.reader.version ≡ l.fn.reader.version;
  taken : l.fn.reader.input.taken + 6 * l._count ≤ l.reader.input.taken;
  draws : Draws l.fn.reader.input l.reader.input (g.S.Source.given l.fn.source) (g.S.Source.given l.source) (g.S.Faulty.faults l.fn.source) (g.S.Faulty.faults l.source);
}

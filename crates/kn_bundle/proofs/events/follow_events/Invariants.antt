use Rattle.std.proofs.Common.{◌≡◌, ◌≤◌, ◌<◌, ◌+◌, ◌*◌, ◌^◌, List, length}
use Rattle.kn_event.specs.declared.event.Event.{Event}
use Rattle.kn_journal.specs.Reading.{unread}
use Rattle.kn_report.specs.Waiting.{Adds}
use Rattle.kn_teller.specs.Manner.{told}
use Rattle.kn_teller.specs.Run.{IsRunOf, begun}
use Rattle.kn_follow.specs.Calls.{Draws}
use Rattle.kn_follow.specs.Following.{ran}
use Rattle.kn_bundle.specs.Calls.{IsWithin}
use Rattle.kn_bundle.proofs.Alongs.{IsAlong}
use Rattle.kn_bundle.proofs.Courses.{GoesOn}
use Rattle.kn_bundle.proofs.events.follow_events.Given as goal

abbrev pub invariant-loop-count : goal.invariant-loop-count
invariant-loop-count g l =
    let start = begun l.fn.follower.revision.spec l.fn.follower.revision.clock in
    record {
      on : (es : List Event) × IsRunOf (ran start es) l.follower.revision × g.T.Teller.knows l.teller (ran start es) × (length es ≡ l.count)
          × Adds (g.O.Sink.held l.fn.out) (g.O.Sink.held l.out) l.fn.follower.waiting l.follower.waiting (told (g.T.Teller.manner l.fn.teller) start es)
          × GoesOn l.fn.reader.version l.fn.reader.last l.fn.reader.number (unread l.fn.reader.input (g.S.Source.left l.fn.source)) es l.reader.last l.reader.number (unread l.reader.input (g.S.Source.left l.source));
      along : IsAlong l.fn.reader.cut l.reader.cut (unread l.fn.reader.input (g.S.Source.left l.fn.source)) (unread l.reader.input (g.S.Source.left l.source));
      manner : g.T.Teller.manner l.teller ≡ g.T.Teller.manner l.fn.teller;
      load : g.T.Teller.load l.teller < 2 ^ 64 * (l.count + 1);
      within : IsWithin l.reader;
      version : l.reader.version ≡ l.fn.reader.version;
      last : l.reader.last ≡ l.follower.revision.clock;
      clock : l.follower.revision.clock ≤ 2 ^ 42;
      events : l.follower.revision.events ≡ l.count;
      taken : l.fn.reader.input.taken + 6 * l.count ≤ l.reader.input.taken;
      draws : Draws l.fn.reader.input l.reader.input (g.S.Source.given l.fn.source) (g.S.Source.given l.source) (g.S.Faulty.faults l.fn.source) (g.S.Faulty.faults l.source);
      write : g.O.Faulty.faults l.fn.out ≤ g.O.Faulty.faults l.out;
    }

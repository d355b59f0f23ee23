use Rattle.std.proofs.Common.{◌≡◌, ◌≤◌, ◌<◌, ◌+◌, ◌*◌, ◌^◌, List, length}
use Rattle.kn_event.specs.declared.event.Event.{Event}
use Rattle.kn_journal.specs.Reading.{IsOver, unread}
use Rattle.kn_report.specs.Waiting.{Adds}
use Rattle.kn_teller.specs.Manner.{told}
use Rattle.kn_teller.specs.Run.{IsRunOf, begun}
use Rattle.kn_follow.specs.Calls.{Draws, IsSound}
use Rattle.kn_follow.specs.Following.{ran}
use Rattle.kn_follow.proofs.Faults.{HasRead}
use Rattle.kn_follow.proofs.Follows.{GoesOn, IsStill}
use Rattle.kn_follow.proofs.follower.Follower.follow.Given as goal

abbrev pub invariant-loop-count : goal.invariant-loop-count
invariant-loop-count g l =
    let start = begun l.fn.self.revision.spec l.fn.self.revision.clock in
    record {
      on : (es : List Event) × IsRunOf (ran start es) l.self.revision × g.T.Teller.knows l.teller (ran start es) × (length es ≡ l.count)
          × Adds (g.O.Sink.held l.fn.out) (g.O.Sink.held l.out) l.fn.self.waiting l.self.waiting (told (g.T.Teller.manner l.fn.teller) start es)
          × GoesOn l.fn.reader.version l.fn.reader.last l.fn.reader.number (unread l.fn.reader.input (g.S.Source.left l.fn.source)) es l.reader.last l.reader.number (unread l.reader.input (g.S.Source.left l.source));
      bytes : IsOver l.fn.reader.cut (unread l.fn.reader.input (g.S.Source.left l.fn.source))
          → HasRead l.fn.reader.cut l.reader.cut (unread l.fn.reader.input (g.S.Source.left l.fn.source)) (unread l.reader.input (g.S.Source.left l.source));
      still : IsStill (unread l.fn.reader.input (g.S.Source.left l.fn.source)) (unread l.reader.input (g.S.Source.left l.source));
      manner : g.T.Teller.manner l.teller ≡ g.T.Teller.manner l.fn.teller;
      load : g.T.Teller.load l.teller < 2 ^ 64 * (l.count + 1);
      sound : IsSound l.reader;
      version : l.reader.version ≡ l.fn.reader.version;
      last : l.reader.last ≡ l.self.revision.clock;
      clock : l.self.revision.clock ≤ 2 ^ 42;
      events : l.self.revision.events ≡ l.count;
      taken : l.fn.reader.input.taken + 6 * l.count ≤ l.reader.input.taken;
      draws : Draws l.fn.reader.input l.reader.input (g.S.Source.given l.fn.source) (g.S.Source.given l.source) (g.S.Faulty.faults l.fn.source) (g.S.Faulty.faults l.source);
      write : g.O.Faulty.faults l.fn.out ≤ g.O.Faulty.faults l.out;
    }

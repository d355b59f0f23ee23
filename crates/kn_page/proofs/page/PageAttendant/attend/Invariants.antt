-- What came so far was answered.
use Rattle.std.proofs.Common.{◌≡◌}
use Rattle.kn_page.specs.Visits.{Visits, side}
use Rattle.kn_page.proofs.Looking.{OnlyLooks}
use Rattle.kn_page.proofs.page.PageAttendant.attend.Given as goal

abbrev pub invariant-loop : goal.invariant-loop
invariant-loop g l = record {
  visits : Visits (g.E.Server.stops l.fn.self.server.now) (g.E.Server.waits l.fn.self.server.now) l.fn.pass l.pass
      (side (g.C.Sink.kept l.fn.self.caller) (g.C.Sink.held l.fn.self.caller) (g.C.Faulty.faults l.fn.self.caller))
      (side (g.C.Sink.kept l.self.caller) (g.C.Sink.held l.self.caller) (g.C.Faulty.faults l.self.caller));
  looks : OnlyLooks l.fn.pass l.pass;
  server : l.self.server.now ≡ l.fn.self.server.now;
  door : l.self.door.now ≡ l.fn.self.door.now;
}

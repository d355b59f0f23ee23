-- One round more.
use Rattle.std.proofs.Common.{arith, ◌∙◌}
use Rattle.kn_scribe.proofs.Rounds.{prints_trans, room_is}
use Rattle.kn_scribe.proofs.scribe.Scribe.print_all.Goals as goal

pub loop-preserved : goal.loop-preserved
loop-preserved g c =
    let x = c.loop.invariant in
    let y = c.round-further-in-loop in
    let held = g.O.Sink.held in
    let faults = g.O.Faulty.faults in
    record {
      prints = prints_trans c.printed_laws.ensures c.args.pass.now c.loop.pass y.new.pass (held c.args.self.now.out.now) (held c.loop.self.out.now) (held y.new.self.out.now)
          (faults c.args.self.now.out.now) (faults c.loop.self.out.now) (faults y.new.self.out.now) c.loop.self.done y.new.self.done (x.further c.if-not-further.false) x.prints y.ensures.prints;
      out = y.ensures.out ∙ x.out;
      further = y.ensures.further;
      empty = y.ensures.empty;
      room = omega (arith, room_is c.args.pass.now c.loop.pass x.prints, y.ensures.room);
    }

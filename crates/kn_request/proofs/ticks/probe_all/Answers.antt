use Rattle.std.proofs.Common.{◌∙◌, arith}
use Rattle.kn_request.proofs.Later.{looks_after, cell_is}
use Rattle.kn_request.proofs.TickFacts.{none_before, probing_none, probing_more, probing_look}
use Rattle.kn_request.proofs.ticks.probe_all.Goals as goal

pub loop-init : goal.loop-init
loop-init g c = record { cell = c.requires.cell; probing = probing_none c.args.now c.args.pass.now (g.L.PodLink.told c.args.keeper.now); low = omega arith; faults = omega arith }

pub returns-in-Done-clause-looks : goal.returns-in-Done-clause-looks
returns-in-Done-clause-looks g c = looks_after c.args.pass.now c.loop.pass c.probe_next.new.pass c.loop.invariant.probing.later c.probe_next.ensures.looks

pub returns-in-Done-clause-all : goal.returns-in-Done-clause-all
returns-in-Done-clause-all g c =
    let told = g.L.PodLink.told in
    let n = c.in-Done.ensures.next in
    record {
      to = c.loop.from;
      done = probing_look c.server_laws.ensures.request c.server_laws.ensures.pods c.args.now c.loop.from c.loop.full c.args.pass.now c.loop.pass c.probe_next.new.pass (told c.args.keeper.now) (told c.loop.keeper) (told c.probe_next.new.keeper) c.loop.invariant.probing c.probe_next.ensures.looks n.0 n.1;
      end = none_before c.loop.from c.args.pass.now c.loop.pass c.probe_next.new.pass c.loop.invariant.probing.later n.2;
    }

pub loop-preserved : goal.loop-preserved
loop-preserved g c =
    let told = g.L.PodLink.told in
    let n = c.in-One.ensures.next in
    let low = n.0 in
    let m = probing_more c.server_laws.ensures.request c.server_laws.ensures.pods c.args.now c.loop.from c.in-One.pod c.loop.full c.in-One.none c.args.pass.now c.loop.pass c.probe_next.new.pass (told c.args.keeper.now) (told c.loop.keeper) (told c.probe_next.new.keeper)
    c.loop.invariant.probing c.probe_next.ensures.looks n.1 in
    record {
      cell = cell_is c.loop.pass c.probe_next.new.pass c.probe_next.ensures.looks ∙ c.loop.invariant.cell;
      probing = rw c.either-full.ensures m;
      low = omega arith;
      faults = let a = c.loop.invariant.faults in let b = c.probe_next.ensures.never_falls in omega (arith, a, b);
    }

use Rattle.std.proofs.Common.{◌∙◌, arith}
use Rattle.kn_request.proofs.Later.{cell_is}
use Rattle.kn_request.proofs.TurnFacts.{first_turn, next_turn}
use Rattle.kn_request.proofs.TickTimes.{apart_of}
use Rattle.kn_request.proofs.ticks.ticker.Goals as goal

pub loop-init : goal.loop-init
loop-init g c =
    let told = g.L.PodLink.told in
    let x = c.tick_turn-turn in
    record {
      cell = cell_is c.args.pass.now x.new.pass x.ensures.turn.later ∙ c.requires.cell;
      faults = x.ensures.never_falls;
      turns = first_turn (g.K.Clock.reading c.args.clock.now) c.args.start c.now_ms-now.result x.result c.args.pass.now x.new.pass (told c.args.keeper.now) (told x.new.keeper) c.now_ms-now.ensures x.ensures.turn;
    }

pub loop-preserved : goal.loop-preserved
loop-preserved g c =
    let told = g.L.PodLink.told in
    let x = c.tick_turn-turn-in-loop in
    record {
      cell = cell_is c.loop.pass x.new.pass x.ensures.turn.later ∙ c.loop.invariant.cell;
      faults = let a = c.loop.invariant.faults in let b = x.ensures.never_falls in omega (arith, a, b);
      turns = next_turn (g.K.Clock.reading c.args.clock.now) c.args.start c.loop.last c.now_ms-now-in-loop.result x.result c.args.pass.now c.loop.pass x.new.pass (told c.args.keeper.now) (told c.loop.keeper) (told x.new.keeper) c.loop.invariant.turns c.now_ms-now-in-loop.ensures x.ensures.turn;
    }

pub returns-then-is_zero-clause-apart : goal.returns-then-is_zero-clause-apart
returns-then-is_zero-clause-apart g c =
    let told = g.L.PodLink.told in
    apart_of (g.K.Clock.reading c.args.clock.now) c.args.start c.loop.last c.args.pass.now c.loop.pass (told c.args.keeper.now) (told c.loop.keeper) c.loop.invariant.turns

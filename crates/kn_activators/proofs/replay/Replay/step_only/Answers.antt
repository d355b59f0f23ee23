-- The group's step, in the words of what it stands for.
use Rattle.std.proofs.Common.{refl}
use Rattle.kn_activators.proofs.Standings.{can_come, grows_one, low_of, same_parts, steps_only}
use Rattle.kn_activators.proofs.replay.Replay.step_only.Goals as goal

pub take-requires-clause-can : goal.take-requires-clause-can
take-requires-clause-can c =
    let can = rw (← c.self.view_is) at c.requires.can in
    can_come c.self.inside.setup c.self.inside.group c.args.i c.args.e.now c.self.invariant.of can.one can.order can.times can.few

pub returns-clause-steps : goal.returns-clause-steps
returns-clause-steps c = rw (← c.self.view_is)
    (let can = rw (← c.self.view_is) at c.requires.can in
    steps_only _ _ c.args.i c.args.e.now c.self.invariant.of can c.take.ensures.steps c.take.ensures.keeps refl refl refl)

pub returns-clause-load : goal.returns-clause-load
returns-clause-load c = rw (← c.self.view_is)
    (let can = rw (← c.self.view_is) at c.requires.can in
    let low = low_of c.self.inside.setup c.self.inside.group c.args.i c.self.invariant.of can.one in
    grows_one c.self.inside.group c.take.new.self c.args.i c.args.e.now.time low (same_parts c.self.inside.group c.take.new.self c.take.ensures.keeps.same.specs) c.take.ensures.steps.counts c.take.ensures.unset)

pub returns-clause-calm : goal.returns-clause-calm
returns-clause-calm c = rw (← c.self.view_is) c.take.ensures.calm

-- The due change, in the words of what the group stands for.
use Rattle.std.proofs.Common.{refl}
use Rattle.kn_slices.specs.Traces.{made_at}
use Rattle.kn_activators.proofs.Standings.{can_make, steps_only}
use Rattle.kn_activators.proofs.replay.Replay.change_only.Goals as goal

pub change-requires-clause-can : goal.change-requires-clause-can
change-requires-clause-can c =
    let can = rw (← c.self.view_is) at c.requires.can in
    let due = rw (← c.self.view_is) at c.requires.due in
    can_make c.self.inside.group c.args.change.now c.args.time due can.order can.times can.few

pub returns-clause-steps : goal.returns-clause-steps
returns-clause-steps c = rw (← c.self.view_is)
    (let can = rw (← c.self.view_is) at c.requires.can in
    let due = rw (← c.self.view_is) at c.requires.due in
    steps_only _ _ c.args.change.now.activator (made_at c.args.time c.args.change.now) c.self.invariant.of can
    (c.change.ensures.makes c.args.change.now due) c.change.ensures.keeps refl refl refl)

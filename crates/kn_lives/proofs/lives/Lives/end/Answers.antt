use Rattle.std.proofs.Common.{refl}
use Rattle.kn_lives.proofs.Pairs.{nobody_gone}
use Rattle.kn_lives.proofs.Marks.{fewer_there, forgotten_there, nobody_there}
use Rattle.kn_lives.proofs.lives.Lives.end.Goals as goal

pub returns-in-Some-clause-gone : goal.returns-in-Some-clause-gone
returns-in-Some-clause-gone c q =
    forgotten_there c.args.r c.self.inside.slots.items c.deref.result.now c.args.self.now c.self.view_is c.deref.ensures.value c.self.invariant.order c.in-Some.place c.in-Some.ensures _ refl q

pub returns-in-Some-clause-fewer : goal.returns-in-Some-clause-fewer
returns-in-Some-clause-fewer c known =
    fewer_there c.args.r c.self.inside.slots.items c.deref.result.now c.args.self.now c.self.view_is c.deref.ensures.value c.self.invariant.order c.in-Some.place c.in-Some.ensures _ refl

pub returns-in_default-clause-gone : goal.returns-in_default-clause-gone
returns-in_default-clause-gone c =
    nobody_gone c.args.r c.args.self.now (nobody_there c.args.r c.self.inside.slots.items c.deref.result.now c.args.self.now c.self.view_is c.deref.ensures.value c.in_default.ensures)

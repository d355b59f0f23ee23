use Rattle.kn_lives.proofs.Marks.{found_there}
use Rattle.kn_lives.proofs.lives.Lives.get.Goals as goal

pub returns-in-Some : goal.returns-in-Some
returns-in-Some c =
    found_there c.args.r c.self.inside.slots.items c.deref.result.now c.args.self.now c.self.view_is c.deref.ensures.value c.self.invariant.order c.in-Some.place c.in-Some.ensures c.index.result.now c.index.ensures

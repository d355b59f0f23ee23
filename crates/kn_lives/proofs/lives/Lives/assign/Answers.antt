use Rattle.std.proofs.Common.{Some, refl}
use Rattle.kn_lives.proofs.Marks.{set_there}
use Rattle.kn_lives.proofs.lives.Lives.assign.Goals as goal

pub returns-in-Some : goal.returns-in-Some
returns-in-Some c x known =
    set_there c.args.r c.self.inside.slots.items c.deref.result.now c.args.self.now c.self.view_is c.deref.ensures.value c.self.invariant.order c.in-Some.place c.in-Some.ensures
    c.index_mut.result.now _ x (λ y. record y { begun = Some c.args.time; pod = Some c.args.p }) c.index_mut.ensures.value known refl refl refl

use Rattle.std.proofs.Common.{sym, subst}
use Rattle.kn_lives.specs.Slots.{AreAscending}
use Rattle.kn_lives.proofs.Marks.{nobody_there, none_found}
use Rattle.kn_lives.proofs.Search.{none_above}
use Rattle.kn_lives.proofs.lives.Lives.greatest.Goals as goal

pub returns-in-Some : goal.returns-in-Some
returns-in-Some c q outside =
    let items = c.deref.result.now in
    let pairs = subst AreAscending (sym c.deref.ensures.value) c.self.invariant.order in
    nobody_there q c.self.inside.slots.items items c.args.self.now c.self.view_is c.deref.ensures.value
    (none_found q items (none_above items c.in-Some.slot.now q c.in-Some.ensures.value pairs outside))

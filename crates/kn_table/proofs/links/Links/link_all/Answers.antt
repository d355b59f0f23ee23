-- One slot after the other comes into its chain.
use Rattle.std.proofs.Common.{List, subst, take_all}
use Rattle.kn_table.specs.declared.slot.Slot.{Slot}
use Rattle.kn_table.specs.Links.{AreLinked}
use Rattle.kn_table.proofs.Chains.{comes_next, linked_none}
use Rattle.kn_table.proofs.links.Links.link_all.Goals as goal

pub loop-at-init : goal.loop-at-init
loop-at-init c = linked_none _ c.no_places-self-inside.ensures

pub loop-at-preserved : goal.loop-at-preserved
loop-at-preserved c = c.link_at.ensures _ _ c.loop-at.invariant (comes_next c.loop-at.at c.args.slots.now _ c.loop-at-test.true)

pub returns : goal.returns
returns c = subst (λ (l : List Slot). AreLinked c.loop-at.self l) (take_all c.loop-at.at c.args.slots.now c.loop-at-test.false) c.loop-at.invariant

use Rattle.std.proofs.Common.{◌≡◌, All, length, rules}
use Rattle.kn_session.specs.Wide.{HasOfEach}
use Rattle.kn_many.proofs.WideFacts.{offered}
use Rattle.kn_many.proofs.wide_opening.MemWideOpenerWideOpener.open.Goals as goal

pub returns-clause-opened : goal.returns-clause-opened
returns-clause-opened g c =
    let slots : c.swap.new.y.items ≡ c.self.inside.slots.items = search rules in
    let keepers : c.swap-2.new.y.items ≡ c.self.inside.keepers.items = search rules in
    let many : length c.self.inside.slots.items ≡ c.args.plan.now.slots = search rules in
    let kept : length c.self.inside.keepers.items ≡ length c.args.plan.now.pods = search rules in
    let each : All (HasOfEach (length c.args.plan.now.pods)) c.self.inside.slots.items = search rules in
    offered _ _ c.args.plan.now c.self.inside.slots.items c.swap.new.y.items c.self.inside.keepers.items c.swap-2.new.y.items c.self.invariant slots keepers many kept each

use Rattle.std.proofs.Common.{◌≡◌, ◌++◌, [], ◌∷◌, rules}
use Rattle.kn_many.proofs.ManyFacts.{opened_more}
use Rattle.kn_many.proofs.many.open_revisions.Goals as goal

pub loop-setup-preserved : goal.loop-setup-preserved
loop-setup-preserved c =
    let items : c.push.new.self.items ≡ c.loop-setup.revisions.items ++ c.in_ok-revision.revision ∷ [] = search rules in
    let new = c.in_ok-revision.ensures in
    rw items (record {
      many = search rules;
      opened = opened_more c.args.setups.now c.args.start c.loop-setup.revisions.items c.loop-setup.setup-index c.setup-item.result c.in_ok-revision.revision c.loop-setup.invariant.many c.loop-setup-test.true c.setup-item.is
          (record { stands = new.stands; spec_is = new.spec; clock = new.clock; events = new.events; live = new.live }) c.loop-setup.invariant.opened;
    })

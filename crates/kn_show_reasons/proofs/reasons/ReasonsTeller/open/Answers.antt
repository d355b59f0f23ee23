use Rattle.std.proofs.Common.{ap, sym, subst}
use Rattle.kn_teller.specs.Run.{trace}
use Rattle.kn_show_reasons.specs.State.{AreReasonsOf, ReasonsState}
use Rattle.kn_show_reasons.proofs.Opened.{opened}
use Rattle.kn_show_reasons.proofs.reasons.ReasonsTeller.open.Goals as goal

pub returns-clause-knows : goal.returns-clause-knows
returns-clause-knows g c r u o =
    let n = c.count_ready-self-inside.result in
    let all =
    opened r c.args.self.now c.args.revision.now c.args.log.now c.self.inside.seen c.open.new.self n c.lives_laws.ensures.opened (ap (λ (x : ReasonsState). x.seen) c.self.view_is)
    c.open.ensures.sees c.open.ensures.lives (c.count_ready-self-inside.ensures (trace r) o.stands) u o in
    subst (λ (x : ReasonsState). AreReasonsOf (record x { seen = record c.open.new.self { ready = n } }) r) (sym c.self.view_is) all

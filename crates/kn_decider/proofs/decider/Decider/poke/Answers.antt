use Rattle.std.proofs.Common.{ap, ◌∙◌, subst}
use Rattle.kn_scaling.specs.Decide.{Ruling}
use Rattle.kn_decider.specs.Decider.{IsDeciderOf, with_ruling}
use Rattle.kn_decider.proofs.Rulings.{wake_at}
use Rattle.kn_decider.proofs.decider.Decider.poke.Goals as goal

pub returns-clause-decision : goal.returns-clause-decision
returns-clause-decision c = λ past until stands.
    c.decide.ensures.decision past until stands ∙ ap (λ (r : Ruling). r.decision) (wake_at c.args.self.now.spec past c.args.time c.args.ready _ _ c.one_request.ensures.value c.one_request-2.ensures.value)

pub returns-clause-stands : goal.returns-clause-stands
returns-clause-stands c = λ past until stands.
    subst (λ (r : Ruling). IsDeciderOf c.decide.new.self (with_ruling c.args.time r past) until) (wake_at c.args.self.now.spec past c.args.time c.args.ready _ _ c.one_request.ensures.value c.one_request-2.ensures.value)
    (c.decide.ensures.stands past until stands)

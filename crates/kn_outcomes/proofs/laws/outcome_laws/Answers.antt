-- The law, of each session.
use Rattle.kn_outcomes.proofs.Over.{lasting_over, rounds_over}
use Rattle.kn_outcomes.proofs.laws.outcome_laws.Goals as goal

pub returns : goal.returns
returns g c =
    let told = c.request_laws.ensures.told in
    let by_act = c.request_laws.ensures.by_act in
    record { lasting = lasting_over c.fact_laws.ensures told by_act _ _; rounds = rounds_over c.fact_laws.ensures told by_act _ }

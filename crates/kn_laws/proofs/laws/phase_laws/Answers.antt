use Rattle.kn_laws.proofs.Phases.{opening-wants, react-wants, wants_trace}
use Rattle.kn_laws.proofs.laws.phase_laws.Goals as goal

pub returns : goal.returns
returns c = record { opening = opening-wants c.fact_laws.ensures; step = react-wants c.fact_laws.ensures; trace = wants_trace c.fact_laws.ensures }

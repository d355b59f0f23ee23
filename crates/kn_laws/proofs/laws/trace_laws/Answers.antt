use Rattle.kn_laws.proofs.Added.{trace_of-append}
use Rattle.kn_laws.proofs.Lawful.{lawful_trace}
use Rattle.kn_laws.proofs.Settles.{settled_trace}
use Rattle.kn_laws.proofs.Beside.{inert_trace, leaving_trace}
use Rattle.kn_laws.proofs.Refusals.{answers_trace}
use Rattle.kn_laws.proofs.laws.trace_laws.Goals as goal

pub returns : goal.returns
returns c = record { made = c.fact_laws.ensures.proper.made_trace; lawful = lawful_trace c.fact_laws.ensures; settled = settled_trace c.fact_laws.ensures; inert = inert_trace c.fact_laws.ensures; beside = leaving_trace c.fact_laws.ensures; answers = answers_trace c.fact_laws.ensures; append = trace_of-append }

use Rattle.kn_laws.proofs.Lawful.{made_lawful}
use Rattle.kn_laws.proofs.Settles.{opening-settled, react-settles}
use Rattle.kn_laws.proofs.Inert.{refusals_inert}
use Rattle.kn_laws.proofs.Beside.{refusals_leave}
use Rattle.kn_laws.proofs.Refusals.{refuses_by_answer}
use Rattle.kn_laws.proofs.laws.step_laws.Goals as goal

pub returns : goal.returns
returns c = record {
  opening = c.fact_laws.ensures.proper.made_opening;
  opening_settled = opening-settled c.fact_laws.ensures;
  made = c.fact_laws.ensures.proper.made_react;
  lawful = made_lawful c.fact_laws.ensures;
  settled = react-settles c.fact_laws.ensures;
  inert = refusals_inert c.fact_laws.ensures;
  beside = refusals_leave c.fact_laws.ensures;
  answers = refuses_by_answer c.fact_laws.ensures;
}

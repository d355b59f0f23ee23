use Rattle.kn_laws.proofs.Histories.{history_answers, history_inert, history_lawful, history_loses, history_made, history_settled, history_times}
use Rattle.kn_laws.proofs.History.{history_opening, history_step}
use Rattle.kn_laws.proofs.laws.history_laws.Goals as goal

pub returns : goal.returns
returns c = record {
  opening = history_opening;
  step = history_step;
  made = history_made c.fact_laws.ensures;
  lawful = history_lawful c.fact_laws.ensures;
  settled = history_settled c.fact_laws.ensures;
  inert = history_inert c.fact_laws.ensures;
  answers = history_answers c.fact_laws.ensures;
  losses = history_loses c.fact_laws.ensures;
  times = history_times;
}

use Rattle.kn_sizes.proofs.Course.{runs_until, unfinished_on}
use Rattle.kn_sizes.proofs.Finishing.{finish_ends}
use Rattle.kn_sizes.proofs.Lasts.{cancelled_out}
use Rattle.kn_sizes.proofs.Stands.{told_by_stand}
use Rattle.kn_sizes.proofs.Telling.{arrival_is_told}
use Rattle.kn_sizes.proofs.server.request_laws.Goals as goal

pub returns : goal.returns
returns c = record {
  told = arrival_is_told c.fact_laws.ensures c.part_laws.ensures;
  stands = told_by_stand c.fact_laws.ensures c.part_laws.ensures;
  homes = λ s d p r made. (c.fact_laws.ensures.proper.made_kept s d made).homes p r;
  cancelled = λ s d e r made. cancelled_out c.fact_laws.ensures c.part_laws.ensures s d e r;
  unfinished = unfinished_on c.fact_laws.ensures c.part_laws.ensures;
  runs = runs_until c.fact_laws.ensures c.part_laws.ensures;
  ends = finish_ends c.fact_laws.ensures c.part_laws.ensures;
  by_act = c.part_laws.ensures.rows.are_by_act;
}

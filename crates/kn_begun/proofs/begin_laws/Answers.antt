use Rattle.kn_begun.proofs.Few.{few_began, waits-nil, waits-push}
use Rattle.kn_begun.proofs.InTime.{begins_in_time}
use Rattle.kn_begun.proofs.begin_laws.Goals as goal

pub returns : goal.returns
returns c = record {
  in_time = begins_in_time c.fact_laws.ensures c.part_laws.ensures;
  few = few_began c.row_laws.ensures.append c.fact_laws.ensures;
  first = waits-nil;
  append = waits-push c.row_laws.ensures.append;
}

use Rattle.kn_begun.proofs.Sums.{sums_few}
use Rattle.kn_begun.proofs.sum_laws.Goals as goal

pub returns : goal.returns
returns c s start to es order =
    sums_few c.row_laws.ensures.append c.fact_laws.ensures c.part_laws.ensures c.trace_laws.ensures.append s start to es (λ more. c.size_laws.ensures.trace_live s start more) order

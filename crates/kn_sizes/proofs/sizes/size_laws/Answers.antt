use Rattle.kn_trace.specs.Events.{trace_of}
use Rattle.kn_sizes.proofs.Counts.{few_live, few_standing}
use Rattle.kn_sizes.proofs.Bounds.{few_draining, few_pods, few_pods_before}
use Rattle.kn_sizes.proofs.sizes.size_laws.Goals as goal

pub returns : goal.returns
returns c = record {
  live = few_live c.fact_laws.ensures;
  standing = λ s d ranges made. few_standing c.fact_laws.ensures s d made ranges;
  wanted = λ s d ranges made. (c.fact_laws.ensures.proper.made_kept s d made).wants ranges;
  pods = few_pods c.fact_laws.ensures c.part_laws.ensures;
  draining = few_draining c.fact_laws.ensures c.part_laws.ensures;
  pods_before = few_pods_before c.fact_laws.ensures c.part_laws.ensures;
  trace_live = λ s start es. few_live c.fact_laws.ensures s (trace_of s start es) (c.fact_laws.ensures.proper.made_trace s start es);
  trace_pods = λ s start es ranges. few_pods c.fact_laws.ensures c.part_laws.ensures s (trace_of s start es) ranges (c.fact_laws.ensures.proper.made_trace s start es) (c.trace_laws.ensures.settled s start es);
}

use Rattle.kn_trace.specs.Events.{trace_of}
use Rattle.kn_sizes.proofs.Bounds.{few_before, few_entries, few_expiries, few_settling, fewer_entries}
use Rattle.kn_sizes.proofs.sizes.entry_laws.Goals as goal

pub returns : goal.returns
returns c = record {
  entries = few_entries c.fact_laws.ensures c.part_laws.ensures;
  fewer = fewer_entries c.fact_laws.ensures c.part_laws.ensures;
  expiries = λ s d t made. few_expiries c.fact_laws.ensures c.part_laws.ensures s t d made;
  before = few_before c.fact_laws.ensures c.part_laws.ensures;
  settling = few_settling c.fact_laws.ensures c.part_laws.ensures;
  trace = λ s start es e ranges. few_entries c.fact_laws.ensures c.part_laws.ensures s (trace_of s start es) e ranges (c.fact_laws.ensures.proper.made_trace s start es) (c.trace_laws.ensures.settled s start es);
}

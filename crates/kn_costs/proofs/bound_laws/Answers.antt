use Rattle.kn_trace.specs.Events.{trace_of}
use Rattle.kn_record.specs.Admission.{admission}
use Rattle.kn_costs.proofs.Bounds.{all_bounded, pods_distinct}
use Rattle.kn_costs.proofs.bound_laws.Goals as goal

pub returns : goal.returns
returns c r ranges order =
    all_bounded r
    (λ es. record {
      views =
          let made = c.fact_laws.ensures.proper.made_trace r.spec r.start es in
          c.append_laws.ensures.views r.spec (admission (trace_of r.spec r.start es)) (trace_of r.spec r.start es) (c.append_laws.ensures.stands r.spec (trace_of r.spec r.start es) made);
      distinct = pods_distinct c.fact_laws.ensures r.spec r.start es;
      pods = c.size_laws.ensures.trace_pods r.spec r.start es ranges;
      live = c.size_laws.ensures.trace_live r.spec r.start es;
    })
    order

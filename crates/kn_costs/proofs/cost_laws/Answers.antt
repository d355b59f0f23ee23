use Rattle.std.proofs.Common.{[], refl, arith, List}
use Rattle.kn_event.specs.declared.event.Event.{Event}
use Rattle.kn_throttle.specs.Gauges.{count_running}
use Rattle.kn_trace.specs.Events.{trace_of}
use Rattle.kn_trace.specs.Rows.{begun_by, created_by, ended_by, gone_by, readied_by}
use Rattle.kn_trace.specs.Scale.{count_ready}
use Rattle.kn_record.specs.Admission.{admission}
use Rattle.kn_record.specs.Order.{AreTimesInOrder}
use Rattle.kn_teller.specs.Run.{now_of}
use Rattle.kn_costs.specs.Gauges.{costs, count_pods}
use Rattle.kn_costs.specs.Sums.{unready_by}
use Rattle.kn_costs.proofs.Bounds.{pods_distinct}
use Rattle.kn_costs.proofs.Lasting.{summed}
use Rattle.kn_costs.proofs.Once.{fresh_begun, fresh_created, fresh_readied}
use Rattle.kn_costs.proofs.Open.{pods_open, ready_open, running_open}
use Rattle.kn_costs.proofs.cost_laws.Goals as goal

pub returns : goal.returns
unfolding costs
returns c r order =
    let facts = c.fact_laws.ensures in
    let at = c.part_laws.ensures.rows.react-at in
    let append = c.trace_laws.ensures.append in
    let made = λ (es : List Event). c.trace_laws.ensures.made r.spec r.start es in
    let begins : AreTimesInOrder r.start (trace_of r.spec r.start []) r.start =
    c.history_laws.ensures.times r.spec r.start r.start 0 (trace_of r.spec r.start []) ∣ record { events = []; order = omega arith; many = refl; trace = refl } ∣₁ in
    record {
      pods = summed facts at append created_by gone_by (fresh_created facts) r.spec count_pods r.start (λ es. pods_open (trace_of r.spec r.start es)) r.events (now_of r) begins order;
      ready = summed facts at append readied_by unready_by (fresh_readied facts) r.spec count_ready r.start (λ es. ready_open facts r.spec (trace_of r.spec r.start es) (made es)) r.events (now_of r) begins order;
      running =
          summed facts at append begun_by ended_by (fresh_begun facts) r.spec count_running r.start
          (λ es.
          let t = trace_of r.spec r.start es in
          let stands = c.append_laws.ensures.stands r.spec t (made es) in
          running_open facts r.spec (admission t) t (made es) (c.append_laws.ensures.views r.spec (admission t) t stands) (c.order_laws.ensures.order r.spec (admission t) t (made es) stands) (pods_distinct facts r.spec r.start es))
          r.events (now_of r) begins order;
    }

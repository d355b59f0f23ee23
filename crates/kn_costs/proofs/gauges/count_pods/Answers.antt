use Rattle.std.proofs.Common.{arith}
use Rattle.kn_teller.specs.Run.{trace}
use Rattle.kn_costs.proofs.Pods.{pods_in_three, unstopped}
use Rattle.kn_costs.proofs.gauges.count_pods.Goals as goal

pub returns : goal.returns
returns c r ranges stands =
    unstopped _ _ _ _ c.saturating_add.result _
    (pods_in_three r.spec _ (trace r) (c.append_laws.ensures.views r.spec _ (trace r) stands.parts.admission))
    (c.size_laws.ensures.trace_pods r.spec r.start r.events ranges)
    (omega (arith, c.saturating_add.ensures, c.count_starting.ensures (trace r) stands, c.count_ready.ensures (trace r) stands))
    (omega (arith, c.saturating_add-2.ensures, c.count_draining.ensures (trace r) stands))

use Rattle.std.proofs.Common.{ap, ◌∙◌}
use Rattle.kn_event.specs.declared.revision.Spec.{Spec}
use Rattle.kn_stats.specs.Totals.{opened_totals}
use Rattle.kn_scaler.proofs.Openings.{opening-stands}
use Rattle.kn_scaler.proofs.scaler.Scaler.new.Goals as goal

pub returns-clause-stands : goal.returns-clause-stands
returns-clause-stands c =
    opening-stands c.trace_facts.ensures c.args.spec.now c.args.start (record { stats = c.new-stats.result; decider = c.in_ok-decider.decider })
    (record {
      kind = c.requires;
      state = c.new-stats.ensures.state ∙ ap (λ (z : Spec). opened_totals z.metric c.args.start) c.spec.view_is;
      stats = c.new-stats.ensures.stands;
      spec = c.in_ok-decider.ensures.spec;
      decider = c.in_ok-decider.ensures.stands;
    })

use Rattle.std.proofs.Common.{sym, ap, ◌∙◌, subst}
use Rattle.kn_event.specs.declared.revision.Spec.{Spec}
use Rattle.kn_scaling.specs.Average.{second_of}
use Rattle.kn_trace.specs.Scale.{past_of}
use Rattle.kn_decider.specs.Decider.{DeciderState, IsDeciderOf, with_ready}
use Rattle.kn_scaler.specs.Stands.{ScalerState}
use Rattle.kn_scaler.proofs.Rulings.{ready-stands}
use Rattle.kn_scaler.proofs.scaler.Scaler.pod_ready.Goals as goal

pub returns-clause-stands : goal.returns-clause-stands
returns-clause-stands c =
    rw (← c.self.view_is)
    (λ s b p many stands.
    ready-stands c.trace_facts.ensures s (record { stats = c.self.inside.stats; decider = c.self.inside.decider }) b stands c.args.time (c.requires.now ∙ ap (λ (z : ScalerState). z.stats.time) (sym c.self.view_is)) c.pod_ready.new.self
    (ap (λ (d : DeciderState). d.spec) c.pod_ready.ensures.kept) p c.args.ready many
    (subst (λ (z : Spec). IsDeciderOf c.pod_ready.new.self (with_ready z c.args.time c.args.ready (past_of s b)) (second_of c.self.inside.stats.time)) stands.spec
    (c.pod_ready.ensures.stands (past_of s b) (second_of c.self.inside.stats.time) stands.decider)))

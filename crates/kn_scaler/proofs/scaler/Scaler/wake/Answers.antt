use Rattle.std.proofs.Common.{◌++◌, sym, ap, ◌∙◌, subst}
use Rattle.kn_scaling.specs.Average.{second_of}
use Rattle.kn_scaling.specs.Decide.{Ruling}
use Rattle.kn_trace.specs.Scale.{past_of}
use Rattle.kn_decider.specs.Decider.{DeciderState}
use Rattle.kn_scaler.specs.Rows.{ruled_by, ruling_rows}
use Rattle.kn_scaler.specs.Stands.{ScalerState, IsScalerOfTrace}
use Rattle.kn_scaler.proofs.Rulings.{ruling-answer, ruling-stands, stands-phase, wake-at}
use Rattle.kn_scaler.proofs.scaler.Scaler.wake.Goals as goal
use Rattle.kn_scaling.specs.Decide as scaling

pub returns-clause-stands : goal.returns-clause-stands
returns-clause-stands c =
    rw (← c.self.view_is)
    (λ s b many stands.
    subst (λ (r : Ruling). IsScalerOfTrace s (record { stats = c.self.inside.stats; decider = c.poke-decision.new.self }) (b ++ ruling_rows c.args.time b r)) (wake-at s c.self.inside.decider b c.args.time c.args.ready stands.spec many)
    (ruling-stands c.trace_facts.ensures s (record { stats = c.self.inside.stats; decider = c.self.inside.decider }) b stands c.args.time (c.requires.now ∙ ap (λ (z : ScalerState). z.stats.time) (sym c.self.view_is)) c.poke-decision.new.self
    (ap (λ (d : DeciderState). d.spec) c.poke-decision.ensures.kept) (scaling.wake_decision_at c.self.inside.decider.spec (past_of s b) c.args.time c.args.ready)
    (c.poke-decision.ensures.stands (past_of s b) (second_of c.self.inside.stats.time) stands.decider)))

pub returns-clause-ruled : goal.returns-clause-ruled
returns-clause-ruled c =
    rw (← c.self.view_is)
    (λ s b many stands.
    let until = second_of c.self.inside.stats.time in
    ruling-answer s b c.poke-decision.new.self c.args.time until c.phase-phase.result c.mode-mode.result c.ruling_of.result c.poke-decision.result c.ruling_of.ensures
    (c.phase-phase.ensures.past (past_of s b) until stands.decider) (c.mode-mode.ensures.past (past_of s b) until stands.decider) (stands-phase s b _ stands.phase)
    (scaling.wake_decision_at c.self.inside.decider.spec (past_of s b) c.args.time c.args.ready)
    (c.poke-decision.ensures.decision (past_of s b) until stands.decider) (c.poke-decision.ensures.stands (past_of s b) until stands.decider)
    ∙ ap (ruled_by b) (wake-at s c.self.inside.decider b c.args.time c.args.ready stands.spec many))

use Rattle.std.proofs.Common.{◌++◌, sym, ap, ◌∙◌, subst, Option}
use Rattle.kn_scaling.specs.Average.{second_of}
use Rattle.kn_scaling.specs.Decide.{Ruling}
use Rattle.kn_trace.specs.Scale.{past_of}
use Rattle.kn_decider.specs.Decider.{DeciderState}
use Rattle.kn_scaler.specs.Rows.{ruled_by, tick_rulings}
use Rattle.kn_scaler.specs.Stands.{ScalerState, IsScalerOfTrace}
use Rattle.kn_scaler.proofs.Rulings.{le_same, no-answer, stands-phase, tick-answer, tick-at, tick-stands}
use Rattle.kn_scaler.proofs.scaler.Scaler.tick.Goals.{in-None, in-Some}
use Rattle.kn_scaler.proofs.scaler.Scaler.tick.Goals as goal
use Rattle.kn_scaling.specs.Decide as scaling
use Rattle.std.specs.Prelude.{option_map}

pub returns-clause-stands : goal.returns-clause-stands
returns-clause-stands c =
    rw (← c.self.view_is)
    (λ s b many stands.
    subst (λ (o : Option Ruling). IsScalerOfTrace s (record { stats = c.self.inside.stats; decider = c.tick.new.self }) (b ++ tick_rulings c.args.time b o)) (tick-at s c.self.inside.decider b c.args.time c.args.ready stands.spec many)
    (tick-stands c.trace_facts.ensures s (record { stats = c.self.inside.stats; decider = c.self.inside.decider }) b stands c.args.time (c.requires.now ∙ ap (λ (z : ScalerState). z.stats.time) (sym c.self.view_is)) c.tick.new.self
    (ap (λ (d : DeciderState). d.spec) c.tick.ensures.kept) (scaling.decision_at c.self.inside.decider.spec (past_of s b) c.args.time c.args.ready)
    (c.tick.ensures.stands (past_of s b) (second_of c.self.inside.stats.time) (le_same _ _ (c.requires.now ∙ ap (λ (z : ScalerState). z.stats.time) (sym c.self.view_is))) stands.decider)))

pub returns-clause-ruled : goal.returns-clause-ruled
returns-clause-ruled c =
    rw (← c.self.view_is)
    (λ s b many stands.
    let le = le_same _ _ (c.requires.now ∙ ap (λ (z : ScalerState). z.stats.time) (sym c.self.view_is)) in
    let until = second_of c.self.inside.stats.time in
    let made = c.tick.ensures.decision (past_of s b) until le stands.decider in
    let at = tick-at s c.self.inside.decider b c.args.time c.args.ready stands.spec many in
    elim c.match-tick.branch [
      | in-None w ↦ w.result-is ∙ no-answer b _ (sym w.in-None.is ∙ made) ∙ ap (λ (o : Option Ruling). option_map (ruled_by b) o) at
      | in-Some w ↦
          w.result-is
          ∙ tick-answer s b c.tick.new.self c.args.time until c.phase-phase.result c.mode-mode.result w.ruling_of.result w.in-Some.decision w.ruling_of.ensures
          (c.phase-phase.ensures.past (past_of s b) until stands.decider) (c.mode-mode.ensures.past (past_of s b) until stands.decider) (stands-phase s b _ stands.phase) _
          (sym w.in-Some.is ∙ made) (c.tick.ensures.stands (past_of s b) until le stands.decider)
          ∙ ap (λ (o : Option Ruling). option_map (ruled_by b) o) at
    ])

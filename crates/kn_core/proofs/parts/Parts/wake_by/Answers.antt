use Rattle.std.proofs.Common.{◌∙◌, sym, Some}
use Rattle.kn_event.specs.declared.entry.Row.TheVariants as row
use Rattle.kn_event.specs.declared.event.Act.TheVariants as act
use Rattle.kn_trace.specs.Events.{scaler_rows}
use Rattle.kn_core.proofs.Adding.{adds_none, adds_same, scales_none}
use Rattle.kn_core.proofs.After.{ready_same}
use Rattle.kn_core.proofs.Ruling.{admit_any, refused_none}
use Rattle.kn_core.proofs.parts.Parts.wake_by.Goals as goal

pub wake-requires-clause-some : goal.wake-requires-clause-some
wake-requires-clause-some c =
    ready_same (λ s d. scaler_rows s.kind s c.args.time d (act.Arrive 0) c.args.own) (λ s d. scaler_rows s.kind s c.args.time d (act.Arrive 0) (Some (row.Admit 0 0))) c.args.self.now
    (λ s d. admit_any s.kind s c.args.time d c.args.own (sym c.is_admitted.ensures ∙ c.if-is_admitted.true)) c.requires.some

pub returns-then-is_admitted-clause-adds : goal.returns-then-is_admitted-clause-adds
returns-then-is_admitted-clause-adds c =
    adds_same _ _ c.args.self.now _ c.args.log.now _
    (λ s d h. admit_any s.kind s c.args.time d c.args.own (sym c.is_admitted.ensures ∙ c.if-is_admitted.true)) c.wake.ensures.adds

pub returns-else-is_admitted-clause-adds : goal.returns-else-is_admitted-clause-adds
returns-else-is_admitted-clause-adds c = adds_none _ _ c.args.self.now c.args.log.now (λ s d h. refused_none s.kind s c.args.time d c.args.own (sym c.is_admitted.ensures ∙ c.if-is_admitted.false))

pub returns-else-is_admitted-clause-scales : goal.returns-else-is_admitted-clause-scales
returns-else-is_admitted-clause-scales c = scales_none c.args.time 503 c.args.self.now c.args.log.now

use Rattle.std.proofs.Common.{ap, None}
use Rattle.kn_event.specs.declared.event.Act.{Act}
use Rattle.kn_event.specs.declared.event.Act.TheVariants as act
use Rattle.kn_trace.specs.Events.{scaler_rows}
use Rattle.kn_core.proofs.Adding.{adds_none, adds_same, scales_none}
use Rattle.kn_core.proofs.After.{ready_same}
use Rattle.kn_core.proofs.Ruling.{no_tick}
use Rattle.kn_core.proofs.parts.Parts.tick_by.Goals as goal

pub tick-requires-clause-some : goal.tick-requires-clause-some
tick-requires-clause-some c =
    ready_same (λ s d. scaler_rows s.kind s c.args.time d c.args.act None) (λ s d. scaler_rows s.kind s c.args.time d act.Tick None) c.args.self.now
    (λ s d. ap (λ (a : Act). scaler_rows s.kind s c.args.time d a None) c.in-Tick.is) c.requires.some

pub returns-in-Tick-clause-adds : goal.returns-in-Tick-clause-adds
returns-in-Tick-clause-adds c =
    adds_same _ _ c.args.self.now _ c.args.log.now _
    (λ s d h. ap (λ (a : Act). scaler_rows s.kind s c.args.time d a None) c.in-Tick.is) c.tick.ensures.adds

pub returns-in_default-clause-adds : goal.returns-in_default-clause-adds
returns-in_default-clause-adds c = adds_none _ _ c.args.self.now c.args.log.now (λ s d h. no_tick s.kind s c.args.time d c.args.act c.in_default.not-Tick)

pub returns-in_default-clause-scales : goal.returns-in_default-clause-scales
returns-in_default-clause-scales c = scales_none c.args.time 503 c.args.self.now c.args.log.now

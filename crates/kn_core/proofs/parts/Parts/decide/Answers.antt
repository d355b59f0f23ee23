use Rattle.std.proofs.Common.{ap, None, Option}
use Rattle.kn_event.specs.declared.entry.Row.{Row}
use Rattle.kn_event.specs.declared.event.Act.TheVariants as act
use Rattle.kn_trace.specs.Events.{scaler_rows}
use Rattle.kn_core.proofs.Adding.{adds_same}
use Rattle.kn_core.proofs.After.{ready_same}
use Rattle.kn_core.proofs.Ruling.{own_adds}
use Rattle.kn_core.proofs.parts.Parts.decide.Goals as goal

pub tick_by-requires-clause-some : goal.tick_by-requires-clause-some
tick_by-requires-clause-some c =
    ready_same (λ s d. scaler_rows s.kind s c.args.time d c.args.act c.args.own) (λ s d. scaler_rows s.kind s c.args.time d c.args.act None) c.args.self.now
    (λ s d. ap (λ (o : Option Row). scaler_rows s.kind s c.args.time d c.args.act o) c.in-None.is) c.requires.some

pub wake_by-requires-clause-some : goal.wake_by-requires-clause-some
wake_by-requires-clause-some c =
    ready_same (λ s d. scaler_rows s.kind s c.args.time d c.args.act c.args.own) (λ s d. scaler_rows s.kind s c.args.time d (act.Arrive 0) c.args.own) c.args.self.now
    (λ s d. own_adds s.kind s c.args.time d c.args.act c.args.own _ c.in-Some.is c.requires.own) c.requires.some

pub returns-in-None-clause-adds : goal.returns-in-None-clause-adds
returns-in-None-clause-adds c =
    adds_same _ _ c.args.self.now _ c.args.log.now _
    (λ s d h. ap (λ (o : Option Row). scaler_rows s.kind s c.args.time d c.args.act o) c.in-None.is) c.tick_by.ensures.adds

pub returns-in-Some-clause-adds : goal.returns-in-Some-clause-adds
returns-in-Some-clause-adds c =
    adds_same _ _ c.args.self.now _ c.args.log.now _
    (λ s d h. own_adds s.kind s c.args.time d c.args.act c.args.own _ c.in-Some.is c.requires.own) c.wake_by.ensures.adds

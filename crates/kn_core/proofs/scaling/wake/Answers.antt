use Rattle.std.proofs.Common.{Some}
use Rattle.kn_event.specs.declared.entry.Row.TheVariants as row
use Rattle.kn_event.specs.declared.event.Act.TheVariants as act
use Rattle.kn_core.proofs.Ruling.{scaler_none}
use Rattle.kn_core.proofs.Scalers.{woken_none, woken_some}
use Rattle.kn_core.proofs.scaling.wake.Goals as goal

pub returns-in-None-clause-none : goal.returns-in-None-clause-none
returns-in-None-clause-none c = rw c.in-None.is (λ s d tag r g h. scaler_none s.kind s c.args.time d (act.Arrive tag) (Some (row.Admit r g)) h.fixed)

pub returns-in-Some-clause-none : goal.returns-in-Some-clause-none
returns-in-Some-clause-none c = rw c.in-Some.is (woken_none c.args.time _ c.wake_scaler.result c.wake_scaler.ensures.none)

pub returns-in-Some-clause-some : goal.returns-in-Some-clause-some
returns-in-Some-clause-some c = rw c.in-Some.is (woken_some c.args.time c.args.ready _ c.wake_scaler.new.scaler c.wake_scaler.result c.wake_scaler.ensures.some)

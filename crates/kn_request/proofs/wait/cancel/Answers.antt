use Rattle.std.proofs.Common.{◌≡◌, arith, inl, inr, refl}
use Rattle.kn_event.specs.declared.event.Act.TheVariants as act
use Rattle.kn_request.proofs.Later.{recorded_of, ok_cancelled, full_cancelled}
use Rattle.kn_request.proofs.wait.cancel.Goals as goal

pub returns-in-Ok-clause-cancels : goal.returns-in-Ok-clause-cancels
returns-in-Ok-clause-cancels g c =
    let x = c.in-Ok.ensures.ok in
    inr (recorded_of (λ t. t ≡ c.args.now) c.args.pass.now c.on.new.pass (act.Cancel c.args.r) c.args.now c.in-Ok.field-0 c.on.ensures.looks x refl, inl (omega arith), x.mine)

pub returns-in-Ok-clause-left : goal.returns-in-Ok-clause-left
returns-in-Ok-clause-left g c = ok_cancelled c.server_laws.ensures.request c.args.r c.args.now c.in-Ok.field-0 c.args.pass.now c.on.new.pass c.on.ensures.looks c.in-Ok.ensures.ok

pub returns-in-Err-clause-left : goal.returns-in-Err-clause-left
returns-in-Err-clause-left g c = full_cancelled c.server_laws.ensures.request c.args.r c.in-Err.field-0 c.args.pass.now c.on.new.pass c.on.ensures.looks c.in-Err.ensures.full

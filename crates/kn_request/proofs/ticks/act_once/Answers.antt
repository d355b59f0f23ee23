use Rattle.std.proofs.Common.{ap}
use Rattle.kn_cell.specs.declared.past.Past.{Past}
use Rattle.kn_request.proofs.TickFacts.{is_at, was_full}
use Rattle.kn_request.proofs.ticks.act_once.Goals as goal

pub returns-in-Ok-clause-once : goal.returns-in-Ok-clause-once
returns-in-Ok-clause-once g c =
    let x = c.in-Ok.ensures.ok in
    (x.row, x.mine, ap (λ (y : Past). y.event.act) x.row_is, is_at c.args.pass.now c.on.new.pass c.args.what c.args.now c.in-Ok.field-0 c.on.ensures.looks x)

pub returns-in-Err-clause-once : goal.returns-in-Err-clause-once
returns-in-Err-clause-once g c =
    let x = c.in-Err.ensures.full in
    (x.mine, was_full c.server_laws.ensures.pods c.args.pass.now c.on.new.pass c.args.what c.in-Err.field-0 c.requires.what c.on.ensures.looks x)

use Rattle.kn_record.specs.declared.admission.Request.{Request}
use Rattle.kn_record.specs.Admission.{waits}
use Rattle.kn_table.proofs.Answered.{request_answer, request_listed}
use Rattle.kn_table.proofs.table.Table.first_waiting.Goals as goal

pub returns-clause-first : goal.returns-clause-first
returns-clause-first c =
    request_answer waits c.self.inside.slots.items c.deref.result.now c.args.self.now _ c.self.view_is c.deref.ensures.value c.self.invariant.kept.waiting _ c.request_at.ensures

pub returns-clause-live : goal.returns-clause-live
returns-clause-live c =
    request_listed (λ (q : Request). waits q.place) c.args.self.now _
    (request_answer waits c.self.inside.slots.items c.deref.result.now c.args.self.now _ c.self.view_is c.deref.ensures.value c.self.invariant.kept.waiting _ c.request_at.ensures)

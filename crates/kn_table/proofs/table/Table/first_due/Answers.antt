use Rattle.std.proofs.Common.{◌≤◌, subst, sym}
use Rattle.kn_trace.specs.Events.{live_most}
use Rattle.kn_record.specs.declared.admission.Request.{Request}
use Rattle.kn_record.specs.Admission.{waits}
use Rattle.kn_table.specs.Order.{IsOrdered}
use Rattle.kn_table.proofs.Answered.{is_due_now, is_not_due, nobody_due, request_answer}
use Rattle.kn_table.proofs.Marks.{ordered}
use Rattle.kn_table.proofs.Requests.{first_listed}
use Rattle.kn_table.proofs.table.Table.first_due.Goals as goal

pub returns-then-is_over-clause-first : goal.returns-then-is_over-clause-first
returns-then-is_over-clause-first c =
    is_due_now c.args.timeout_ms c.args.time c.args.self.now c.in-Some.request
    (request_answer waits c.self.inside.slots.items c.deref.result.now c.args.self.now _ c.self.view_is c.deref.ensures.value c.self.invariant.kept.waiting _ c.in-Some.ensures) (sym c.if-is_over.ensures)

pub returns-then-is_over-clause-live : goal.returns-then-is_over-clause-live
returns-then-is_over-clause-live c =
    first_listed (λ (q : Request). waits q.place) c.args.self.now c.in-Some.request
    (sym (request_answer waits c.self.inside.slots.items c.deref.result.now c.args.self.now _ c.self.view_is c.deref.ensures.value c.self.invariant.kept.waiting _ c.in-Some.ensures))

pub returns-else-is_over-clause-first : goal.returns-else-is_over-clause-first
returns-else-is_over-clause-first c =
    let kept = c.self.invariant.kept in
    let order : IsOrdered c.args.self.now = subst IsOrdered c.self.view_is (ordered c.self.inside.slots.items kept.order (subst (λ n. n ≤ live_most) kept.counted kept.few)) in
    is_not_due c.args.timeout_ms c.args.time c.args.self.now c.in-Some.request order.times
    (request_answer waits c.self.inside.slots.items c.deref.result.now c.args.self.now _ c.self.view_is c.deref.ensures.value kept.waiting _ c.in-Some.ensures) (sym c.if-is_over.ensures)

pub returns-in-None-clause-first : goal.returns-in-None-clause-first
returns-in-None-clause-first c =
    nobody_due c.args.timeout_ms c.args.time c.args.self.now
    (request_answer waits c.self.inside.slots.items c.deref.result.now c.args.self.now _ c.self.view_is c.deref.ensures.value c.self.invariant.kept.waiting _ c.in-None.ensures)

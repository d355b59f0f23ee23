use Rattle.std.proofs.Common.{◌∙◌, ap}
use Rattle.kn_record.specs.Admission.{is_at}
use Rattle.kn_table.specs.Slots.{first_placed}
use Rattle.kn_table.proofs.Answered.{number_answer, number_listed}
use Rattle.kn_table.proofs.table.Table.first_at.Goals as goal

pub returns-clause-first : goal.returns-clause-first
returns-clause-first c =
    number_answer (is_at c.args.p) c.self.inside.slots.items c.deref-2.result.now c.args.self.now _ c.self.view_is c.deref-2.ensures.value
    (c.first_at-place.ensures ∙ ap (first_placed (is_at c.args.p)) c.deref.ensures.value) _ c.number_at.ensures

pub returns-clause-live : goal.returns-clause-live
returns-clause-live c =
    number_listed (is_at c.args.p) c.args.self.now _
    (number_answer (is_at c.args.p) c.self.inside.slots.items c.deref-2.result.now c.args.self.now _ c.self.view_is c.deref-2.ensures.value
    (c.first_at-place.ensures ∙ ap (first_placed (is_at c.args.p)) c.deref.ensures.value) _ c.number_at.ensures)

use Rattle.kn_record.specs.Admission.{is_held_place}
use Rattle.kn_table.proofs.Answered.{number_answer, number_there}
use Rattle.kn_table.proofs.table.Table.first_held.Goals as goal

pub returns-clause-first : goal.returns-clause-first
returns-clause-first c =
    number_answer is_held_place c.self.inside.slots.items c.deref.result.now c.args.self.now _ c.self.view_is c.deref.ensures.value c.self.invariant.kept.held _ c.number_at.ensures

pub returns-clause-held : goal.returns-clause-held
returns-clause-held c =
    number_there is_held_place c.args.self.now _
    (number_answer is_held_place c.self.inside.slots.items c.deref.result.now c.args.self.now _ c.self.view_is c.deref.ensures.value c.self.invariant.kept.held _ c.number_at.ensures)

use Rattle.std.proofs.Common.{false, refl, sym, true, ◌∙◌}
use Rattle.std.specs.Prelude.{None, Some}
use Rattle.kn_serve.proofs.Slots.{ended}
use Rattle.kn_serve.proofs.ending.end_of.Goals as goal

pub returns-in-Some : goal.returns-in-Some
returns-in-Some g c = ended _ _ c.args.slots.now (Some c.in-Some.slot) _ (sym c.in-Some.is ∙ c.least_fault.ensures) refl

pub returns-in-true : goal.returns-in-true
returns-in-true g c = ended _ _ c.args.slots.now None true (sym c.in-None.is ∙ c.least_fault.ensures) (sym c.in-true.is ∙ c.any_want.ensures)

pub returns-in-false : goal.returns-in-false
returns-in-false g c = ended _ _ c.args.slots.now None false (sym c.in-None.is ∙ c.least_fault.ensures) (sym c.in-false.is ∙ c.any_want.ensures)

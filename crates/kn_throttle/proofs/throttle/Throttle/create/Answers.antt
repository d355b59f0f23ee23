use Rattle.std.proofs.Common.{◌≡◌, ◌∙◌, arith, sym}
use Rattle.kn_event.specs.declared.entry.Row.TheVariants as row
use Rattle.kn_event.specs.declared.revision.Spec.{Spec}
use Rattle.kn_event.specs.Revision.{AreInRange}
use Rattle.kn_record.specs.Admission.{stepped}
use Rattle.kn_throttle.proofs.Coming.{above_seats, kept_created}
use Rattle.kn_throttle.proofs.throttle.Throttle.create.Goals as goal

pub add-requires-clause-last : goal.add-requires-clause-last
add-requires-clause-last c =
    let k = c.self.invariant in
    let number : c.args.p ≡ c.self.inside.created = rw (← c.self.view_is) at c.requires.number in
    rw (k.seats, number) (above_seats c.self.inside.table c.self.inside.created c.self.inside.pods k.sound.order.created)

pub invariant_of-self : goal.invariant_of-self
unfolding stepped
invariant_of-self c =
    let k = c.self.invariant in
    let number : c.args.p ≡ c.self.inside.created = rw (← c.self.view_is) at c.requires.number in
    rw c.push.ensures (kept_created _ _ _ _ _ _ _ _ _ c.args.p c.args.limit k number (c.order_laws.ensures.step _ 0 (row.Create c.args.p c.args.limit) k.sound.order number) (rw (← c.self.view_is) at c.requires.room) c.add.ensures.added c.add.ensures.counted)

-- a specification out of range: what is asked of its pods says nothing
pub returns-clause-stands : goal.returns-clause-stands
unfolding stepped
returns-clause-stands c = λ d t h.
    let s : Spec = record c.args.self.now.spec { cc = 1001 } in
    let views = c.append_laws.ensures.views s c.args.self.now.admission d h in
    let none = λ (r : AreInRange s). let over = r.cc in absurd (omega arith) in
    rw c.push.ensures (c.append_laws.ensures.append s _ d t (row.Create c.args.p c.args.limit) (rw (← c.self.view_is) at h) (c.requires.number ∙ sym views.created, none))

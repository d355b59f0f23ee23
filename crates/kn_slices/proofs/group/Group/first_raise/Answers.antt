use Rattle.std.proofs.Common.{arith, length}
use Rattle.kn_slices.proofs.Calls.{each_has}
use Rattle.kn_slices.proofs.group.Group.first_raise.Goals as goal

pub first_raise-requires-clause-pods : goal.first_raise-requires-clause-pods
first_raise-requires-clause-pods c =
    rw (c.deref.ensures.value, c.deref-2.ensures.value) (λ p low. each_has (length c.self.inside.wanted.items) c.self.inside.parts.items p c.self.invariant.group.activators low)

pub first_raise-requires-clause-held : goal.first_raise-requires-clause-held
first_raise-requires-clause-held c = rw (c.deref.ensures.value, c.deref-2.ensures.value) (λ p low.
    let each = c.self.invariant.group.group.each p low in
    let within = each.within in
    let most = each.most in
    omega (arith, within, most))

use Rattle.std.proofs.Common.{length}
use Rattle.kn_slices.proofs.Calls.{each_has}
use Rattle.kn_slices.proofs.group.Group.first_cut.Goals as goal

pub first_cut-requires-clause-pods : goal.first_cut-requires-clause-pods
first_cut-requires-clause-pods c =
    rw (c.deref.ensures.value, c.deref-2.ensures.value) (λ p low. each_has (length c.self.inside.wanted.items) c.self.inside.parts.items p c.self.invariant.group.activators low)

use Rattle.std.proofs.Common.{refl}
use Rattle.kn_scaler.proofs.Settlings.{settles_only}
use Rattle.kn_scaler.proofs.scaler.Scaler.settled.Goals as goal

pub row-requires : goal.row-requires
row-requires c = rw c.in-Run.is at c.requires.next

pub returns-in-Run-clause-stands : goal.returns-in-Run-clause-stands
returns-in-Run-clause-stands c = λ s d next. rw c.in-Run.is (c.row.ensures.stands s d refl (rw c.in-Run.is at next))

pub row-requires-in-Assign : goal.row-requires-in-Assign
row-requires-in-Assign c = rw c.in-Assign.is at c.requires.next

pub returns-in-Assign-clause-stands : goal.returns-in-Assign-clause-stands
returns-in-Assign-clause-stands c = λ s d next. rw c.in-Assign.is (c.row-in-Assign.ensures.stands s d refl (rw c.in-Assign.is at next))

pub row-requires-in-Remove : goal.row-requires-in-Remove
row-requires-in-Remove c = rw c.in-Remove.is at c.requires.next

pub returns-in-Remove-clause-stands : goal.returns-in-Remove-clause-stands
returns-in-Remove-clause-stands c = λ s d next. rw c.in-Remove.is (c.row-in-Remove.ensures.stands s d refl (rw c.in-Remove.is at next))

pub unreachable-requires : goal.unreachable-requires
unreachable-requires c = settles_only c.args.added c.requires.kind c.in_default.not-Run c.in_default.not-Assign c.in_default.not-Remove

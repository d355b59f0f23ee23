use Rattle.kn_core.proofs.scaling.dispatched.Goals as goal

pub row-requires : goal.row-requires
row-requires c = rw c.in-Run.is at c.requires

pub row-requires-in-Assign : goal.row-requires-in-Assign
row-requires-in-Assign c = rw c.in-Assign.is at c.requires

use Rattle.kn_core.proofs.scaling.own.Goals as goal

pub row-requires : goal.row-requires
row-requires c = rw c.in-Admit.is at c.requires

pub row-requires-in-Direct : goal.row-requires-in-Direct
row-requires-in-Direct c = rw c.in-Direct.is at c.requires

pub row-requires-in-QueueFull : goal.row-requires-in-QueueFull
row-requires-in-QueueFull c = rw c.in-QueueFull.is at c.requires

pub row-requires-in-PodFull : goal.row-requires-in-PodFull
row-requires-in-PodFull c = rw c.in-PodFull.is at c.requires

pub row-requires-in-Overload : goal.row-requires-in-Overload
row-requires-in-Overload c = rw c.in-Overload.is at c.requires

pub row-requires-in-Finish : goal.row-requires-in-Finish
row-requires-in-Finish c = rw c.in-Finish.is at c.requires

pub row-requires-in-NotRunning : goal.row-requires-in-NotRunning
row-requires-in-NotRunning c = rw c.in-NotRunning.is at c.requires

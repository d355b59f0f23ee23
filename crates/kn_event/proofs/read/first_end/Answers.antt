-- The first field ends at the first space, or where the line does.
use Rattle.std.proofs.Common.{sym}
use Rattle.kn_event.proofs.Splitting.{first_split, first_whole}
use Rattle.kn_event.proofs.read.first_end.Goals as goal

pub returns-in-Some-clause-is : goal.returns-in-Some-clause-is
returns-in-Some-clause-is c = first_split c.args.bytes.now c.in-Some.end (sym c.in-Some.ensures)

pub returns-in-None-clause-is : goal.returns-in-None-clause-is
returns-in-None-clause-is c = first_whole c.args.bytes.now (sym c.in-None.ensures)

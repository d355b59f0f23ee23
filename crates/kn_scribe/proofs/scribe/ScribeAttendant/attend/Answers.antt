-- What was taken out was seen.
use Rattle.std.proofs.Common.{inr, length}
use Rattle.kn_scribe.proofs.scribe.ScribeAttendant.attend.Goals as goal

pub returns-clause-later : goal.returns-clause-later
returns-clause-later g c = let x = c.print_all.ensures.prints in (length x.given, inr x.later)

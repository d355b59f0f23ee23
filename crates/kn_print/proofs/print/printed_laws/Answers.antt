use Rattle.kn_print.proofs.Pieces.{rows-append, whole-text}
use Rattle.kn_print.proofs.print.printed_laws.Goals as goal

pub returns : goal.returns
returns c = record { whole = whole-text; more = rows-append }

-- The number, and the LF from its end on.
use Rattle.kn_event.proofs.Spots.{number_to_lf}
use Rattle.kn_event.proofs.ahead.number_ahead.Goals as goal

pub returns : goal.returns
returns c = number_to_lf c.args.text.now c.args.from c.in_ok-n.n c.in_ok-n.end c.in_ok-lf.lf c.in_ok-n.ensures c.in_ok-lf.ensures

use Rattle.kn_waits.proofs.Made.{none_made}
use Rattle.kn_waits.proofs.counters.Counters.new.Goals as goal

pub returns-in-Ok : goal.returns-in-Ok
returns-in-Ok c = none_made c.args.count c.in-Ok.made.items c.in-Ok.ensures.items

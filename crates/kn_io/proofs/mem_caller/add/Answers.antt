use Rattle.kn_io.proofs.Meetings.{kept_of-push, last_input-push}
use Rattle.kn_io.proofs.mem_caller.add.Goals as goal

pub returns-clause-last : goal.returns-clause-last
returns-clause-last c = rw c.push_reserved.ensures.items (last_input-push c.args.met.now.items c.args.taken)

pub returns-clause-kept : goal.returns-clause-kept
returns-clause-kept c = rw c.push_reserved.ensures.items (kept_of-push c.args.met.now.items c.args.taken)

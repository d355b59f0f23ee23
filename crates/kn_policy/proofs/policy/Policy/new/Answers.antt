use Rattle.std.proofs.Common.{rules}
use Rattle.kn_trace.specs.Choice.{generator_at}
use Rattle.kn_policy.specs.Policy.{policy_at}
use Rattle.kn_policy.proofs.Words.{none_drawn}
use Rattle.kn_policy.proofs.policy.Policy.new.Goals as goal

pub returns : goal.returns
unfolding policy_at generator_at
returns c = rw (none_drawn c.args.cc) (search rules)

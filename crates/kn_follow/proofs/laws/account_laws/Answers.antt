use Rattle.kn_follow.proofs.Accounts.{same_input, same_leaves}
use Rattle.kn_follow.proofs.laws.account_laws.Goals as goal

pub returns : goal.returns
returns c = record { laws = record { input = same_input; cut = same_leaves } }

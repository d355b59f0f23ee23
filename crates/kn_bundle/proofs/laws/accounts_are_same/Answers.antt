use Rattle.kn_bundle.proofs.Accounts.{same_bundle}
use Rattle.kn_bundle.proofs.laws.accounts_are_same.Goals as goal

pub returns : goal.returns
returns c = record { same = same_bundle }

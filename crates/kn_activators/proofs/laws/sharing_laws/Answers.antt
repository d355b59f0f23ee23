use Rattle.kn_activators.specs.Safety.{AfterEachLine, IsLawfulSharing, IsSafeSharing}
use Rattle.kn_activators.proofs.Ranges.{on_input}
use Rattle.kn_activators.proofs.Shared.{all_lawful, all_safe}
use Rattle.kn_activators.proofs.laws.sharing_laws.Goals as goal

pub returns-clause-safe : goal.returns-clause-safe
returns-clause-safe c = all_safe c.share_laws.ensures

pub returns-clause-lawful : goal.returns-clause-lawful
returns-clause-lawful c = all_lawful c.share_laws.ensures

pub returns-clause-safe_input : goal.returns-clause-safe_input
returns-clause-safe_input c known = on_input (AfterEachLine IsSafeSharing) (all_safe c.share_laws.ensures) known

pub returns-clause-lawful_input : goal.returns-clause-lawful_input
returns-clause-lawful_input c known = on_input (AfterEachLine IsLawfulSharing) (all_lawful c.share_laws.ensures) known

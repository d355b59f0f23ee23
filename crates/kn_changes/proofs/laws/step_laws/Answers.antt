use Rattle.kn_changes.proofs.Steps.{changes-push, changes_by}
use Rattle.kn_changes.proofs.laws.step_laws.Goals as goal

pub returns : goal.returns
returns c = record { more = changes-push; times = changes_by }

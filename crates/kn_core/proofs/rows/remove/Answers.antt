use Rattle.std.proofs.Common.{◌≡◌, false, refl, rules}
use Rattle.kn_event.specs.Lists.{contains}
use Rattle.kn_core.proofs.Lists.{none_without}
use Rattle.kn_core.proofs.rows.remove.Goals as goal

-- a pod that doesn't drain can't be taken out
pub returns-else-is_draining : goal.returns-else-is_draining
returns-else-is_draining c =
    let pods = c.args.pods.now in
    let none : contains c.args.p pods.draining ≡ false = search rules in
    rw (none_without c.args.p pods.draining none) refl

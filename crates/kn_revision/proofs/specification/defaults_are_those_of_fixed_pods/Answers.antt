use Rattle.std.proofs.Common.{◌≡◌, ◌==◌, ◌*◌, ℕ, true, false, cond, None, refl}
use Rattle.kn_event.specs.FixedSpec.{fixed_spec}
use Rattle.kn_event.specs.Defaults.{milli, default_total}
use Rattle.kn_revision.specs.Amounts.{overridden, scale_of, load_of, pace_of, utilisation_without}
use Rattle.kn_revision.specs.Revision.{parts_of, concurrency_total}
use Rattle.kn_revision.proofs.specification.defaults_are_those_of_fixed_pods.Goals as goal

-- the total without a target
same_total : (cc : ℕ) → concurrency_total cc (milli 100000) None ≡ milli (default_total cc)
same_total cc = elim (cc == 0) as (λ none. cond none (milli 100000) (milli (1000 * cc)) ≡ milli (cond none 100000 (1000 * cc))) [ true ↦ refl | false ↦ refl ]

pub returns : goal.returns
unfolding overridden scale_of load_of pace_of utilisation_without parts_of fixed_spec
returns c cc timeout_s slots = record { none = refl; same = rw (same_total cc) refl }

-- The seats that a burst would find, and how requests reach the pods.
use Rattle.std.specs.Prelude.{ℕ, Bool, true, false, ◌*◌, ◌+◌, ◌||◌, ◌==◌, ℤ, pos, negsuc, ◌-ℤ◌, if◌then◌else◌}
use Rattle.std.specs.Int.{int_div_euclid}
use Rattle.kn_event.specs.declared.units.Frac.{Frac}
use Rattle.kn_event.specs.declared.units.Milli.{Milli}
use Rattle.kn_event.specs.declared.entry.Phase.{Phase}
use Rattle.kn_event.specs.declared.entry.Phase.TheVariants as phase
use Rattle.kn_event.specs.declared.entry.Mode.{Mode}
use Rattle.kn_event.specs.declared.entry.Mode.TheVariants as mode
use Rattle.kn_event.specs.declared.revision.Burst.{Burst}
use Rattle.kn_event.specs.declared.revision.Burst.TheVariants as burst

-- ready * total - capacity - panic, exactly, and then rounded down; total and capacity are thousandths
unfoldable pub spare_seats : ℕ → ℕ → ℕ → Frac → ℤ
spare_seats ready total capacity panic =
    int_div_euclid (pos (ready * total * panic.den) -ℤ pos (capacity * panic.den + 1000 * panic.num)) (pos (1000 * panic.den))

-- the excess burst capacity, in requests: 0 where the target burst capacity is 0, -1 where it is unlimited
unfoldable pub excess_burst : ℕ → Milli → Burst → Frac → ℤ
excess_burst ready total burst.Unlimited panic = negsuc 0
excess_burst ready total (burst.Capacity capacity) panic = if capacity.0 == 0 then pos 0 else spare_seats ready total.0 capacity.0 panic

abbrev pub is_negative : ℤ → Bool
is_negative (pos n) = false
is_negative (negsuc n) = true

abbrev pub is_activating : Phase → Bool
is_activating phase.Activating = true
is_activating phase.Active = false
is_activating phase.Inactive = false

-- through the activator where no pod is wanted, a burst would not fit, or no pod is Ready yet
unfoldable pub serving_mode : ℕ → ℤ → Phase → Mode
serving_mode want excess new_phase = if want == 0 || is_negative excess || is_activating new_phase then mode.Proxy else mode.Serve

abbrev pub is_same_mode : Mode → Mode → Bool
is_same_mode mode.Proxy mode.Proxy = true
is_same_mode mode.Serve mode.Serve = true
is_same_mode _ _ = false

-- How many pods a pair of averages asks for.
use Rattle.std.specs.Prelude.{ℕ, Bool, ◌*◌, ◌/◌, ◌&&◌, nat_lt, nat_le, min, max, if◌then◌else◌}
use Rattle.std.specs.Int.{div_ceil}
use Rattle.kn_event.specs.declared.units.Frac.{Frac}
use Rattle.kn_event.specs.declared.entry.Counts.{Counts}
use Rattle.kn_event.specs.declared.revision.Spec.{Spec}

-- how many pods bear this average, each at the target, rounded up
unfoldable pub pods_for : Spec → Frac → ℕ
pods_for spec average = div_ceil (average.num * spec.target.den) (average.den * spec.target.num)

-- the rates and the threshold take no Ready pod as one
abbrev pub one_or_more : ℕ → ℕ
one_or_more ready = max 1 ready

-- the most pods that one decision may ask for: the Ready ones times the up rate, rounded up
unfoldable pub max_scale_up : Spec → ℕ → ℕ
max_scale_up spec ready = div_ceil (spec.up.0 * one_or_more ready) 1000

-- the fewest: the Ready ones divided by the down rate, rounded down
unfoldable pub max_scale_down : Spec → ℕ → ℕ
max_scale_down spec ready = (1000 * one_or_more ready) / spec.down.0

abbrev pub within_rates : Spec → ℕ → ℕ → ℕ
within_rates spec ready pods = min (max_scale_up spec ready) (max (max_scale_down spec ready) pods)

-- a count above 0 is the activation scale at least; a scale of 1 changes none
abbrev pub with_activation : Spec → ℕ → ℕ
with_activation spec pods = if nat_lt 0 pods && nat_lt pods spec.activation then spec.activation else pods

unfoldable pub count_for : Spec → ℕ → ℕ → ℕ
count_for spec ready pods = with_activation spec (within_rates spec ready pods)

-- whether the pods asked for, over the Ready ones, are the threshold or more. Both sides are in thousandths of a per cent
unfoldable pub is_over : Spec → ℕ → ℕ → Bool
is_over spec ready pods = nat_le (spec.panic_threshold.0 * one_or_more ready) (pods * 100000)

-- what the stable and the panic average ask for at so many Ready pods
unfoldable pub desired_counts : Spec → ℕ → Frac → Frac → Counts
desired_counts spec ready stable panic =
    let dspc = pods_for spec stable in
    let dppc = pods_for spec panic in
    record {
      dspc = dspc;
      dppc = dppc;
      stable_count = count_for spec ready dspc;
      panic_count = count_for spec ready dppc;
      over = is_over spec ready dppc;
    }

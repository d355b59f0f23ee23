-- Which samples a Window stands for.
use Rattle.std.specs.Prelude.{ℕ, true, false, ◌≡◌, ◌-◌, ◌<◌, ◌≤◌, List, length, map, None, unwrap_or}
use Rattle.std.specs.List.{range_with_len, sum_by}
use Rattle.kn_scaling.specs.Average.{Samples, is_sample, is_spell_start}

-- what a Window keeps
pub record WindowState : Type 0 where
  pub seconds : ℕ  -- how many seconds long it is
  pub totals : List ℕ  -- the running total before each of the last seconds of the last spell, the earliest first
  pub total : ℕ  -- the running total
  pub end : ℕ  -- the second after the last sample; 0 without any

-- the load of a second, 0 where it is no sample
abbrev pub load_at : Samples → ℕ → ℕ
load_at samples s = unwrap_or (samples s) 0

-- the load of all seconds before this one
unfoldable pub total_before : Samples → ℕ → ℕ
total_before samples s = sum_by (load_at samples) (range_with_len 0 s)

-- the list has what comes before each of the last seconds up to the end, and the total is what comes before the end
pub record Holds (totals : List ℕ) (total : ℕ) (before : ℕ → ℕ) (end : ℕ) : Type 0 where
  pub within : length totals ≤ end
  pub same : totals ≡ map before (range_with_len (end - length totals) (length totals))
  pub whole : total ≡ before end

-- the first second of the last spell, or of the window where the spell is longer
abbrev pub first_of : WindowState → ℕ
first_of w = w.end - length w.totals

-- it stands for these samples
pub record IsWindowOf (w : WindowState) (samples : Samples) : Type 0 where
  pub beyond : (s : ℕ) → w.end ≤ s → samples s ≡ None
  pub small : (s : ℕ) → load_at samples s ≤ 1000000000
  pub last : 0 < w.end → is_sample samples (w.end - 1) ≡ true
  pub fits : length w.totals ≤ w.seconds
  pub some : 0 < w.end → 0 < length w.totals
  pub totals : Holds w.totals w.total (total_before samples) w.end
  pub begun : w.end - w.seconds < first_of w → is_spell_start samples w.seconds (first_of w) ≡ true
  pub unbegun : (s : ℕ) → first_of w < s → is_spell_start samples w.seconds s ≡ false

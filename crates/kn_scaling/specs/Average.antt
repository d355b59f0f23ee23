-- The average over a window of seconds: of loads, or of requests that came.
use Rattle.std.specs.Prelude.{ℕ, Bool, false, not, ◌+◌, ◌-◌, ◌*◌, ◌/◌, ◌<◌, ◌≤◌, ◌&&◌, nat_lt, nat_le, List, [], ◌∷◌, Option, None, Some, is_some, unwrap_or, if◌then◌else◌}
use Rattle.std.specs.List.{filter, fold, list_any, range_with_len, sum_by}
use Rattle.std.proofs.Common.{subst, sym, add-one, lit<}
use Rattle.std.proofs.Math.Nat.{mul-pos, zero-lt-suc}
use Rattle.kn_event.specs.declared.revision.Metric.{Metric}
use Rattle.kn_event.specs.declared.revision.Metric.TheVariants as metric
use Rattle.kn_event.specs.declared.units.Frac.{Frac}
use Rattle.kn_scaling.specs.declared.average.SampleRun.{SampleRun}

-- the second that a time in milliseconds lies in
abbrev pub second_of : ℕ → ℕ
second_of time = time / 1000

-- the value of each second that is a sample, in thousandths: its load, which is milliseconds of requests, or 1,000 for each
-- request that came in it
abbrev pub Samples : Type 0
Samples = ℕ → Option ℕ

-- from the first one up to the end, without it
abbrev pub seconds : ℕ → ℕ → List ℕ
seconds first end = range_with_len first (end - first)

-- the n seconds before this one
abbrev pub window : ℕ → ℕ → List ℕ
window n end = seconds (end - n) end

abbrev pub last_of : List ℕ → Option ℕ
last_of [] = None
last_of (s ∷ ss) = Some (unwrap_or (last_of ss) s)

abbrev pub is_sample : Samples → ℕ → Bool
is_sample samples s = is_some (samples s)

unfoldable pub is_any_sample : Samples → List ℕ → Bool
is_any_sample samples ss = list_any (is_sample samples) ss

abbrev pub is_spell_start_by : Option ℕ → Samples → ℕ → ℕ → Bool
is_spell_start_by None samples n s = false
is_spell_start_by (Some value) samples n s = not (is_any_sample samples (seconds (s + 1 - n) s))

-- a sample starts a spell where none of the n - 1 seconds before it is one: its earlier neighbour is missing, or
-- lies n or more seconds before it
unfoldable pub is_spell_start : Samples → ℕ → ℕ → Bool
is_spell_start samples n s = is_spell_start_by (samples s) samples n s

-- where the counted seconds begin: at the last start of a spell in the window, or with the window where none is in it
unfoldable pub first_write : Samples → ℕ → ℕ → ℕ
first_write samples n end = unwrap_or (last_of (filter (is_spell_start samples n) (window n end))) (end - n)

unfoldable pub window_sum : Samples → ℕ → ℕ → ℕ
window_sum samples n end = sum_by (λ s. unwrap_or (samples s) 0) (window n end)

-- one second or more has milliseconds
pub milliseconds-above_zero : (n : ℕ) → 0 < 1000 * (n + 1)
milliseconds-above_zero n = mul-pos (lit< tt) (let P : ℕ → Type 0 = λ m. 0 < m in subst P (sym (add-one n)) (zero-lt-suc n))

-- the last sample of the n seconds before this one
unfoldable pub last_sample : Samples → ℕ → ℕ → Option ℕ
last_sample samples n end = last_of (filter (is_sample samples) (window n end))

-- this sum over the milliseconds of one second and so many others
abbrev pub load_over : ℕ → ℕ → Frac
load_over sum others = record { num = sum; den = 1000 * (others + 1); above_zero = milliseconds-above_zero others }

-- over the seconds from the first write up to the last sample, that second included
abbrev pub average_to : Samples → ℕ → ℕ → Option ℕ → Option Frac
average_to samples n end None = None
average_to samples n end (Some last) = Some (load_over (window_sum samples n end) (last - first_write samples n end))

-- the average of the n seconds before this one, never reduced; none where no sample lies in them
unfoldable pub window_average : Samples → ℕ → ℕ → Option Frac
window_average samples n end = average_to samples n end (last_sample samples n end)

-- what a window of an hour at most gives: a second's value is at most a million requests
pub record IsAverage (average : Frac) : Type 0 where
  pub den : average.den ≤ 3600000
  pub value : average.num ≤ 1000000 * average.den

-- ---- how samples come

-- what a second counts for: its load, or 1,000 for each request that was taken in in it
abbrev pub value_of : Metric → ℕ → ℕ → ℕ
value_of metric.Concurrency load count = load
value_of metric.Rps load count = 1000 * count

abbrev pub no_samples : Samples
no_samples s = None

-- whether the second s is one of so many from the one given on
abbrev pub is_in_run : ℕ → ℕ → ℕ → Bool
is_in_run second count s = nat_le second s && nat_lt s (second + count)

-- what a run makes of the value of the second s
abbrev pub load_after : Option ℕ → SampleRun → ℕ → Option ℕ
load_after load run s = if is_in_run run.second run.count s then Some run.load else load

-- the seconds of the run become samples, each with its value
unfoldable pub with_run : Samples → SampleRun → Samples
with_run samples run s = load_after (samples s) run s

-- the samples that these runs make, one after the other
unfoldable pub samples_of : List SampleRun → Samples
samples_of runs = fold with_run no_samples runs

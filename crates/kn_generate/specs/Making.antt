-- What events in the making keep.
use Rattle.std.specs.Prelude.{◌≡◌, ℕ, ◌*◌, ◌-◌, ◌≤◌}
use Rattle.std.specs.List.{count_by, sum_by}
use Rattle.rand_pcg.specs.Lcg.{Lcg}
use Rattle.kn_trace.specs.Choice.{generator_at}
use Rattle.kn_generate.specs.Generated.{is_arrival, step_of, words_before}

-- the seed, how many events were made, and the time of the last one, 0 before the first
pub record Made : Type 0 where
  pub seed : ℕ
  pub made : ℕ
  pub time : ℕ

-- the generator is behind the words of so many events, with their time and their arrivals
pub record IsBehind (seed made t a : ℕ) (g : Lcg) : Type 0 where
  pub generator : g ≡ generator_at seed (made - 5)
  pub time : t ≡ sum_by step_of (words_before seed made)
  pub arrivals : a ≡ count_by is_arrival (words_before seed made)
  pub soon : t ≤ 3 * made
  pub few : a ≤ made

-- An average of small values over at most an hour.
use Rattle.std.proofs.Common.{◌≡◌, refl, ap, ◌+◌, ◌-◌, ◌*◌, ◌<◌, ◌≤◌, ◌⊎◌, inl, inr, ℕ, Bool, true, false, not, arith}
use Rattle.std.specs.Prelude.{Option, None, Some, is_some, unwrap_or}
use Rattle.std.specs.Option.{IfSome}
use Rattle.std.specs.List.{filter, list_any, range_with_len}
use Rattle.std.proofs.lemmas.Bool.{cases_lt}
use Rattle.kn_scaling.specs.Average.{IsAverage, Samples, average_to, first_write, is_any_sample, is_sample, is_spell_start, is_spell_start_by, last_of, last_sample, window, window_average, window_sum}
use Rattle.kn_past.specs.Seconds.{AreSmall}
use Rattle.kn_past.proofs.Ranges.{IsLast, IsLastOf, any_none, last_found, sum_within}

-- ---- starts of spells

-- a start of a spell is a sample, and none in reach before it is one
record Starts (f : Samples) (n s : ℕ) : Type 0 where
  sample : is_sample f s ≡ true
  quiet : (x : ℕ) → s + 1 - n ≤ x → x < s → is_sample f x ≡ false

not_true : (b : Bool) → not b ≡ true → b ≡ false
not_true true h = absurd (cc)
not_true false h = refl

starts_by : (f : Samples) (n s : ℕ) (o : Option ℕ) → f s ≡ o → is_spell_start_by o f n s ≡ true → Starts f n s
unfolding is_any_sample
starts_by f n s None e h = absurd (cc)
starts_by f n s (Some value) e h = record {
  sample = ap is_some e;
  quiet = λ x low high. any_none (is_sample f) (s + 1 - n) (s - (s + 1 - n)) (not_true (list_any (is_sample f) (range_with_len (s + 1 - n) (s - (s + 1 - n)))) h) x low (omega (arith, low, high));
}

starts : (f : Samples) (n s : ℕ) → is_spell_start f n s ≡ true → Starts f n s
unfolding is_spell_start
starts f n s h = starts_by f n s (f s) refl h

-- ---- the counted seconds

worth : Samples → ℕ → ℕ
worth f s = unwrap_or (f s) 0

worth_small : (f : Samples) → AreSmall f → (s : ℕ) → worth f s ≤ 1000000000
unfolding worth
worth_small f small s = by (f s) (small s)
  where
    by : (o : Option ℕ) → ((v : ℕ) → o ≡ Some v → v ≤ 1000000000) → unwrap_or o 0 ≤ 1000000000
    by None h = omega arith
    by (Some v) h = h v refl

worth_none : (f : Samples) (s : ℕ) → is_sample f s ≡ false → worth f s ≡ 0
unfolding worth
worth_none f s h = by (f s) h
  where
    by : (o : Option ℕ) → is_some o ≡ false → unwrap_or o 0 ≡ 0
    by None k = refl
    by (Some v) k = absurd (cc)

module _ (f : Samples) (n end : ℕ) where
  -- the seconds counted begin in the window, and no sample of it is before them
  record Begins (first : ℕ) : Type 0 where
    low : end - n ≤ first
    quiet : (s : ℕ) → end - n ≤ s → s < first → is_sample f s ≡ false

  begins_by : (o : Option ℕ) → IsLastOf (is_spell_start f n) (end - n) (end - (end - n)) o → Begins (unwrap_or o (end - n))
  begins_by None none = record { low = omega arith; quiet = λ s low high. absurd (omega (arith, low, high)) }
  begins_by (Some x) is = record { low = is.low; quiet = λ s low high. let all = starts f n x is.passes in all.quiet s (let top = is.high in omega (arith, low, high, top)) high }

  begins : Begins (first_write f n end)
  unfolding first_write
  begins = begins_by (last_of (filter (is_spell_start f n) (window n end))) (last_found (is_spell_start f n) (end - n) (end - (end - n)))

  -- where this is the last sample, each worth lies between the first write and it
  inside : (last s : ℕ) → IsLast (is_sample f) (end - n) (end - (end - n)) last → end - n ≤ s → s < end - n + (end - (end - n)) → (worth f s ≡ 0) ⊎ ((first_write f n end ≤ s) × (s < last + 1))
  inside last s is low high = early (cases_lt s (first_write f n end))
    where
      late : first_write f n end ≤ s → (last < s) ⊎ (s ≤ last) → (worth f s ≡ 0) ⊎ ((first_write f n end ≤ s) × (s < last + 1))
      late from (inl above) = inl (worth_none f s (is.after s above high))
      late from (inr most) = inr (from, omega (arith, most))

      early : (s < first_write f n end) ⊎ (first_write f n end ≤ s) → (worth f s ≡ 0) ⊎ ((first_write f n end ≤ s) × (s < last + 1))
      early (inl below) = inl (worth_none f s (begins.quiet s low below))
      early (inr from) = late from (cases_lt last s)

  sum_small : (last : ℕ) → AreSmall f → IsLast (is_sample f) (end - n) (end - (end - n)) last → window_sum f n end ≤ 1000000000 * (last + 1 - first_write f n end)
  unfolding window_sum worth
  sum_small last small is =
      let sum = sum_within (worth f) (first_write f n end) (last + 1) (end - n) (end - (end - n)) (worth_small f small) (λ s low high. inside last s is low high) in
      let from = begins.low in
      let top = is.high in
      let low = is.low in
      omega (arith, sum, from, top, low)

  average_to_small : (o : Option ℕ) → AreSmall f → n ≤ 3600 → IsLastOf (is_sample f) (end - n) (end - (end - n)) o → IfSome (average_to f n end o) IsAverage
  average_to_small None small hour is = tt
  average_to_small (Some last) small hour is =
      let sum = sum_small last small is in
      let from = begins.low in
      let top = is.high in
      record { den = omega (arith, hour, from, top); value = omega (arith, sum) }

-- an average over at most an hour, of values of a million requests at most
pub average_small : (f : Samples) (n end : ℕ) → AreSmall f → n ≤ 3600 → IfSome (window_average f n end) IsAverage
unfolding window_average last_sample
average_small f n end small hour =
    average_to_small f n end (last_of (filter (is_sample f) (window n end))) small hour (last_found (is_sample f) (end - n) (end - (end - n)))

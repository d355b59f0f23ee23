-- An average reads the samples below its second alone.
use Rattle.std.proofs.Common.{◌≡◌, refl, ap, ◌∙◌, ◌+◌, ◌-◌, ◌<◌, ◌≤◌, ℕ, arith, not}
use Rattle.std.specs.Prelude.{Option, None, Some, is_some, unwrap_or}
use Rattle.kn_scaling.specs.Average.{Samples, average_to, first_write, is_any_sample, is_sample, is_spell_start, is_spell_start_by, last_of, last_sample, load_over, seconds, window_average, window_sum}
use Rattle.kn_past.specs.Seconds.{AgreeBelow}
use Rattle.kn_past.proofs.Ranges.{AgreeIn, any_same, filter_same, sum_same}

tests : (f g : Samples) (end a b : ℕ) → AgreeBelow end f g → b ≤ end → AgreeIn a (b - a) (is_sample f) (is_sample g)
tests f g end a b h le s low high = ap is_some (h s (omega (arith, high, le, low)))

any_sample_same : (f g : Samples) (end a b : ℕ) → AgreeBelow end f g → b ≤ end → is_any_sample f (seconds a b) ≡ is_any_sample g (seconds a b)
unfolding is_any_sample
any_sample_same f g end a b h le = any_same a (b - a) (is_sample f) (is_sample g) (tests f g end a b h le)

by_same : (o : Option ℕ) (f g : Samples) (n s : ℕ) → is_any_sample f (seconds (s + 1 - n) s) ≡ is_any_sample g (seconds (s + 1 - n) s) → is_spell_start_by o f n s ≡ is_spell_start_by o g n s
by_same None f g n s e = refl
by_same (Some value) f g n s e = ap not e

starts_same : (f g : Samples) (n end : ℕ) → AgreeBelow end f g → (s : ℕ) → s < end → is_spell_start f n s ≡ is_spell_start g n s
unfolding is_spell_start
starts_same f g n end h s below =
    ap (λ o. is_spell_start_by o f n s) (h s below) ∙ by_same (g s) f g n s (any_sample_same f g end (s + 1 - n) s h (omega (arith, below)))

first_same : (f g : Samples) (n end : ℕ) → AgreeBelow end f g → first_write f n end ≡ first_write g n end
unfolding first_write
first_same f g n end h = ap (λ ss. unwrap_or (last_of ss) (end - n)) (filter_same (end - n) (end - (end - n)) (is_spell_start f n) (is_spell_start g n) (λ s low high. starts_same f g n end h s (omega (arith, low, high))))

sums_same : (f g : Samples) (n end : ℕ) → AgreeBelow end f g → window_sum f n end ≡ window_sum g n end
unfolding window_sum
sums_same f g n end h = sum_same (end - n) (end - (end - n)) (λ s. unwrap_or (f s) 0) (λ s. unwrap_or (g s) 0) (λ s low high. ap (λ o. unwrap_or o 0) (h s (omega (arith, low, high))))

last_same : (f g : Samples) (n end : ℕ) → AgreeBelow end f g → last_sample f n end ≡ last_sample g n end
unfolding last_sample
last_same f g n end h = ap last_of (filter_same (end - n) (end - (end - n)) (is_sample f) (is_sample g) (tests f g end (end - n) end h (omega arith)))

to_same : (f g : Samples) (n end : ℕ) (o : Option ℕ) → AgreeBelow end f g → average_to f n end o ≡ average_to g n end o
to_same f g n end None h = refl
to_same f g n end (Some last) h =
    ap (λ x. Some (load_over x (last - first_write f n end))) (sums_same f g n end h)
    ∙ ap (λ x. Some (load_over (window_sum g n end) (last - x))) (first_same f g n end h)

-- samples that agree below a second have the same average there
pub average_below : (f g : Samples) (n end : ℕ) → AgreeBelow end f g → window_average f n end ≡ window_average g n end
unfolding window_average
average_below f g n end h = ap (average_to f n end) (last_same f g n end h) ∙ to_same f g n end (last_sample g n end) h

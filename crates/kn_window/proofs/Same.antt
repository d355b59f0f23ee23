-- Samples that agree, and samples up to a second.
use Rattle.std.proofs.Common.{◌≡◌, refl, sym, ap, subst, ◌∙◌, ◌+◌, ◌-◌, ◌<◌, ◌≤◌, ℕ, zero, suc, Bool, ◌∷◌, arith, cond}
use Rattle.std.specs.Prelude.{Option, None, Some, is_some, unwrap_or}
use Rattle.std.specs.List.{filter, range_with_len}
use Rattle.kn_scaling.specs.Average.{Samples, last_of, is_sample, is_spell_start, first_write, last_sample, window_sum, window_average, average_to, load_over}
use Rattle.kn_window.specs.Stands.{IsWindowOf, WindowState, first_of, load_at, total_before}
use Rattle.kn_window.proofs.Spells.{starts_same}
use Rattle.kn_window.proofs.Rings.{holds_same, sum_same}
use Rattle.kn_window.proofs.Windows.{total_same}

-- a window stands for all samples that are the same
pub stands_same : (w : WindowState) (f g : Samples) → ((s : ℕ) → f s ≡ g s) → IsWindowOf w f → IsWindowOf w g
stands_same w f g h r = record {
  beyond = λ s i. sym (h s) ∙ r.beyond s i;
  small = λ s. subst (λ o. unwrap_or o 0 ≤ 1000000000) (h s) (r.small s);
  last = λ i. ap is_some (sym (h (w.end - 1))) ∙ r.last i;
  fits = r.fits;
  some = r.some;
  totals = holds_same w.totals w.total (total_before f) (total_before g) w.end (λ s i. total_same f g s (λ x j. h x)) r.totals;
  begun = λ i. sym (starts_same f g w.seconds (first_of w) (λ x j. h x)) ∙ r.begun i;
  unbegun = λ s i. sym (starts_same f g w.seconds s (λ x j. h x)) ∙ r.unbegun s i;
}

-- ---- what lies at the end of the window or later doesn't count

same_filter : (p q : ℕ → Bool) (k a : ℕ) → ((s : ℕ) → a ≤ s → s < a + k → p s ≡ q s) → filter p (range_with_len a k) ≡ filter q (range_with_len a k)
same_filter p q zero a h = refl
same_filter p q (suc k) a h =
    ap (λ b. cond b (a ∷ filter p (range_with_len (a + 1) k)) (filter p (range_with_len (a + 1) k))) (h a (omega arith) (omega arith))
    ∙ ap (λ xs. cond (q a) (a ∷ xs) xs) (same_filter p q k (a + 1) (λ s low high. h s (omega (arith, low)) (omega (arith, high))))

pub average_same : (f g : Samples) (n end : ℕ) → ((s : ℕ) → s < end → f s ≡ g s) → window_average f n end ≡ window_average g n end
unfolding window_average last_sample first_write window_sum
average_same f g n end h =
    let low = end - n in
    let k = end - low in
    let samples = same_filter (is_sample f) (is_sample g) k low (λ s from until. ap is_some (h s (omega (arith, from, until)))) in
    let starts = same_filter (is_spell_start f n) (is_spell_start g n) k low (λ s from until. starts_same f g n s (λ x le. h x (omega (arith, from, until, le)))) in
    let sums = sum_same (load_at f) (load_at g) k low (λ s from until. ap (λ o. unwrap_or o 0) (h s (omega (arith, from, until)))) in
    ap (λ xs. average_to f n end (last_of xs)) samples ∙ go (last_of (filter (is_sample g) (range_with_len low k))) sums starts
  where
    go : (last : Option ℕ) → window_sum f n end ≡ window_sum g n end → filter (is_spell_start f n) (range_with_len (end - n) (end - (end - n))) ≡ filter (is_spell_start g n) (range_with_len (end - n) (end - (end - n)))
        → average_to f n end last ≡ average_to g n end last
    go None sums starts = refl
    go (Some last) sums starts =
        ap (λ t. Some (load_over t (last - first_write f n end))) sums
        ∙ ap (λ xs. Some (load_over (window_sum g n end) (last - unwrap_or (last_of xs) (end - n)))) starts

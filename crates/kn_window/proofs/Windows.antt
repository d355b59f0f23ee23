-- What a window that stands for samples says of their average, and what one more run makes of it.
use Rattle.std.proofs.Common.{◌≡◌, refl, sym, ap, subst, ◌∙◌, ◌+◌, ◌-◌, ◌*◌, ◌<◌, ◌≤◌, ◌⊎◌, inl, inr, ℕ, zero, suc, Bool, true, false, ◌||◌, ◌==◌, List, [], arith, max, min, length, cond}
use Rattle.std.specs.Prelude.{Option, None, Some, nat_lt, nat_le, is_some, unwrap_or, slice_get, if◌then◌else◌}
use Rattle.std.specs.List.{filter, range_with_len, sum_by}
use Rattle.std.proofs.lemmas.List.Sums.{sum_by-cons}
use Rattle.std.proofs.Math.Nat.{eq-or-lt_of_le}
use Rattle.kn_scaling.specs.Average.{IsAverage, Samples, is_in_run, last_of, is_sample, is_spell_start, first_write, last_sample, window_sum, window_average, average_to, load_over, with_run, no_samples}
use Rattle.kn_scaling.specs.Worked.{run_of}
use Rattle.kn_window.specs.Stands.{Holds, IsWindowOf, WindowState, first_of, load_at, total_before}
use Rattle.kn_window.proofs.Spells.{last_pass, last_none, none_starts, started_before, starts_at, quiet_before, starts_same, run_inside, run_before, run_after}
use Rattle.kn_window.proofs.Rings.{holds_none, holds_same, held_at, sum_split, sum_zero, sum_same, sum_alike}

abbrev state : ℕ → List ℕ → ℕ → ℕ → WindowState
state n xs total end = record { seconds = n; totals = xs; total = total; end = end }

-- the load of all seconds up to one, with that of the seconds from there on
total_split : (f : Samples) (a k : ℕ) → total_before f (a + k) ≡ total_before f a + sum_by (load_at f) (range_with_len a k)
unfolding total_before
total_split f a k =
    let e : 0 + a ≡ a = omega arith in
    sum_split (load_at f) a 0 k ∙ ap (λ b. sum_by (load_at f) (range_with_len 0 a) + sum_by (load_at f) (range_with_len b k)) e

pub total_next : (f : Samples) (s : ℕ) → total_before f (s + 1) ≡ total_before f s + load_at f s
total_next f s =
    let one : sum_by (load_at f) (range_with_len s 1) ≡ load_at f s = sum_alike (load_at f) (load_at f s) 1 s (λ x low high. ap (load_at f) (let e : x ≡ s = omega (arith, low, high) in e)) ∙ omega arith in
    omega (arith, total_split f s 1, one)

pub total_same : (f g : Samples) (end : ℕ) → ((s : ℕ) → s < end → f s ≡ g s) → total_before f end ≡ total_before g end
unfolding total_before
total_same f g end h = sum_same (load_at f) (load_at g) end 0 (λ s low high. ap (λ o. unwrap_or o 0) (h s (omega (arith, high))))

total_none : total_before no_samples 0 ≡ 0
unfolding total_before
total_none = refl

pub stands_none : (n : ℕ) → IsWindowOf (state n [] 0 0) no_samples
stands_none n = record {
  beyond = λ s h. refl;
  small = λ s. omega arith;
  last = λ h. absurd (omega (arith, h));
  fits = omega arith;
  some = λ h. absurd (omega (arith, h));
  totals = holds_none (total_before no_samples) 0 0 (sym total_none);
  begun = λ h. absurd (omega (arith, h));
  unbegun = λ s h. none_starts no_samples n s refl;
}

-- ---- the average

pub average_none : (f : Samples) (w : WindowState) (now : ℕ) → IsWindowOf w f → w.end ≤ now - w.seconds → window_average f w.seconds now ≡ None
unfolding window_average last_sample
average_none f w now r h =
    let low = now - w.seconds in
    ap (average_to f w.seconds now) (last_none (is_sample f) (now - low) low (λ s from below. ap is_some (r.beyond s (omega (arith, h, from)))))

last_is : (f : Samples) (w : WindowState) (now : ℕ) → IsWindowOf w f → now - w.seconds < w.end → w.end ≤ now → last_sample f w.seconds now ≡ Some (w.end - 1)
unfolding last_sample
last_is f w now r low high =
    let some : 0 < w.end = omega (arith, low) in
    last_pass (is_sample f) (now - (now - w.seconds)) (now - w.seconds) (w.end - 1) (omega (arith, low)) (omega (arith, low, high)) (r.last some)
    (λ s later. ap is_some (r.beyond s (omega (arith, later, some))))

first_is : (f : Samples) (w : WindowState) (now : ℕ) → IsWindowOf w f → now - w.seconds < w.end → w.end ≤ now → first_write f w.seconds now ≡ max (first_of w) (now - w.seconds)
unfolding first_write
first_is f w now r below above = place (nat_lt (first_of w) low) (nat_lt (w.end - n) first) refl refl
  where
    n : ℕ
    n = w.seconds

    low : ℕ
    low = now - n

    first : ℕ
    first = first_of w

    found : Option ℕ
    found = last_of (filter (is_spell_start f n) (range_with_len low (now - low)))

    inside : first < w.end
    inside = let some = r.some (omega (arith, below)) in let in_ring = r.totals.within in omega (arith, some, in_ring, below)

    edge : (b : Bool) → is_spell_start f n first ≡ b → first ≡ low → unwrap_or found low ≡ max first low
    edge true t e =
        ap (λ o. unwrap_or o low) (last_pass (is_spell_start f n) (now - low) low first (omega (arith, e)) (omega (arith, inside, above, e)) t r.unbegun) ∙ omega (arith, e)
    edge false t e =
        ap (λ o. unwrap_or o low) (last_none (is_spell_start f n) (now - low) low (λ s from until. at s (eq-or-lt_of_le from))) ∙ omega (arith, e)
      where
        at : (s : ℕ) → (low ≡ s) ⊎ (low < s) → is_spell_start f n s ≡ false
        at s (inl same) = ap (is_spell_start f n) (let h : s ≡ first = omega (arith, same, e) in h) ∙ t
        at s (inr later) = r.unbegun s (omega (arith, later, e))

    place : (b c : Bool) → nat_lt first low ≡ b → nat_lt (w.end - n) first ≡ c → unwrap_or found low ≡ max first low
    place true c e d =
        let h : first < low = grind (arith, e) in
        ap (λ o. unwrap_or o low) (last_none (is_spell_start f n) (now - low) low (λ s from until. r.unbegun s (omega (arith, h, from)))) ∙ omega (arith, h)
    place false true e d =
        let h : low ≤ first = grind (arith, e) in
        let i : w.end - n < first = grind (arith, d) in
        ap (λ o. unwrap_or o low) (last_pass (is_spell_start f n) (now - low) low first h (omega (arith, inside, above, h)) (r.begun i) r.unbegun) ∙ omega (arith, h)
    place false false e d =
        let h : low ≤ first = grind (arith, e) in
        let i : first ≤ w.end - n = grind (arith, d) in
        edge (is_spell_start f n first) refl (omega (arith, h, i, above))

-- where the counted seconds begin
abbrev pub start_of : WindowState → ℕ → ℕ
start_of w now = max (first_of w) (now - w.seconds)

-- the load of all seconds from there on
abbrev pub sum_of : WindowState → ℕ → ℕ
sum_of w now = w.total - unwrap_or (slice_get w.totals (start_of w now - first_of w)) 0

sum_is : (f : Samples) (w : WindowState) (now : ℕ) → IsWindowOf w f → now - w.seconds < w.end → w.end ≤ now → window_sum f w.seconds now ≡ sum_of w now
unfolding window_sum
sum_is f w now r below above =
    let whole = ap (λ j. sum_by v (range_with_len low j)) (let e : now - low ≡ (start - low) + (w.end - start + (now - w.end)) = omega (arith, below, above, inside, ring) in e) in
    let early = sum_split v (start - low) low (w.end - start + (now - w.end)) in
    let none_early = sum_zero v (start - low) low (λ s from until. ap (λ o. unwrap_or o 0) (quiet s from (omega (arith, until)))) in
    let begins = ap (λ b. sum_by v (range_with_len b (w.end - start + (now - w.end)))) (let e : low + (start - low) ≡ start = omega arith in e) in
    let late = sum_split v (w.end - start) start (now - w.end) in
    let none_late = sum_zero v (now - w.end) (start + (w.end - start)) (λ s from until. ap (λ o. unwrap_or o 0) (r.beyond s (omega (arith, from)))) in
    let before = held_at w.totals w.total (total_before f) w.end (start - first_of w) r.totals (omega (arith, below, ring, inside)) in
    let place = ap (total_before f) (let e : w.end - length w.totals + (start - first_of w) ≡ start = omega arith in e) in
    let rest = ap (total_before f) (let e : w.end ≡ start + (w.end - start) = omega (arith, below, inside) in e) ∙ total_split f start (w.end - start) in
    omega (arith, whole, early, none_early, begins, late, none_late, before, place, rest, r.totals.whole)
  where
    v : ℕ → ℕ
    v = load_at f

    low : ℕ
    low = now - w.seconds

    start : ℕ
    start = start_of w now

    ring : length w.totals ≤ w.end
    ring = r.totals.within

    inside : first_of w < w.end
    inside = let some = r.some (omega (arith, below)) in omega (arith, some, ring, below)

    quiet : (s : ℕ) → low ≤ s → s < start → f s ≡ None
    quiet s from until =
        let begun = r.begun (omega (arith, from, until, above)) in
        quiet_before f w.seconds (first_of w) s begun (omega (arith, from, until, above, inside)) (omega (arith, from, until))

pub average_some : (f : Samples) (w : WindowState) (now : ℕ) → IsWindowOf w f → now - w.seconds < w.end → w.end ≤ now
    → window_average f w.seconds now ≡ Some (load_over (sum_of w now) (w.end - start_of w now - 1))
unfolding window_average
average_some f w now r below above =
    ap (average_to f w.seconds now) (last_is f w now r below above)
    ∙ ap (λ n. Some (load_over n (w.end - 1 - first_write f w.seconds now))) (sum_is f w now r below above)
    ∙ ap (λ n. Some (load_over (sum_of w now) n))
    (ap (λ n. w.end - 1 - n) (first_is f w now r below above) ∙ (let e : w.end - 1 - start_of w now ≡ w.end - start_of w now - 1 = omega arith in e))

sum_small : (v : ℕ → ℕ) (k a : ℕ) → ((s : ℕ) → v s ≤ 1000000000) → sum_by v (range_with_len a k) ≤ 1000000000 * k
sum_small v zero a h = omega arith
sum_small v (suc k) a h =
    let first = h a in
    let rest = sum_small v k (a + 1) h in
    omega (arith, sum_by-cons v a (range_with_len (a + 1) k), first, rest)

-- what a window of an hour at most gives
pub average_small : (f : Samples) (w : WindowState) (now : ℕ) → IsWindowOf w f → now - w.seconds < w.end → w.end ≤ now → w.seconds ≤ 3600 → IsAverage (load_over (sum_of w now) (w.end - start_of w now - 1))
average_small f w now r below above hour =
    let start = start_of w now in
    let ring = r.totals.within in
    let some = r.some (omega (arith, below)) in
    let inside : start < w.end = omega (arith, below, ring, some) in
    let before = held_at w.totals w.total (total_before f) w.end (start - first_of w) r.totals (omega (arith, below, ring, inside)) in
    let place = ap (total_before f) (let e : w.end - length w.totals + (start - first_of w) ≡ start = omega arith in e) in
    let rest = ap (total_before f) (let e : w.end ≡ start + (w.end - start) = omega (arith, inside) in e) ∙ total_split f start (w.end - start) in
    let most = sum_small (load_at f) (w.end - start) start r.small in
    record {
      den = omega (arith, above, hour, inside);
      value = omega (arith, before, place, rest, r.totals.whole, most, inside);
    }

-- ---- one more run

module _ (f : Samples) (n a k v : ℕ) where
  abbrev pub g : Samples
  g = with_run f (run_of a k v)

  started_inside : (s : ℕ) → 2 ≤ n → a < s → s < a + k → is_spell_start g n s ≡ false
  started_inside s two low high =
      started_before g n s (s - 1) (omega (arith, two, low)) (omega (arith, low)) (ap is_some (run_inside f a k v (s - 1) (omega (arith, low)) (omega (arith, high))))

  -- no load of more than a thousand million
  all_small : v ≤ 1000000000 → ((s : ℕ) → load_at f s ≤ 1000000000) → (s : ℕ) → load_at g s ≤ 1000000000
  unfolding with_run
  all_small few before s = go (is_in_run a k s)
    where
      go : (b : Bool) → unwrap_or (if b then Some v else f s) 0 ≤ 1000000000
      go true = few
      go false = before s

  last_sampled : 0 < k → is_sample g (a + k - 1) ≡ true
  last_sampled some = ap is_some (run_inside f a k v (a + k - 1) (omega (arith, some)) (omega (arith, some)))

  none_beyond : (end : ℕ) → ((s : ℕ) → end ≤ s → f s ≡ None) → end ≤ a → (s : ℕ) → a + k ≤ s → g s ≡ None
  none_beyond end beyond after s h = run_after f a k v s (omega (arith, h)) h ∙ beyond s (omega (arith, h, after))

  -- no start behind the run's first second, where the ring doesn't begin behind that
  unstarted : (end first : ℕ) → ((s : ℕ) → end ≤ s → f s ≡ None) → end ≤ a → a + k - n ≤ first → 0 < n → (s : ℕ) → first < s → a < s → is_spell_start g n s ≡ false
  unstarted end first beyond after low some s h i = go (nat_lt s (a + k)) refl
    where
      go : (b : Bool) → nat_lt s (a + k) ≡ b → is_spell_start g n s ≡ false
      go true e = let j : s < a + k = grind (arith, e) in started_inside s (omega (arith, j, low, h, some)) i j
      go false e = let j : a + k ≤ s = grind (arith, e) in none_starts g n s (none_beyond end beyond after s j)

  pub stands_new : (w : WindowState) (ws : List ℕ) (total : ℕ) → w.seconds ≡ n → 0 < n → v ≤ 1000000000 → 0 < k → w.end ≤ a → (w.end ≡ 0) ⊎ (w.end + n ≤ a + 1) → IsWindowOf w f
      → Holds ws total (total_before g) (a + k) → length ws ≤ n → 0 < length ws → a + k - length ws ≡ max a (a + k - n)
      → IsWindowOf (state n ws total (a + k)) g
  stands_new w ws total size long few some after apart r held fits any place = record {
    beyond = none_beyond w.end r.beyond after;
    small = all_small few r.small;
    last = λ h. last_sampled some;
    fits = fits;
    some = λ h. any;
    totals = held;
    begun = λ h.
        let e : a ≡ a + k - length ws = omega (arith, h, place) in
        ap (is_spell_start g n) (sym e) ∙ starts_at g n a v (run_inside f a k v a (omega arith) (omega (arith, some)))
        (λ x low high. run_before f a k v x high ∙ r.beyond x (reach apart x low));
    unbegun = λ s h. unstarted w.end (a + k - length ws) r.beyond after (omega (arith, place)) long s h (omega (arith, h, place));
  }
    where
      reach : (w.end ≡ 0) ⊎ (w.end + n ≤ a + 1) → (x : ℕ) → a + 1 - n ≤ x → w.end ≤ x
      reach (inl e) x low = omega (arith, e)
      reach (inr e) x low = omega (arith, e, low)

  pub stands_on : (w : WindowState) (ws : List ℕ) (total : ℕ) → w.seconds ≡ n → 0 < n → v ≤ 1000000000 → 0 < k → w.end ≤ a → 0 < w.end → a + 1 < w.end + n → IsWindowOf w f
      → Holds ws total (total_before g) (a + k) → length ws ≤ n → 0 < length ws → a + k - length ws ≡ max (first_of w) (a + k - n)
      → IsWindowOf (state n ws total (a + k)) g
  stands_on w ws total size long few some after was near r held fits any place = record {
    beyond = none_beyond w.end r.beyond after;
    small = all_small few r.small;
    last = λ h. last_sampled some;
    fits = fits;
    some = λ h. any;
    totals = held;
    begun = λ h.
        let e : first_of w ≡ a + k - length ws = omega (arith, h, place) in
        ap (is_spell_start g n) (sym e) ∙ starts_same g f n (first_of w) (λ x i. run_before f a k v x (omega (arith, i, inside, after)))
        ∙ ap (λ m. is_spell_start f m (first_of w)) (sym size) ∙ r.begun (omega (arith, h, place, size, after));
    unbegun = λ s h. at s h (nat_lt s w.end) (nat_lt s a) refl refl;
  }
    where
      inside : first_of w < w.end
      inside = let ring = r.totals.within in let full = r.some was in omega (arith, ring, full, was)

      at : (s : ℕ) → a + k - length ws < s → (b c : Bool) → nat_lt s w.end ≡ b → nat_lt s a ≡ c → is_spell_start g n s ≡ false
      at s h true c d e =
          let i : s < w.end = grind (arith, d) in
          starts_same g f n s (λ x j. run_before f a k v x (omega (arith, i, j, after)))
          ∙ ap (λ m. is_spell_start f m s) (sym size) ∙ r.unbegun s (omega (arith, h, place))
      at s h false true d e =
          let i : w.end ≤ s = grind (arith, d) in
          let j : s < a = grind (arith, e) in
          none_starts g n s (run_before f a k v s j ∙ r.beyond s i)
      at s h false false d e = let j : a ≤ s = grind (arith, e) in late s h (eq-or-lt_of_le j)
        where
          late : (s : ℕ) → a + k - length ws < s → (a ≡ s) ⊎ (a < s) → is_spell_start g n s ≡ false
          late s h (inl e) =
              started_before g n s (w.end - 1) (omega (arith, near, e)) (omega (arith, was, after, e))
              (ap is_some (run_before f a k v (w.end - 1) (omega (arith, was, after))) ∙ r.last was)
          late s h (inr i) = unstarted w.end (a + k - length ws) r.beyond after (omega (arith, place)) long s h i

  -- the load of all seconds up to one that lies in the run or in the gap before it
  total_skip : (end from : ℕ) → ((s : ℕ) → end ≤ s → f s ≡ None) → end ≤ a → end ≤ from → from ≤ a + k → total_before g from ≡ total_before f end + v * (from - a)
  total_skip end from beyond after low high =
      let edge = min from a in
      let begun = total_same g f end (λ s h. run_before f a k v s (omega (arith, h, after))) in
      let gap = ap (total_before g) (let e : edge ≡ end + (edge - end) = omega (arith, low, after) in e) ∙ total_split g end (edge - end) in
      let none = sum_zero (load_at g) (edge - end) end (λ s i j. ap (λ o. unwrap_or o 0) (run_before f a k v s (omega (arith, i, j)) ∙ beyond s i)) in
      let rest = ap (total_before g) (let e : from ≡ edge + (from - edge) = omega arith in e) ∙ total_split g edge (from - edge) in
      let alike = sum_alike (load_at g) v (from - edge) edge (λ s i j. ap (λ o. unwrap_or o 0) (run_inside f a k v s (omega (arith, i, j)) (omega (arith, i, j, high)))) in
      let many = ap (λ m. v * m) (let e : from - edge ≡ from - a = omega arith in e) in
      omega (arith, begun, gap, none, rest, alike, many)

  -- the calls that a run makes: those that it skips, zeros for the gap, and its own seconds
  pub stands_run : (w : WindowState) (from : ℕ) (is_new cut : Bool) (ys zs ws : List ℕ) (y z total yend : ℕ) → w.seconds ≡ n → 0 < n → v ≤ 1000000000 → 0 < k → w.end ≤ a
      → is_new ≡ ((w.end == 0) || nat_le (w.end + n) (a + 1)) → from ≡ max (cond is_new a w.end) (a + k - n) → cut ≡ (is_new || nat_lt w.end from)
      → ys ≡ cond cut [] w.totals → y ≡ cond cut (w.total + v * (from - a)) w.total → yend ≡ cond cut from w.end
      → ((before : ℕ → ℕ) → Holds ys y before yend → ((s : ℕ) → yend ≤ s → s < yend + (a - from) → before (s + 1) ≡ before s + 0) → Holds zs z before (yend + (a - from)))
      → length zs ≡ min n (length ys + (a - from))
      → ((before : ℕ → ℕ) → Holds zs z before (yend + (a - from)) → ((s : ℕ) → yend + (a - from) ≤ s → s < yend + (a - from) + (a + k - max from a) → before (s + 1) ≡ before s + v) → Holds ws total before (yend + (a - from) + (a + k - max from a)))
      → length ws ≡ min n (length zs + (a + k - max from a))
      → IsWindowOf w f → IsWindowOf (state n ws total (a + k)) g
  stands_run w from is_new cut ys zs ws y z total yend size long few some after new_is from_is cut_is ys_is y_is yend_is first first_len second second_len r = go is_new cut refl refl
    where
      none_before : w.end ≤ from → (s : ℕ) → from ≤ s → s < from + (a - from) → total_before g (s + 1) ≡ total_before g s + 0
      none_before low s i j =
          let none = ap (λ o. unwrap_or o 0) (run_before f a k v s (omega (arith, i, j)) ∙ r.beyond s (omega (arith, low, i))) in
          omega (arith, total_next g s, none)

      loads_in : (s : ℕ) → from + (a - from) ≤ s → s < from + (a - from) + (a + k - max from a) → total_before g (s + 1) ≡ total_before g s + v
      loads_in s i j =
          let load = ap (λ o. unwrap_or o 0) (run_inside f a k v s (omega (arith, i)) (omega (arith, i, j))) in
          omega (arith, total_next g s, load)

      held : yend ≡ from → w.end ≤ from → from ≤ a + k → Holds ys y (total_before g) from → Holds ws total (total_before g) (a + k)
      held at low high h =
          let after_gap : Holds zs z (total_before g) (yend + (a - from)) =
          first (total_before g) (subst (Holds ys y (total_before g)) (sym at) h) (λ s i j. none_before low s (omega (arith, at, i)) (omega (arith, at, j))) in
          subst (Holds ws total (total_before g)) (let e : yend + (a - from) + (a + k - max from a) ≡ a + k = omega (arith, at, high) in e)
          (second (total_before g) after_gap (λ s i j. loads_in s (omega (arith, at, i)) (omega (arith, at, j))))

      -- what is kept where the ring was emptied
      emptied : ys ≡ [] → y ≡ w.total + v * (from - a) → w.end ≤ from → from ≤ a + k → Holds ys y (total_before g) from
      emptied none e low high =
          subst (λ xs. Holds xs y (total_before g) from) (sym none)
          (holds_none (total_before g) y from (let skip = total_skip w.end from r.beyond after low high in omega (arith, e, r.totals.whole, skip)))

      go : (b c : Bool) → is_new ≡ b → cut ≡ c → IsWindowOf (state n ws total (a + k)) g
      go true c e d =
          let whole : from ≡ max a (a + k - n) = from_is ∙ ap (λ t. max (cond t a w.end) (a + k - n)) e in
          let is_cut : cut ≡ true = cut_is ∙ ap (λ t. t || nat_lt w.end from) e in
          let cleared : ys ≡ [] = ys_is ∙ ap (λ t. cond t [] w.totals) is_cut in
          let sum : y ≡ w.total + v * (from - a) = y_is ∙ ap (λ t. cond t (w.total + v * (from - a)) w.total) is_cut in
          let at : yend ≡ from = yend_is ∙ ap (λ t. cond t from w.end) is_cut in
          let empty : length ys ≡ 0 = ap length cleared in
          let apart : (w.end ≡ 0) ⊎ (w.end + n ≤ a + 1) = grind (arith, e, new_is) in
          let low : w.end ≤ from = omega (arith, whole, after) in
          let high : from ≤ a + k = omega (arith, whole, some) in
          stands_new w ws total size long few some after apart r (held at low high (emptied cleared sum low high))
          (omega (arith, second_len)) (omega (arith, second_len, first_len, empty, whole, some, long)) (omega (arith, second_len, first_len, empty, whole, some))
      go false true e d =
          let whole : from ≡ max w.end (a + k - n) = from_is ∙ ap (λ t. max (cond t a w.end) (a + k - n)) e in
          let cleared : ys ≡ [] = ys_is ∙ ap (λ t. cond t [] w.totals) d in
          let sum : y ≡ w.total + v * (from - a) = y_is ∙ ap (λ t. cond t (w.total + v * (from - a)) w.total) d in
          let at : yend ≡ from = yend_is ∙ ap (λ t. cond t from w.end) d in
          let empty : length ys ≡ 0 = ap length cleared in
          let apart : (0 < w.end) × (a + 1 < w.end + n) = grind (arith, e, new_is) in
          let far : w.end < from = grind (arith, d, e, cut_is) in
          let ring = r.totals.within in
          let low : w.end ≤ from = omega (arith, whole) in
          let high : from ≤ a + k = omega (arith, whole, after) in
          stands_on w ws total size long few some after apart.0 apart.1 r (held at low high (emptied cleared sum low high))
          (omega (arith, second_len)) (omega (arith, second_len, first_len, empty, whole, some, long)) (omega (arith, second_len, first_len, empty, whole, some, far))
      go false false e d =
          let whole : from ≡ max w.end (a + k - n) = from_is ∙ ap (λ t. max (cond t a w.end) (a + k - n)) e in
          let kept : ys ≡ w.totals = ys_is ∙ ap (λ t. cond t [] w.totals) d in
          let sum : y ≡ w.total = y_is ∙ ap (λ t. cond t (w.total + v * (from - a)) w.total) d in
          let ends : yend ≡ w.end = yend_is ∙ ap (λ t. cond t from w.end) d in
          let same : length ys ≡ length w.totals = ap length kept in
          let apart : (0 < w.end) × (a + 1 < w.end + n) = grind (arith, e, new_is) in
          let near : from ≤ w.end = grind (arith, d, e, cut_is) in
          let at_end : w.end ≡ from = omega (arith, near, whole) in
          let ring = r.totals.within in
          let fit = r.fits in
          let agrees = holds_same w.totals w.total (total_before f) (total_before g) w.end
          (λ s i. total_same f g s (λ x h. sym (run_before f a k v x (omega (arith, i, h, after))))) r.totals in
          let moved = subst (λ xs. Holds xs y (total_before g) w.end) (sym kept) (subst (λ t. Holds w.totals t (total_before g) w.end) (sym sum) agrees) in
          stands_on w ws total size long few some after apart.0 apart.1 r
          (held (ends ∙ at_end) (omega (arith, whole)) (omega (arith, whole, after)) (subst (Holds ys y (total_before g)) at_end moved))
          (omega (arith, second_len)) (omega (arith, second_len, first_len, some, long)) (omega (arith, second_len, first_len, same, at_end, some, ring, fit, size, near, whole, after))

-- where the calls of a run end
pub run_ends : (a k n end from : ℕ) (is_new cut : Bool) → end ≤ a → 0 < k → 0 < n → from ≡ max (cond is_new a end) (a + k - n) → cut ≡ (is_new || nat_lt end from)
    → cond cut from end + (a - from) + (a + k - max from a) ≡ a + k
run_ends a k n end from is_new cut after some long from_is cut_is = go is_new cut refl refl
  where
    go : (b c : Bool) → is_new ≡ b → cut ≡ c → cond cut from end + (a - from) + (a + k - max from a) ≡ a + k
    go b true e d =
        let from_at : cond cut from end ≡ from = ap (λ t. cond t from end) d in
        let high : from ≤ a + k = cond_high b (from_is ∙ ap (λ t. max (cond t a end) (a + k - n)) e) in
        omega (arith, from_at, high)
      where
        cond_high : (b : Bool) → from ≡ max (cond b a end) (a + k - n) → from ≤ a + k
        cond_high true h = omega (arith, h)
        cond_high false h = omega (arith, h, after)
    go true false e d = absurd (let h = sym d ∙ cut_is ∙ ap (λ t. t || nat_lt end from) e in grind (arith, h))
    go false false e d =
        let whole : from ≡ max end (a + k - n) = from_is ∙ ap (λ t. max (cond t a end) (a + k - n)) e in
        let near : from ≤ end = grind (arith, d, e, cut_is) in
        let from_at : cond cut from end ≡ end = ap (λ t. cond t from end) d in
        omega (arith, from_at, whole, near, after)

-- What a ring of running totals holds.
use Rattle.std.proofs.Common.{◌≡◌, refl, sym, ap, ◌∙◌, ◌+◌, ◌-◌, ◌*◌, ◌<◌, ◌≤◌, ℕ, zero, suc, List, [], ◌∷◌, ◌++◌, arith, min, length, drop}
use Rattle.std.specs.Prelude.{Some, unwrap_or, map, slice_get}
use Rattle.std.specs.List.{range_with_len, sum_by}
use Rattle.std.proofs.lemmas.List.{drop-map, length-append, length-drop}
use Rattle.std.proofs.lemmas.List.Sums.{sum_by-cons}
use Rattle.std.proofs.lemmas.List.FromFn.{map-range_with_len_more}
use Rattle.circular_buffer.specs.Buffer.{keep_last}
use Rattle.kn_window.specs.Stands.{Holds}

drop_range : (k a m : ℕ) → drop k (range_with_len a (k + m)) ≡ range_with_len (a + k) m
drop_range zero a m =
    let n : 0 + m ≡ m = omega arith in
    let e : a ≡ a + 0 = omega arith in
    ap (range_with_len a) n ∙ ap (λ b. range_with_len b m) e
drop_range (suc k) a m =
    let e : suc k + m ≡ suc (k + m) = omega arith in
    let s : a + 1 + k ≡ a + suc k = omega arith in
    ap (λ j. drop (suc k) (range_with_len a j)) e ∙ drop_range k (a + 1) m ∙ ap (λ b. range_with_len b m) s

-- what is left of the values of a range
pub drop_values : (f : ℕ → ℕ) (k a m : ℕ) → drop k (map f (range_with_len a (k + m))) ≡ map f (range_with_len (a + k) m)
drop_values f k a m = drop-map f k (range_with_len a (k + m)) ∙ ap (map f) (drop_range k a m)

same_values : (f g : ℕ → ℕ) (k a : ℕ) → ((s : ℕ) → a ≤ s → s < a + k → f s ≡ g s) → map f (range_with_len a k) ≡ map g (range_with_len a k)
same_values f g zero a h = refl
same_values f g (suc k) a h =
    ap (λ x. x ∷ map f (range_with_len (a + 1) k)) (h a (omega arith) (omega arith))
    ∙ ap (λ xs. g a ∷ xs) (same_values f g k (a + 1) (λ s low high. h s (omega (arith, low)) (omega (arith, high))))

pub holds_none : (f : ℕ → ℕ) (total end : ℕ) → total ≡ f end → Holds [] total f end
holds_none f total end e = record { within = omega arith; same = refl; whole = e }

pub holds_same : (xs : List ℕ) (total : ℕ) (f g : ℕ → ℕ) (end : ℕ) → ((s : ℕ) → s ≤ end → f s ≡ g s) → Holds xs total f end → Holds xs total g end
holds_same xs total f g end h r = record {
  within = r.within;
  same = r.same ∙ same_values f g (length xs) (end - length xs) (λ s low high. h s (omega (arith, high, r.within)));
  whole = r.whole ∙ h end (omega arith);
}

kept_more : (f : ℕ → ℕ) (k a end len : ℕ) → a + len ≡ end → k ≤ len + 1
    → drop k (map f (range_with_len a len) ++ f end ∷ []) ≡ map f (range_with_len (a + k) (len + 1 - k))
kept_more f k a end len e l =
    ap (drop k) (sym (map-range_with_len_more f a len end e))
    ∙ ap (λ j. drop k (map f (range_with_len a j))) (let h : len + 1 ≡ k + (len + 1 - k) = omega (arith, l) in h)
    ∙ drop_values f k a (len + 1 - k)

length_push : (xs : List ℕ) (x : ℕ) → length (xs ++ x ∷ []) ≡ length xs + 1
length_push xs x = length-append xs (x ∷ [])

pub length_kept : (n : ℕ) (xs : List ℕ) (x : ℕ) → length (keep_last n (xs ++ x ∷ [])) ≡ min n (length xs + 1)
length_kept n xs x =
    let all = xs ++ x ∷ [] in
    omega (arith, length-drop (length all - n) all, length_push xs x)

-- one more second
pub holds_push : (n : ℕ) (xs : List ℕ) (f : ℕ → ℕ) (end x load : ℕ) → Holds xs x f end → f (end + 1) ≡ f end + load → Holds (keep_last n (xs ++ x ∷ [])) (x + load) f (end + 1)
holds_push n xs f end x load r step =
    let len = length_kept n xs x in
    let k = length xs + 1 - n in
    let a = end - length xs in
    record {
      within = omega (arith, len, r.within);
      same = ap (λ j. drop (j - n) (xs ++ x ∷ [])) (length_push xs x)
          ∙ ap (λ y. drop k (xs ++ y ∷ [])) r.whole
          ∙ ap (λ ys. drop k (ys ++ f end ∷ [])) r.same
          ∙ kept_more f k a end (length xs) (omega (arith, r.within)) (omega arith)
          ∙ ap (λ b. map f (range_with_len b (length xs + 1 - k))) (let h : a + k ≡ end + 1 - length (keep_last n (xs ++ x ∷ [])) = omega (arith, len, r.within) in h)
          ∙ ap (λ l. map f (range_with_len (end + 1 - length (keep_last n (xs ++ x ∷ []))) l)) (let h : length xs + 1 - k ≡ length (keep_last n (xs ++ x ∷ [])) = omega (arith, len) in h);
      whole = omega (arith, r.whole, step);
    }

-- ---- what lies at a place

value_at : (f : ℕ → ℕ) (n a k : ℕ) → k < n → slice_get (map f (range_with_len a n)) k ≡ Some (f (a + k))
value_at f zero a k h = absurd (omega (arith, h))
value_at f (suc n) a zero h = ap (λ s. Some (f s)) (let e : a ≡ a + 0 = omega arith in e)
value_at f (suc n) a (suc k) h = value_at f n (a + 1) k (omega (arith, h)) ∙ ap (λ s. Some (f s)) (let e : a + 1 + k ≡ a + suc k = omega arith in e)

-- what comes before a second of the ring
pub held_at : (xs : List ℕ) (total : ℕ) (f : ℕ → ℕ) (end k : ℕ) → Holds xs total f end → k < length xs → unwrap_or (slice_get xs k) 0 ≡ f (end - length xs + k)
held_at xs total f end k r h =
    ap (λ ys. unwrap_or (slice_get ys k) 0) r.same ∙ ap (λ o. unwrap_or o 0) (value_at f (length xs) (end - length xs) k h)

-- ---- sums over seconds

pub sum_split : (f : ℕ → ℕ) (k a m : ℕ) → sum_by f (range_with_len a (k + m)) ≡ sum_by f (range_with_len a k) + sum_by f (range_with_len (a + k) m)
sum_split f zero a m =
    let n : 0 + m ≡ m = omega arith in
    let e : a ≡ a + 0 = omega arith in
    let none : sum_by f (range_with_len a 0) ≡ 0 = refl in
    let all = ap (λ j. sum_by f (range_with_len a j)) n in
    let moved = ap (λ b. sum_by f (range_with_len b m)) e in
    omega (arith, none, all, moved)
sum_split f (suc k) a m =
    let e : suc k + m ≡ suc (k + m) = omega arith in
    let s : a + 1 + k ≡ a + suc k = omega arith in
    let whole = ap (λ j. sum_by f (range_with_len a j)) e ∙ sum_by-cons f a (range_with_len (a + 1) (k + m)) in
    let rest = sum_split f k (a + 1) m ∙ ap (λ b. sum_by f (range_with_len (a + 1) k) + sum_by f (range_with_len b m)) s in
    let part = sum_by-cons f a (range_with_len (a + 1) k) in
    omega (arith, whole, rest, part)

pub sum_zero : (f : ℕ → ℕ) (k a : ℕ) → ((s : ℕ) → a ≤ s → s < a + k → f s ≡ 0) → sum_by f (range_with_len a k) ≡ 0
sum_zero f zero a h = refl
sum_zero f (suc k) a h =
    let first = h a (omega arith) (omega arith) in
    let rest = sum_zero f k (a + 1) (λ s low high. h s (omega (arith, low)) (omega (arith, high))) in
    omega (arith, sum_by-cons f a (range_with_len (a + 1) k), first, rest)

pub sum_same : (f g : ℕ → ℕ) (k a : ℕ) → ((s : ℕ) → a ≤ s → s < a + k → f s ≡ g s) → sum_by f (range_with_len a k) ≡ sum_by g (range_with_len a k)
sum_same f g zero a h = refl
sum_same f g (suc k) a h =
    let first = h a (omega arith) (omega arith) in
    let rest = sum_same f g k (a + 1) (λ s low high. h s (omega (arith, low)) (omega (arith, high))) in
    omega (arith, sum_by-cons f a (range_with_len (a + 1) k), sum_by-cons g a (range_with_len (a + 1) k), first, rest)

pub sum_alike : (f : ℕ → ℕ) (v k a : ℕ) → ((s : ℕ) → a ≤ s → s < a + k → f s ≡ v) → sum_by f (range_with_len a k) ≡ v * k
sum_alike f v zero a h = let none : v * 0 ≡ 0 = omega arith in sym none
sum_alike f v (suc k) a h =
    let first = h a (omega arith) (omega arith) in
    let rest = sum_alike f v k (a + 1) (λ s low high. h s (omega (arith, low)) (omega (arith, high))) in
    let more : v * suc k ≡ v + v * k = omega arith in
    omega (arith, sum_by-cons f a (range_with_len (a + 1) k), first, rest, more)

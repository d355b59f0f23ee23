-- Counters by the millisecond, one wait more, and the least wait that is enough.
use Rattle.std.proofs.Common.{below_more, subst, ◌≡◌, ◌≢◌, ◌+◌, ◌*◌, ◌-◌, ◌<◌, ◌≤◌, ◌^◌, ℕ, zero, suc, Bool, true, false, cond, max, ◌⊎◌, inl, inr, List, [], ◌∷◌, ◌++◌, length, get_or, set, refl, sym, ap, ◌∙◌, arith, length-append, length-set, get_or-set_same, get_or-set_other}
use Rattle.std.specs.Prelude.{None, Some, nat_le, nat_lt, ◌==◌}
use Rattle.std.specs.List.{All, count_by, find, range_with_len, sum}
use Rattle.std.proofs.lemmas.Bool.Decides.{nat_tests}
use Rattle.std.proofs.lemmas.Bool.{cases_lt}
use Rattle.std.proofs.lemmas.List.Elements.{All-cons, All-head, All-nil, All-push, All-tail}
use Rattle.std.proofs.lemmas.List.Sums.{sum_by-cons, sum_by_push, count_by-le-length}
use Rattle.kn_event.specs.Lists.{greatest}
use Rattle.kn_waits.specs.Waits.{AreWaits, IsLeastEnough, WaitsState, count_up_to, is_enough, percentile}

-- ---- how many waited less than, just, and at most so long

abbrev bit : Bool → ℕ
bit b = cond b 1 0

one : (v w : ℕ) → bit (nat_le v w) ≡ bit (nat_lt v w) + bit (v == w)
one v w = grind (arith, nat_tests)

pub up_to : (w : ℕ) (ws : List ℕ) → count_up_to w ws ≡ count_by (λ v. nat_lt v w) ws + count_by (λ v. v == w) ws
up_to w [] = refl
up_to w (v ∷ vs) =
    let a = sum_by-cons (λ (x : ℕ). cond (nat_le x w) 1 0) v vs in
    let b = sum_by-cons (λ (x : ℕ). cond (nat_lt x w) 1 0) v vs in
    let d = sum_by-cons (λ (x : ℕ). cond (x == w) 1 0) v vs in
    omega (arith, a, b, d, one v w, up_to w vs)

next_one : (v w : ℕ) → bit (nat_lt v (w + 1)) ≡ bit (nat_le v w)
next_one v w = grind (arith, nat_tests)

pub below_next : (w : ℕ) (ws : List ℕ) → count_by (λ v. nat_lt v (w + 1)) ws ≡ count_up_to w ws
below_next w [] = refl
below_next w (v ∷ vs) =
    let a = sum_by-cons (λ (x : ℕ). cond (nat_lt x (w + 1)) 1 0) v vs in
    let b = sum_by-cons (λ (x : ℕ). cond (nat_le x w) 1 0) v vs in
    omega (arith, a, b, next_one v w, below_next w vs)

none_below : (v : ℕ) → bit (nat_lt v 0) ≡ 0
none_below v = grind (arith, nat_tests)

pub below_zero : (ws : List ℕ) → count_by (λ v. nat_lt v 0) ws ≡ 0
below_zero [] = refl
below_zero (v ∷ vs) = omega (arith, sum_by-cons (λ (x : ℕ). cond (nat_lt x 0) 1 0) v vs, none_below v, below_zero vs)

-- ---- the greatest

pub greatest-push : (ws : List ℕ) (w : ℕ) → greatest (ws ++ w ∷ []) ≡ max (greatest ws) w
greatest-push [] w = omega arith
greatest-push (v ∷ vs) w = rw (greatest-push vs w) (omega arith)

pub greatest_below : (n : ℕ) (ws : List ℕ) → 0 < n → All (λ v. v < n) ws → greatest ws < n
greatest_below n [] h all = h
greatest_below n (v ∷ vs) h all =
    let first = All-head (λ (x : ℕ). x < n) v vs all in
    let rest = All-tail (λ (x : ℕ). x < n) v vs all in
    omega (arith, first, greatest_below n vs h rest)

one_up_to : (v w : ℕ) → v ≤ w → bit (nat_le v w) ≡ 1
one_up_to v w h = grind (arith, nat_tests)

-- all waited at most as long as the longest
pub all_up_to : (w : ℕ) (ws : List ℕ) → greatest ws ≤ w → count_up_to w ws ≡ length ws
all_up_to w [] h = refl
all_up_to w (v ∷ vs) h =
    omega (arith, sum_by-cons (λ (x : ℕ). cond (nat_le x w) 1 0) v vs, one_up_to v w (omega arith), all_up_to w vs (omega arith))

pub sum_up_to : (n : ℕ) (ws : List ℕ) → greatest ws ≤ n → sum ws ≤ length ws * n
sum_up_to n [] h = omega arith
sum_up_to n (v ∷ vs) h = omega (arith, sum_by-cons (λ (x : ℕ). x) v vs, sum_up_to n vs (omega arith))

-- ---- one wait more

one_is : (w : ℕ) → bit (w == w) ≡ 1
one_is w = grind (arith, nat_tests)

one_other : (v w : ℕ) → v ≢ w → bit (v == w) ≡ 0
one_other v w h = grind (arith, nat_tests)

apart : (v w : ℕ) → (v ≡ w) ⊎ (v ≢ w)
apart v w = by (v == w) refl
  where
    by : (b : Bool) → (v == w) ≡ b → (v ≡ w) ⊎ (v ≢ w)
    by true h = inl (grind (arith, nat_tests))
    by false h = inr (grind (arith, nat_tests))

each_more : (counters : List ℕ) (ws : List ℕ) (wait w : ℕ) → wait < length counters → get_or counters w 0 ≡ count_by (λ v. v == w) ws
    → get_or (set counters wait (count_by (λ v. v == wait) ws + 1)) w 0 ≡ count_by (λ v. v == w) (ws ++ wait ∷ [])
each_more counters ws wait w inside same = by (apart w wait)
  where
    more : (u : ℕ) → count_by (λ v. v == u) (ws ++ wait ∷ []) ≡ count_by (λ v. v == u) ws + bit (wait == u)
    more u = sum_by_push (λ (x : ℕ). cond (x == u) 1 0) ws wait

    by : (w ≡ wait) ⊎ (w ≢ wait) → get_or (set counters wait (count_by (λ v. v == wait) ws + 1)) w 0 ≡ count_by (λ v. v == w) (ws ++ wait ∷ [])
    by (inl e) =
        rw e (get_or-set_same counters wait (count_by (λ v. v == wait) ws + 1) 0 inside ∙ omega (arith, more wait, one_is wait))
    by (inr ne) =
        get_or-set_other counters wait w (count_by (λ v. v == wait) ws + 1) 0 ne ∙ same
        ∙ omega (arith, more w, one_other wait w (λ e. ne (sym e)))

-- the state with one wait more
pub waits_more : (x y : WaitsState) (ws : List ℕ) (wait n : ℕ) → AreWaits x ws → length ws + 1 < 2 ^ 64 → wait < length x.counters
    → n ≡ get_or x.counters wait 0 + 1 → y.counters ≡ set x.counters wait n → y.ran ≡ x.ran + 1 → y.sum ≡ x.sum + wait → y.longest ≡ max x.longest wait
    → AreWaits y (ws ++ wait ∷ [])
waits_more x y ws wait n are few inside is counters ran sums longest =
    let long : length y.counters ≡ length x.counters = ap length counters ∙ length-set x.counters wait n in
    let all = are.below in
    record {
      each = λ w h.
          ap (λ (l : List ℕ). get_or l w 0) counters
          ∙ ap (λ (m : ℕ). get_or (set x.counters wait m) w 0) (is ∙ ap (λ (m : ℕ). m + 1) (are.each wait inside))
          ∙ each_more x.counters ws wait w inside (are.each w (omega arith));
      below = rw long (All-push (λ (v : ℕ). v < length x.counters) ws wait all inside);
      few = omega (arith, length-append ws (wait ∷ []));
      ran = omega (arith, length-append ws (wait ∷ []), are.ran);
      sum = sums ∙ ap (λ (m : ℕ). m + wait) are.sum ∙ sym (sum_by_push (λ (v : ℕ). v) ws wait);
      longest = longest ∙ ap (λ (m : ℕ). max m wait) are.longest ∙ sym (greatest-push ws wait);
    }

-- what is added stays below the greatest number
pub fits : (x : WaitsState) (ws : List ℕ) (wait : ℕ) → AreWaits x ws → length ws + 1 < 2 ^ 64 → wait < length x.counters → x.longest < 2 ^ 64 → wait < 2 ^ 64
    → (get_or x.counters wait 0 + 1 < 2 ^ 64) × (x.sum + wait < 2 ^ 128)
fits x ws wait are few inside longest short =
    let each = are.each wait inside in
    let most = are.longest in (
      omega (arith, count_by-le-length (λ (v : ℕ). v == wait) ws),
      omega (arith, are.sum, sum_up_to (2 ^ 64 - 1) ws (omega arith)),
    )

-- ---- the least that is enough

find_from : (p : ℕ → Bool) (a n w : ℕ) → a ≤ w → w < a + n → p w ≡ true → ((v : ℕ) → a ≤ v → v < w → p v ≡ false) → find p (range_with_len a n) ≡ Some w
find_from p a zero w low high is before = absurd (omega arith)
find_from p a (suc n) w low high is before = by (apart a w) (λ h. find_from p (a + 1) n w h (omega arith) is (λ v l h. before v (omega arith) h))
  where
    by : (a ≡ w) ⊎ (a ≢ w) → (a + 1 ≤ w → find p (range_with_len (a + 1) n) ≡ Some w) → cond (p a) (Some a) (find p (range_with_len (a + 1) n)) ≡ Some w
    by (inl e) later = rw (e, is) refl
    by (inr ne) later = rw (before a (omega arith) (omega arith)) (later (omega arith))

differ : false ≡ true → ⊥
differ h = cc

enough_at : (q n : ℕ) (ws : List ℕ) (w : ℕ) → q ≤ n → greatest ws ≤ w → is_enough q n ws w ≡ true
enough_at q n ws w share h =
    let all = all_up_to w ws h in
    let P : ℕ → Type 0 = λ k. nat_le (q * length ws) (n * k) ≡ true in
    subst P (sym all) (grind (arith, nat_tests))

-- the first that is enough
pub percentile_is : (q n : ℕ) (ws : List ℕ) (w : ℕ) → q ≤ n → 0 < length ws → is_enough q n ws w ≡ true → ((v : ℕ) → v < w → is_enough q n ws v ≡ false) → percentile q n ws ≡ Some w
unfolding percentile
percentile_is q n [] w share some is before = absurd (omega arith)
percentile_is q n (x ∷ xs) w share some is before =
    find_from (is_enough q n (x ∷ xs)) 0 (greatest (x ∷ xs) + 1) w (omega arith) (omega (arith, within (nat_le w (greatest (x ∷ xs))) refl)) is (λ v _ h. before v h)
  where
    within : (b : Bool) → nat_le w (greatest (x ∷ xs)) ≡ b → w ≤ greatest (x ∷ xs)
    within true h = grind (arith, nat_tests)
    within false h =
        let above : greatest (x ∷ xs) < w = grind (arith, nat_tests) in
        absurd (differ (sym (before (greatest (x ∷ xs)) above) ∙ enough_at q n (x ∷ xs) (greatest (x ∷ xs)) share (omega arith)))

some_below : (limit : ℕ) (ws : List ℕ) → 0 < length ws → All (λ v. v < limit) ws → 0 < limit
some_below limit [] some all = absurd (omega arith)
some_below limit (v ∷ vs) some all = let first = All-head (λ (x : ℕ). x < limit) v vs all in omega (arith, first)

-- one is enough below any bound on them, where anybody waited
pub enough_below : (q n limit : ℕ) (ws : List ℕ) → q ≤ n → 0 < length ws → All (λ v. v < limit) ws → ((v : ℕ) → v < limit → is_enough q n ws v ≡ false) → ⊥
enough_below q n limit ws share some all before =
    differ (sym (before (greatest ws) (greatest_below limit ws (some_below limit ws some all) all)) ∙ enough_at q n ws (greatest ws) share (omega arith))

-- of an interval where one passes, the least that does
least_from : (p : ℕ → Bool) (a n g : ℕ) → a ≤ g → g < a + n → p g ≡ true → ((v : ℕ) → v < a → p v ≡ false)
    → (w : ℕ) × (find p (range_with_len a n) ≡ Some w) × (p w ≡ true) × ((v : ℕ) → v < w → p v ≡ false)
least_from p a zero g low high passes before = absurd (omega arith)
least_from p a (suc n) g low high passes before = by (p a) refl (λ off. least_from p (a + 1) n g (above off (apart a g)) (omega arith) passes (below_more _ a before off))
  where
    above : p a ≡ false → (a ≡ g) ⊎ (a ≢ g) → a + 1 ≤ g
    above off (inl e) = absurd (differ (sym off ∙ ap p e ∙ passes))
    above off (inr ne) = omega arith

    by : (b : Bool) → p a ≡ b
        → (p a ≡ false → (w : ℕ) × (find p (range_with_len (a + 1) n) ≡ Some w) × (p w ≡ true) × ((v : ℕ) → v < w → p v ≡ false))
        → (w : ℕ) × (cond (p a) (Some a) (find p (range_with_len (a + 1) n)) ≡ Some w) × (p w ≡ true) × ((v : ℕ) → v < w → p v ≡ false)
    by true e later = (a, rw e refl, e, before)
    by false e later = let found = later e in (found.0, rw e found.1, found.2, found.3)

means : (a b : ℕ) → nat_le a b ≡ true → a ≤ b
means a b h = grind (arith, nat_tests)

means_not : (a b : ℕ) → nat_le a b ≡ false → b < a
means_not a b h = grind (arith, nat_tests)

pub percentile_least : (q n : ℕ) (ws : List ℕ) → q ≤ n → 0 < length ws → IsLeastEnough q n ws (percentile q n ws)
unfolding percentile
percentile_least q n [] share some = absurd (omega arith)
percentile_least q n (x ∷ xs) share some =
    let ws = x ∷ xs in
    let found = least_from (is_enough q n ws) 0 (greatest ws + 1) (greatest ws) (omega arith) (omega arith) (enough_at q n ws (greatest ws) share (omega arith)) (λ v h. absurd (omega arith)) in
    subst (IsLeastEnough q n ws) (sym found.1) (means _ _ found.2, λ v h. means_not _ _ (found.3 v h))

-- where nobody waited
pub percentile_none : (q n : ℕ) (ws : List ℕ) → length ws ≡ 0 → percentile q n ws ≡ None
unfolding percentile
percentile_none q n [] h = refl
percentile_none q n (w ∷ ws) h = absurd (omega arith)

-- ---- the counters in turn

-- what holds of those whose counter isn't 0 holds of all
of_counted : (P Q : ℕ → Type 0) (ws : List ℕ) → All P ws → ((v : ℕ) → P v → 0 < count_by (λ u. u == v) ws → Q v) → All Q ws
of_counted P Q [] all h = All-nil Q
of_counted P Q (v ∷ vs) all h =
    All-cons Q v vs (h v (All-head P v vs all) (omega (arith, sum_by-cons (λ (x : ℕ). cond (x == v) 1 0) v vs, one_is v)))
    (of_counted P Q vs (All-tail P v vs all) (λ u p some. h u p (omega (arith, sum_by-cons (λ (x : ℕ). cond (x == u) 1 0) v vs))))

-- where each further counter is 0, nobody waited so long
pub all_below : (x : WaitsState) (ws : List ℕ) (n : ℕ) → AreWaits x ws → ((w : ℕ) → n ≤ w → get_or x.counters w 0 ≡ 0) → All (λ v. v < n) ws
all_below x ws n are zeros =
    of_counted (λ v. v < length x.counters) (λ v. v < n) ws are.below (λ v inside some. below v (are.each v inside) some (zeros v) (cases_lt v n))
  where
    below : (v : ℕ) → get_or x.counters v 0 ≡ count_by (λ u. u == v) ws → 0 < count_by (λ u. u == v) ws → (n ≤ v → get_or x.counters v 0 ≡ 0) → (v < n) ⊎ (n ≤ v) → v < n
    below v each some none (inl h) = h
    below v each some none (inr h) = absurd (omega (arith, each, none h))

-- what is counted up to one more counter is below the greatest number
pub waited_next : (ws : List ℕ) (w waited m : ℕ) → length ws < 2 ^ 64 → m ≡ count_by (λ v. v == w) ws → waited ≡ count_by (λ v. nat_lt v w) ws
    → (waited + m ≡ count_up_to w ws) × (waited + m < 2 ^ 64)
waited_next ws w waited m few here is =
    let both = up_to w ws in (
      omega (arith, here, both, is),
      omega (arith, here, both, is, few, count_by-le-length (λ (v : ℕ). nat_le v w) ws),
    )

-- the test of the loop
pub enough_is : (q n : ℕ) (ws : List ℕ) (w : ℕ) → q * length ws ≤ n * count_up_to w ws → is_enough q n ws w ≡ true
enough_is q n ws w h = grind (arith, nat_tests)

pub not_enough_is : (q n : ℕ) (ws : List ℕ) (w : ℕ) → n * count_up_to w ws < q * length ws → is_enough q n ws w ≡ false
not_enough_is q n ws w h = grind (arith, nat_tests)

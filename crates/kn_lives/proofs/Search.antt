-- A search of slots by ascending numbers.
use Rattle.std.proofs.Common.{◌≡◌, ◌≢◌, sym, ap, ℕ, zero, suc, ◌+◌, ◌<◌, ◌≤◌, ◌⊎◌, inl, inr, false, List, [], ◌∷◌, length, get_or, arith, Some, None}
use Rattle.std.specs.Prelude.{◌-◌, slice_get}
use Rattle.std.specs.List.{All, HoldsAt}
use Rattle.std.specs.List.Sorted.{IsNonDecreasingBy, IsPartitionPoint}
use Rattle.std.specs.Ordering.{is_lt, nat_cmp, ordering_index}
use Rattle.std.specs.declared.cmp.Ordering.TheVariants.{Less, Equal, Greater}
use Rattle.std.proofs.lemmas.Bool.{cases_lt}
use Rattle.std.proofs.lemmas.Bool.Decides.{nat_tests}
use Rattle.std.proofs.lemmas.Cmp.{ranked, nat_cmp_total}
use Rattle.std.proofs.lemmas.List.Sorted.{searchable_from_sorted}
use Rattle.kn_lives.specs.declared.slots.Slot.{Slot}
use Rattle.kn_lives.specs.Slots.{AreAscending, IsSlotOf}

-- where it ends with the number, its slot stands
pub hit : (r : ℕ) (xs : List Slot) (i : ℕ) → i < length xs → HoldsAt (λ (s : Slot). nat_cmp s.number r ≡ Equal) xs i → IsSlotOf r xs i
hit r xs i inside at = record { inside = inside; number = λ d. ranked (get_or xs i d).number r Equal (sym (at d)) }

-- a search may halve slots by ascending numbers
pub searchable : (r : ℕ) (xs : List Slot) → AreAscending xs → IsNonDecreasingBy (λ (s : Slot). ordering_index (nat_cmp s.number r)) xs
searchable r xs pairs = searchable_from_sorted nat_cmp_total (λ (s : Slot). s.number) xs r (λ k d low more. not_below (get_or xs (k + 1) d).number (get_or xs k d).number (pairs k (k + 1) d (omega arith) more))
  where
    not_below : (a b : ℕ) → b < a → is_lt (nat_cmp a b) ≡ false
    not_below a b h = grind (arith, nat_tests)

-- where it ends without the number, no slot has it
pub missed : (r : ℕ) (xs : List Slot) (i : ℕ) → IsPartitionPoint (λ (s : Slot). nat_cmp s.number r ≡ Less) (λ (s : Slot). nat_cmp s.number r ≡ Greater) xs i → All (λ (s : Slot). s.number ≢ r) xs
missed r xs i point k d inside = by (cases_lt k i)
  where
    less : (n : ℕ) → nat_cmp n r ≡ Less → n ≢ r
    less n e same = let lt : n < r = ranked n r Less (sym e) in omega (arith, lt, same)

    greater : (n : ℕ) → nat_cmp n r ≡ Greater → n ≢ r
    greater n e same = let lt : r < n = ranked n r Greater (sym e) in omega (arith, lt, same)

    by : (k < i) ⊎ (i ≤ k) → (get_or xs k d).number ≢ r
    by (inl low) = less _ (point.0 k d (omega arith) low)
    by (inr high) = greater _ (point.1 k d high inside)

-- ---- the last one

last_item : (xs : List Slot) (x : Slot) → Some x ≡ slice_get xs (length xs - 1) → (0 < length xs) × ((d : Slot) → get_or xs (length xs - 1) d ≡ x)
last_item xs x is = by xs (length xs - 1) is (λ some. omega (arith, some))
  where
    by : (xs : List Slot) (i : ℕ) → Some x ≡ slice_get xs i → (0 < length xs → i < length xs) → (0 < length xs) × ((d : Slot) → get_or xs i d ≡ x)
    by [] i e inside = absurd (let none : Some x ≡ None = e in cc)
    by (y ∷ ys) i e inside = (omega arith, λ d. at (y ∷ ys) i d (inside (omega arith)) e)
      where
        at : (xs : List Slot) (i : ℕ) (d : Slot) → i < length xs → Some x ≡ slice_get xs i → get_or xs i d ≡ x
        at [] i d low e = absurd (omega arith)
        at (y ∷ ys) zero d low e = let same : Some x ≡ Some y = e in (cc)
        at (y ∷ ys) (suc i) d low e = at ys i d (omega arith) e

-- what is below the first one is nowhere
pub none_below : (xs : List Slot) (x : Slot) (n : ℕ) → Some x ≡ slice_get xs 0 → AreAscending xs → n < x.number → All (λ (s : Slot). s.number ≢ n) xs
none_below [] x n is pairs below k d inside = absurd (omega arith)
none_below (y ∷ ys) x n is pairs below zero d inside =
    let same : x ≡ y = cc in
    let number : x.number ≡ y.number = ap (λ (s : Slot). s.number) same in
    λ e. omega (arith, number, below, e)
none_below (y ∷ ys) x n is pairs below (suc k) d inside =
    let same : x ≡ y = cc in
    let number : x.number ≡ y.number = ap (λ (s : Slot). s.number) same in
    let more : y.number < (get_or ys k d).number = pairs 0 (suc k) d (omega arith) inside in
    λ e. omega (arith, number, below, more, e)

module _ (xs : List Slot) (x : Slot) (is : Some x ≡ slice_get xs (length xs - 1)) (n : ℕ) where
  -- what is above the last one is above all
  pub above_last : AreAscending xs → x.number < n → All (λ (s : Slot). s.number < n) xs
  above_last pairs above k d inside =
      let last = (last_item xs x is).1 d in
      let number : (get_or xs (length xs - 1) d).number ≡ x.number = ap (λ (s : Slot). s.number) last in
      let before : k < length xs - 1 → (get_or xs k d).number < (get_or xs (length xs - 1) d).number = λ lt. pairs k (length xs - 1) d lt (omega (arith, inside)) in
      let here : k ≡ length xs - 1 → (get_or xs k d).number ≡ (get_or xs (length xs - 1) d).number = λ at. ap (λ j. (get_or xs j d).number) at in
      grind (arith, number, before, here, inside, above)

-- what is above the last one is nowhere
pub none_above : (xs : List Slot) (x : Slot) (n : ℕ) → Some x ≡ slice_get xs (length xs - 1) → AreAscending xs → x.number < n → All (λ (s : Slot). s.number ≢ n) xs
none_above xs x n is pairs above k d inside =
    let low = above_last xs x is n pairs above k d inside in
    λ same. omega (arith, low, same)

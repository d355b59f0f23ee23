-- Lists of what has a number, in ascending order: a number is looked up, and what has it is changed.
use Rattle.std.proofs.Common.{◌≡◌, ℕ, zero, suc, ◌<◌, ◌≤◌, true, false, not, cond, List, [], ◌∷◌, set, get_or, length, map, refl, sym, ap, arith, nat_eq, Some, None, Result, Ok, Err, IfSome, IfNone}
use Rattle.std.specs.List.{All, AllPairs, HoldsAt, filter, find, position_or_len, remove}
use Rattle.std.specs.List.Sorted.{IsSearchInRange, IsBinarySearchResult, IsNonDecreasingBy, IsPartitionPoint, IsPartitionedBy}
use Rattle.std.specs.Prelude.{nat_le, nat_lt}
use Rattle.std.specs.Ordering.{nat_cmp, ordering_index}
use Rattle.std.specs.Result.{result_ok}
use Rattle.std.proofs.lemmas.Bool.Decides.{nat_tests}
use Rattle.std.proofs.lemmas.Cmp.{ranked}
use Rattle.std.proofs.lemmas.List.Sorted.{IsNonDecreasingBy-from_default}
use Rattle.std.proofs.lemmas.List.Sums.{prefix_len_is}
use Rattle.kn_throttle.proofs.Same.{eq-sym}

pub is_named : (n p : ℕ) → n ≡ p → nat_eq n p ≡ true
is_named n p same = grind (arith, nat_tests)

pub not_named : (n p : ℕ) → (n ≡ p → ⊥) → nat_eq n p ≡ false
not_named n p differ = grind (arith, nat_tests)

module _ {X : Type 0} (number : X → ℕ) where
  abbrev pub Ascends : List X → Type 0
  Ascends xs = AllPairs (λ x y. number x < number y) xs

  -- none of these has the number
  abbrev pub HasNone : ℕ → List X → Type 0
  HasNone p xs = All (λ x. number x ≡ p → ⊥) xs

  -- what has the number is changed
  abbrev pub changed : ℕ → (X → X) → List X → List X
  changed p change xs = map (λ x. cond (nat_eq (number x) p) (change x) x) xs

  pub rest_ascends : (x : X) (xs : List X) → Ascends (x ∷ xs) → Ascends xs
  rest_ascends x xs rise i j d lt inside = rise (suc i) (suc j) d (omega arith) (omega arith)

  pub above_first : (x : X) (xs : List X) → Ascends (x ∷ xs) → (k : ℕ) (d : X) → k < length xs → number x < number (get_or xs k d)
  above_first x xs rise k d inside = rise 0 (suc k) d (omega arith) (omega arith)

  none_rest : (p : ℕ) (x : X) (xs : List X) → HasNone p (x ∷ xs) → HasNone p xs
  none_rest p x xs none k d inside = none (suc k) d (omega arith)

  pub none_after : (p : ℕ) (x : X) (xs : List X) → Ascends (x ∷ xs) → number x ≡ p → HasNone p xs
  none_after p x xs rise same k d inside other = absurd (omega (arith, above_first x xs rise k d inside, same, other))

  pub unchanged : (p : ℕ) (change : X → X) (xs : List X) → HasNone p xs → changed p change xs ≡ xs
  unchanged p change [] none = refl
  unchanged p change (x ∷ xs) none =
      let other : nat_eq (number x) p ≡ false = not_named (number x) p (none 0 x (omega arith)) in
      rw other (ap (λ l. x ∷ l) (unchanged p change xs (none_rest p x xs none)))

  pub changed-at : (p : ℕ) (change : X → X) (xs : List X) (i : ℕ) (d : X) → Ascends xs → i < length xs → number (get_or xs i d) ≡ p → changed p change xs ≡ set xs i (change (get_or xs i d))
  changed-at p change [] i d rise inside same = absurd (omega arith)
  changed-at p change (x ∷ xs) zero d rise inside same =
      rw (is_named (number x) p same) (ap (λ l. change x ∷ l) (unchanged p change xs (none_after p x xs rise same)))
  changed-at p change (x ∷ xs) (suc i) d rise inside same =
      let within : i < length xs = omega arith in
      let below = above_first x xs rise i d within in
      let other : nat_eq (number x) p ≡ false = not_named (number x) p (λ e. absurd (omega (arith, below, same, e))) in
      rw other (ap (λ l. x ∷ l) (changed-at p change xs i d (rest_ascends x xs rise) within same))

  -- the same where the test has the two numbers the other way round
  pub changed-flipped : (p : ℕ) (change : X → X) (xs : List X) → map (λ x. cond (nat_eq p (number x)) (change x) x) xs ≡ changed p change xs
  changed-flipped p change [] = refl
  changed-flipped p change (x ∷ xs) = rw (eq-sym p (number x), changed-flipped p change xs) refl

  -- what has the number is gone
  abbrev pub others : ℕ → List X → List X
  others p xs = filter (λ x. not (nat_eq (number x) p)) xs

  pub others-none : (p : ℕ) (xs : List X) → HasNone p xs → others p xs ≡ xs
  others-none p [] none = refl
  others-none p (x ∷ xs) none =
      let other : nat_eq (number x) p ≡ false = not_named (number x) p (none 0 x (omega arith)) in
      rw other (ap (λ l. x ∷ l) (others-none p xs (none_rest p x xs none)))

  pub others-at : (p : ℕ) (xs : List X) (i : ℕ) (d : X) → Ascends xs → i < length xs → number (get_or xs i d) ≡ p → others p xs ≡ remove xs i
  others-at p [] i d rise inside same = absurd (omega arith)
  others-at p (x ∷ xs) zero d rise inside same = rw (is_named (number x) p same) (others-none p xs (none_after p x xs rise same))
  others-at p (x ∷ xs) (suc i) d rise inside same =
      let within : i < length xs = omega arith in
      let below = above_first x xs rise i d within in
      let other : nat_eq (number x) p ≡ false = not_named (number x) p (λ e. absurd (omega (arith, below, same, e))) in
      rw other (ap (λ l. x ∷ l) (others-at p xs i d (rest_ascends x xs rise) within same))

  pub others-flipped : (p : ℕ) (xs : List X) → filter (λ x. not (nat_eq p (number x))) xs ≡ others p xs
  others-flipped p [] = refl
  others-flipped p (x ∷ xs) = rw (eq-sym p (number x), others-flipped p xs) refl

  -- those up to a number come before the first one above it
  partition_rises : (d : X) (xs : List X) → Ascends xs → (p i j : ℕ) → i ≤ j → j < length xs → nat_le (number (get_or xs j d)) p ≡ true → nat_le (number (get_or xs i d)) p ≡ true
  partition_rises d xs rise p i j le inside up =
      let numbers_rise : number (get_or xs i d) ≤ number (get_or xs j d) =
      grind (arith, rise i j d, λ (same : i ≡ j). ap (λ k. number (get_or xs k d)) same) in
      grind (arith, nat_tests)

  pub up_to_parts : (xs : List X) → Ascends xs → (p : ℕ) → IsPartitionedBy (λ x. nat_le (number x) p) xs
  up_to_parts xs rise p i j d le inside up = partition_rises d xs rise p i j le inside up

  pub point_behind : (d : X) (xs : List X) (p at : ℕ) → at ≤ length xs → IsPartitionPoint (λ x. nat_le (number x) p ≡ true) (λ x. nat_le (number x) p ≡ false) xs at
      → at ≡ position_or_len (λ x. nat_lt p (number x)) xs
  point_behind d xs p at inside point = sym (prefix_len_is (λ x. not (nat_lt p (number x))) xs at d inside
      (λ k lt. let up = point.0 k d (omega arith) lt in grind (arith, nat_tests))
      (λ lt. let above = point.1 at d (omega arith) lt in grind (arith, nat_tests)))

  -- the comparisons with p rise along the list, as a binary search asks
  comparisons_rise : (d : X) (xs : List X) → Ascends xs → (p : ℕ) → IsNonDecreasingBy (λ x. ordering_index (nat_cmp (number x) p)) xs
  comparisons_rise d xs rise p = IsNonDecreasingBy-from_default (λ x. ordering_index (nat_cmp (number x) p)) xs d (λ i j le inside.
      let numbers_rise : number (get_or xs i d) ≤ number (get_or xs j d) =
      grind (arith, rise i j d, λ (same : i ≡ j). ap (λ k. number (get_or xs k d)) same) in
      grind (arith, nat_tests))

  -- where a binary search for the number ends
  pub search_there : (xs : List X) (p : ℕ) (r : Result ℕ ℕ) → IsBinarySearchResult (λ x. nat_cmp (number x) p) xs r → IfSome (result_ok r) (HoldsAt (λ x. number x ≡ p) xs)
  search_there xs p (Ok i) equal = λ d. ranked _ p _ (sym (equal d))
  search_there xs p (Err i) parted = tt

  pub search_none : (d : X) (xs : List X) (p : ℕ) (r : Result ℕ ℕ) → Ascends xs → IsSearchInRange r (length xs) → IsBinarySearchResult (λ x. nat_cmp (number x) p) xs r → IfNone (result_ok r) (HasNone p xs)
  search_none d xs p (Ok i) rise inside equal = tt
  search_none d xs p (Err at) rise inside parted = λ k e within same.
      let parts = parted (comparisons_rise d xs rise p) in
      let before : (k : ℕ) → k < at → number (get_or xs k e) < p = λ k lt. ranked _ p _ (sym (parts.0 k e (omega arith) lt)) in
      let after : (k : ℕ) → at ≤ k → k < length xs → p < number (get_or xs k e) = λ k le lt. ranked _ p _ (sym (parts.1 k e le lt)) in
      absurd (grind (arith, before k, after k, same, within))

  pub found-none : (p : ℕ) (xs : List X) → HasNone p xs → find (λ x. nat_eq (number x) p) xs ≡ None
  found-none p [] none = refl
  found-none p (x ∷ xs) none =
      let other : nat_eq (number x) p ≡ false = not_named (number x) p (none 0 x (omega arith)) in
      rw other (found-none p xs (none_rest p x xs none))

  pub found-at : (p : ℕ) (xs : List X) (i : ℕ) (d : X) → Ascends xs → i < length xs → number (get_or xs i d) ≡ p → find (λ x. nat_eq (number x) p) xs ≡ Some (get_or xs i d)
  found-at p [] i d rise inside same = absurd (omega arith)
  found-at p (x ∷ xs) zero d rise inside same = rw (is_named (number x) p same) refl
  found-at p (x ∷ xs) (suc i) d rise inside same =
      let within : i < length xs = omega arith in
      let below = above_first x xs rise i d within in
      let other : nat_eq (number x) p ≡ false = not_named (number x) p (λ e. absurd (omega (arith, below, same, e))) in
      rw other (found-at p xs i d (rest_ascends x xs rise) within same)

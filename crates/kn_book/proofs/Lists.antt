-- The first number of a range that passes a test, and how many numbers a list has that has all below n.
use Rattle.std.proofs.Common.{◌≡◌, ◌≢◌, ℕ, zero, suc, ◌+◌, ◌≤◌, ◌<◌, Bool, true, false, not, cond, ◌⊎◌, inl, inr, List, [], ◌∷◌, length, refl, sym, arith}
use Rattle.std.specs.Prelude.{Option, None, Some, ◌==◌}
use Rattle.std.specs.List.{filter, find, range_with_len}
use Rattle.std.proofs.lemmas.Bool.{eqb-true, eq-eqb, or_cases, or_right}
use Rattle.kn_event.specs.Lists.{contains}

-- the first of n numbers, from one on, that passes
pub record IsFirst (t : ℕ → Bool) (from n : ℕ) (found : Option ℕ) : Type 0 where
  pub within : (a : ℕ) → found ≡ Some a → (from ≤ a) × (a < from + n)
  pub passes : (a : ℕ) → found ≡ Some a → t a ≡ true
  pub lower : (a : ℕ) → found ≡ Some a → (x : ℕ) → from ≤ x → x < a → t x ≡ false
  pub none : found ≡ None → (x : ℕ) → from ≤ x → x < from + n → t x ≡ false

pub first_in_range : (t : ℕ → Bool) (from n : ℕ) → IsFirst t from n (find t (range_with_len from n))
first_in_range t from zero = record { within = λ a e. absurd (cc); passes = λ a e. absurd (cc); lower = λ a e. absurd (cc); none = λ e x l u. absurd (omega arith) }
first_in_range t from (suc n) = by (t from) refl (first_in_range t (from + 1) n)
  where
    by : (b : Bool) → t from ≡ b → IsFirst t (from + 1) n (find t (range_with_len (from + 1) n)) → IsFirst t from (suc n) (cond b (Some from) (find t (range_with_len (from + 1) n)))
    by true e rest = record {
      within = λ a h. let same : from ≡ a = cc in (omega arith, omega arith);
      passes = λ a h. let same : from ≡ a = cc in rw (← same) e;
      lower = λ a h x l u. let same : from ≡ a = cc in absurd (omega arith);
      none = λ h. absurd (cc);
    }
    by false e rest = record {
      within = λ a h. let w = rest.within a h in (let l : from + 1 ≤ a = w.0 in omega arith, let u : a < from + 1 + n = w.1 in omega arith);
      passes = λ a h. rest.passes a h;
      lower = λ a h x l u. lower x l (λ more. rest.lower a h x more u);
      none = λ h x l u. lower x l (λ more. rest.none h x more (omega arith));
    }
      where
        lower : (x : ℕ) → from ≤ x → (from + 1 ≤ x → t x ≡ false) → t x ≡ false
        lower x l above = at (x == from) refl
          where
            at : (b : Bool) → (x == from) ≡ b → t x ≡ false
            at true h = let same : x ≡ from = eqb-true x from h in rw same e
            at false h = above (let no : x ≢ from = λ same. (let yes = eq-eqb x from same in absurd (cc)) in omega arith)

-- where none passes, none is found
pub none_in_range : (t : ℕ → Bool) (from n : ℕ) → ((x : ℕ) → from ≤ x → x < from + n → t x ≡ false) → find t (range_with_len from n) ≡ None
none_in_range t from n all = by (find t (range_with_len from n)) (first_in_range t from n)
  where
    by : (o : Option ℕ) → IsFirst t from n o → o ≡ None
    by None first = refl
    by (Some a) first = absurd (let w = first.within a refl in let no = all a w.0 w.1 in let yes = first.passes a refl in cc)

-- ---- as many as there are

-- a list without the number
others : ℕ → List ℕ → List ℕ
others r xs = filter (λ q. not (r == q)) xs

others-member : (r x : ℕ) (xs : List ℕ) → x ≢ r → contains x xs ≡ true → contains x (others r xs) ≡ true
unfolding others
others-member r x [] apart h = absurd (cc)
others-member r x (y ∷ xs) apart h = by (r == y) refl (or_cases (y == x) (contains x xs) h) (λ k. others-member r x xs apart k)
  where
    by : (b : Bool) → (r == y) ≡ b → ((y == x) ≡ true) ⊎ (contains x xs ≡ true) → (contains x xs ≡ true → contains x (filter (λ q. not (r == q)) xs) ≡ true)
        → contains x (cond (not b) (y ∷ filter (λ q. not (r == q)) xs) (filter (λ q. not (r == q)) xs)) ≡ true
    by true e (inl k) rest = absurd (apart (let a : r ≡ y = eqb-true r y e in let d : y ≡ x = eqb-true y x k in cc))
    by true e (inr k) rest = rest k
    by false e (inl k) rest = rw k refl
    by false e (inr k) rest = or_right (y == x) _ (rest k)

others-fewer : (r : ℕ) (xs : List ℕ) → length (others r xs) ≤ length xs
unfolding others
others-fewer r [] = omega arith
others-fewer r (y ∷ xs) = by (r == y) (others-fewer r xs)
  where
    by : (b : Bool) → length (filter (λ q. not (r == q)) xs) ≤ length xs → length (cond (not b) (y ∷ filter (λ q. not (r == q)) xs) (filter (λ q. not (r == q)) xs)) ≤ length (y ∷ xs)
    by true h = omega arith
    by false h = omega arith

others-less : (r : ℕ) (xs : List ℕ) → contains r xs ≡ true → length (others r xs) + 1 ≤ length xs
unfolding others
others-less r [] h = absurd (cc)
others-less r (y ∷ xs) h = by (r == y) refl (or_cases (y == r) (contains r xs) h) (others-fewer r xs) (λ k. others-less r xs k)
  where
    by : (b : Bool) → (r == y) ≡ b → ((y == r) ≡ true) ⊎ (contains r xs ≡ true) → length (filter (λ q. not (r == q)) xs) ≤ length xs → (contains r xs ≡ true → length (filter (λ q. not (r == q)) xs) + 1 ≤ length xs)
        → length (cond (not b) (y ∷ filter (λ q. not (r == q)) xs) (filter (λ q. not (r == q)) xs)) + 1 ≤ length (y ∷ xs)
    by true e o few less = omega arith
    by false e (inl k) few less = absurd (let same : (r == y) ≡ true = eq-eqb r y (sym (eqb-true y r k)) in cc)
    by false e (inr k) few less = let l = less k in omega arith

-- a list that has all numbers below n has n at least
pub all_below : (n : ℕ) (xs : List ℕ) → ((a : ℕ) → a < n → contains a xs ≡ true) → n ≤ length xs
all_below zero xs all = omega arith
all_below (suc n) xs all =
    let rest = all_below n (others n xs) (λ a less. others-member n a xs (λ same. absurd (omega arith)) (all a (omega arith))) in
    let fewer = others-less n xs (all n (omega arith)) in
    omega arith

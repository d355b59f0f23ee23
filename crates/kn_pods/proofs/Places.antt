-- Where a number stands among numbers that ascend.
use Rattle.std.proofs.Common.{◌≡◌, ℕ, zero, suc, ◌<◌, ◌≤◌, Bool, true, false, not, ◌||◌, List, [], ◌∷◌, ◌++◌, get_or, length, refl, ap, ◌∙◌, arith, nat_eq, nat_lt, nat_le, cond, ◌⊎◌, inl, inr}
use Rattle.std.specs.Prelude.{slice_get}
use Rattle.std.specs.List.{filter, find, insert, remove}
use Rattle.std.proofs.lemmas.Bool.{cases_order}
use Rattle.std.proofs.lemmas.Bool.Decides.{nat_tests}
use Rattle.kn_event.specs.Lists.{contains, is_some_of}
use Rattle.kn_pods.specs.Numbers.{IsPlaceOf, inserted}
use Rattle.kn_record.specs.Views.{others}
use Rattle.kn_record.specs.Order.{Ascend}

-- ---- tests

pub is_same : (n p : ℕ) → n ≡ p → nat_eq n p ≡ true
is_same n p same = grind (arith, nat_tests)

pub differs : (n p : ℕ) → (n ≡ p → ⊥) → nat_eq n p ≡ false
differs n p other = grind (arith, nat_tests)

pub is_below : (n p : ℕ) → n < p → nat_lt n p ≡ true
is_below n p h = grind (arith, nat_tests)

pub not_below : (n p : ℕ) → p ≤ n → nat_lt n p ≡ false
not_below n p h = grind (arith, nat_tests)

pub at_most : (n p : ℕ) → n ≤ p → nat_le n p ≡ true
at_most n p h = grind (arith, nat_tests)

pub above : (n p : ℕ) → p < n → nat_le n p ≡ false
above n p h = grind (arith, nat_tests)

-- ---- all above a number

abbrev pub AllAbove : ℕ → List ℕ → Type 0
AllAbove p [] = Unit {0}
AllAbove p (x ∷ xs) = (p < x) × AllAbove p xs

above_from : (p : ℕ) (xs : List ℕ) → ((k d : ℕ) → k < length xs → p < get_or xs k d) → AllAbove p xs
above_from p [] h = tt
above_from p (x ∷ xs) h = (h 0 0 (omega arith), above_from p xs (λ k d lt. h (suc k) d (omega arith)))

above_at : (p : ℕ) (xs : List ℕ) → AllAbove p xs → (k d : ℕ) → k < length xs → p < get_or xs k d
above_at p [] h k d lt = absurd (omega arith)
above_at p (x ∷ xs) h zero d lt = h.0
above_at p (x ∷ xs) h (suc k) d lt = above_at p xs h.1 k d (omega arith)

pub above_more : (n p : ℕ) (xs : List ℕ) → n ≤ p → AllAbove p xs → AllAbove n xs
above_more n p [] le h = tt
above_more n p (x ∷ xs) le h = (let a = h.0 in omega arith, above_more n p xs le h.1)

above-append : (p : ℕ) (xs ys : List ℕ) → AllAbove p xs → AllAbove p ys → AllAbove p (xs ++ ys)
above-append p [] ys h g = g
above-append p (x ∷ xs) ys h g = (h.0, above-append p xs ys h.1 g)

above_where : (b : Bool) (p x : ℕ) (xs : List ℕ) → p < x → AllAbove p xs → AllAbove p (cond b (x ∷ xs) xs)
above_where true p x xs lt h = (lt, h)
above_where false p x xs lt h = h

above-filter : (p : ℕ) (test : ℕ → Bool) (xs : List ℕ) → AllAbove p xs → AllAbove p (filter test xs)
above-filter p test [] h = tt
above-filter p test (x ∷ xs) h = above_where (test x) p x (filter test xs) h.0 (above-filter p test xs h.1)

none_below : (p : ℕ) (xs : List ℕ) → AllAbove p xs → filter (λ q. nat_lt q p) xs ≡ []
none_below p [] h = refl
none_below p (x ∷ xs) h = rw (not_below x p (let a = h.0 in omega arith)) (none_below p xs h.1)

all_above : (p : ℕ) (xs : List ℕ) → AllAbove p xs → filter (λ q. nat_lt p q) xs ≡ xs
all_above p [] h = refl
all_above p (x ∷ xs) h = rw (is_below p x h.0) (ap (λ ys. x ∷ ys) (all_above p xs h.1))

without_above : (p : ℕ) (xs : List ℕ) → AllAbove p xs → others p xs ≡ xs
without_above p [] h = refl
without_above p (x ∷ xs) h = rw (differs p x (λ e. let a = h.0 in absurd (omega arith))) (ap (λ ys. x ∷ ys) (without_above p xs h.1))

pub contains_above : (p : ℕ) (xs : List ℕ) → AllAbove p xs → contains p xs ≡ false
contains_above p [] h = refl
contains_above p (x ∷ xs) h = rw (differs x p (λ e. let a = h.0 in absurd (omega arith))) (contains_above p xs h.1)

pub inserted_above : (p : ℕ) (xs : List ℕ) → AllAbove p xs → inserted p xs ≡ p ∷ xs
inserted_above p xs h = rw (none_below p xs h, all_above p xs h) refl

pub inserted_same : (p : ℕ) (xs : List ℕ) → AllAbove p xs → inserted p (p ∷ xs) ≡ p ∷ xs
inserted_same p xs h = rw (not_below p p (omega arith), none_below p xs h, all_above p xs h) refl

-- ---- numbers that ascend

pub ascending_rest : (x : ℕ) (xs : List ℕ) → Ascend (x ∷ xs) → Ascend xs
ascending_rest x xs rise i j d lt inside = rise (suc i) (suc j) d (omega arith) (omega arith)

pub above_first : (x : ℕ) (xs : List ℕ) → Ascend (x ∷ xs) → AllAbove x xs
above_first x xs rise = above_from x xs (λ k d lt. rise 0 (suc k) d (omega arith) (omega arith))

ascending_cons : (x : ℕ) (xs : List ℕ) → AllAbove x xs → Ascend xs → Ascend (x ∷ xs)
ascending_cons x xs h rise zero zero d lt inside = absurd (omega arith)
ascending_cons x xs h rise zero (suc j) d lt inside = above_at x xs h j d (omega arith)
ascending_cons x xs h rise (suc i) zero d lt inside = absurd (omega arith)
ascending_cons x xs h rise (suc i) (suc j) d lt inside = rise i j d (omega arith) (omega arith)

ascending_where : (b : Bool) (x : ℕ) (xs : List ℕ) → AllAbove x xs → Ascend xs → Ascend (cond b (x ∷ xs) xs)
ascending_where true x xs h rise = ascending_cons x xs h rise
ascending_where false x xs h rise = rise

ascending-filter : (test : ℕ → Bool) (xs : List ℕ) → Ascend xs → Ascend (filter test xs)
ascending-filter test [] rise = rise
ascending-filter test (x ∷ xs) rise =
    ascending_where (test x) x (filter test xs) (above-filter x test xs (above_first x xs rise)) (ascending-filter test xs (ascending_rest x xs rise))

pub ascending-without : (p : ℕ) (xs : List ℕ) → Ascend xs → Ascend (others p xs)
ascending-without p xs rise = ascending-filter (λ q. not (nat_eq p q)) xs rise

pub inserted_first : (p x : ℕ) (xs : List ℕ) → x < p → inserted p (x ∷ xs) ≡ x ∷ inserted p xs
inserted_first p x xs h = rw (is_below x p h, not_below p x (omega arith)) refl

pub inserted_there : (p : ℕ) (xs : List ℕ) → Ascend xs → contains p xs ≡ true → inserted p xs ≡ xs
inserted_there p [] rise there = absurd (cc)
inserted_there p (x ∷ xs) rise there = by (cases_order x p) (inserted_there p xs (ascending_rest x xs rise))
  where
    above : AllAbove x xs
    above = above_first x xs rise

    by : (x ≡ p) ⊎ ((x < p) ⊎ (p < x)) → (contains p xs ≡ true → inserted p xs ≡ xs) → inserted p (x ∷ xs) ≡ x ∷ xs
    by (inr (inl h)) rest = inserted_first p x xs h ∙ ap (λ ys. x ∷ ys) (rest (rw (differs x p (λ e. absurd (omega arith))) at there))
    by (inl e) rest = rw e (inserted_same p xs (above_more p x xs (omega arith) above))
    by (inr (inr h)) rest =
        let none = contains_above p (x ∷ xs) (h, above_more p x xs (omega arith) above) in absurd (cc)

pub ascending-inserted : (p : ℕ) (xs : List ℕ) → Ascend xs → Ascend (inserted p xs)
ascending-inserted p [] rise = ascending_cons p [] tt rise
ascending-inserted p (x ∷ xs) rise = by (cases_order x p) (ascending-inserted p xs (ascending_rest x xs rise))
  where
    above : AllAbove x xs
    above = above_first x xs rise

    by : (x ≡ p) ⊎ ((x < p) ⊎ (p < x)) → Ascend (inserted p xs) → Ascend (inserted p (x ∷ xs))
    by (inr (inl h)) more =
        rw (inserted_first p x xs h)
        (ascending_cons x (inserted p xs) (above-append x (filter (λ q. nat_lt q p) xs) (p ∷ filter (λ q. nat_lt p q) xs) (above-filter x (λ q. nat_lt q p) xs above) (h, above-filter x (λ q. nat_lt p q) xs above)) more)
    by (inl e) more = rw (inserted_there p (x ∷ xs) rise (rw (is_same x p e) refl)) rise
    by (inr (inr h)) more =
        let all : AllAbove p (x ∷ xs) = (h, above_more p x xs (omega arith) above) in
        rw (inserted_above p (x ∷ xs) all) (ascending_cons p (x ∷ xs) all rise)

-- ---- a place

-- the numbers before it are below this one, and the others aren't
pub record IsCut (p : ℕ) (xs : List ℕ) (i : ℕ) : Type 0 where
  pub bound : i ≤ length xs
  pub before : (k d : ℕ) → k < i → get_or xs k d < p
  pub after : (k d : ℕ) → i ≤ k → k < length xs → p ≤ get_or xs k d

cut_rest : (p x : ℕ) (xs : List ℕ) (i : ℕ) → IsCut p (x ∷ xs) (suc i) → IsCut p xs i
cut_rest p x xs i cut = record {
  bound = let a = cut.bound in omega arith;
  before = λ k d lt. cut.before (suc k) d (omega arith);
  after = λ k d le lt. cut.after (suc k) d (omega arith) (omega arith);
}

next_at : (p : ℕ) (xs : List ℕ) (i : ℕ) → IsCut p xs i → find (λ q. nat_le p q) xs ≡ slice_get xs i
next_at p [] zero cut = refl
next_at p [] (suc i) cut = absurd (let a = cut.bound in omega arith)
next_at p (x ∷ xs) zero cut = rw (at_most p x (cut.after 0 0 (omega arith) (omega arith))) refl
next_at p (x ∷ xs) (suc i) cut = rw (above p x (cut.before 0 0 (omega arith))) (next_at p xs i (cut_rest p x xs i cut))

there_at : (p : ℕ) (xs : List ℕ) (i : ℕ) → Ascend xs → IsCut p xs i → contains p xs ≡ is_some_of p (slice_get xs i)
there_at p [] zero rise cut = refl
there_at p [] (suc i) rise cut = absurd (let a = cut.bound in omega arith)
there_at p (x ∷ xs) zero rise cut = by (nat_eq x p) refl
  where
    le : p ≤ x
    le = cut.after 0 0 (omega arith) (omega arith)

    by : (b : Bool) → nat_eq x p ≡ b → (nat_eq x p || contains p xs) ≡ nat_eq x p
    by true e = rw e refl
    by false e = rw e (contains_above p xs (above_more p x xs le (above_first x xs rise)))
there_at p (x ∷ xs) (suc i) rise cut =
    rw (differs x p (λ e. let a = cut.before 0 0 (omega arith) in absurd (omega arith))) (there_at p xs i (ascending_rest x xs rise) (cut_rest p x xs i cut))

removed_at : (p : ℕ) (xs : List ℕ) (i : ℕ) → Ascend xs → IsCut p xs i → contains p xs ≡ true → others p xs ≡ remove xs i
removed_at p [] i rise cut there = absurd (cc)
removed_at p (x ∷ xs) zero rise cut there = by (nat_eq x p) refl
  where
    le : p ≤ x
    le = cut.after 0 0 (omega arith) (omega arith)

    rest : AllAbove p xs
    rest = above_more p x xs le (above_first x xs rise)

    by : (b : Bool) → nat_eq x p ≡ b → others p (x ∷ xs) ≡ xs
    by true e = rw (is_same p x (grind (arith, nat_tests))) (without_above p xs rest)
    by false e = let none = contains_above p xs rest in let h = rw (e, none) at there in absurd (cc)
removed_at p (x ∷ xs) (suc i) rise cut there =
    let lt : x < p = cut.before 0 0 (omega arith) in
    rw (differs p x (λ e. absurd (omega arith)))
    (ap (λ ys. x ∷ ys) (removed_at p xs i (ascending_rest x xs rise) (cut_rest p x xs i cut) (rw (differs x p (λ e. absurd (omega arith))) at there)))

inserted_at : (p : ℕ) (xs : List ℕ) (i : ℕ) → Ascend xs → IsCut p xs i → contains p xs ≡ false → inserted p xs ≡ insert xs i p
inserted_at p [] zero rise cut none = refl
inserted_at p [] (suc i) rise cut none = absurd (let a = cut.bound in omega arith)
inserted_at p (x ∷ xs) zero rise cut none = by (cases_order x p)
  where
    le : p ≤ x
    le = cut.after 0 0 (omega arith) (omega arith)

    by : (x ≡ p) ⊎ ((x < p) ⊎ (p < x)) → inserted p (x ∷ xs) ≡ p ∷ x ∷ xs
    by (inr (inl h)) = let a = le in absurd (omega arith)
    by (inl e) = let h = rw (is_same x p e) at none in absurd (cc)
    by (inr (inr h)) = inserted_above p (x ∷ xs) (h, above_more p x xs (omega arith) (above_first x xs rise))
inserted_at p (x ∷ xs) (suc i) rise cut none =
    let lt : x < p = cut.before 0 0 (omega arith) in
    inserted_first p x xs lt
    ∙ ap (λ ys. x ∷ ys) (inserted_at p xs i (ascending_rest x xs rise) (cut_rest p x xs i cut) (rw (differs x p (λ e. absurd (omega arith))) at none))

inside_at : (p : ℕ) (xs : List ℕ) (i : ℕ) → Ascend xs → IsCut p xs i → contains p xs ≡ true → i < length xs
inside_at p [] i rise cut there = absurd (cc)
inside_at p (x ∷ xs) zero rise cut there = omega arith
inside_at p (x ∷ xs) (suc i) rise cut there =
    let lt : x < p = cut.before 0 0 (omega arith) in
    let h = inside_at p xs i (ascending_rest x xs rise) (cut_rest p x xs i cut) (rw (differs x p (λ e. absurd (omega arith))) at there) in omega arith

pub without_absent : (p : ℕ) (xs : List ℕ) → contains p xs ≡ false → others p xs ≡ xs
without_absent p [] none = refl
without_absent p (x ∷ xs) none = by (nat_eq x p) refl none (without_absent p xs)
  where
    by : (b : Bool) → nat_eq x p ≡ b → (b || contains p xs) ≡ false → (contains p xs ≡ false → others p xs ≡ xs) → others p (x ∷ xs) ≡ x ∷ xs
    by true e h rest = absurd (cc)
    by false e h rest = rw (differs p x (grind (arith, nat_tests))) (ap (λ ys. x ∷ ys) (rest h))

pub place_at : (p : ℕ) (xs : List ℕ) (i : ℕ) → Ascend xs → IsCut p xs i → IsPlaceOf p xs i
place_at p xs i rise cut = record {
  bound = cut.bound;
  next = next_at p xs i cut;
  there = there_at p xs i rise cut;
  inside = inside_at p xs i rise cut;
  taken_out = removed_at p xs i rise cut;
  absent = without_absent p xs;
  put_in = inserted_at p xs i rise cut;
  kept = inserted_there p xs rise;
  fewer = ascending-without p xs rise;
  more = ascending-inserted p xs rise;
}

pub not_falling : (xs : List ℕ) → Ascend xs → (i j d : ℕ) → i ≤ j → j < length xs → get_or xs i d ≤ get_or xs j d
not_falling xs rise i j d le inside = grind (arith, rise i j d, λ (same : i ≡ j). ap (λ k. get_or xs k d) same)

-- ---- the last one

above_last : (n p : ℕ) (ys : List ℕ) → AllAbove n (ys ++ p ∷ []) → n < p
above_last n p [] h = h.0
above_last n p (y ∷ ys) h = above_last n p ys h.1

pub without_last : (p : ℕ) (ys : List ℕ) → Ascend (ys ++ p ∷ []) → others p (ys ++ p ∷ []) ≡ ys
without_last p [] rise = rw (is_same p p refl) refl
without_last p (y ∷ ys) rise =
    let lt : y < p = above_last y p ys (above_first y (ys ++ p ∷ []) rise) in
    rw (differs p y (λ e. absurd (omega arith))) (ap (λ zs. y ∷ zs) (without_last p ys (ascending_rest y (ys ++ p ∷ []) rise)))

pub contains_last : (p : ℕ) (ys : List ℕ) → contains p (ys ++ p ∷ []) ≡ true
contains_last p [] = rw (is_same p p refl) refl
contains_last p (y ∷ ys) = by (nat_eq y p) (contains_last p ys)
  where
    by : (b : Bool) → contains p (ys ++ p ∷ []) ≡ true → (b || contains p (ys ++ p ∷ [])) ≡ true
    by true h = refl
    by false h = h

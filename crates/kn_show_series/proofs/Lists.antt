-- Lists, filters and ranges.
use Rattle.std.proofs.Common.{◌≡◌, ◌≤◌, ◌<◌, ◌+◌, ℕ, zero, suc, Bool, true, false, cond, List, [], ◌∷◌, ◌++◌, length, map, Option, None, Some, refl, ap, ◌∙◌, arith, length-append}
use Rattle.std.specs.Prelude.{max, fold}
use Rattle.std.specs.List.{All, cons_option, filter, range_with_len}
use Rattle.std.proofs.lemmas.List.Elements.{All-head, All-tail, filter_map-append}
use Rattle.std.proofs.lemmas.List.FromFn.{map-range_with_len_more}
use Rattle.std.proofs.lemmas.List.Sums.{fold-append}
use Rattle.kn_event.specs.declared.entry.Entry.{Entry}
use Rattle.kn_event.specs.declared.entry.Row.{Row}
use Rattle.kn_trace.specs.Trace.{Trace, each_row, last_of}
use Rattle.kn_record.specs.Rows.{counted}

-- ---- filters

-- none passes
pub filter-none : {X : Type 0} (p : X → Bool) (xs : List X) → All (λ x. p x ≡ false) xs → filter p xs ≡ []
filter-none p [] h = refl
filter-none p (x ∷ xs) h = rw (All-head (λ y. p y ≡ false) x xs h) (filter-none p xs (All-tail (λ y. p y ≡ false) x xs h))

-- all pass
pub filter-all : {X : Type 0} (p : X → Bool) (xs : List X) → All (λ x. p x ≡ true) xs → filter p xs ≡ xs
filter-all p [] h = refl
filter-all p (x ∷ xs) h = rw (All-head (λ y. p y ≡ true) x xs h) (ap (λ ys. x ∷ ys) (filter-all p xs (All-tail (λ y. p y ≡ true) x xs h)))

-- none from here on passes
pub filter-range_none : (p : ℕ → Bool) (a n : ℕ) → ((j : ℕ) → a ≤ j → p j ≡ false) → filter p (range_with_len a n) ≡ []
filter-range_none p a zero h = refl
filter-range_none p a (suc n) h = rw (h a (omega arith)) (filter-range_none p (a + 1) n (λ j l. h j (omega arith)))

-- ---- what rows say

pub last_of-push : {X : Type 0} (xs : List X) (x : X) → last_of (xs ++ x ∷ []) ≡ Some x
last_of-push [] x = refl
last_of-push (y ∷ xs) x = rw (last_of-push xs x)

length-single : {X : Type 0} (o : Option X) (xs : List X) → length (cons_option o xs) ≡ counted o + length xs
length-single None xs = omega arith
length-single (Some x) xs = omega arith

pub length-each_row-cons : {X : Type 0} (f : Row → Option X) (x : Entry) (c : Trace) → length (each_row f (x ∷ c)) ≡ counted (f x.row) + length (each_row f c)
length-each_row-cons f x c = length-single (f x.row) (each_row f c)

pub length-each_row-append : {X : Type 0} (f : Row → Option X) (b c : Trace) → length (each_row f (b ++ c)) ≡ length (each_row f b) + length (each_row f c)
length-each_row-append f b c =
    ap length (filter_map-append (λ (e : Entry). f e.row) b c) ∙ length-append (each_row f b) (each_row f c)

pub length-each_row_push : {X : Type 0} (f : Row → Option X) (c : Trace) (x : Entry) → length (each_row f (c ++ x ∷ [])) ≡ length (each_row f c) + counted (f x.row)
length-each_row_push f c x = let one = length-each_row-cons f x [] in length-each_row-append f c (x ∷ []) ∙ omega (arith, one)

-- no more than there are rows
pub length-each_row-le : {X : Type 0} (f : Row → Option X) (c : Trace) → length (each_row f c) ≤ length c
length-each_row-le f [] = omega arith
length-each_row-le f (x ∷ c) = le_of (f x.row) (length-each_row-cons f x c) (length-each_row-le f c)
  where
    le_of : {Y : Type 0} {n m k : ℕ} (o : Option Y) → n ≡ counted o + m → m ≤ k → n ≤ suc k
    le_of None e h = omega arith
    le_of (Some y) e h = omega arith

-- where no row says anything, none of some of them does
pub each_row-filter_none : {X : Type 0} (f : Row → Option X) (p : Entry → Bool) (c : Trace) → each_row f c ≡ [] → each_row f (filter p c) ≡ []
each_row-filter_none f p [] h = refl
each_row-filter_none {X} f p (x ∷ c) h = by (f x.row) refl (p x) h (each_row-filter_none f p c)
  where
    by : (o : Option X) → f x.row ≡ o → (b : Bool) → cons_option o (each_row f c) ≡ [] → (each_row f c ≡ [] → each_row f (filter p c) ≡ [])
        → each_row f (cond b (x ∷ filter p c) (filter p c)) ≡ []
    by None e true none more = rw e (more none)
    by None e false none more = more none
    by (Some y) e b none more = absurd (cc)

-- ---- the greatest

pub greatest-append : (ns ms : List ℕ) → fold max 0 (ns ++ ms) ≡ fold max (fold max 0 ns) ms
greatest-append ns ms = fold-append max 0 ns ms

-- of one more in a range
pub greatest-range_more : (f : ℕ → ℕ) (a n j : ℕ) → a + n ≡ j → fold max 0 (map f (range_with_len a (n + 1))) ≡ max (fold max 0 (map f (range_with_len a n))) (f j)
greatest-range_more f a n j e = ap (fold max 0) (map-range_with_len_more f a n j e) ∙ greatest-append (map f (range_with_len a n)) (f j ∷ [])

-- the same of functions that agree in the range
pub map-range_agree : (f g : ℕ → ℕ) (a n : ℕ) → ((j : ℕ) → j < a + n → f j ≡ g j) → map f (range_with_len a n) ≡ map g (range_with_len a n)
map-range_agree f g a zero h = refl
map-range_agree f g a (suc n) h = rw (h a (omega arith)) (ap (λ ys. g a ∷ ys) (map-range_agree f g (a + 1) n (λ j l. h j (omega arith))))

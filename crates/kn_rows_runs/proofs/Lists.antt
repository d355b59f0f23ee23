-- Lists of numbers, and one more row.
use Rattle.std.proofs.Common.{◌≡◌, ℕ, ◌≤◌, ◌<◌, ◌+◌, Bool, true, false, ◌||◌, List, [], ◌∷◌, ◌++◌, length, refl, ◌∙◌, arith, append-nil, length-append, nat_le}
use Rattle.std.specs.Prelude.{Option, None, Some, zero, suc, ◌==◌}
use Rattle.std.specs.List.{filter, filter_map}
use Rattle.std.proofs.lemmas.Bool.{eqb-true, eq-eqb}
use Rattle.std.proofs.lemmas.Bool.Decides.{nat_tests}
use Rattle.std.proofs.lemmas.List.Folds.{list_any-append}
use Rattle.std.proofs.lemmas.List.Elements.{filter_map-append}
use Rattle.kn_event.specs.declared.entry.Entry.{Entry}
use Rattle.kn_event.specs.declared.entry.Row.{Row}
use Rattle.kn_event.specs.Lists.{contains}
use Rattle.kn_trace.specs.Trace.{Trace, each_row}
use Rattle.kn_trace.specs.Events.{due_by}

-- ---- the numbers below n

pub upto : ℕ → List ℕ
upto zero = []
upto (suc n) = upto n ++ n ∷ []

pub length-upto : (n : ℕ) → length (upto n) ≡ n
unfolding upto
length-upto zero = refl
length-upto (suc n) = let rest = length-upto n in rw (length-append) (omega arith)

pub upto-more : (n : ℕ) → upto (suc n) ≡ upto n ++ n ∷ []
unfolding upto
upto-more n = refl

pub upto-none : upto 0 ≡ []
unfolding upto
upto-none = refl

-- n is not below n
pub not_below : (n m : ℕ) → n ≤ m → contains m (upto n) ≡ false
unfolding upto
not_below zero m h = refl
not_below (suc n) m h =
    rw (list_any-append (λ y. y == m) (upto n) (n ∷ []), not_below n m (omega arith)) (by (n == m) refl)
  where
    by : (b : Bool) → (n == m) ≡ b → (b || false) ≡ false
    by true e = let same : n ≡ m = eqb-true n m e in absurd (omega arith)
    by false e = refl

-- ---- filters

pub filter-all : (t : ℕ → Bool) → ((r : ℕ) → t r ≡ true) → (xs : List ℕ) → filter t xs ≡ xs
filter-all t all [] = refl
filter-all t all (x ∷ xs) = rw (all x, filter-all t all xs) refl

-- of those that are among the numbers none passes a test that refuses these
pub filter-none : (t : ℕ → Bool) (xs : List ℕ) → ((r : ℕ) → contains r xs ≡ true → t r ≡ false) → filter t xs ≡ []
filter-none t [] none = refl
filter-none t (x ∷ xs) none =
    rw (none x (rw (eq-eqb x x refl) refl)) (filter-none t xs (λ r h. none r (by r (x == r) h)))
  where
    by : (r : ℕ) (b : Bool) → contains r xs ≡ true → (b || contains r xs) ≡ true
    by r true h = refl
    by r false h = h

-- ---- one more row

pub each-none : {X : Type 0} (f : Row → Option X) (d : Trace) (e : Entry) (xs : List X) → f e.row ≡ None → each_row f d ≡ xs → each_row f (d ++ e ∷ []) ≡ xs
each-none f d e xs none was = filter_map-append (λ (x : Entry). f x.row) d (e ∷ []) ∙ rw (none, append-nil) was

pub each-some : {X : Type 0} (f : Row → Option X) (d : Trace) (e : Entry) (xs : List X) (x : X) → f e.row ≡ Some x → each_row f d ≡ xs → each_row f (d ++ e ∷ []) ≡ xs ++ x ∷ []
each-some f d e xs x some was = filter_map-append (λ (x : Entry). f x.row) d (e ∷ []) ∙ rw (some, was) refl

-- ---- nobody is due before the timeout has passed since the start

pub nobody_due : (timeout t : ℕ) → t < timeout → (c : Trace) → filter_map (due_by timeout t) c ≡ []
nobody_due timeout t h [] = refl
nobody_due timeout t h (e ∷ c) = rw (late) (nobody_due timeout t h c)
  where
    late : nat_le (e.time + timeout) t ≡ false
    late = grind (arith, nat_tests)

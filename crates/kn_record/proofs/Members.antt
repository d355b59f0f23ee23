-- Membership in lists of numbers, and in what the rows of a trace give.
use Rattle.std.proofs.Common.{◌≡◌, ℕ, zero, suc, ◌<◌, length, get_or, arith, Bool, true, false, not, cond, ◌&&◌, ◌||◌, ◌⊎◌, inl, inr, List, [], ◌∷◌, ◌++◌, refl, sym, ap, ◌∙◌}
use Rattle.std.specs.Prelude.{Option, None, Some, ◌==◌}
use Rattle.std.specs.List.{filter, cons_option}
use Rattle.std.proofs.lemmas.Bool.{eqb-true, eq-eqb, or_parts}
use Rattle.std.proofs.lemmas.List.Folds.{list_any-append}
use Rattle.kn_event.specs.declared.entry.Row.{Row}
use Rattle.kn_event.specs.Lists.{contains}
use Rattle.kn_trace.specs.Trace.{Trace, each_row}
use Rattle.kn_record.specs.Made.{AreDistinct}

pub other_number : (r q : ℕ) → (r == q) ≡ false → (q == r) ≡ false
other_number r q h = by (q == r) refl
  where
    by : (b : Bool) → (q == r) ≡ b → b ≡ false
    by false e = refl
    by true e = let same : (r == q) ≡ true = eq-eqb r q (sym (eqb-true q r e)) in cc

-- members of two lists
pub contains-append : (r : ℕ) (xs ys : List ℕ) → contains r (xs ++ ys) ≡ (contains r xs || contains r ys)
contains-append r xs ys = list_any-append (λ y. y == r) xs ys

and-false : (b : Bool) → (b && false) ≡ false
and-false true = refl
and-false false = refl

kept : (m b k u a : Bool) → (m ≡ true → b ≡ k) → u ≡ (a && k) → cond b (m || u) u ≡ ((m || a) && k)
kept true true k u a same e = same refl
kept true false true u a same e = absurd (let no = same refl in cc)
kept true false false u a same e = e ∙ and-false a
kept false true k u a same e = e
kept false false k u a same e = e

-- members of a filter are those that pass
pub contains-filter : (t : ℕ → Bool) (r : ℕ) (xs : List ℕ) → contains r (filter t xs) ≡ (contains r xs && t r)
contains-filter t r [] = refl
contains-filter t r (x ∷ xs) = split (t x) ∙ kept (x == r) (t x) (t r) (contains r (filter t xs)) (contains r xs) (λ h. ap t (eqb-true x r h)) (contains-filter t r xs)
  where
    split : (b : Bool) → contains r (cond b (x ∷ filter t xs) (filter t xs)) ≡ cond b ((x == r) || contains r (filter t xs)) (contains r (filter t xs))
    split true = refl
    split false = refl

-- a new number keeps a list distinct
pub distinct-push : (xs : List ℕ) (y : ℕ) → AreDistinct xs → contains y xs ≡ false → AreDistinct (xs ++ y ∷ [])
distinct-push [] y d h = (refl, tt)
distinct-push (x ∷ xs) y d h =
    let parts = or_parts (x == y) (contains y xs) h in
    (rw (contains-append x xs (y ∷ []), d.0, other_number x y parts.0) refl, distinct-push xs y d.1 parts.1)

-- a filter keeps a list distinct
pub distinct-filter : (t : ℕ → Bool) (xs : List ℕ) → AreDistinct xs → AreDistinct (filter t xs)
distinct-filter t [] d = tt
distinct-filter t (x ∷ xs) d = by (t x) (distinct-filter t xs d.1)
  where
    by : (b : Bool) → AreDistinct (filter t xs) → AreDistinct (cond b (x ∷ filter t xs) (filter t xs))
    by true rest = (rw (contains-filter t x xs, d.0) refl, rest)
    by false rest = rest

-- taking out a number that isn't there changes nothing
pub filter-others : (r : ℕ) (xs : List ℕ) → contains r xs ≡ false → filter (λ q. not (r == q)) xs ≡ xs
filter-others r [] h = refl
filter-others r (x ∷ xs) h =
    let parts = or_parts (x == r) (contains r xs) h in
    rw (other_number x r parts.0) (ap (λ (l : List ℕ). x ∷ l) (filter-others r xs parts.1))

-- taking out the first of distinct numbers leaves the rest
pub filter-first : (r : ℕ) (rs : List ℕ) → AreDistinct (r ∷ rs) → filter (λ q. not (r == q)) (r ∷ rs) ≡ rs
filter-first r rs d = rw (eq-eqb r r refl) (filter-others r rs d.0)

-- two tests that agree on the members
pub filter-members : (p q : ℕ → Bool) (xs : List ℕ) → ((x : ℕ) → contains x xs ≡ true → p x ≡ q x) → filter p xs ≡ filter q xs
filter-members p q [] same = refl
filter-members p q (x ∷ xs) same =
    rw (same x (rw (eq-eqb x x refl) refl))
    (ap (λ (l : List ℕ). cond (q x) (x ∷ l) l) (filter-members p q xs (λ y h. same y (more (x == y) (contains y xs) h))))
  where
    more : (a b : Bool) → b ≡ true → (a || b) ≡ true
    more true b h = refl
    more false b h = h

-- each member of a list, at its place
pub contains-at : (xs : List ℕ) (k d : ℕ) → k < length xs → contains (get_or xs k d) xs ≡ true
contains-at [] k d h = absurd (omega arith)
contains-at (x ∷ xs) zero d h = rw (eq-eqb x x refl) refl
contains-at (x ∷ xs) (suc k) d h = more (x == get_or xs k d) (contains-at xs k d (omega arith))
  where
    more : (b : Bool) → contains (get_or xs k d) xs ≡ true → (b || contains (get_or xs k d) xs) ≡ true
    more true h = refl
    more false h = h

-- ---- of rows

-- each row that f is of, g or h is of, and not both
pub contains-split : (f g h : Row → Option ℕ) → ((x : Row) → ((g x ≡ f x) × (h x ≡ None)) ⊎ ((g x ≡ None) × (h x ≡ f x))) → (r : ℕ) (c : Trace)
    → contains r (each_row f c) ≡ (contains r (each_row g c) || contains r (each_row h c))
contains-split f g h parts r [] = refl
contains-split f g h parts r (e ∷ c) = by (f e.row) (g e.row) (h e.row) (parts e.row) (contains-split f g h parts r c)
  where
    swap : (m a b u : Bool) → u ≡ (a || b) → (m || u) ≡ (a || (m || b))
    swap true true b u e = refl
    swap true false b u e = refl
    swap false a b u e = e

    both : (m a b u : Bool) → u ≡ (a || b) → (m || u) ≡ ((m || a) || b)
    both true a b u e = refl
    both false a b u e = e

    by : (x y z : Option ℕ) → ((y ≡ x) × (z ≡ None)) ⊎ ((y ≡ None) × (z ≡ x)) → contains r (each_row f c) ≡ (contains r (each_row g c) || contains r (each_row h c))
        → contains r (cons_option x (each_row f c)) ≡ (contains r (cons_option y (each_row g c)) || contains r (cons_option z (each_row h c)))
    by x y z (inl p) rest = rw (p.0, p.1) (one x)
      where
        one : (x : Option ℕ) → contains r (cons_option x (each_row f c)) ≡ (contains r (cons_option x (each_row g c)) || contains r (each_row h c))
        one None = rest
        one (Some q) = both (q == r) _ _ _ rest
    by x y z (inr p) rest = rw (p.0, p.1) (one x)
      where
        one : (x : Option ℕ) → contains r (cons_option x (each_row f c)) ≡ (contains r (each_row g c) || contains r (cons_option x (each_row h c)))
        one None = rest
        one (Some q) = swap (q == r) _ _ _ rest

-- each row that f is of, g is of
pub contains-within : (f g : Row → Option ℕ) → ((x : Row) → (f x ≡ None) ⊎ (f x ≡ g x)) → (r : ℕ) (c : Trace) → contains r (each_row g c) ≡ false → contains r (each_row f c) ≡ false
contains-within f g part r [] n = refl
contains-within f g part r (e ∷ c) n = by (f e.row) (g e.row) (part e.row) n (contains-within f g part r c)
  where
    by : (x y : Option ℕ) → (x ≡ None) ⊎ (x ≡ y) → contains r (cons_option y (each_row g c)) ≡ false → (contains r (each_row g c) ≡ false → contains r (each_row f c) ≡ false)
        → contains r (cons_option x (each_row f c)) ≡ false
    by x None (inl e) n rest = rw e (rest n)
    by x None (inr e) n rest = rw e (rest n)
    by x (Some q) (inl e) n rest = rw e (rest (or_parts (q == r) _ n).1)
    by x (Some q) (inr e) n rest = let both = or_parts (q == r) _ n in rw (e, both.0) (rest both.1)

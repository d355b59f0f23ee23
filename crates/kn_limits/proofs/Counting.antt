-- How many of a list of requests pass a test, and what a row does to that.
use Rattle.std.proofs.Common.{◌≡◌, ◌≤◌, ◌<◌, ◌+◌, ℕ, suc, Bool, true, false, cond, eqb, List, [], ◌∷◌, map, filter, length, refl, ap, ◌∙◌, arith}
use Rattle.std.specs.Prelude.{◌==◌, ⊤}
use Rattle.std.specs.List.{All, AllPairs}
use Rattle.std.proofs.lemmas.Bool.{eqb-true}
use Rattle.kn_record.specs.declared.admission.Request.{Request}

pub false-true : false ≡ true → ⊥
false-true e = grind (arith, e)

-- each member has it
abbrev pub EachOf : {A : Type 0} → (A → Type 0) → List A → Type 0
EachOf {A} P [] = ⊤
EachOf {A} P (x ∷ xs) = P x × EachOf P xs

longer : {A : Type 0} (a b : Bool) (x y : A) (us vs : List A) → (a ≡ true → b ≡ true) → length us ≤ length vs → length (cond a (x ∷ us) us) ≤ length (cond b (y ∷ vs) vs)
longer true true x y us vs h le = omega (arith, le)
longer true false x y us vs h le = absurd (false-true (h refl))
longer false true x y us vs h le = omega (arith, le)
longer false false x y us vs h le = le

-- the members are changed, and no more pass
pub changed : {A : Type 0} (f : A → A) (t : A → Bool) (xs : List A) → EachOf (λ x. t (f x) ≡ true → t x ≡ true) xs → length (filter t (map f xs)) ≤ length (filter t xs)
changed f t [] all = omega arith
changed f t (x ∷ xs) all = longer (t (f x)) (t x) (f x) x (filter t (map f xs)) (filter t xs) all.0 (changed f t xs all.1)

-- none is changed
pub unchanged : {A : Type 0} (f : A → A) (xs : List A) → EachOf (λ x. f x ≡ x) xs → map f xs ≡ xs
unchanged f [] all = refl
unchanged f (x ∷ xs) all = ap (λ y. y ∷ map f xs) all.0 ∙ ap (λ ys. x ∷ ys) (unchanged f xs all.1)

-- some are left out: no more pass
pub left_out : {A : Type 0} (t k : A → Bool) (xs : List A) → length (filter t (filter k xs)) ≤ length (filter t xs)
left_out t k [] = omega arith
left_out t k (x ∷ xs) = by (k x) (left_out t k xs)
  where
    by : (a : Bool) → length (filter t (filter k xs)) ≤ length (filter t xs)
        → length (filter t (cond a (x ∷ filter k xs) (filter k xs))) ≤ length (cond (t x) (x ∷ filter t xs) (filter t xs))
    by true le = longer (t x) (t x) x x (filter t (filter k xs)) (filter t xs) (λ e. e) le
    by false le = more (t x) le
      where
        more : (b : Bool) → length (filter t (filter k xs)) ≤ length (filter t xs) → length (filter t (filter k xs)) ≤ length (cond b (x ∷ filter t xs) (filter t xs))
        more true le = omega (arith, le)
        more false le = le

differs : (r a b : ℕ) → r ≡ a → a < b → (r == b) ≡ false
differs r a b e lt = grind (arith, e, lt, eqb-false-of r b)
  where
    eqb-false-of : (r b : ℕ) → (r ≡ b → ⊥) → (r == b) ≡ false
    eqb-false-of r b apart = by (eqb r b) refl
      where
        by : (t : Bool) → eqb r b ≡ t → t ≡ false
        by true e = absurd (apart (eqb-true r b e))
        by false e = refl

-- each later member's number is above
above : (x : Request) (xs : List Request) (r : ℕ) → r ≡ x.number → All (λ (y : Request). x.number < y.number) xs → EachOf (λ y. (r == y.number) ≡ false) xs
above x [] r e all = tt
above x (y ∷ ys) r e all = (differs r x.number y.number e (all 0 y (omega arith)), above x ys r e (λ k d low. all (suc k) d (omega (arith, low))))

head_all : (x : Request) (xs : List Request) → AllPairs (λ (x y : Request). x.number < y.number) (x ∷ xs) → All (λ (y : Request). x.number < y.number) xs
head_all x xs pairs k d low = pairs 0 (suc k) d (omega arith) (omega (arith, low))

-- the rest of an ascending list
pub tail_pairs : (x : Request) (xs : List Request) → AllPairs (λ (x y : Request). x.number < y.number) (x ∷ xs) → AllPairs (λ (x y : Request). x.number < y.number) xs
tail_pairs x xs pairs i j d lt low = pairs (suc i) (suc j) d (omega (arith, lt)) (omega (arith, low))

same_each : (f : Request → Request) (r : ℕ) (xs : List Request) → ((x : Request) → (r == x.number) ≡ false → f x ≡ x) → EachOf (λ y. (r == y.number) ≡ false) xs → EachOf (λ x. f x ≡ x) xs
same_each f r [] same all = tt
same_each f r (x ∷ xs) same all = (same x all.0, same_each f r xs same all.1)

pub at_most_one : {A : Type 0} (f : A → A) (t : A → Bool) (x : A) (xs : List A) → map f xs ≡ xs → length (filter t (map f (x ∷ xs))) ≤ length (filter t (x ∷ xs)) + 1
at_most_one f t x xs e = by (t (f x)) (t x)
  where
    by : (a b : Bool) → length (cond a (f x ∷ filter t (map f xs)) (filter t (map f xs))) ≤ length (cond b (x ∷ filter t xs) (filter t xs)) + 1
    by true true = rw e (omega arith)
    by true false = rw e (omega arith)
    by false true = rw e (omega arith)
    by false false = rw e (omega arith)

-- at most one member is changed, since its number is no other's
pub one_more : (f : Request → Request) (t : Request → Bool) (r : ℕ) (xs : List Request) → AllPairs (λ (x y : Request). x.number < y.number) xs
    → ((x : Request) → (r == x.number) ≡ false → f x ≡ x) → length (filter t (map f xs)) ≤ length (filter t xs) + 1
one_more f t r [] pairs same = omega arith
one_more f t r (x ∷ xs) pairs same = by (r == x.number) refl (one_more f t r xs (tail_pairs x xs pairs) same)
  where
    by : (b : Bool) → (r == x.number) ≡ b → length (filter t (map f xs)) ≤ length (filter t xs) + 1 → length (filter t (map f (x ∷ xs))) ≤ length (filter t (x ∷ xs)) + 1
    by true e le = at_most_one f t x xs (unchanged f xs (same_each f r xs same (above x xs r (eqb-true r x.number e) (head_all x xs pairs))))
    by false e le = with_same (f x) (same x e) le
      where
        with_same : (y : Request) → y ≡ x → length (filter t (map f xs)) ≤ length (filter t xs) + 1 → length (cond (t y) (y ∷ filter t (map f xs)) (filter t (map f xs))) ≤ length (cond (t x) (x ∷ filter t xs) (filter t xs)) + 1
        with_same y e le = rw e (step (t x) le)
          where
            step : (b : Bool) → length (filter t (map f xs)) ≤ length (filter t xs) + 1 → length (cond b (x ∷ filter t (map f xs)) (filter t (map f xs))) ≤ length (cond b (x ∷ filter t xs) (filter t xs)) + 1
            step true le = omega (arith, le)
            step false le = le

-- Lists by their places.
use Rattle.std.proofs.Common.{◌≡◌, ◌≢◌, inl, inr, ◌<◌, ◌≤◌, ◌+◌, ℕ, suc, zero, List, [], ◌∷◌, ◌++◌, refl, sym, ap, ◌∙◌, subst, length, map, take, drop, arith, length-append}
use Rattle.std.specs.Prelude.{slice_index_or, slice_set}
use Rattle.std.proofs.Math.Seq.{take-append_seam}
use Rattle.std.proofs.lemmas.Bool.{cases_eq}
use Rattle.std.proofs.lemmas.List.{get_or_at, get_or-set_same, get_or-set_other, get_or-take, take-take}
use lib.ListN.{get_or-append}

-- what a slice that was lent is afterwards
pub lent : {A : Type 0} (n : ℕ) (new old : List A) → length new ≡ n → take n (new ++ drop (length new) old) ≡ new
lent n new old e = subst (λ m. take m (new ++ drop (length new) old) ≡ new) e (take-append_seam new (drop (length new) old))

-- one place was set
pub set_each : {A : Type 0} (Q : ℕ → A → Type 0) (ys : List A) (i : ℕ) (y : A) → i < length ys → Q i y → (j : ℕ) (d : A) → (j ≢ i → Q j (slice_index_or ys j d)) → Q j (slice_index_or (slice_set ys i y) j d)
set_each {A} Q ys i y within here j d rest = elim (cases_eq j i) [
  | inl e ↦
      let z : Q i (slice_index_or (slice_set ys i y) i d) = subst (Q i) (sym (get_or-set_same ys i y d within)) here in
      subst (λ k. Q k (slice_index_or (slice_set ys i y) k d)) (sym e) z
  | inr ne ↦ subst (Q j) (sym (get_or-set_other ys i j y d ne)) (rest ne)
]

-- a place was set to what maps to the same
pub mapped_same : {A B : Type 0} (f : A → B) (xs : List A) (i : ℕ) (y d : A) → i < length xs → f y ≡ f (slice_index_or xs i d) → map f (slice_set xs i y) ≡ map f xs
mapped_same {A} {B} f [] i y d low e = absurd (omega (arith, low))
mapped_same {A} {B} f (x ∷ xs) zero y d low e = ap (λ b. b ∷ map f xs) e
mapped_same {A} {B} f (x ∷ xs) (suc i) y d low e = ap (λ l. f x ∷ l) (mapped_same f xs i y d (omega (arith, low)) e)

-- each place maps to the same as in another list
pub mapped_like : {A B : Type 0} (f : A → B) (xs ys : List A) → length ys ≡ length xs → ((v : ℕ) (d : A) → v < length xs → f (slice_index_or ys v d) ≡ f (slice_index_or xs v d)) → map f ys ≡ map f xs
mapped_like {A} {B} f [] [] len all = refl
mapped_like {A} {B} f [] (y ∷ ys) len all = absurd (omega (arith, len))
mapped_like {A} {B} f (x ∷ xs) [] len all = absurd (omega (arith, len))
mapped_like {A} {B} f (x ∷ xs) (y ∷ ys) len all =
    let rest = mapped_like f xs ys (omega (arith, len)) (λ v d low. all (suc v) d (omega (arith, low))) in
    let here = all 0 x (omega arith) in
    ap (λ b. b ∷ map f ys) here ∙ ap (λ l. f x ∷ l) rest

-- each place maps to this, which stands for what is past the end too
pub mapped_all : {A B : Type 0} (f : A → B) (z : B) (xs : List A) → ((v : ℕ) (d : A) → v < length xs → f (slice_index_or xs v d) ≡ z) → (v : ℕ) → slice_index_or (map f xs) v z ≡ z
mapped_all {A} {B} f z [] all zero = refl
mapped_all {A} {B} f z [] all (suc v) = refl
mapped_all {A} {B} f z (x ∷ xs) all zero = all 0 x (omega arith)
mapped_all {A} {B} f z (x ∷ xs) all (suc v) = mapped_all f z xs (λ k d low. all (suc k) d (omega (arith, low))) v

-- ---- the last one was taken off

-- .. of so many first ones
pub last_of : {A : Type 0} (zs xs ys : List A) (x : A) (k : ℕ) → xs ≡ take k zs → length xs ≡ k → xs ≡ ys ++ x ∷ [] → (d : A) → slice_index_or zs (length ys) d ≡ x
last_of {A} zs xs ys x k front len is d =
    let n = ap length is ∙ length-append ys (x ∷ []) in
    let low : length ys < k = omega arith in
    sym (get_or-take k zs (length ys) d low) ∙ (ap (λ l. slice_index_or l (length ys) d) (sym front ∙ is) ∙ get_or_at ys x [] d (length ys) refl)

pub front_of_last : {A : Type 0} (zs xs ys : List A) (x : A) (k : ℕ) → xs ≡ take k zs → length xs ≡ k → xs ≡ ys ++ x ∷ [] → ys ≡ take (length ys) zs
front_of_last {A} zs xs ys x k front len is =
    let n = ap length is ∙ length-append ys (x ∷ []) in
    let low : length ys ≤ k = omega arith in
    sym (take-append_seam ys (x ∷ [])) ∙ (ap (take (length ys)) (sym is ∙ front) ∙ take-take (length ys) k zs low)

pub one_less : {A : Type 0} (xs ys : List A) (x : A) → xs ≡ ys ++ x ∷ [] → length xs ≡ length ys + 1
one_less xs ys x is = ap length is ∙ length-append ys (x ∷ [])

-- ---- one was pushed

pub pushed_at : {A : Type 0} (Q : ℕ → A → Type 0) (xs : List A) (x : A) (j : ℕ) (d : A) → j < length xs + 1 → (j < length xs → Q j (slice_index_or xs j d)) → Q (length xs) x → Q j (slice_index_or (xs ++ x ∷ []) j d)
pushed_at {A} Q xs x j d low rest here = elim (cases_eq j (length xs)) [
  | inl e ↦ subst (λ k. Q k (slice_index_or (xs ++ x ∷ []) k d)) (sym e) (subst (Q (length xs)) (sym (get_or_at xs x [] d (length xs) refl)) here)
  | inr ne ↦ (let low' : j < length xs = omega arith in subst (Q j) (sym (get_or-append xs (x ∷ []) d j low')) (rest low'))
]

pub pushed_last : {A : Type 0} (xs new : List A) (x : A) (j : ℕ) (d : A) → new ≡ xs ++ x ∷ [] → j ≡ length xs → slice_index_or new j d ≡ x
pushed_last xs new x j d is e = ap (λ l. slice_index_or l j d) is ∙ get_or_at xs x [] d j (sym e)

pub pushed_left : {A : Type 0} (xs new : List A) (x : A) (j : ℕ) (d : A) → new ≡ xs ++ x ∷ [] → j < length xs → slice_index_or new j d ≡ slice_index_or xs j d
pushed_left xs new x j d is low = ap (λ l. slice_index_or l j d) is ∙ get_or-append xs (x ∷ []) d j low

-- Tests over what the slots hold.
use Rattle.std.proofs.Common.{◌≡◌, ◌≢◌, ◌+◌, ◌<◌, ◌≤◌, ℕ, Bool, not, cond, List, [], ◌∷◌, length, map, refl, sym, ap, ap₂, ◌∙◌, subst, arith, inl, inr, Option}
use Rattle.std.specs.Prelude.{◌||◌, slice_index_or}
use Rattle.std.specs.List.{list_any, position, position_or_len}
use Rattle.std.specs.Prelude.{slice_set}
use Rattle.std.proofs.lemmas.Bool.Decides.{eqb_tells}
use Rattle.std.proofs.lemmas.List.{get_or-set_other, get_or-set_same, length-map}
use Rattle.kn_serve.specs.Ending.{status_by}

position_or_len-map : {A B : Type 0} (p : B → Bool) (f : A → B) (xs : List A) → position_or_len p (map f xs) ≡ position_or_len (λ x. p (f x)) xs
position_or_len-map p f [] = refl
position_or_len-map p f (x ∷ xs) = ap (λ (n : ℕ). cond (not (p (f x))) (1 + n) 0) (position_or_len-map p f xs)

pub position-map : {A B : Type 0} (p : B → Bool) (f : A → B) (xs : List A) → position p (map f xs) ≡ position (λ x. p (f x)) xs
position-map p f xs = rw (position_or_len-map p f xs, length-map xs f) refl

pub list_any-map : {A B : Type 0} (p : B → Bool) (f : A → B) (xs : List A) → list_any p (map f xs) ≡ list_any (λ x. p (f x)) xs
list_any-map p f [] = refl
list_any-map p f (x ∷ xs) = ap (λ (b : Bool). p (f x) || b) (list_any-map p f xs)

-- how a session ends, by tests of its slots
pub ended : {A : Type 0} (f m : A → Bool) (xs : List A) (o : Option ℕ) (w : Bool) → o ≡ position f xs → w ≡ list_any m xs
    → status_by o w ≡ status_by (position (λ b. b) (map f xs)) (list_any (λ b. b) (map m xs))
ended f m xs o w e k = ap₂ status_by (e ∙ sym (position-map (λ b. b) f xs)) (k ∙ sym (list_any-map (λ b. b) m xs))

-- a list in which all up to one place has been done, and then that place
pub done_more : {A : Type 0} (P : A → A → Type 0) (xs ys : List A) (i : ℕ) (y : A) → i < length ys
    → ((j : ℕ) (d : A) → j < i → P (slice_index_or xs j d) (slice_index_or ys j d))
    → ((d : A) → P (slice_index_or xs i d) y)
    → (j : ℕ) (d : A) → j < i + 1 → P (slice_index_or xs j d) (slice_index_or (slice_set ys i y) j d)
done_more {A} P xs ys i y within before here j d low = elim (eqb_tells j i) [
  | inl e ↦
      let z : P (slice_index_or xs i d) (slice_index_or (slice_set ys i y) i d) = subst (λ x. P (slice_index_or xs i d) x) (sym (get_or-set_same ys i y d within)) (here d) in
      subst (λ k. P (slice_index_or xs k d) (slice_index_or (slice_set ys i y) k d)) (sym e.1) z
  | inr e ↦
      let small : j < i = (let ne = e.1 in omega arith) in
      subst (λ x. P (slice_index_or xs j d) x) (sym (get_or-set_other ys i j y d e.1)) (before j d small)
]

pub rest_still : {A : Type 0} (xs ys : List A) (i : ℕ) (y : A) → ((j : ℕ) (d : A) → i ≤ j → slice_index_or ys j d ≡ slice_index_or xs j d)
    → (j : ℕ) (d : A) → i + 1 ≤ j → slice_index_or (slice_set ys i y) j d ≡ slice_index_or xs j d
rest_still {A} xs ys i y rest j d high =
    let ne : j ≢ i = (λ e. omega (arith, e, high)) in
    get_or-set_other ys i j y d ne ∙ rest j d (omega arith)

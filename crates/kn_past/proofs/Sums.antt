-- Sums over lists, item by item.
use Rattle.std.proofs.Common.{◌≡◌, ℕ, ◌+◌, List, [], ◌∷◌, refl, sym, ap, ◌∙◌, arith}
use Rattle.std.specs.Prelude.{Option, None, Some}
use Rattle.std.specs.List.{cons_option, filter_map, sum_by}
use Rattle.std.proofs.lemmas.List.Sums.{sum_by-cons}

abbrev pub of_option : {X : Type 0} → (X → ℕ) → Option X → ℕ
of_option f None = 0
of_option f (Some x) = f x

pub sum-option : {X : Type 0} (f : X → ℕ) (o : Option X) (xs : List X) → sum_by f (cons_option o xs) ≡ of_option f o + sum_by f xs
sum-option f None xs = omega arith
sum-option f (Some x) xs = sum_by-cons f x xs

-- a sum over what a list gives, item by item
pub sum-filter_map : {X Y : Type 0} (f : Y → ℕ) (g : X → Option Y) (xs : List X) → sum_by f (filter_map g xs) ≡ sum_by (λ x. of_option f (g x)) xs
sum-filter_map f g [] = refl
sum-filter_map f g (x ∷ xs) =
    sum-option f (g x) (filter_map g xs) ∙ ap (λ n. of_option f (g x) + n) (sum-filter_map f g xs) ∙ sym (sum_by-cons (λ y. of_option f (g y)) x xs)

pub sum-same : {X : Type 0} (f g : X → ℕ) (xs : List X) → ((x : X) → f x ≡ g x) → sum_by f xs ≡ sum_by g xs
sum-same f g [] same = refl
sum-same f g (x ∷ xs) same =
    sum_by-cons f x xs ∙ ap (λ n. n + sum_by f xs) (same x) ∙ ap (λ n. g x + n) (sum-same f g xs same) ∙ sym (sum_by-cons g x xs)

-- Words of lists and of options that all layers share.
use Rattle.std.specs.Prelude.{◌==◌, ◌<◌, ℕ, Bool, false, max, List, [], ◌∷◌, length, slice_index_or, Option, None, Some}
use Rattle.std.specs.List.{list_any}

-- whether the number is in the list
abbrev pub contains : ℕ → List ℕ → Bool
contains x xs = list_any (λ y. y == x) xs

-- whether it is there, and is this number
abbrev pub is_some_of : ℕ → Option ℕ → Bool
is_some_of r None = false
is_some_of r (Some q) = q == r

-- the first one that is there
abbrev pub or_else : {X : Type 0} → Option X → Option X → Option X
or_else None other = other
or_else (Some x) other = Some x

-- each member has it
abbrev pub EachIs : {A : Type 0} → (A → Type 0) → List A → Type 0
EachIs {A} P xs = (i : ℕ) (d : A) → i < length xs → P (slice_index_or xs i d)

-- 0 where there is none
abbrev pub greatest : List ℕ → ℕ
greatest [] = 0
greatest (n ∷ ns) = max n (greatest ns)

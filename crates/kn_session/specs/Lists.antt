-- Words on lists of slots and rows.
use Rattle.std.specs.Prelude.{ℕ, ◌≡◌, ◌⊎◌, ◌<◌, List, [], ◌∷◌, length, slice_index_or}

-- one of the members has it
abbrev pub HasOne : {A : Type 0} → (A → Type 0) → List A → Type 0
HasOne {A} P [] = ⊥
HasOne {A} P (x ∷ xs) = P x ⊎ HasOne P xs

-- each member has it at its place
abbrev pub EachInPlace : {A : Type 0} → (ℕ → A → Type 0) → List A → Type 0
EachInPlace {A} P xs = (i : ℕ) (d : A) → i < length xs → P i (slice_index_or xs i d)

-- as many as before, and of each what it was and what it is now
abbrev pub EachDone : {A : Type 0} → (ℕ → A → A → Type 0) → List A → List A → Type 0
EachDone {A} done xs ys = (length ys ≡ length xs) × ((i : ℕ) (d : A) → i < length xs → done i (slice_index_or xs i d) (slice_index_or ys i d))

-- Numbers in ascending order.
use Rattle.std.specs.Prelude.{◌≡◌, ℕ, true, false, not, ◌<◌, ◌≤◌, nat_lt, nat_le, List, ◌∷◌, ◌++◌, length, slice_get}
use Rattle.std.specs.List.{filter, find, insert, remove}
use Rattle.kn_event.specs.Lists.{contains, is_some_of}
use Rattle.kn_record.specs.Order.{Ascend}
use Rattle.kn_record.specs.Views.{others}

-- the numbers, and how many of them there is room for
pub record NumbersState : Type 0 where
  pub items : List ℕ
  pub room : ℕ

-- with this number in its place
abbrev pub inserted : ℕ → List ℕ → List ℕ
inserted p xs = filter (λ q. nat_lt q p) xs ++ p ∷ filter (λ q. nat_lt p q) xs

-- where the first number stands that is not below this one, and what that says of numbers that ascend
pub record IsPlaceOf (p : ℕ) (xs : List ℕ) (place : ℕ) : Type 0 where
  pub bound : place ≤ length xs
  pub next : find (λ q. nat_le p q) xs ≡ slice_get xs place
  pub there : contains p xs ≡ is_some_of p (slice_get xs place)
  pub inside : contains p xs ≡ true → place < length xs
  pub taken_out : contains p xs ≡ true → others p xs ≡ remove xs place
  pub absent : contains p xs ≡ false → others p xs ≡ xs
  pub put_in : contains p xs ≡ false → inserted p xs ≡ insert xs place p
  pub kept : contains p xs ≡ true → inserted p xs ≡ xs
  pub fewer : Ascend (others p xs)
  pub more : Ascend (inserted p xs)

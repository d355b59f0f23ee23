-- Every second member of a list of even length, with more after it.
use Rattle.std.proofs.Common.{◌≡◌, ℕ, zero, suc, ◌+◌, List, [], ◌∷◌, ◌++◌, length, Bool, true, false, ap, arith, refl}
use Rattle.kn_io.specs.Callers.{every_second}

pub every_second-append : (first : Bool) (xs ys : List (List ℕ)) (n : ℕ) → length xs ≡ n + n
    → every_second first (xs ++ ys) ≡ every_second first xs ++ every_second first ys
unfolding every_second
every_second-append true [] ys n even = refl
every_second-append false [] ys n even = refl
every_second-append first (x ∷ []) ys n even = absurd (omega (arith, even))
every_second-append first (x ∷ y ∷ xs) ys zero even = absurd (omega (arith, even))
every_second-append true (x ∷ y ∷ xs) ys (suc n) even =
    ap (λ (l : List (List ℕ)). x ∷ l) (every_second-append true xs ys n (omega (arith, even)))
every_second-append false (x ∷ y ∷ xs) ys (suc n) even =
    ap (λ (l : List (List ℕ)). y ∷ l) (every_second-append false xs ys n (omega (arith, even)))

-- there are as many from the first on as from the second on
pub length-every_second : (xs : List (List ℕ)) (n : ℕ) → length xs ≡ n + n → length (every_second true xs) ≡ length (every_second false xs)
unfolding every_second
length-every_second [] n even = refl
length-every_second (x ∷ []) n even = absurd (omega (arith, even))
length-every_second (x ∷ y ∷ xs) zero even = absurd (omega (arith, even))
length-every_second (x ∷ y ∷ xs) (suc n) even =
    let rest : length (every_second true xs) ≡ length (every_second false xs) = length-every_second xs n (omega (arith, even)) in
    omega (arith, rest)

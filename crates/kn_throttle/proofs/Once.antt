-- A number that a list has once.
use Rattle.std.proofs.Common.{◌≡◌, ℕ, ◌+◌, ◌<◌, Bool, true, false, not, cond, List, [], ◌∷◌, length, drop, refl, sym, ap, arith}
use Rattle.std.specs.Prelude.{◌==◌, Some, if◌then◌else◌}
use Rattle.std.specs.List.{filter}
use Rattle.std.proofs.lemmas.Bool.{eq-eqb}
use Rattle.kn_trace.specs.Trace.{first_of}
use Rattle.kn_seats.specs.Pods.{without_request}
use Rattle.kn_throttle.proofs.Same.{eq-sym}

-- the others
abbrev pub others : ℕ → List ℕ → List ℕ
others r xs = filter (λ q. not (r == q)) xs

length-others : (r : ℕ) (xs : List ℕ) → length (others r xs) < length xs + 1
length-others r [] = omega arith
length-others r (x ∷ xs) = by (r == x) (length-others r xs)
  where
    by : (b : Bool) → length (others r xs) < length xs + 1 → length (cond (not b) (x ∷ others r xs) (others r xs)) < length (x ∷ xs) + 1
    by true h = omega arith
    by false h = omega arith

-- where none goes, all stay
all_stay : (r : ℕ) (xs : List ℕ) → length (others r xs) ≡ length xs → others r xs ≡ xs
all_stay r [] h = refl
all_stay r (x ∷ xs) h = by (r == x) (length-others r xs) h (λ e. all_stay r xs e)
  where
    by : (b : Bool) → length (others r xs) < length xs + 1 → length (cond (not b) (x ∷ others r xs) (others r xs)) ≡ length (x ∷ xs) → (length (others r xs) ≡ length xs → others r xs ≡ xs) → cond (not b) (x ∷ others r xs) (others r xs) ≡ x ∷ xs
    by true less e rest = absurd (omega arith)
    by false less e rest = ap (λ (l : List ℕ). x ∷ l) (rest (omega arith))

-- the first that is r goes
pub without_once : (r : ℕ) (xs : List ℕ) → length (others r xs) + 1 ≡ length xs → without_request r xs ≡ others r xs
without_once r [] h = refl
without_once r (x ∷ xs) h = rw (eq-sym x r) (by (r == x) h (λ e. without_once r xs e))
  where
    by : (b : Bool) → length (cond (not b) (x ∷ others r xs) (others r xs)) + 1 ≡ length (x ∷ xs) → (length (others r xs) + 1 ≡ length xs → without_request r xs ≡ others r xs)
        → (if b then xs else x ∷ without_request r xs) ≡ cond (not b) (x ∷ others r xs) (others r xs)
    by true e rest = sym (all_stay r xs (omega arith))
    by false e rest = ap (λ (l : List ℕ). x ∷ l) (rest (omega arith))

-- it stood first
pub first_once : (r : ℕ) (xs : List ℕ) → first_of xs ≡ Some r → length (others r xs) + 1 ≡ length xs → others r xs ≡ drop 1 xs
first_once r [] f h = absurd (cc)
first_once r (x ∷ xs) f h = let same : x ≡ r = cc in by (r == x) refl h
  where
    by : (b : Bool) → (r == x) ≡ b → length (cond (not b) (x ∷ others r xs) (others r xs)) + 1 ≡ length (x ∷ xs) → cond (not b) (x ∷ others r xs) (others r xs) ≡ xs
    by true e g = all_stay r xs (omega arith)
    by false e g = absurd (let same : x ≡ r = cc in let here : (r == x) ≡ true = eq-eqb r x (sym same) in cc)

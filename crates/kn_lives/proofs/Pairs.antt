-- Pairs of a number and a life: what is found by a number.
use Rattle.std.proofs.Common.{◌≡◌, ◌≢◌, refl, sym, ap, ◌∙◌, ℕ, zero, suc, ◌<◌, Bool, true, false, cond, List, [], ◌∷◌, length, get_or, arith, Some, None}
use Rattle.std.specs.Prelude.{◌==◌}
use Rattle.std.proofs.lemmas.Bool.{eq-eqb, eqb-true}
use Rattle.std.proofs.lemmas.Bool.Decides.{nat_tests}
use Rattle.kn_lives.specs.declared.lives.Life.{Life}
use Rattle.kn_lives.specs.Lives.{life_at}

pub differ : (a b : ℕ) → a ≢ b → (a == b) ≡ false
differ a b h = grind (arith, nat_tests)

-- each pair's number is found
pub member_found : (xs : List (ℕ × Life)) (i : ℕ) (d : ℕ × Life) → i < length xs → (y : Life) × (life_at xs (get_or xs i d).0 ≡ Some y)
member_found [] i d inside = absurd (omega arith)
member_found (x ∷ xs) zero d inside = (x.1, rw (eq-eqb x.0 x.0 refl) refl)
member_found (x ∷ xs) (suc i) d inside = by ((get_or xs i d).0 == x.0) (member_found xs i d (omega arith))
  where
    by : (b : Bool) → (y : Life) × (life_at xs (get_or xs i d).0 ≡ Some y) → (y : Life) × (cond b (Some x.1) (life_at xs (get_or xs i d).0) ≡ Some y)
    by true rest = (x.1, refl)
    by false rest = rest

pub nobody_gone : (r : ℕ) (l : List (ℕ × Life)) → life_at l r ≡ None → (q : ℕ) → life_at l q ≡ cond (r == q) None (life_at l q)
nobody_gone r l none q = by (r == q) refl
  where
    by : (b : Bool) → (r == q) ≡ b → life_at l q ≡ cond b None (life_at l q)
    by true e = ap (λ n. life_at l n) (sym (eqb-true r q e)) ∙ none
    by false e = refl

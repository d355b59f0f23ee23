-- Where the free address goes.
use Rattle.std.proofs.Common.{◌≡◌, ℕ, suc, ◌+◌, Bool, true, false, cond, [], ◌∷◌, get_or, refl, sym, ap, ◌∙◌, arith}
use Rattle.std.specs.Prelude.{Option, None, Some, position}
use Rattle.std.specs.List.{position_from}
use Rattle.std.proofs.Math.ListN.{set}
use Rattle.std.proofs.lemmas.Iterator.Adapters.{position_from-zero}
use Rattle.kn_book.specs.declared.book.Holding.{Holding}
use Rattle.kn_book.specs.Book.{Book, given, given_where, least_free, shared_out, waits}

-- nobody waits
given-nobody : (a k : ℕ) (b : Book) → position_from waits k b ≡ None → given a b ≡ b
given-nobody a k [] e = refl
given-nobody a k (h ∷ b) e = by (waits h) e (λ m. given-nobody a (k + 1) b m)
  where
    by : (t : Bool) → cond t (Some k) (position_from waits (k + 1) b) ≡ None → (position_from waits (k + 1) b ≡ None → given a b ≡ b) → cond t (record h { address = Some a } ∷ b) (h ∷ given a b) ≡ h ∷ b
    by true e rest = absurd (cc)
    by false e rest = ap (λ (l : Book). h ∷ l) (rest e)

-- the first that waits stands i places on
abbrev IsGiven : ℕ → ℕ → ℕ → Book → Type 0
IsGiven a k j b = (i : ℕ) × (j ≡ k + i) × ((y : Holding) → y ≡ get_or b i y → given a b ≡ set b i (record y { address = Some a }))

given-first : (a k j : ℕ) (b : Book) → position_from waits k b ≡ Some j → IsGiven a k j b
given-first a k j [] e = absurd (cc)
given-first a k j (h ∷ b) e = by (waits h) e (λ m. given-first a (k + 1) j b m)
  where
    by : (t : Bool) → cond t (Some k) (position_from waits (k + 1) b) ≡ Some j → (position_from waits (k + 1) b ≡ Some j → IsGiven a (k + 1) j b)
        → (i : ℕ) × (j ≡ k + i) × ((y : Holding) → y ≡ get_or (h ∷ b) i y → cond t (record h { address = Some a } ∷ b) (h ∷ given a b) ≡ set (h ∷ b) i (record y { address = Some a }))
    by true e rest = (0, let same : k ≡ j = cc in omega arith, λ y is. ap (λ (x : Holding). record x { address = Some a } ∷ b) (sym is))
    by false e rest = on (rest e)
      where
        on : IsGiven a (k + 1) j b → (i : ℕ) × (j ≡ k + i) × ((y : Holding) → y ≡ get_or (h ∷ b) i y → h ∷ given a b ≡ set (h ∷ b) i (record y { address = Some a }))
        on (i, far, all) = (suc i, omega arith, λ y is. ap (λ (l : Book). h ∷ l) (all y is))

pub shared-nobody : (n : ℕ) (b : Book) → position waits b ≡ None → shared_out n b ≡ b
unfolding shared_out
shared-nobody n b nobody = by (least_free n b)
  where
    by : (o : Option ℕ) → given_where o b ≡ b
    by None = refl
    by (Some a) = given-nobody a 0 b (sym (position_from-zero waits b) ∙ nobody)

pub shared-at : (n a i : ℕ) (b : Book) (y : Holding) → least_free n b ≡ Some a → position waits b ≡ Some i → y ≡ get_or b i y → shared_out n b ≡ set b i (record y { address = Some a })
unfolding shared_out
shared-at n a i b y e first is = rw e (by (given-first a 0 i b (sym (position_from-zero waits b) ∙ first)))
  where
    by : IsGiven a 0 i b → given a b ≡ set b i (record y { address = Some a })
    by (j, far, all) = let same : i ≡ j = omega arith in rw same (all y (rw same at is))

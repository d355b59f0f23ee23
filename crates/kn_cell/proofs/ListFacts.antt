-- Lists of views read by `get_elem?`, sums of weights, beginnings.
use Rattle.std.proofs.Common.{◌≡◌, ◌≢◌, ◌⊎◌, ℕ, suc, zero, ◌+◌, ◌<◌, ◌≤◌, List, [], ◌∷◌, ◌++◌, length, refl, sym, ap, ◌∙◌, inl, inr, arith, append_assoc}
use Rattle.std.specs.Prelude.{slice_set}
use Rattle.std.proofs.lemmas.List.{append-nil}
use mathlib.Core.Option.{some, some-injective, some-ne-none}
use lib.ListN.{get_elem?}
use Rattle.kn_cell.specs.Lists.{StartsWith, total}

module _ {A : Type 0} where
  pub at_within : (l : List A) (i : ℕ) (a : A) → get_elem? l i ≡ some a → i < length l
  at_within [] i a e = absurd (some-ne-none a (sym e))
  at_within (x ∷ xs) zero a e = omega arith
  at_within (x ∷ xs) (suc i) a e = let h = at_within xs i a e in omega (arith, h)

  pub at_same : (l : List A) (i j : ℕ) (a b : A) → get_elem? l i ≡ some a → get_elem? l j ≡ some b → i ≡ j → a ≡ b
  at_same l i j a b p q e = some-injective a b (sym p ∙ (ap (get_elem? l) e ∙ q))

  pub whole : (log : List A) → StartsWith log log
  whole log = ([], sym (append-nil log))

  pub longer : (log seen more : List A) → StartsWith log seen → StartsWith (log ++ more) seen
  longer log seen more s = (s.0 ++ more, ap (λ l. l ++ more) s.1 ∙ append_assoc seen s.0 more)

  -- a member of two lists is a member of one of them
  pub at_append : (l m : List A) (j : ℕ) (b : A) → get_elem? (l ++ m) j ≡ some b
      → ((i : ℕ) × (get_elem? l i ≡ some b)) ⊎ ((i : ℕ) × (get_elem? m i ≡ some b))
  at_append [] m j b e = inr (j, e)
  at_append (x ∷ xs) m zero b e = inl (zero, e)
  at_append (x ∷ xs) m (suc j) b e = elim (at_append xs m j b e) [ inl h ↦ inl (suc h.0, h.1) | inr h ↦ inr h ]

  pub at_later : (l m : List A) (i : ℕ) (b : A) → get_elem? m i ≡ some b → (j : ℕ) × (get_elem? (l ++ m) j ≡ some b)
  at_later [] m i b e = (i, e)
  at_later (x ∷ xs) m i b e = let h = at_later xs m i b e in (suc h.0, h.1)

  -- the sum after a change of one member
  pub total-set : (w : A → ℕ) (l : List A) (i : ℕ) (a b : A) → get_elem? l i ≡ some a → total w (slice_set l i b) + w a ≡ total w l + w b
  total-set w [] i a b e = absurd (some-ne-none a (sym e))
  total-set w (x ∷ xs) zero a b e = let h = ap w (some-injective x a e) in omega arith
  total-set w (x ∷ xs) (suc i) a b e = let h = total-set w xs i a b e in omega arith

  pub total-append : (w : A → ℕ) (l : List A) (a : A) → total w (l ++ a ∷ []) ≡ total w l + w a
  total-append w [] a = omega arith
  total-append w (x ∷ xs) a = let h = total-append w xs a in omega arith

  pub one_weight : (w : A → ℕ) (l : List A) (i : ℕ) (a : A) → get_elem? l i ≡ some a → w a ≤ total w l
  one_weight w [] i a e = absurd (some-ne-none a (sym e))
  one_weight w (x ∷ xs) zero a e = let h = ap w (some-injective x a e) in omega arith
  one_weight w (x ∷ xs) (suc i) a e = let h = one_weight w xs i a e in omega arith

  -- two members at different places
  pub two_weights : (w : A → ℕ) (l : List A) (i j : ℕ) (a b : A) → get_elem? l i ≡ some a → get_elem? l j ≡ some b → i ≢ j → w a + w b ≤ total w l
  two_weights w [] i j a b e f ne = absurd (some-ne-none a (sym e))
  two_weights w (x ∷ xs) zero zero a b e f ne = absurd (ne refl)
  two_weights w (x ∷ xs) zero (suc j) a b e f ne = let h = ap w (some-injective x a e) in let r = one_weight w xs j b f in omega arith
  two_weights w (x ∷ xs) (suc i) zero a b e f ne = let h = ap w (some-injective x b f) in let r = one_weight w xs i a e in omega arith
  two_weights w (x ∷ xs) (suc i) (suc j) a b e f ne = let h = two_weights w xs i j a b e f (λ k. ne (ap suc k)) in omega arith

  -- a member of a list with one more is a member of the list, or the last
  pub at_one_more : (l : List A) (a b : A) (j : ℕ) → get_elem? (l ++ a ∷ []) j ≡ some b → (get_elem? l j ≡ some b) ⊎ ((j ≡ length l) × (a ≡ b))
  at_one_more [] a b zero e = inr (refl, some-injective a b e)
  at_one_more [] a b (suc j) e = absurd (some-ne-none b (sym e))
  at_one_more (x ∷ xs) a b zero e = inl e
  at_one_more (x ∷ xs) a b (suc j) e = elim (at_one_more xs a b j e) [ inl h ↦ inl h | inr h ↦ inr (ap suc h.0, h.1) ]

-- Lines that no LF stands in, and of which only the last may end with CR.
use Rattle.std.proofs.Common.{◌≡◌, ◌≢◌, ◌+◌, ◌-◌, ◌<◌, ℕ, zero, suc, Bool, true, false, List, [], ◌∷◌, ◌++◌, length, take, replicate, refl, sym, subst, arith, inl, inr}
use Rattle.std.specs.Prelude.{Contains, cond, ◌&&◌, ◌==◌, nat_lt, slice_index, ⊤}
use Rattle.std.proofs.lemmas.Grind.{common_steps}
use Rattle.std.proofs.lemmas.List.Elements.{Contains-append_cases}
use Rattle.kn_journal.specs.Lines.{begins_with_lf, ends_with_cr, lines, lines_at_lf, onto_first, without_crs}
use Rattle.kn_journal.proofs.Aheads.{IsPlain}

-- ---- lines without LF, of which only the last may end with CR

abbrev HasNoCrLf : List ℕ → Type 0
HasNoCrLf [] = ⊤
HasNoCrLf (b ∷ bs) = ((b == 13 && begins_with_lf bs) ≡ false) × HasNoCrLf bs

without_crs-none : (bs : List ℕ) → HasNoCrLf (without_crs bs)
unfolding without_crs
without_crs-none [] = tt
without_crs-none (b ∷ bs) = by_test (b == 13 && begins_with_lf (without_crs bs)) refl (without_crs-none bs)
  where
    by_test : (t : Bool) → (b == 13 && begins_with_lf (without_crs bs)) ≡ t → HasNoCrLf (without_crs bs) → HasNoCrLf (cond t (without_crs bs) (b ∷ without_crs bs))
    by_test true e h = h
    by_test false e h = (e, h)

abbrev pub ArePlainButLast : List (List ℕ) → Type 0
ArePlainButLast [] = ⊤
ArePlainButLast (l ∷ []) = ⊤
ArePlainButLast (l ∷ m ∷ ms) = IsPlain l × ArePlainButLast (m ∷ ms)

behind-empty : (ls : List (List ℕ)) → ArePlainButLast ls → ArePlainButLast ([] ∷ ls)
behind-empty [] h = tt
behind-empty (m ∷ ms) h = (tt, h)

not_onto : (c : ℕ) (ls rest : List (List ℕ)) → onto_first c ls ≡ [] ∷ rest → ⊥
not_onto c [] rest h = cc
not_onto c (l ∷ ls) rest h = cc

empty_first : (bs : List ℕ) (rest : List (List ℕ)) → lines_at_lf bs ≡ [] ∷ rest → begins_with_lf bs ≡ true
unfolding lines_at_lf
empty_first [] rest h = cc
empty_first (c ∷ cs) rest h = by_test (c == 10) refl h
  where
    by_test : (t : Bool) → (c == 10) ≡ t → cond t ([] ∷ lines_at_lf cs) (onto_first c (lines_at_lf cs)) ≡ [] ∷ rest → (c == 10) ≡ true
    by_test true e g = e
    by_test false e g = absurd (not_onto c (lines_at_lf cs) rest g)

onto-plain : (b : ℕ) (ls : List (List ℕ)) → (b == 10) ≡ false → ((rest : List (List ℕ)) → ls ≡ [] ∷ rest → (b == 13) ≡ false) → ArePlainButLast ls → ArePlainButLast (onto_first b ls)
onto-plain b [] lf cr h = tt
onto-plain b (l ∷ []) lf cr h = tt
onto-plain b ([] ∷ m ∷ ms) lf cr h = ((lf, cr (m ∷ ms) refl), h.1)
onto-plain b ((c ∷ cs) ∷ m ∷ ms) lf cr h = ((lf, h.0), h.1)

no_cr : (x y : Bool) → (x && y) ≡ false → y ≡ true → x ≡ false
no_cr false y h e = refl
no_cr true true h e = h
no_cr true false h e = sym e

split-plain : (zs : List ℕ) → HasNoCrLf zs → ArePlainButLast (lines_at_lf zs)
unfolding lines_at_lf
split-plain [] h = tt
split-plain (b ∷ bs) h = by_test (b == 10) refl (split-plain bs h.1)
  where
    by_test : (t : Bool) → (b == 10) ≡ t → ArePlainButLast (lines_at_lf bs) → ArePlainButLast (cond t ([] ∷ lines_at_lf bs) (onto_first b (lines_at_lf bs)))
    by_test true e k = behind-empty (lines_at_lf bs) k
    by_test false e k = onto-plain b (lines_at_lf bs) e (λ rest g. no_cr (b == 13) (begins_with_lf bs) h.0 (empty_first bs rest g)) k

pub plain-lines : (bytes : List ℕ) → ArePlainButLast (lines bytes)
unfolding lines
plain-lines bytes = split-plain (without_crs bytes) (without_crs-none bytes)

pub plain-behind : (l : List ℕ) (ls : List (List ℕ)) → ArePlainButLast (l ∷ ls) → ArePlainButLast ls
plain-behind l [] h = tt
plain-behind l (m ∷ ms) h = h.1

-- ---- a line that was read

no_lf-first : (b : ℕ) (bs : List ℕ) → ¬ Contains (b ∷ bs) 10 → (b == 10) ≡ false
no_lf-first b bs none = by_test (b == 10) refl
  where
    by_test : (t : Bool) → (b == 10) ≡ t → t ≡ false
    by_test true e = absurd (none (0, omega arith, grind (arith, common_steps)))
    by_test false e = refl

no_lf-rest : (b : ℕ) (bs : List ℕ) → ¬ Contains (b ∷ bs) 10 → ¬ Contains bs 10
no_lf-rest b bs none h = none (suc h.0, omega (arith, h.1), h.2)

plain_by : (bs : List ℕ) → ¬ Contains bs 10 → ((j : ℕ) → j + 1 ≡ length bs → (slice_index bs j == 13) ≡ false) → IsPlain bs
plain_by [] none last = tt
plain_by (b ∷ []) none last = (no_lf-first b [] none, last 0 refl)
plain_by (b ∷ c ∷ bs) none last =
    (no_lf-first b (c ∷ bs) none, plain_by (c ∷ bs) (no_lf-rest b (c ∷ bs) none) (λ j e. last (suc j) (omega (arith, e))))

no_cr-last : (bs : List ℕ) → ends_with_cr bs ≡ false → (j : ℕ) → j + 1 ≡ length bs → (slice_index bs j == 13) ≡ false
no_cr-last bs h j e =
    let at : length bs - 1 ≡ j = omega (arith, e) in
    let some : nat_lt 0 (length bs) ≡ true = grind (arith, common_steps, e) in
    rw (some, at) at h

pub plain-line : (bs : List ℕ) → ¬ Contains bs 10 → ends_with_cr bs ≡ false → IsPlain bs
plain-line bs none h = plain_by bs none (no_cr-last bs h)

last-plain : (bs : List ℕ) (j : ℕ) → IsPlain bs → j + 1 ≡ length bs → (slice_index bs j == 13) ≡ false
last-plain [] j h e = absurd (omega (arith, e))
last-plain (b ∷ []) zero h e = h.1
last-plain (b ∷ []) (suc j) h e = absurd (omega (arith, e))
last-plain (b ∷ c ∷ bs) zero h e = absurd (omega (arith, e))
last-plain (b ∷ c ∷ bs) (suc j) h e = last-plain (c ∷ bs) j h.1 (omega (arith, e))

plain-no_cr : (bs : List ℕ) → IsPlain bs → ends_with_cr bs ≡ true → ⊥
plain-no_cr [] h e = cc
plain-no_cr (b ∷ bs) h e =
    let last : (slice_index (b ∷ bs) (length (b ∷ bs) - 1) == 13) ≡ false = last-plain (b ∷ bs) (length (b ∷ bs) - 1) h (omega arith) in
    grind (arith, common_steps, last)

-- a line that ends with CR is the last one
pub cr-is-last : (bytes line : List ℕ) (more : List (List ℕ)) → lines bytes ≡ line ∷ more → ends_with_cr line ≡ true → more ≡ []
cr-is-last bytes line [] h e = refl
cr-is-last bytes line (m ∷ ms) h e =
    let plain : ArePlainButLast (line ∷ m ∷ ms) = subst ArePlainButLast h (plain-lines bytes) in
    absurd (plain-no_cr line plain.0 e)

-- ---- no LF, byte by byte

pub no_lf-nil : ¬ Contains {X = ℕ} [] 10
no_lf-nil h = omega (arith, h.1)

no_lf-append : (xs ys : List ℕ) → ¬ Contains xs 10 → ¬ Contains ys 10 → ¬ Contains (xs ++ ys) 10
no_lf-append xs ys p q h = elim (Contains-append_cases xs ys 10 h) [ inl l ↦ p l | inr r ↦ q r ]

no_lf-cons : (b : ℕ) (bs : List ℕ) → b ≢ 10 → ¬ Contains bs 10 → ¬ Contains (b ∷ bs) 10
no_lf-cons b bs other none (zero, lt, is) = other is
no_lf-cons b bs other none (suc k, lt, is) = none (k, omega (arith, lt), is)

no_lf-crs : (n : ℕ) → ¬ Contains {X = ℕ} (replicate n 13) 10
no_lf-crs zero h = no_lf-nil h
no_lf-crs (suc n) h = no_lf-cons 13 (replicate n 13) (λ e. cc) (no_lf-crs n) h

-- CRs that no LF followed were added
pub no_lf-crs_after : (acc line : List ℕ) (n : ℕ) → ¬ Contains acc 10 → line ≡ acc ++ replicate n 13 → ¬ Contains line 10
no_lf-crs_after acc line n none is = rw is (no_lf-append acc (replicate n 13) none (no_lf-crs n))

-- a byte that is no LF was added, with the CRs that waited, or it waits too
pub no_lf-added : (acc line : List ℕ) (n x : ℕ) → ¬ Contains acc 10 → x ≢ 10 → (x ≡ 13 → line ≡ acc) → (x ≢ 13 → line ≡ acc ++ (replicate n 13 ++ x ∷ [])) → ¬ Contains line 10
no_lf-added acc line n x none other waits added = by_test (x == 13) refl
  where
    by_test : (t : Bool) → (x == 13) ≡ t → ¬ Contains line 10
    by_test true e = let is : x ≡ 13 = grind arith in rw (waits is) none
    by_test false e =
        let is : x ≢ 13 = grind arith in
        rw (added is) (no_lf-append acc (replicate n 13 ++ x ∷ []) none (no_lf-append (replicate n 13) (x ∷ []) (no_lf-crs n) (no_lf-cons x [] other no_lf-nil)))

-- no LF stands before this place
pub no_lf-taken : (len : ℕ) (hay : List ℕ) → ((k : ℕ) → k < len → (slice_index hay k == 10) ≡ false) → ¬ Contains (take len hay) 10
no_lf-taken zero hay none h = no_lf-nil h
no_lf-taken (suc n) [] none h = no_lf-nil h
no_lf-taken (suc n) (b ∷ bs) none h =
    no_lf-cons b (take n bs) (let first : (b == 10) ≡ false = none 0 (omega arith) in grind (arith, common_steps, first)) (no_lf-taken n bs (λ k l. none (suc k) (omega (arith, l)))) h

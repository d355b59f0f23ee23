-- A value that was trimmed comes back from behind a space as it is.
use Rattle.std.proofs.Common.{◌≡◌, ◌≤◌, ℕ, Bool, true, false, cond, List, [], ◌∷◌, ◌++◌, length, reverse, refl, sym, ap, subst, ◌∙◌, arith, length-append}
use Rattle.std.proofs.lemmas.Bool.{cond-true, cond-false}
use Rattle.std.proofs.lemmas.List.{reverse-append, reverse-reverse, length-reverse}
use Rattle.httparse.specs.Grammar.{is_ows, skip_ows, trim_ows}
use Rattle.httparse.proofs.TrimLemmas.{trim_ows_space}

-- what is skipped stands in front
skipped : (xs : List ℕ) → (front : List ℕ) × (xs ≡ front ++ skip_ows xs)
skipped [] = ([], refl)
skipped (b ∷ xs) = by_test (skipped xs) (is_ows b)
  where
    by_test : (front : List ℕ) × (xs ≡ front ++ skip_ows xs) → (t : Bool)
        → (front : List ℕ) × (b ∷ xs ≡ front ++ cond t (skip_ows xs) (b ∷ xs))
    by_test later true = (b ∷ later.0, ap (λ l. b ∷ l) later.1)
    by_test later false = ([], refl)

length-skip_ows : (xs : List ℕ) → length (skip_ows xs) ≤ length xs
length-skip_ows xs =
    let cut = skipped xs in
    omega (arith, ap length cut.1, length-append cut.0 (skip_ows xs))

skip_ows-skip_ows : (xs : List ℕ) → skip_ows (skip_ows xs) ≡ skip_ows xs
skip_ows-skip_ows [] = refl
skip_ows-skip_ows (b ∷ xs) = by_test (skip_ows-skip_ows xs) (is_ows b) refl
  where
    by_test : skip_ows (skip_ows xs) ≡ skip_ows xs → (t : Bool) → is_ows b ≡ t
        → skip_ows (cond t (skip_ows xs) (b ∷ xs)) ≡ cond t (skip_ows xs) (b ∷ xs)
    by_test later true blank = later
    by_test later false other = cond-false (is_ows b) (skip_ows xs) (b ∷ xs) other

-- no white space in front of a text, none in front of its beginning
front_kept : (v q : List ℕ) → skip_ows (v ++ q) ≡ v ++ q → skip_ows v ≡ v
front_kept [] q e = refl
front_kept (b ∷ v) q e = by_test (is_ows b) refl
  where
    by_test : (t : Bool) → is_ows b ≡ t → skip_ows (b ∷ v) ≡ b ∷ v
    by_test true blank =
        let shorter : skip_ows (v ++ q) ≡ b ∷ (v ++ q) =
        sym (cond-true (is_ows b) (skip_ows (v ++ q)) (b ∷ (v ++ q)) blank) ∙ e in
        absurd (omega (arith, ap length shorter, length-skip_ows (v ++ q)))
    by_test false other = cond-false (is_ows b) (skip_ows v) (b ∷ v) other

pub trimmed : (xs : List ℕ) → trim_ows (32 ∷ trim_ows xs) ≡ trim_ows xs
unfolding trim_ows
trimmed xs =
    let w = skip_ows xs in
    let back = skip_ows (reverse w) in
    let cut = skipped (reverse w) in
    let whole : w ≡ reverse back ++ reverse cut.0 =
    sym (reverse-reverse w) ∙ (ap reverse cut.1 ∙ reverse-append cut.0 back) in
    trim_ows_space (reverse back)
    (front_kept (reverse back) (reverse cut.0) (subst (λ l. skip_ows l ≡ l) whole (skip_ows-skip_ows xs)))
    (ap skip_ows (reverse-reverse back) ∙ (skip_ows-skip_ows (reverse w) ∙ sym (reverse-reverse back)))

pub length-trim_ows : (xs : List ℕ) → length (trim_ows xs) ≤ length xs
unfolding trim_ows
length-trim_ows xs =
    let w = skip_ows xs in
    omega (
      arith,
      length-reverse (skip_ows (reverse w)),
      length-skip_ows (reverse w),
      length-reverse w,
      length-skip_ows xs,
    )

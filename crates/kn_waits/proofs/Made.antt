-- Counters of which the first are made: how many they are, what each is, and one that is raised.
use Rattle.std.proofs.Common.{◌≡◌, ◌+◌, ◌-◌, ◌<◌, ◌≤◌, ℕ, zero, suc, List, [], ◌++◌, length, get_or, set, replicate, refl, sym, ap, ◌∙◌, arith, append_assoc, length-append, length-set}
use Rattle.std.specs.Prelude.{slice_index}
use Rattle.std.proofs.lemmas.List.{get_or-append_right, get_or_append_left, get_or_default, length-replicate, replicate-append-replicate, set-append_left}
use Rattle.kn_waits.specs.Counters.{with_zeros}

pub length-with_zeros : (n : ℕ) (made : List ℕ) → length made ≤ n → length (with_zeros n made) ≡ n
unfolding with_zeros
length-with_zeros n made short = omega (arith, length-append made (replicate (n - length made) 0), length-replicate {A = ℕ} (n - length made) 0)

-- where none is made yet
pub none_made : (n : ℕ) (made : List ℕ) → made ≡ [] → with_zeros n made ≡ replicate n 0
unfolding with_zeros
none_made n made none =
    let all : n - length made ≡ n = omega (arith, ap length none) in
    ap (λ (l : List ℕ). l ++ replicate (n - length made) 0) none ∙ ap (λ (m : ℕ). replicate m 0) all

-- ---- each of them

-- one that is made
pub is_made : (n w : ℕ) (made : List ℕ) → w < length made → get_or (with_zeros n made) w 0 ≡ get_or made w 0
unfolding with_zeros
is_made n w made inside = get_or_append_left made (replicate (n - length made) 0) 0 w inside

zero_at : (n i : ℕ) → slice_index (replicate n 0) i ≡ 0
zero_at zero i = refl
zero_at (suc n) zero = refl
zero_at (suc n) (suc i) = zero_at n i

-- one that is not
pub is_zero : (n w : ℕ) (made : List ℕ) → length made ≤ w → get_or (with_zeros n made) w 0 ≡ 0
unfolding with_zeros
is_zero n w made past = get_or-append_right made (replicate (n - length made) 0) (length made) w 0 refl past ∙ zero_at (n - length made) (w - length made)

-- ---- one that is raised

zeros_in_two : (made : List ℕ) (k m n : ℕ) → k + m ≡ n → (made ++ replicate k 0) ++ replicate m 0 ≡ made ++ replicate n 0
zeros_in_two made k m n is =
    append_assoc made (replicate k 0) (replicate m 0) ∙ ap (λ (l : List ℕ). made ++ l) (replicate-append-replicate k m 0 ∙ ap (λ (j : ℕ). replicate j 0) is)

-- zeros that are made change none
more_made : (n k : ℕ) (made : List ℕ) → length made + k ≤ n → with_zeros n (made ++ replicate k 0) ≡ with_zeros n made
unfolding with_zeros
more_made n k made short =
    let long : length (made ++ replicate k 0) ≡ length made + k = omega (arith, length-append made (replicate k 0), length-replicate {A = ℕ} k 0) in
    zeros_in_two made k (n - length (made ++ replicate k 0)) (n - length made) (omega (arith, long))

-- made up to this one
pub grown : (n w : ℕ) (made more : List ℕ) → length made ≤ n → w < n → more ≡ made ++ replicate (w + 1 - length made) 0
    → (w < length more) × (length more ≤ n) × (with_zeros n more ≡ with_zeros n made)
grown n w made more short inside is =
    let long : length more ≡ length made + (w + 1 - length made) =
    omega (arith, ap length is, length-append made (replicate (w + 1 - length made) 0), length-replicate {A = ℕ} (w + 1 - length made) 0) in
    (omega (arith, long), omega (arith, long), ap (with_zeros n) is ∙ more_made n (w + 1 - length made) made (omega arith))

-- and set
pub is_set : (n w y : ℕ) (made : List ℕ) → w < length made → with_zeros n (set made w y) ≡ set (with_zeros n made) w y
unfolding with_zeros
is_set n w y made inside =
    ap (λ (m : ℕ). set made w y ++ replicate (n - m) 0) (length-set made w y) ∙ sym (set-append_left made (replicate (n - length made) 0) w y inside)

-- all in one, by what was read of it
pub raised : (n w read y : ℕ) (made more old : List ℕ) → length made ≤ n → with_zeros n made ≡ old → w < length old → more ≡ made ++ replicate (w + 1 - length made) 0
    → read ≡ get_or more w read → (with_zeros n (set more w y) ≡ set old w y) × (read ≡ get_or old w 0)
raised n w read y made more old short view inside is reads =
    let below : w < n = omega (arith, ap length view, length-with_zeros n made short) in
    let all = grown n w made more short below is in
    let same : with_zeros n more ≡ old = all.2 ∙ view in (
      is_set n w y more all.0 ∙ ap (λ (l : List ℕ). set l w y) same,
      reads ∙ get_or_default more w read 0 all.0 ∙ sym (is_made n w more all.0) ∙ ap (λ (l : List ℕ). get_or l w 0) same,
    )

-- Tests and sums over a range of numbers.
use Rattle.std.proofs.Common.{◌≡◌, refl, sym, ap, subst, ◌∙◌, ◌+◌, ◌-◌, ◌*◌, ◌<◌, ◌≤◌, ◌⊎◌, inl, inr, ℕ, zero, suc, Bool, true, false, ◌||◌, List, ◌∷◌, arith, cond, max, min}
use Rattle.std.specs.Prelude.{Option, None, Some, unwrap_or}
use Rattle.std.proofs.Math.Nat.{eq-or-lt_of_le}
use Rattle.std.proofs.lemmas.Bool.{or_parts}
use Rattle.kn_scaling.specs.Average.{last_of}
use Rattle.std.specs.List.{filter, list_any, range_with_len, sum_by}
use Rattle.std.proofs.lemmas.List.Sums.{sum_by-cons}

-- f and g say the same of each number of the range
abbrev pub AgreeIn : {X : Type 0} → ℕ → ℕ → (ℕ → X) → (ℕ → X) → Type 0
AgreeIn a k f g = (s : ℕ) → a ≤ s → s < a + k → f s ≡ g s

pub agree_next : {X : Type 0} (a k : ℕ) (f g : ℕ → X) → AgreeIn a (suc k) f g → AgreeIn (a + 1) k f g
agree_next a k f g h s low high = h s (omega (arith, low)) (omega (arith, high))

pub any_same : (a k : ℕ) (p q : ℕ → Bool) → AgreeIn a k p q → list_any p (range_with_len a k) ≡ list_any q (range_with_len a k)
any_same a zero p q h = refl
any_same a (suc k) p q h =
    ap (λ b. b || list_any p (range_with_len (a + 1) k)) (h a (omega arith) (omega arith)) ∙ ap (λ b. q a || b) (any_same (a + 1) k p q (agree_next a k p q h))

or_assoc : (a b d : Bool) → (a || (b || d)) ≡ ((a || b) || d)
or_assoc true b d = refl
or_assoc false b d = refl

-- a range in two parts
pub any_parts : (a k m : ℕ) (p : ℕ → Bool) → list_any p (range_with_len a (k + m)) ≡ (list_any p (range_with_len a k) || list_any p (range_with_len (a + k) m))
any_parts a zero m p =
    let e : 0 + m ≡ m = omega arith in
    let f : a ≡ a + 0 = omega arith in
    ap (λ n. list_any p (range_with_len a n)) e ∙ ap (λ b. list_any p (range_with_len b m)) f
any_parts a (suc k) m p =
    let e : suc k + m ≡ suc (k + m) = omega arith in
    let f : a + 1 + k ≡ a + suc k = omega arith in
    ap (λ n. list_any p (range_with_len a n)) e
    ∙ ap (λ b. p a || b) (any_parts (a + 1) k m p ∙ ap (λ b. list_any p (range_with_len (a + 1) k) || list_any p (range_with_len b m)) f)
    ∙ or_assoc (p a) (list_any p (range_with_len (a + 1) k)) (list_any p (range_with_len (a + suc k) m))

-- a range that begins later
pub any_shift : (n a k : ℕ) (p : ℕ → Bool) → list_any p (range_with_len (n + a) k) ≡ list_any (λ j. p (n + j)) (range_with_len a k)
any_shift n a zero p = refl
any_shift n a (suc k) p =
    let e : n + a + 1 ≡ n + (a + 1) = omega arith in
    ap (λ b. p (n + a) || list_any p (range_with_len b k)) e ∙ ap (λ b. p (n + a) || b) (any_shift n (a + 1) k p)

pub filter_same : (a k : ℕ) (p q : ℕ → Bool) → AgreeIn a k p q → filter p (range_with_len a k) ≡ filter q (range_with_len a k)
filter_same a zero p q h = refl
filter_same a (suc k) p q h =
    ap (λ b. cond b (a ∷ filter p (range_with_len (a + 1) k)) (filter p (range_with_len (a + 1) k))) (h a (omega arith) (omega arith))
    ∙ ap (λ xs. cond (q a) (a ∷ xs) xs) (filter_same (a + 1) k p q (agree_next a k p q h))

pub sum_same : (a k : ℕ) (f g : ℕ → ℕ) → AgreeIn a k f g → sum_by f (range_with_len a k) ≡ sum_by g (range_with_len a k)
sum_same a zero f g h = refl
sum_same a (suc k) f g h =
    sum_by-cons f a (range_with_len (a + 1) k)
    ∙ ap (λ n. n + sum_by f (range_with_len (a + 1) k)) (h a (omega arith) (omega arith))
    ∙ ap (λ n. g a + n) (sum_same (a + 1) k f g (agree_next a k f g h))
    ∙ sym (sum_by-cons g a (range_with_len (a + 1) k))

-- ---- what is found in a range

pub any_none : (p : ℕ → Bool) (a k : ℕ) → list_any p (range_with_len a k) ≡ false → (s : ℕ) → a ≤ s → s < a + k → p s ≡ false
any_none p a zero h s low high = absurd (omega (arith, low, high))
any_none p a (suc k) h s low high = by (eq-or-lt_of_le low) (λ low. any_none p (a + 1) k both.1 s low (omega (arith, high)))
  where
    both : (p a ≡ false) × (list_any p (range_with_len (a + 1) k) ≡ false)
    both = or_parts (p a) (list_any p (range_with_len (a + 1) k)) h

    by : (a ≡ s) ⊎ (a < s) → (a + 1 ≤ s → p s ≡ false) → p s ≡ false
    by (inl same) more = rw (← same) both.0
    by (inr later) more = more (omega (arith, later))

-- x is the last number of the range that passes
pub record IsLast (p : ℕ → Bool) (a k x : ℕ) : Type 0 where
  pub low : a ≤ x
  pub high : x < a + k
  pub passes : p x ≡ true
  pub after : (s : ℕ) → x < s → s < a + k → p s ≡ false

-- this one is, or none passes
abbrev pub IsLastOf : (ℕ → Bool) → ℕ → ℕ → Option ℕ → Type 0
IsLastOf p a k None = (s : ℕ) → a ≤ s → s < a + k → p s ≡ false
IsLastOf p a k (Some x) = IsLast p a k x

last_cons : (b : Bool) (a : ℕ) (xs : List ℕ) → last_of (cond b (a ∷ xs) xs) ≡ cond b (Some (unwrap_or (last_of xs) a)) (last_of xs)
last_cons true a xs = refl
last_cons false a xs = refl

last_later : (p : ℕ → Bool) (a k x : ℕ) → IsLast p (a + 1) k x → IsLast p a (suc k) x
last_later p a k x is = record { low = omega (arith, is.low); high = omega (arith, is.high); passes = is.passes; after = λ s low high. is.after s low (omega (arith, high)) }

last_next : (p : ℕ → Bool) (a k : ℕ) (b : Bool) (o : Option ℕ) → p a ≡ b → IsLastOf p (a + 1) k o → IsLastOf p a (suc k) (cond b (Some (unwrap_or o a)) o)
last_next p a k true None e none = record { low = omega arith; high = omega arith; passes = e; after = λ s low high. none s (omega (arith, low)) (omega (arith, high)) }
last_next p a k true (Some x) e is = last_later p a k x is
last_next p a k false (Some x) e is = last_later p a k x is
last_next p a k false None e none = λ s low high. by s high (eq-or-lt_of_le low)
  where
    by : (s : ℕ) → s < a + suc k → (a ≡ s) ⊎ (a < s) → p s ≡ false
    by s high (inl same) = rw (← same) e
    by s high (inr more) = none s (omega (arith, more)) (omega (arith, high))

pub last_found : (p : ℕ → Bool) (a k : ℕ) → IsLastOf p a k (last_of (filter p (range_with_len a k)))
last_found p a zero = λ s low high. absurd (omega (arith, low, high))
last_found p a (suc k) =
    let rest = filter p (range_with_len (a + 1) k) in
    subst (IsLastOf p a (suc k)) (sym (last_cons (p a) a rest)) (last_next p a k (p a) (last_of rest) refl (last_found p (a + 1) k))

-- a sum over values of a thousand million at most, that are zero outside of these numbers
pub sum_within : (v : ℕ → ℕ) (low high a k : ℕ) → ((s : ℕ) → v s ≤ 1000000000) → ((s : ℕ) → a ≤ s → s < a + k → (v s ≡ 0) ⊎ ((low ≤ s) × (s < high)))
    → sum_by v (range_with_len a k) ≤ 1000000000 * (min high (a + k) - max low a)
sum_within v low high a zero small inside = omega arith
sum_within v low high a (suc k) small inside =
    let parts = sum_by-cons v a (range_with_len (a + 1) k) in
    let rest = sum_within v low high (a + 1) k small (λ s from to. inside s (omega (arith, from)) (omega (arith, to))) in
    by (inside a (omega arith) (omega arith)) (omega (arith, parts)) rest
  where
    by : (v a ≡ 0) ⊎ ((low ≤ a) × (a < high)) → sum_by v (a ∷ range_with_len (a + 1) k) ≤ v a + sum_by v (range_with_len (a + 1) k)
        → sum_by v (range_with_len (a + 1) k) ≤ 1000000000 * (min high (a + 1 + k) - max low (a + 1)) → sum_by v (a ∷ range_with_len (a + 1) k) ≤ 1000000000 * (min high (a + suc k) - max low a)
    by (inl none) parts rest = omega (arith, none, parts, rest)
    by (inr there) parts rest = let one = small a in omega (arith, there.0, there.1, one, parts, rest)

-- Where spells of samples begin, and what is found in a range of seconds.
use Rattle.std.proofs.Common.{◌≡◌, refl, sym, ap, ◌∙◌, ◌+◌, ◌-◌, ◌<◌, ◌≤◌, ◌⊎◌, inl, inr, ℕ, zero, suc, Bool, true, false, not, ◌||◌, List, [], ◌∷◌, arith, cond}
use Rattle.std.specs.Prelude.{Option, None, Some, nat_lt, nat_le, is_some, unwrap_or}
use Rattle.std.specs.List.{filter, list_any, range_with_len}
use Rattle.std.proofs.Math.Nat.{eq-or-lt_of_le}
use Rattle.kn_scaling.specs.Average.{Samples, seconds, last_of, is_sample, is_any_sample, is_spell_start_by, is_spell_start, with_run}
use Rattle.kn_scaling.specs.Worked.{run_of}

-- ---- tests over a range

none_pass : (p : ℕ → Bool) (k a : ℕ) → ((s : ℕ) → a ≤ s → s < a + k → p s ≡ false) → filter p (range_with_len a k) ≡ []
none_pass p zero a h = refl
none_pass p (suc k) a h =
    ap (λ b. cond b (a ∷ filter p (range_with_len (a + 1) k)) (filter p (range_with_len (a + 1) k))) (h a (omega arith) (omega arith))
    ∙ none_pass p k (a + 1) (λ s low high. h s (omega (arith, low)) (omega (arith, high)))

none_any : (p : ℕ → Bool) (k a : ℕ) → ((s : ℕ) → a ≤ s → s < a + k → p s ≡ false) → list_any p (range_with_len a k) ≡ false
none_any p zero a h = refl
none_any p (suc k) a h =
    ap (λ b. b || list_any p (range_with_len (a + 1) k)) (h a (omega arith) (omega arith))
    ∙ none_any p k (a + 1) (λ s low high. h s (omega (arith, low)) (omega (arith, high)))

or_true : (b : Bool) → (b || true) ≡ true
or_true true = refl
or_true false = refl

some_any : (p : ℕ → Bool) (k a x : ℕ) → a ≤ x → x < a + k → p x ≡ true → list_any p (range_with_len a k) ≡ true
some_any p zero a x low high holds = absurd (omega (arith, low, high))
some_any p (suc k) a x low high holds = go (eq-or-lt_of_le low) (some_any p k (a + 1) x)
  where
    go : (a ≡ x) ⊎ (a < x) → (a + 1 ≤ x → x < a + 1 + k → p x ≡ true → list_any p (range_with_len (a + 1) k) ≡ true) → (p a || list_any p (range_with_len (a + 1) k)) ≡ true
    go (inl e) rec = ap (λ b. b || list_any p (range_with_len (a + 1) k)) (ap p e ∙ holds)
    go (inr e) rec = ap (λ b. p a || b) (rec (omega (arith, e)) (omega (arith, high)) holds) ∙ or_true (p a)

same_any : (p q : ℕ → Bool) (k a : ℕ) → ((s : ℕ) → a ≤ s → s < a + k → p s ≡ q s) → list_any p (range_with_len a k) ≡ list_any q (range_with_len a k)
same_any p q zero a h = refl
same_any p q (suc k) a h =
    ap (λ b. b || list_any p (range_with_len (a + 1) k)) (h a (omega arith) (omega arith))
    ∙ ap (λ b. q a || b) (same_any p q k (a + 1) (λ s low high. h s (omega (arith, low)) (omega (arith, high))))

-- the last second of the range that passes
pub last_pass : (p : ℕ → Bool) (k a x : ℕ) → a ≤ x → x < a + k → p x ≡ true → ((s : ℕ) → x < s → p s ≡ false) → last_of (filter p (range_with_len a k)) ≡ Some x
last_pass p zero a x low high holds later = absurd (omega (arith, low, high))
last_pass p (suc k) a x low high holds later = go (eq-or-lt_of_le low) (last_pass p k (a + 1) x)
  where
    rest : List ℕ
    rest = filter p (range_with_len (a + 1) k)

    both : (b : Bool) → last_of rest ≡ Some x → last_of (cond b (a ∷ rest) rest) ≡ Some x
    both true h = ap (λ o. Some (unwrap_or o a)) h
    both false h = h

    go : (a ≡ x) ⊎ (a < x) → (a + 1 ≤ x → x < a + 1 + k → p x ≡ true → ((s : ℕ) → x < s → p s ≡ false) → last_of rest ≡ Some x) → last_of (cond (p a) (a ∷ rest) rest) ≡ Some x
    go (inl e) rec =
        ap (λ b. last_of (cond b (a ∷ rest) rest)) (ap p e ∙ holds)
        ∙ ap (λ xs. Some (unwrap_or (last_of xs) a)) (none_pass p k (a + 1) (λ s low high. later s (omega (arith, low, e))))
        ∙ ap (λ y. Some y) e
    go (inr e) rec = both (p a) (rec (omega (arith, e)) (omega (arith, high)) holds later)

pub last_none : (p : ℕ → Bool) (k a : ℕ) → ((s : ℕ) → a ≤ s → s < a + k → p s ≡ false) → last_of (filter p (range_with_len a k)) ≡ None
last_none p k a h = ap last_of (none_pass p k a h)

-- ---- starts of spells

not_started : (f : Samples) (n s : ℕ) (o : Option ℕ) → is_any_sample f (seconds (s + 1 - n) s) ≡ true → is_spell_start_by o f n s ≡ false
not_started f n s None h = refl
not_started f n s (Some x) h = ap not h

pub none_starts : (f : Samples) (n s : ℕ) → f s ≡ None → is_spell_start f n s ≡ false
unfolding is_spell_start
none_starts f n s h = ap (λ o. is_spell_start_by o f n s) h

-- a sample within the n - 1 seconds before
pub started_before : (f : Samples) (n s x : ℕ) → s + 1 - n ≤ x → x < s → is_sample f x ≡ true → is_spell_start f n s ≡ false
unfolding is_spell_start is_any_sample
started_before f n s x low high holds =
    not_started f n s (f s) (some_any (is_sample f) (s - (s + 1 - n)) (s + 1 - n) x low (omega (arith, low, high)) holds)

pub starts_at : (f : Samples) (n s v : ℕ) → f s ≡ Some v → ((x : ℕ) → s + 1 - n ≤ x → x < s → f x ≡ None) → is_spell_start f n s ≡ true
unfolding is_spell_start is_any_sample
starts_at f n s v h none =
    ap (λ o. is_spell_start_by o f n s) h
    ∙ ap not (none_any (is_sample f) (s - (s + 1 - n)) (s + 1 - n) (λ x low high. ap is_some (none x low (omega (arith, low, high)))))

-- before a start there is none in reach
pub quiet_before : (f : Samples) (n s x : ℕ) → is_spell_start f n s ≡ true → s + 1 - n ≤ x → x < s → f x ≡ None
quiet_before f n s x starts low high = go (f x) refl
  where
    go : (o : Option ℕ) → f x ≡ o → f x ≡ None
    go None e = e
    go (Some v) e = let both = sym starts ∙ started_before f n s x low high (ap is_some e) in absurd (grind (arith, both))

by_same : (f g : Samples) (n s : ℕ) (o : Option ℕ) → is_any_sample f (seconds (s + 1 - n) s) ≡ is_any_sample g (seconds (s + 1 - n) s) → is_spell_start_by o f n s ≡ is_spell_start_by o g n s
by_same f g n s None h = refl
by_same f g n s (Some v) h = ap not h

-- samples that agree up to a second have the same starts there
pub starts_same : (f g : Samples) (n s : ℕ) → ((x : ℕ) → x ≤ s → f x ≡ g x) → is_spell_start f n s ≡ is_spell_start g n s
unfolding is_spell_start is_any_sample
starts_same f g n s h =
    ap (λ o. is_spell_start_by o f n s) (h s (omega arith))
    ∙ by_same f g n s (g s) (same_any (is_sample f) (is_sample g) (s - (s + 1 - n)) (s + 1 - n) (λ x low high. ap is_some (h x (omega (arith, low, high)))))

-- ---- one more run

pub run_inside : (f : Samples) (a k v s : ℕ) → a ≤ s → s < a + k → with_run f (run_of a k v) s ≡ Some v
unfolding with_run
run_inside f a k v s low high =
    let x : nat_le a s ≡ true = grind (arith, low) in
    let y : nat_lt s (a + k) ≡ true = grind (arith, high) in
    rw (x, y) refl

pub run_before : (f : Samples) (a k v s : ℕ) → s < a → with_run f (run_of a k v) s ≡ f s
unfolding with_run
run_before f a k v s low = let x : nat_le a s ≡ false = grind (arith, low) in rw x refl

pub run_after : (f : Samples) (a k v s : ℕ) → a ≤ s → a + k ≤ s → with_run f (run_of a k v) s ≡ f s
unfolding with_run
run_after f a k v s low high =
    let x : nat_le a s ≡ true = grind (arith, low) in
    let y : nat_lt s (a + k) ≡ false = grind (arith, high) in
    rw (x, y) refl

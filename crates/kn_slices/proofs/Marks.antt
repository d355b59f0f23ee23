-- How many limits aren't what they are to become: over lists that are alike, over such that differ at one place, and where there is none.
use Rattle.std.proofs.Common.{◌≡◌, ◌<◌, ℕ, zero, suc, ◌+◌, Bool, true, false, not, nat_lt, nat_le, ◌&&◌, max, List, [], ◌∷◌, length, get_or, refl, ap, ◌∙◌, sym, subst, arith, None}
use Rattle.std.specs.Prelude.{Option}
use Rattle.std.specs.Prelude.{◌==◌, ◌-◌, if◌then◌else◌}
use Rattle.std.proofs.lemmas.Bool.{eqb-true}
use Rattle.kn_event.specs.Lists.{or_else}
use Rattle.kn_slices.specs.Slices.{change, change_where, count_from, cut_at, first_from, raise_at, slice_of}

abbrev pub bit : Bool → ℕ
bit b = if b then 1 else 0

-- one more of both lists
module _ {A B : Type 0} (test : ℕ → A → Bool) (other : ℕ → B → Bool) where
  -- the tests say the same of the members at each place
  abbrev pub Agree : ℕ → List A → List B → Type 0
  Agree i xs ys = (k : ℕ) (a : A) (b : B) → k < length xs → test (i + k) (get_or xs k a) ≡ other (i + k) (get_or ys k b)

  agree_rest : (i : ℕ) (x : A) (xs : List A) (y : B) (ys : List B) → Agree i (x ∷ xs) (y ∷ ys) → Agree (i + 1) xs ys
  agree_rest i x xs y ys same k a b low =
      subst (λ n. test n (get_or xs k a) ≡ other n (get_or ys k b)) (omega arith) (same (suc k) a b (omega (arith, low)))

  pub count_alike : (i : ℕ) (xs : List A) (ys : List B) → length xs ≡ length ys → Agree i xs ys → count_from test i xs ≡ count_from other i ys
  count_alike i [] [] len same = refl
  count_alike i [] (y ∷ ys) len same = absurd (omega (arith, len))
  count_alike i (x ∷ xs) [] len same = absurd (omega (arith, len))
  count_alike i (x ∷ xs) (y ∷ ys) len same =
      let here : test i x ≡ other i y = subst (λ n. test n x ≡ other n y) (omega arith) (same 0 x y (omega arith)) in
      let rest = count_alike (i + 1) xs ys (omega (arith, len)) (agree_rest i x xs y ys same) in
      ap (λ b. bit b + count_from test (i + 1) xs) here ∙ ap (λ n. bit (other i y) + n) rest

  -- the tests say the same but at place k
  abbrev pub AgreeBut : ℕ → ℕ → List A → List B → Type 0
  AgreeBut p i xs ys = (k : ℕ) (a : A) (b : B) → k < length xs → (k ≡ p → ⊥) → test (i + k) (get_or xs k a) ≡ other (i + k) (get_or ys k b)

  pub count_but : (p i : ℕ) (xs : List A) (ys : List B) (a : A) (b : B) → length xs ≡ length ys → p < length xs → AgreeBut p i xs ys
      → count_from test i xs + bit (other (i + p) (get_or ys p b)) ≡ count_from other i ys + bit (test (i + p) (get_or xs p a))
  count_but p i [] ys a b len low same = absurd (omega (arith, low))
  count_but p i (x ∷ xs) [] a b len low same = absurd (omega (arith, len))
  count_but zero i (x ∷ xs) (y ∷ ys) a b len low same =
      let rest = count_alike (i + 1) xs ys (omega (arith, len)) (λ k a b low. subst (λ n. test n (get_or xs k a) ≡ other n (get_or ys k b)) (omega arith) (same (suc k) a b (omega (arith, low)) (λ e. absurd (omega (arith, e))))) in
      let first : bit (test i x) ≡ bit (test (i + 0) x) = ap (λ n. bit (test n x)) (omega arith) in
      let second : bit (other i y) ≡ bit (other (i + 0) y) = ap (λ n. bit (other n y)) (omega arith) in
      omega (arith, rest, first, second)
  count_but (suc p) i (x ∷ xs) (y ∷ ys) a b len low same =
      let here : test i x ≡ other i y = subst (λ n. test n x ≡ other n y) (omega arith) (same 0 x y (omega arith) (λ e. absurd (omega (arith, e)))) in
      let rest = count_but p (i + 1) xs ys a b (omega (arith, len)) (omega (arith, low))
      (λ k a b low other_k. subst (λ n. test n (get_or xs k a) ≡ other n (get_or ys k b)) (omega arith) (same (suc k) a b (omega (arith, low)) (λ e. other_k (omega (arith, e))))) in
      let first : bit (test (i + 1 + p) (get_or xs p a)) ≡ bit (test (i + suc p) (get_or xs p a)) = ap (λ n. bit (test n (get_or xs p a))) (omega arith) in
      let second : bit (other (i + 1 + p) (get_or ys p b)) ≡ bit (other (i + suc p) (get_or ys p b)) = ap (λ n. bit (other n (get_or ys p b))) (omega arith) in
      let bits = ap bit here in
      omega (arith, rest, first, second, bits)

-- ---- where each limit is its slice

not_below : (a b : ℕ) → a ≡ b → nat_lt a b ≡ false
not_below a b e = grind (arith, e)

module _ {A : Type 0} (limit : A → ℕ) (n wanted p : ℕ) where
  pub no_cut : (i : ℕ) (parts : List A) → count_from (λ i a. not (limit a == slice_of wanted i n)) i parts ≡ 0 → first_from (cut_at limit n wanted p) i parts ≡ None
  no_cut i [] e = refl
  no_cut i (a ∷ rest) e = by (limit a == slice_of wanted i n) refl e (no_cut (i + 1) rest)
    where
      more : ℕ
      more = count_from (λ i a. not (limit a == slice_of wanted i n)) (i + 1) rest

      by : (b : Bool) → (limit a == slice_of wanted i n) ≡ b → bit (not b) + count_from (λ i a. not (limit a == slice_of wanted i n)) (i + 1) rest ≡ 0
          → (count_from (λ i a. not (limit a == slice_of wanted i n)) (i + 1) rest ≡ 0 → first_from (cut_at limit n wanted p) (i + 1) rest ≡ None)
          → or_else (cut_at limit n wanted p i a) (first_from (cut_at limit n wanted p) (i + 1) rest) ≡ None
      by true t e next =
          let none = not_below (slice_of wanted i n) (limit a) (sym (eqb-true (limit a) (slice_of wanted i n) t)) in
          ap (λ b. or_else (change_where b (change i p (slice_of wanted i n))) (first_from (cut_at limit n wanted p) (i + 1) rest)) none ∙ next (omega (arith, e))
      by false t e next = absurd (omega (arith, e))

  pub no_raise : (running : A → ℕ) (held i : ℕ) (parts : List A) → count_from (λ i a. not (limit a == slice_of wanted i n)) i parts ≡ 0
      → first_from (raise_at limit running held n wanted p) i parts ≡ None
  no_raise running held i [] e = refl
  no_raise running held i (a ∷ rest) e = by (limit a == slice_of wanted i n) refl e (no_raise running held (i + 1) rest)
    where
      by : (b : Bool) → (limit a == slice_of wanted i n) ≡ b → bit (not b) + count_from (λ i a. not (limit a == slice_of wanted i n)) (i + 1) rest ≡ 0
          → (count_from (λ i a. not (limit a == slice_of wanted i n)) (i + 1) rest ≡ 0 → first_from (raise_at limit running held n wanted p) (i + 1) rest ≡ None)
          → or_else (raise_at limit running held n wanted p i a) (first_from (raise_at limit running held n wanted p) (i + 1) rest) ≡ None
      by true t e next =
          let none = not_below (limit a) (slice_of wanted i n) (eqb-true (limit a) (slice_of wanted i n) t) in
          ap (λ b. or_else (change_where (b && nat_le (held - max (limit a) (running a) + max (slice_of wanted i n) (running a)) wanted) (change i p (slice_of wanted i n)))
          (first_from (raise_at limit running held n wanted p) (i + 1) rest)) none ∙ next (omega (arith, e))
      by false t e next = absurd (omega (arith, e))

-- ---- where each limit is its slice, by the limits themselves

module _ {A : Type 0} (limit : A → ℕ) (n wanted p : ℕ) where
  -- each member's limit, from place i on, is its slice
  abbrev pub Sliced : ℕ → List A → Type 0
  Sliced i parts = (k : ℕ) (d : A) → k < length parts → limit (get_or parts k d) ≡ slice_of wanted (i + k) n

  sliced_first : (i : ℕ) (a : A) (rest : List A) → Sliced i (a ∷ rest) → limit a ≡ slice_of wanted i n
  sliced_first i a rest all = subst (λ k. limit a ≡ slice_of wanted k n) (omega arith) (all 0 a (omega arith))

  sliced_rest : (i : ℕ) (a : A) (rest : List A) → Sliced i (a ∷ rest) → Sliced (i + 1) rest
  sliced_rest i a rest all k d low = subst (λ m. limit (get_or rest k d) ≡ slice_of wanted m n) (omega arith) (all (suc k) d (omega (arith, low)))

  pub all_sliced : (i : ℕ) (parts : List A) → count_from (λ i a. not (limit a == slice_of wanted i n)) i parts ≡ 0 → Sliced i parts
  all_sliced i [] e = λ k d low. absurd (omega (arith, low))
  all_sliced i (a ∷ rest) e = by (limit a == slice_of wanted i n) refl e (all_sliced (i + 1) rest)
    where
      by : (b : Bool) → (limit a == slice_of wanted i n) ≡ b → bit (not b) + count_from (λ i a. not (limit a == slice_of wanted i n)) (i + 1) rest ≡ 0
          → (count_from (λ i a. not (limit a == slice_of wanted i n)) (i + 1) rest ≡ 0 → Sliced (i + 1) rest) → Sliced i (a ∷ rest)
      by true t e next = both
        where
          both : Sliced i (a ∷ rest)
          both zero d low = subst (λ m. limit a ≡ slice_of wanted m n) (omega arith) (eqb-true (limit a) (slice_of wanted i n) t)
          both (suc k) d low = subst (λ m. limit (get_or rest k d) ≡ slice_of wanted m n) (omega arith) (next (omega (arith, e)) k d (omega (arith, low)))
      by false t e next = absurd (omega (arith, e))

  pub sliced_no_cut : (i : ℕ) (parts : List A) → Sliced i parts → first_from (cut_at limit n wanted p) i parts ≡ None
  sliced_no_cut i [] all = refl
  sliced_no_cut i (a ∷ rest) all =
      let none = not_below (slice_of wanted i n) (limit a) (sym (sliced_first i a rest all)) in
      ap (λ b. or_else (change_where b (change i p (slice_of wanted i n))) (first_from (cut_at limit n wanted p) (i + 1) rest)) none
      ∙ sliced_no_cut (i + 1) rest (sliced_rest i a rest all)

  pub sliced_no_raise : (running : A → ℕ) (held i : ℕ) (parts : List A) → Sliced i parts → first_from (raise_at limit running held n wanted p) i parts ≡ None
  sliced_no_raise running held i [] all = refl
  sliced_no_raise running held i (a ∷ rest) all =
      let none = not_below (limit a) (slice_of wanted i n) (sliced_first i a rest all) in
      ap (λ b. or_else (change_where (b && nat_le (held - max (limit a) (running a) + max (slice_of wanted i n) (running a)) wanted) (change i p (slice_of wanted i n)))
      (first_from (raise_at limit running held n wanted p) (i + 1) rest)) none ∙ sliced_no_raise running held (i + 1) rest (sliced_rest i a rest all)

-- a test that has no answer anywhere
pub none_from : {A X : Type 0} (test : ℕ → A → Option X) (i : ℕ) (xs : List A) → ((k : ℕ) (d : A) → k < length xs → test (i + k) (get_or xs k d) ≡ None) → first_from test i xs ≡ None
none_from test i [] h = refl
none_from test i (x ∷ xs) h =
    let here : test i x ≡ None = subst (λ k. test k x ≡ None) (omega arith) (h 0 x (omega arith)) in
    ap (λ o. or_else o (first_from test (i + 1) xs)) here
    ∙ none_from test (i + 1) xs (λ k d low. subst (λ m. test m (get_or xs k d) ≡ None) (omega arith) (h (suc k) d (omega (arith, low))))

-- The pods that may be open: a walk over those stands for one over all.
use Rattle.std.proofs.Common.{◌≡◌, ◌<◌, ◌≤◌, ◌⊎◌, inl, inr, ℕ, zero, suc, ◌+◌, List, [], ◌∷◌, ◌++◌, length, length-append, get_or, ap, ◌∙◌, sym, subst, arith, Option, Some, None}
use Rattle.std.proofs.lemmas.Bool.{cases_eq}
use Rattle.std.specs.Prelude.{slice_set}
use Rattle.std.proofs.lemmas.List.{get_or_append_left, get_or_default, get_or-set_other}
use Rattle.std.proofs.Math.Seq.{get_or-append_seam}
use Rattle.kn_event.specs.Lists.{or_else}
use Rattle.kn_slices.specs.Activators.{AreListed, AreOpen, IsOff}
use Rattle.kn_slices.specs.Slices.{first_from, force_after}
use Rattle.kn_slices.proofs.Calm.{force_stays}
use Rattle.kn_slices.proofs.Marks.{none_from}

off_more : (x p : ℕ) (xs : List ℕ) → (x ≡ p → ⊥) → IsOff p xs → IsOff p (x ∷ xs)
off_more x p xs other off zero low e = other e
off_more x p xs other off (suc k) low e = off k (omega (arith, low)) e

abbrev pub IsAt : ℕ → List ℕ → Type 0
IsAt p xs = (k : ℕ) × (k < length xs) × (get_or xs k 0 ≡ p)

-- a pod is at no place of the list, or at one
pub listed : (p : ℕ) (xs : List ℕ) → IsOff p xs ⊎ IsAt p xs
listed p [] = inl (λ k low e. absurd (omega (arith, low)))
listed p (x ∷ xs) = elim (cases_eq x p) [
  | inl same ↦ inr (0, omega arith, same)
  | inr other ↦ elim (listed p xs) [
    | inl off ↦ inl (off_more x p xs other off)
    | inr at ↦ let (k, low, is) = at in inr (suc k, omega (arith, low), is)
  ]
]

-- the places from k on don't have it
abbrev pub IsOffFrom : ℕ → ℕ → List ℕ → Type 0
IsOffFrom k p xs = (j : ℕ) → k ≤ j → j < length xs → get_or xs j 0 ≡ p → ⊥

off_here : (k p : ℕ) (xs : List ℕ) → (p ≡ get_or xs k 0 → ⊥) → IsOffFrom (k + 1) p xs → IsOffFrom k p xs
off_here k p xs other off j from low e = elim (cases_eq j k) [
  | inl same ↦ other (sym e ∙ ap (λ i. get_or xs i 0) same)
  | inr apart ↦ off j (omega (arith, from, apart)) low e
]

-- what lies before one listed isn't listed behind it
off_before : (k p pods : ℕ) (xs : List ℕ) → AreListed pods xs → p < get_or xs k 0 → IsOffFrom k p xs
off_before k p pods xs is less j from low e = elim (cases_eq j k) [
  | inl same ↦ let at = ap (λ i. get_or xs i 0) same in absurd (omega (arith, at, e, less))
  | inr apart ↦ let up = is.order k j (omega (arith, from, apart)) low in absurd (omega (arith, up, e, less))
]

-- the test's first answer is at p
first_at : {A X : Type 0} (test : ℕ → A → Option X) (i : ℕ) (xs : List A) (p : ℕ) (d : A) (x : X) → p < length xs
    → ((k : ℕ) → k < p → test (i + k) (get_or xs k d) ≡ None) → test (i + p) (get_or xs p d) ≡ Some x → first_from test i xs ≡ Some x
first_at test i [] p d x low none is = absurd (omega (arith, low))
first_at test i (a ∷ rest) zero d x low none is =
    ap (λ o. or_else o (first_from test (i + 1) rest)) (subst (λ k. test k a ≡ Some x) (omega arith) is)
first_at test i (a ∷ rest) (suc p) d x low none is =
    let here : test i a ≡ None = subst (λ k. test k a ≡ None) (omega arith) (none 0 (omega arith)) in
    ap (λ o. or_else o (first_from test (i + 1) rest)) here
    ∙ first_at test (i + 1) rest p d x (omega (arith, low)) (λ k l. subst (λ m. test m (get_or rest k d) ≡ None) (omega arith) (none (suc k) (omega (arith, l))))
    (subst (λ m. test m (get_or rest p d) ≡ Some x) (omega arith) is)

-- no pod has an answer but those listed from place k on
abbrev pub NoneBut : {X : Type 0} → (ℕ → ℕ → Option X) → ℕ → List ℕ → List ℕ → Type 0
NoneBut test k wanted ps = (q : ℕ) → q < length wanted → IsOffFrom k q ps → test q (get_or wanted q 0) ≡ None

module _ {X : Type 0} (test : ℕ → ℕ → Option X) (k : ℕ) (wanted ps : List ℕ) (none : NoneBut test k wanted ps) where
  pub none_here : test (get_or ps k 0) (get_or wanted (get_or ps k 0) 0) ≡ None → NoneBut test (k + 1) wanted ps
  none_here is q low off = elim (cases_eq q (get_or ps k 0)) [
    | inl same ↦ subst (λ p. test p (get_or wanted p 0) ≡ None) (sym same) is
    | inr apart ↦ none q low (off_here k q ps apart off)
  ]

  pub none_left : length ps ≤ k → first_from test 0 wanted ≡ None
  none_left done = none_from test 0 wanted (λ q d low. subst (λ p. test p (get_or wanted q d) ≡ None) (omega arith)
      (subst (λ w. test q w ≡ None) (get_or_default wanted q 0 d low) (none q low (λ j from inside e. absurd (omega (arith, done, from, inside))))))

  pub some_here : (x : X) → k < length ps → AreListed (length wanted) ps → test (get_or ps k 0) (get_or wanted (get_or ps k 0) 0) ≡ Some x → first_from test 0 wanted ≡ Some x
  some_here x low is found =
      let there = is.inside k low in
      first_at test 0 wanted (get_or ps k 0) 0 x there
      (λ q less. subst (λ p. test p (get_or wanted q 0) ≡ None) (omega arith) (none q (omega (arith, less, there)) (off_before k q (length wanted) ps is less)))
      (subst (λ p. test p (get_or wanted (get_or ps k 0) 0) ≡ Some x) (omega arith) found)

-- ---- the list is made

module _ (p : ℕ) (xs ys : List ℕ) (more : ys ≡ xs ++ p ∷ []) where
  last : get_or ys (length xs) 0 ≡ p
  last = ap (λ (l : List ℕ). get_or l (length xs) 0) more ∙ get_or-append_seam xs p [] 0

  before : (k : ℕ) → k < length xs → get_or ys k 0 ≡ get_or xs k 0
  before k low = ap (λ (l : List ℕ). get_or l k 0) more ∙ get_or_append_left xs (p ∷ []) 0 k low

  pub count : length ys ≡ length xs + 1
  count = ap length more ∙ length-append xs (p ∷ [])

  pub listed_more : AreListed p xs → AreListed (p + 1) ys
  listed_more is = record {
    inside = λ k low. elim (cases_eq k (length xs)) [
      | inl same ↦ let at = ap (λ j. get_or ys j 0) same in let l = last in omega (arith, at, l)
      | inr apart ↦
          let left : k < length xs = let n = count in omega (arith, n, low, apart) in
          let at = before k left in
          let in_xs = is.inside k left in
          omega (arith, at, in_xs)
    ];
    order = λ i j less low.
        let n = count in
        let i_left : i < length xs = omega (arith, n, low, less) in
        let i_at = before i i_left in
        elim (cases_eq j (length xs)) [
          | inl same ↦ let at = ap (λ k. get_or ys k 0) same in let l = last in let in_xs = is.inside i i_left in omega (arith, at, l, i_at, in_xs)
          | inr apart ↦
              let j_left : j < length xs = omega (arith, n, low, apart) in
              let j_at = before j j_left in
              let up = is.order i j less j_left in
              omega (arith, i_at, j_at, up)
        ];
  }

  pub others_more : (P : ℕ → Type 0) → ((q : ℕ) → q < p → IsOff q xs → P q) → (q : ℕ) → q < p + 1 → IsOff q ys → P q
  others_more P all q low off = elim (cases_eq q p) [
    | inl same ↦ absurd (off (length xs) (let n = count in omega (arith, n)) (last ∙ sym same))
    | inr apart ↦ all q (omega (arith, low, apart)) (λ k inside e. off k (let n = count in omega (arith, n, inside)) (before k inside ∙ e))
  ]

pub listed_up : (p : ℕ) (xs : List ℕ) → AreListed p xs → AreListed (p + 1) xs
listed_up p xs is = record { inside = λ k low. let l = is.inside k low in omega (arith, l); order = is.order }

pub others_up : (P : ℕ → Type 0) (p : ℕ) (xs : List ℕ) → P p → ((q : ℕ) → q < p → IsOff q xs → P q) → (q : ℕ) → q < p + 1 → IsOff q xs → P q
others_up P p xs here all q low off = elim (cases_eq q p) [
  | inl same ↦ subst P (sym same) here
  | inr apart ↦ all q (omega (arith, low, apart)) off
]

-- ---- a list of which each pod is closed

pub none_open : (P : ℕ → Type 0) (pods : ℕ) (xs : List ℕ) → ((q : ℕ) → q < pods → IsOff q xs → P q) → ((k : ℕ) → k < length xs → P (get_or xs k 0)) → (q : ℕ) → q < pods → P q
none_open P pods xs off on q low = elim (listed q xs) [
  | inl is_off ↦ off q low is_off
  | inr at ↦ let (k, inside, is) = at in subst P is (on k inside)
]

-- ---- an event leaves the list as it is

-- of another list of the forces, where those of the pods that aren't listed stay, and of marks that do so too
pub still_open : (wanted force marks force' marks' ps : List ℕ) → AreOpen wanted force marks ps
    → ((p : ℕ) → p < length wanted → IsOff p ps → get_or marks' p 0 ≡ get_or marks p 0)
    → ((p : ℕ) → p < length wanted → (held : ℕ) × (get_or force' p 0 ≡ force_after held (get_or wanted p 0) (get_or force p 0))) → AreOpen wanted force' marks' ps
still_open wanted force marks force' marks' ps was marked forces = record {
  listed = was.listed;
  others = λ p low off.
      let (none, same) = was.others p low off in
      let (held, is) = forces p low in
      (marked p low off ∙ none, is ∙ (sym (force_stays held (get_or wanted p 0) (get_or force p 0) same) ∙ same));
}

-- one pod has a mark less, where it had one
pub unmarked : (wanted force marks ps : List ℕ) (p next : ℕ) → AreOpen wanted force marks ps → 1 ≤ get_or marks p 0 → (q : ℕ) → q < length wanted → IsOff q ps → get_or (slice_set marks p next) q 0 ≡ get_or marks q 0
unmarked wanted force marks ps p next was some q low off =
    get_or-set_other marks p q next 0 (λ e. let none = (was.others q low off).0 in let at = ap (λ k. get_or marks k 0) e in absurd (omega (arith, none, at, some)))

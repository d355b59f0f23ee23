-- Each request that came has one outcome, or is live.
use Rattle.std.proofs.Common.{◌≡◌, refl, sym, ap, subst, ◌∙◌, ℕ, zero, suc, ◌+◌, ◌<◌, ◌⊎◌, inl, inr, Bool, true, false, not, cond, ◌&&◌, ◌||◌, List, [], ◌∷◌, ◌++◌, length, length-append, append_assoc, append-nil, arith, Option, Some, None}
use Rattle.std.specs.Prelude.{◌==◌, nat_le, nat_lt}
use Rattle.std.specs.List.{cons_option, count_by, filter, range_with_len}
use Rattle.std.proofs.lemmas.Bool.{eqb-true, or_parts}
use Rattle.std.proofs.lemmas.Bool.Decides.{nat_tests}
use Rattle.std.proofs.lemmas.List.Elements.{filter_map-append}
use Rattle.std.proofs.lemmas.List.Folds.{list_any-append}
use Rattle.std.proofs.lemmas.List.Sums.{sum_by-append}
use Rattle.kn_event.specs.declared.entry.Entry.{Entry}
use Rattle.kn_event.specs.declared.entry.Row.{Row}
use Rattle.kn_event.specs.declared.entry.Row.TheVariants as row
use Rattle.kn_event.specs.declared.revision.Spec.{Spec}
use Rattle.kn_event.specs.Lists.{contains}
use Rattle.kn_trace.specs.Laws.{HasNoOutcome, IsFirstOutcome, IsLawful}
use Rattle.kn_trace.specs.Rows.{arrived_by, ended_by, outcome_by, refused_by, taken_by}
use Rattle.kn_trace.specs.Trace.{Trace, arrivals, each_row, ended, live}
use Rattle.kn_record.specs.Facts.{Facts}
use Rattle.kn_record.specs.Made.{AreDistinct, IsMade, IsProper}

-- ---- distinct numbers, and how often one is there

other_number : (r q : ℕ) → (r == q) ≡ false → (q == r) ≡ false
other_number r q h = grind (arith, nat_tests)

distinct-push : (xs : List ℕ) (y : ℕ) → AreDistinct xs → contains y xs ≡ false → AreDistinct (xs ++ y ∷ [])
distinct-push [] y d h = (refl, tt)
distinct-push (x ∷ xs) y d h =
    let parts = or_parts (x == y) (contains y xs) h in
    (rw (list_any-append (λ q. q == x) xs (y ∷ []), d.0, other_number x y parts.0) refl, distinct-push xs y d.1 parts.1)

abbrev pub times : ℕ → List ℕ → ℕ
times r xs = count_by (λ q. q == r) xs

pub count_first : {X : Type 0} (p : X → Bool) (x : X) (xs : List X) → count_by p (x ∷ xs) ≡ cond (p x) 1 0 + count_by p xs
count_first {X} p x xs = sum_by-append (λ (y : X). cond (p y) 1 0) (x ∷ []) xs ∙ ap (λ n. n + count_by p xs) (plus_zero (cond (p x) 1 0))
  where
    plus_zero : (n : ℕ) → 0 + n ≡ n
    plus_zero n = omega arith

once_distinct : (r : ℕ) (xs : List ℕ) → AreDistinct xs → times r xs ≡ cond (contains r xs) 1 0
once_distinct r [] d = refl
once_distinct r (x ∷ xs) d = count_first (λ q. q == r) x xs ∙ by (x == r) refl (once_distinct r xs d.1)
  where
    by : (b : Bool) → (x == r) ≡ b → times r xs ≡ cond (contains r xs) 1 0 → cond (x == r) 1 0 + times r xs ≡ cond ((x == r) || contains r xs) 1 0
    by true e rest =
        let none : contains r xs ≡ false = ap (λ q. contains q xs) (sym (eqb-true x r e)) ∙ d.0 in
        let zero' : times r xs ≡ 0 = rest ∙ rw none refl in
        rw e (omega (arith, zero'))
    by false e rest = rw e (plus_zero (times r xs) ∙ rest)
      where
        plus_zero : (n : ℕ) → 0 + n ≡ n
        plus_zero n = omega arith

-- ---- numbers from one on

in_range : (r a n : ℕ) → contains r (range_with_len a n) ≡ (nat_le a r && nat_lt r (a + n))
in_range r a zero = grind (arith, nat_tests)
in_range r a (suc n) = ap (λ b. (a == r) || b) (in_range r (a + 1) n) ∙ step r a n
  where
    step : (r a n : ℕ) → ((a == r) || (nat_le (a + 1) r && nat_lt r ((a + 1) + n))) ≡ (nat_le a r && nat_lt r (a + suc n))
    step r a n = grind (arith, nat_tests)

range_distinct : (a n : ℕ) → AreDistinct (range_with_len a n)
range_distinct a zero = tt
range_distinct a (suc n) = (in_range a (a + 1) n ∙ below a n, range_distinct (a + 1) n)
  where
    below : (a n : ℕ) → (nat_le (a + 1) a && nat_lt a ((a + 1) + n)) ≡ false
    below a n = grind (arith, nat_tests)

range_more : (a n : ℕ) → range_with_len a (n + 1) ≡ range_with_len a n ++ (a + n) ∷ []
range_more a zero = let e : a ≡ a + 0 = omega arith in ap (λ k. k ∷ []) e
range_more a (suc n) =
    let e : suc n + 1 ≡ suc (n + 1) = omega arith in
    let k : (a + 1) + n ≡ a + suc n = omega arith in
    ap (λ m. range_with_len a m) e ∙ ap (λ (l : List ℕ). a ∷ l) (range_more (a + 1) n ∙ ap (λ m. range_with_len (a + 1) n ++ m ∷ []) k)

-- ---- what the rows of a trace say, one after the other

each-push : (f : Row → Option ℕ) (c : Trace) (x : Entry) → each_row f (c ++ x ∷ []) ≡ each_row f c ++ cons_option (f x.row) []
each-push f c x = filter_map-append (λ (e : Entry). f e.row) c (x ∷ [])

-- no outcome comes twice
outcomes_distinct : (before c : Trace) → ((b : Trace) (e : Entry) (rest : Trace) → before ++ c ≡ b ++ e ∷ rest → IsFirstOutcome b e.row) → AreDistinct (each_row outcome_by before) → AreDistinct (each_row outcome_by (before ++ c))
outcomes_distinct before [] first d = subst (λ l. AreDistinct (each_row outcome_by l)) (sym (append-nil before)) d
outcomes_distinct before (x ∷ c) first d =
    let here = subst AreDistinct (sym (each-push outcome_by before x)) (one (outcome_by x.row) (first before x c refl)) in
    let more = outcomes_distinct (before ++ x ∷ []) c (λ b e rest is. first b e rest (sym (append_assoc before (x ∷ []) c) ∙ is)) here in
    subst (λ l. AreDistinct (each_row outcome_by l)) (append_assoc before (x ∷ []) c) more
  where
    one : (o : Option ℕ) → HasNoOutcome before o → AreDistinct (each_row outcome_by before ++ cons_option o [])
    one None none = subst AreDistinct (sym (append-nil (each_row outcome_by before))) d
    one (Some r) none = distinct-push (each_row outcome_by before) r d none

-- who arrives has the next number
arrived_range : (before c : Trace) → ((b : Trace) (e : Entry) (rest : Trace) → before ++ c ≡ b ++ e ∷ rest → (r : ℕ) → arrived_by e.row ≡ Some r → r ≡ length (each_row arrived_by b))
    → each_row arrived_by before ≡ range_with_len 0 (length (each_row arrived_by before)) → each_row arrived_by (before ++ c) ≡ range_with_len 0 (length (each_row arrived_by (before ++ c)))
arrived_range before [] next are = subst (λ l. each_row arrived_by l ≡ range_with_len 0 (length (each_row arrived_by l))) (sym (append-nil before)) are
arrived_range before (x ∷ c) next are =
    let here = subst (λ l. l ≡ range_with_len 0 (length l)) (sym (each-push arrived_by before x)) (one (each_row arrived_by before) (arrived_by x.row) are (next before x c refl)) in
    let more = arrived_range (before ++ x ∷ []) c (λ b e rest is. next b e rest (sym (append_assoc before (x ∷ []) c) ∙ is)) here in
    subst (λ l. each_row arrived_by l ≡ range_with_len 0 (length (each_row arrived_by l))) (append_assoc before (x ∷ []) c) more
  where
    one : (xs : List ℕ) (o : Option ℕ) → xs ≡ range_with_len 0 (length xs) → ((r : ℕ) → o ≡ Some r → r ≡ length xs) → xs ++ cons_option o [] ≡ range_with_len 0 (length (xs ++ cons_option o []))
    one xs None are next = subst (λ l. l ≡ range_with_len 0 (length l)) (sym (append-nil xs)) are
    one xs (Some r) are next =
        let long : length (xs ++ r ∷ []) ≡ length xs + 1 = length-append xs (r ∷ []) in
        let number : r ≡ 0 + length xs = (let e = next r refl in omega arith) in
        ap (λ l. l ++ r ∷ []) are ∙ ap (λ n. range_with_len 0 (length xs) ++ n ∷ []) number ∙ sym (range_more 0 (length xs)) ∙ ap (λ n. range_with_len 0 n) (sym long)

-- ---- of each request

arrived_parts : (x : Row) → ((taken_by x ≡ arrived_by x) × (refused_by x ≡ None)) ⊎ ((taken_by x ≡ None) × (refused_by x ≡ arrived_by x))
arrived_parts (row.Admit r tag) = inl (refl, refl)
arrived_parts (row.Direct r p) = inl (refl, refl)
arrived_parts (row.QueueFull r pod) = inr (refl, refl)
arrived_parts (row.Overload r) = inr (refl, refl)
arrived_parts _ = inl (refl, refl)

-- taken in or refused, and not both; one that ended had come
fits : (taken ended refused : Bool) → (refused ≡ true → taken ≡ false) → (ended ≡ true → (taken || refused) ≡ true)
    → cond (ended || refused) 1 0 + cond ((taken || refused) && (taken && not ended)) 1 0 ≡ cond (taken || refused) 1 0
fits true true true apart came = absurd (let wrong = apart refl in cc)
fits true true false apart came = omega arith
fits true false true apart came = absurd (let wrong = apart refl in cc)
fits true false false apart came = omega arith
fits false true true apart came = omega arith
fits false true false apart came = absurd (let wrong = came refl in cc)
fits false false true apart came = omega arith
fits false false false apart came = omega arith

module _ (facts : Facts) (lawful : (s : Spec) (c : Trace) → IsMade s c → IsLawful s c) where
  open facts use {proper.{made_at, made_kept}, lists.{contains-filter, distinct-filter}, kinds.{contains-split, ended_named, named-from, outcome_parts}}

  single : (s : Spec) (c : Trace) → IsMade s c → AreDistinct (each_row outcome_by c)
  single s c made = outcomes_distinct [] c (lawful s c made).single_outcome tt

  arrived_next : (s : Spec) (c : Trace) (x : Row) (r : ℕ) → IsProper s c x → arrived_by x ≡ Some r → r ≡ arrivals c
  arrived_next s c (row.Admit n tag) r p h = let e : n ≡ r = cc in sym e ∙ p.0.number
  arrived_next s c (row.QueueFull n None) r p h = let e : n ≡ r = cc in sym e ∙ p.0.number
  arrived_next s c (row.QueueFull n (Some q)) r p h = let e : n ≡ r = cc in sym e ∙ p.0.number
  arrived_next s c (row.Overload n) r p h = let e : n ≡ r = cc in sym e ∙ p.0
  arrived_next s c (row.Direct n q) r p h = let e : n ≡ r = cc in sym e ∙ p.0.number
  arrived_next s c _ r p h = absurd (cc)

  come : (s : Spec) (c : Trace) → IsMade s c → each_row arrived_by c ≡ range_with_len 0 (arrivals c)
  unfolding arrivals
  come s c made = arrived_range [] c (λ b e rest is r h. arrived_next s b e.row r (made_at s c b e rest made is).1 h) refl

  pub each_once : (s : Spec) (c : Trace) (r : ℕ) → IsMade s c
      → times r (each_row outcome_by c) + times r (filter (λ q. contains q (live c)) (range_with_len 0 (arrivals c))) ≡ cond (nat_lt r (arrivals c)) 1 0
  unfolding live ended
  each_once s c r made =
      let num = (made_kept s c made).requests in
      let range = range_with_len 0 (arrivals c) in
      let taken = contains r (each_row taken_by c) in
      let ended' = contains r (each_row ended_by c) in
      let refused = contains r (each_row refused_by c) in
      let below : contains r range ≡ nat_lt r (arrivals c) = in_range r 0 (arrivals c) ∙ plain r (arrivals c) in
      let came : (taken || refused) ≡ nat_lt r (arrivals c) = sym (contains-split arrived_by taken_by refused_by arrived_parts r c) ∙ ap (λ l. contains r l) (come s c made) ∙ below in
      let outcome : contains r (each_row outcome_by c) ≡ (ended' || refused) = contains-split outcome_by ended_by refused_by outcome_parts r c in
      let alive : contains r (live c) ≡ (taken && not ended') = contains-filter (λ q. not (contains q (each_row ended_by c))) r (each_row taken_by c) in
      let both : contains r (filter (λ q. contains q (live c)) range) ≡ ((taken || refused) && (taken && not ended')) = contains-filter (λ q. contains q (live c)) r range ∙ rw (below, alive, came) refl in
      let one = once_distinct r (each_row outcome_by c) (single s c made) in
      let two = once_distinct r (filter (λ q. contains q (live c)) range) (distinct-filter _ range (range_distinct 0 (arrivals c))) in
      let named : ended' ≡ true → (taken || refused) ≡ true = λ h. came ∙ less r (arrivals c) (num.come r (named-from ended_by ended_named r c h)) in
      rw (one, two, outcome, both) (fits taken ended' refused (num.apart r) named ∙ ap (λ b. cond b 1 0) came)
    where
      plain : (r n : ℕ) → (nat_le 0 r && nat_lt r (0 + n)) ≡ nat_lt r n
      plain r n = grind (arith, nat_tests)

      less : (r n : ℕ) → r < n → nat_lt r n ≡ true
      less r n h = grind (arith, nat_tests)

-- The counts of all steps together.
use Rattle.std.proofs.Common.{◌≡◌, ◌≤◌, ◌<◌, ◌+◌, ℕ, zero, suc, Bool, true, false, cond, ◌||◌, eqb, List, [], ◌∷◌, ◌++◌, length, Option, None, refl, ap, ◌∙◌, arith}
use Rattle.std.specs.Prelude.{sum}
use Rattle.std.specs.List.{All, cons_option, filter, list_any, range_with_len, sum_by}
use Rattle.std.proofs.lemmas.Bool.{ne_eqb}
use Rattle.std.proofs.lemmas.Bool.Decides.{nat_tests}
use Rattle.std.proofs.lemmas.List.Elements.{All-head, All-tail}
use Rattle.std.proofs.lemmas.List.Sums.{sum_by-append, sum_by-cons}
use Rattle.kn_event.specs.declared.entry.Entry.{Entry}
use Rattle.kn_event.specs.declared.entry.Row.{Row}
use Rattle.kn_trace.specs.Trace.{Trace, each_row}
use Rattle.kn_trace.specs.Rows.{begun_by}
use Rattle.kn_record.specs.Rows.{counted}
use Rattle.kn_lives.specs.Lives.{by_row}
use Rattle.kn_show_series.specs.Steps.{is_shown, rows_in, step_of, wait_in, wait_of}
use Rattle.kn_show_series.proofs.Lists.{length-each_row-cons}

-- ---- sums

pub sum_same : {X : Type 0} (f g : X → ℕ) → ((x : X) → f x ≡ g x) → (xs : List X) → sum_by f xs ≡ sum_by g xs
sum_same f g same [] = refl
sum_same f g same (x ∷ xs) = omega (arith, sum_by-cons f x xs, sum_by-cons g x xs, same x, sum_same f g same xs)

pub sum_both : {X : Type 0} (f g : X → ℕ) → (xs : List X) → sum_by (λ x. f x + g x) xs ≡ sum_by f xs + sum_by g xs
sum_both f g [] = refl
sum_both {X} f g (x ∷ xs) = omega (arith, sum_by-cons (λ (y : X). f y + g y) x xs, sum_by-cons f x xs, sum_by-cons g x xs, sum_both f g xs)

sum_none : (f : ℕ → ℕ) → ((k : ℕ) → f k ≡ 0) → (ks : List ℕ) → sum_by f ks ≡ 0
sum_none f none [] = refl
sum_none f none (k ∷ ks) = omega (arith, sum_by-cons f k ks, none k, sum_none f none ks)

-- what is left out counts nothing
pub sum_passed : (f : ℕ → ℕ) (p : ℕ → Bool) → ((k : ℕ) → p k ≡ false → f k ≡ 0) → (ks : List ℕ) → sum_by f (filter p ks) ≡ sum_by f ks
sum_passed f p none [] = refl
sum_passed f p none (k ∷ ks) = by (p k) refl (sum_passed f p none ks)
  where
    by : (b : Bool) → p k ≡ b → sum_by f (filter p ks) ≡ sum_by f ks → sum_by f (cond b (k ∷ filter p ks) (filter p ks)) ≡ sum_by f (k ∷ ks)
    by true is rest = omega (arith, sum_by-cons f k (filter p ks), sum_by-cons f k ks, rest)
    by false is rest = omega (arith, sum_by-cons f k ks, none k is, rest)

-- ---- one step among many

abbrev where_step : ℕ → ℕ → ℕ → ℕ
where_step a n k = cond (eqb a k) n 0

other_steps : (a n from many : ℕ) → a < from → sum_by (where_step a n) (range_with_len from many) ≡ 0
other_steps a n from zero h = refl
other_steps a n from (suc many) h =
    let none : where_step a n from ≡ 0 = rw (ne_eqb a from (λ e. omega arith)) refl in
    omega (arith, sum_by-cons (where_step a n) from (range_with_len (from + 1) many), none, other_steps a n (from + 1) many (omega arith))

one_step : (a n from many : ℕ) → from ≤ a → a < from + many → sum_by (where_step a n) (range_with_len from many) ≡ n
one_step a n from zero low high = absurd (omega arith)
one_step a n from (suc many) low high = by (eqb a from) refl (λ later. one_step a n (from + 1) many later (omega arith))
  where
    by : (b : Bool) → eqb a from ≡ b → (from + 1 ≤ a → sum_by (where_step a n) (range_with_len (from + 1) many) ≡ n) → sum_by (where_step a n) (from ∷ range_with_len (from + 1) many) ≡ n
    by true is rest =
        let same : a ≡ from = grind (arith, nat_tests) in
        let here : where_step a n from ≡ n = rw is refl in
        omega (arith, sum_by-cons (where_step a n) from (range_with_len (from + 1) many), here, other_steps a n (from + 1) many (omega arith))
    by false is rest =
        let later : from + 1 ≤ a = grind (arith, nat_tests) in
        let none : where_step a n from ≡ 0 = rw is refl in
        omega (arith, sum_by-cons (where_step a n) from (range_with_len (from + 1) many), none, rest later)

-- ---- rows

abbrev pub rows_said : {X : Type 0} → (Row → Option X) → ℕ → ℕ → Trace → ℕ → ℕ
rows_said f step start c k = length (each_row f (rows_in step start k c))

rows_said-cons : {X : Type 0} (f : Row → Option X) (step start : ℕ) (x : Entry) (c : Trace) (k : ℕ)
    → rows_said f step start (x ∷ c) k ≡ where_step (step_of step start x.time) (counted (f x.row)) k + rows_said f step start c k
unfolding rows_in
rows_said-cons f step start x c k = by (eqb (step_of step start x.time) k)
  where
    by : (b : Bool) → length (each_row f (cond b (x ∷ filter (λ (y : Entry). eqb (step_of step start y.time) k) c) (filter (λ (y : Entry). eqb (step_of step start y.time) k) c)))
        ≡ cond b (counted (f x.row)) 0 + length (each_row f (filter (λ (y : Entry). eqb (step_of step start y.time) k) c))
    by true = length-each_row-cons f x (filter (λ (y : Entry). eqb (step_of step start y.time) k) c)
    by false = omega arith

rows_said-nil : {X : Type 0} (f : Row → Option X) (step start k : ℕ) → rows_said f step start [] k ≡ 0
unfolding rows_in
rows_said-nil f step start k = refl

-- each row lies in one of the steps
pub rows_in-all : {X : Type 0} (f : Row → Option X) (step start many : ℕ) (c : Trace) → All (λ (x : Entry). step_of step start x.time < many) c
    → sum_by (rows_said f step start c) (range_with_len 0 many) ≡ length (each_row f c)
rows_in-all f step start many [] h = sum_none (rows_said f step start []) (rows_said-nil f step start) (range_with_len 0 many)
rows_in-all f step start many (x ∷ c) h =
    let P : Entry → Type 0 = λ (y : Entry). step_of step start y.time < many in
    let a = step_of step start x.time in
    let here = All-head P x c h in
    omega (
      arith,
      sum_same (rows_said f step start (x ∷ c)) (λ k. where_step a (counted (f x.row)) k + rows_said f step start c k) (rows_said-cons f step start x c) (range_with_len 0 many),
      sum_both (where_step a (counted (f x.row))) (rows_said f step start c) (range_with_len 0 many),
      one_step a (counted (f x.row)) 0 many (omega arith) (omega arith),
      rows_in-all f step start many c (All-tail P x c h),
      length-each_row-cons f x c,
    )

-- ---- waits

abbrev pub waited_in : ℕ → ℕ → Trace → Trace → ℕ → ℕ
waited_in step start before c k = sum (by_row (wait_in step start k) before c)

waited_in-cons : (step start : ℕ) (before : Trace) (x : Entry) (c : Trace) (k : ℕ)
    → waited_in step start before (x ∷ c) k ≡ where_step (step_of step start x.time) (sum (wait_of before x)) k + waited_in step start (before ++ x ∷ []) c k
unfolding by_row
waited_in-cons step start before x c k =
    sum_by-append (λ n. n) (wait_in step start k before x) (by_row (wait_in step start k) (before ++ x ∷ []) c)
    ∙ ap (λ n. n + waited_in step start (before ++ x ∷ []) c k) (by (eqb (step_of step start x.time) k))
  where
    by : (b : Bool) → sum (cond b (wait_of before x) []) ≡ cond b (sum (wait_of before x)) 0
    by true = refl
    by false = refl

pub waits_in-all : (step start many : ℕ) (before c : Trace) → All (λ (x : Entry). step_of step start x.time < many) c
    → sum_by (waited_in step start before c) (range_with_len 0 many) ≡ sum (by_row wait_of before c)
unfolding by_row
waits_in-all step start many before [] h = sum_none (waited_in step start before []) (λ k. refl) (range_with_len 0 many)
waits_in-all step start many before (x ∷ c) h =
    let P : Entry → Type 0 = λ (y : Entry). step_of step start y.time < many in
    let a = step_of step start x.time in
    let here = All-head P x c h in
    let more = waited_in step start (before ++ x ∷ []) c in
    omega (
      arith,
      sum_same (waited_in step start before (x ∷ c)) (λ k. where_step a (sum (wait_of before x)) k + more k) (waited_in-cons step start before x c) (range_with_len 0 many),
      sum_both (where_step a (sum (wait_of before x))) more (range_with_len 0 many),
      one_step a (sum (wait_of before x)) 0 many (omega arith) (omega arith),
      waits_in-all step start many (before ++ x ∷ []) c (All-tail P x c h),
      sum_by-append (λ n. n) (wait_of before x) (by_row wait_of (before ++ x ∷ []) c),
    )

-- ---- a step without a line

-- such rows say nothing of this kind
abbrev pub IsSaidByShown : {X : Type 0} → (Row → Option X) → Type 0
IsSaidByShown f = (x : Row) → is_shown x ≡ false → f x ≡ None

nothing_said : {X : Type 0} (f : Row → Option X) → IsSaidByShown f → (c : Trace) → list_any (λ (x : Entry). is_shown x.row) c ≡ false → each_row f c ≡ []
nothing_said f shown [] h = refl
nothing_said {X} f shown (x ∷ c) h = by (is_shown x.row) refl h (nothing_said f shown c)
  where
    by : (b : Bool) → is_shown x.row ≡ b → (b || list_any (λ (y : Entry). is_shown y.row) c) ≡ false → (list_any (λ (y : Entry). is_shown y.row) c ≡ false → each_row f c ≡ [])
        → cons_option (f x.row) (each_row f c) ≡ []
    by true is h more = absurd (cc)
    by false is h more = rw (shown x.row is) (more h)

pub rows_said-none : {X : Type 0} (f : Row → Option X) (step start k : ℕ) (c : Trace) → IsSaidByShown f → list_any (λ (x : Entry). is_shown x.row) (rows_in step start k c) ≡ false
    → rows_said f step start c k ≡ 0
rows_said-none f step start k c shown h = ap length (nothing_said f shown (rows_in step start k c) h)

pub waited_in-none : (step start k : ℕ) (before c : Trace) → IsSaidByShown begun_by → list_any (λ (x : Entry). is_shown x.row) (rows_in step start k c) ≡ false
    → by_row (wait_in step start k) before c ≡ []
unfolding by_row rows_in
waited_in-none step start k before [] shown h = refl
waited_in-none step start k before (x ∷ c) shown h = by (eqb (step_of step start x.time) k) (is_shown x.row) refl h (waited_in-none step start k (before ++ x ∷ []) c shown)
  where
    by : (b d : Bool) → is_shown x.row ≡ d → list_any (λ (y : Entry). is_shown y.row) (cond b (x ∷ filter (λ (y : Entry). eqb (step_of step start y.time) k) c) (filter (λ (y : Entry). eqb (step_of step start y.time) k) c)) ≡ false
        → (list_any (λ (y : Entry). is_shown y.row) (filter (λ (y : Entry). eqb (step_of step start y.time) k) c) ≡ false → by_row (wait_in step start k) (before ++ x ∷ []) c ≡ [])
        → cond b (wait_of before x) [] ++ by_row (wait_in step start k) (before ++ x ∷ []) c ≡ []
    by false d is h more = more h
    by true false is h more =
        let none : list_any (λ (y : Entry). is_shown y.row) (filter (λ (y : Entry). eqb (step_of step start y.time) k) c) ≡ false = rw is at h in
        rw (shown x.row is) (more none)
    by true true is h more = absurd (let yes : true ≡ false = rw is at h in cc)

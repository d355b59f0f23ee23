-- The first that passes a test, among slots and among requests.
use Rattle.std.proofs.Common.{◌≡◌, ◌≢◌, refl, sym, ap, ◌∙◌, ℕ, zero, suc, ◌+◌, ◌<◌, ◌≤◌, Bool, true, false, not, cond, List, [], ◌∷◌, ◌++◌, length, get_or, set, arith, Option, Some, None}
use Rattle.std.specs.Prelude.{◌==◌, map, nat_le, option_map, slice_get, ◌&&◌}
use Rattle.std.specs.List.{All, AllPairs, filter, find, position_or_len}
use Rattle.std.proofs.lemmas.Bool.Decides.{nat_tests}
use Rattle.std.proofs.lemmas.List.Elements.{All-head, All-tail}
use Rattle.std.proofs.lemmas.List.Folds.{find_at}
use Rattle.std.proofs.lemmas.Option.{get_or_from_slice_get, slice_get_within}
use Rattle.std.proofs.lemmas.List.Sums.{fails_before_first, passes_at_first}
use Rattle.kn_trace.specs.Trace.{first_of}
use Rattle.kn_record.specs.declared.admission.Place.{Place}
use Rattle.kn_record.specs.declared.admission.Request.{Request}
use Rattle.kn_record.specs.Admission.{placed_in, waits}
use Rattle.kn_record.specs.Views.{due_in, is_due}
use Rattle.kn_table.specs.declared.slot.Slot.{Slot}
use Rattle.kn_table.specs.Slots.{IsPlaceOf, first_placed, is_placed, live_of, passed}
use Rattle.kn_table.proofs.Requests.{first_of-map}

pub and-false : (b : Bool) → (b && false) ≡ false
and-false true = refl
and-false false = refl

-- ---- places

-- a place that passes, before which none does, is the first
pub first_is : {X : Type 0} (p : X → Bool) (xs : List X) (i : ℕ) (d : X) → i ≤ position_or_len p xs → i < length xs → p (get_or xs i d) ≡ true → i ≡ position_or_len p xs
first_is p xs i d low inside passes = by (λ lt. fails_before_first p xs i d lt) low
  where
    by : (i < position_or_len p xs → p (get_or xs i d) ≡ false) → i ≤ position_or_len p xs → i ≡ position_or_len p xs
    by fails le = grind (arith, passes)

-- past one that fails the first is still to come
pub first_beyond : {X : Type 0} (p : X → Bool) (xs : List X) (i : ℕ) (d : X) → i ≤ position_or_len p xs → i < length xs → p (get_or xs i d) ≡ false → i + 1 ≤ position_or_len p xs
first_beyond p xs i d low inside fails = by (passes_at_first p xs d) low
  where
    by : (position_or_len p xs < length xs → p (get_or xs (position_or_len p xs) d) ≡ true) → i ≤ position_or_len p xs → i + 1 ≤ position_or_len p xs
    by passes le = grind (arith, fails, inside)

-- a write of one that fails, and one more at the end, bring the first no nearer
pub first-set : {X : Type 0} (p : X → Bool) (xs : List X) (i : ℕ) (y : X) → p y ≡ false → position_or_len p xs ≤ position_or_len p (set xs i y)
first-set p [] i y fails = omega arith
first-set p (x ∷ xs) zero y fails = rw fails (by (p x))
  where
    by : (b : Bool) → cond (not b) (1 + position_or_len p xs) 0 ≤ 1 + position_or_len p xs
    by true = omega arith
    by false = omega arith
first-set p (x ∷ xs) (suc i) y fails = by (p x) (first-set p xs i y fails)
  where
    by : (b : Bool) → position_or_len p xs ≤ position_or_len p (set xs i y) → cond (not b) (1 + position_or_len p xs) 0 ≤ cond (not b) (1 + position_or_len p (set xs i y)) 0
    by true le = omega arith
    by false le = omega arith

-- a write of one that fails leaves the first where it stands elsewhere
pub first-elsewhere : {X : Type 0} (p : X → Bool) (xs : List X) (i : ℕ) (y : X) → p y ≡ false → position_or_len p xs ≢ i → position_or_len p (set xs i y) ≡ position_or_len p xs
first-elsewhere p [] i y fails other = refl
first-elsewhere p (x ∷ xs) zero y fails other = rw fails (by (p x) other)
  where
    by : (b : Bool) → cond (not b) (1 + position_or_len p xs) 0 ≢ 0 → 1 + position_or_len p xs ≡ cond (not b) (1 + position_or_len p xs) 0
    by true other = absurd (other refl)
    by false other = refl
first-elsewhere p (x ∷ xs) (suc i) y fails other = by (p x) (first-elsewhere p xs i y fails) other
  where
    by : (b : Bool) → (position_or_len p xs ≢ i → position_or_len p (set xs i y) ≡ position_or_len p xs) → cond (not b) (1 + position_or_len p xs) 0 ≢ suc i
        → cond (not b) (1 + position_or_len p (set xs i y)) 0 ≡ cond (not b) (1 + position_or_len p xs) 0
    by true rec other = refl
    by false rec other = ap (λ n. 1 + n) (rec (λ same. other (omega (arith, same))))

-- the first once one more stands at the end
pub first-passed : {X : Type 0} (p : X → Bool) (xs : List X) (y : X) → position_or_len p (xs ++ y ∷ []) ≡ passed (p y) (length xs) (position_or_len p xs)
first-passed p [] y = by (p y)
  where
    by : (b : Bool) → cond (not b) 1 0 ≡ passed b 0 0
    by true = refl
    by false = refl
first-passed p (x ∷ xs) y = by (p x) (first-passed p xs y)
  where
    next : (b : Bool) (n f : ℕ) → 1 + passed b n f ≡ passed b (suc n) (1 + f)
    next true n f = go (f == n) (1 + f == suc n)
      where
        go : (e g : Bool) → 1 + cond (e && false) (n + 1) f ≡ cond (g && false) (suc n + 1) (1 + f)
        go true true = refl
        go true false = refl
        go false true = refl
        go false false = refl
    next false n f = go (f == n) (1 + f == suc n) refl refl
      where
        go : (e g : Bool) → (f == n) ≡ e → (1 + f == suc n) ≡ g → 1 + cond (e && true) (n + 1) f ≡ cond (g && true) (suc n + 1) (1 + f)
        go true true h k = omega arith
        go true false h k = absurd (grind (arith, nat_tests, h, k))
        go false true h k = absurd (grind (arith, nat_tests, h, k))
        go false false h k = refl

    by : (b : Bool) → position_or_len p (xs ++ y ∷ []) ≡ passed (p y) (length xs) (position_or_len p xs)
        → cond (not b) (1 + position_or_len p (xs ++ y ∷ [])) 0 ≡ passed (p y) (suc (length xs)) (cond (not b) (1 + position_or_len p xs) 0)
    by true rec = none (p y) (length xs)
      where
        none : (b : Bool) (n : ℕ) → 0 ≡ passed b (suc n) 0
        none b n = go (0 == suc n) refl
          where
            go : (e : Bool) → (0 == suc n) ≡ e → 0 ≡ cond (e && not b) (suc n + 1) 0
            go true h = absurd (grind (arith, nat_tests, h))
            go false h = refl
    by false rec = ap (λ n. 1 + n) rec ∙ next (p y) (length xs) (position_or_len p xs)

pub first-push : {X : Type 0} (p : X → Bool) (xs : List X) (y : X) → position_or_len p xs ≤ position_or_len p (xs ++ y ∷ [])
first-push p [] y = omega arith
first-push p (x ∷ xs) y = by (p x) (first-push p xs y)
  where
    by : (b : Bool) → position_or_len p xs ≤ position_or_len p (xs ++ y ∷ []) → cond (not b) (1 + position_or_len p xs) 0 ≤ cond (not b) (1 + position_or_len p (xs ++ y ∷ [])) 0
    by true le = omega arith
    by false le = omega arith

-- ---- the first live request at a place that passes

first_found : (test : Place → Bool) (xs : List Slot) → first_of (filter (λ (q : Request). test q.place) (live_of xs)) ≡ option_map (λ (s : Slot). s.request) (find (is_placed test) xs)
first_found test [] = refl
first_found test (x ∷ xs) = by x.has_ended (test x.request.place) refl refl (first_found test xs)
  where
    by : (e t : Bool) → x.has_ended ≡ e → test x.request.place ≡ t
        → first_of (filter (λ (q : Request). test q.place) (live_of xs)) ≡ option_map (λ (s : Slot). s.request) (find (is_placed test) xs)
        → first_of (filter (λ (q : Request). test q.place) (live_of (x ∷ xs))) ≡ option_map (λ (s : Slot). s.request) (find (is_placed test) (x ∷ xs))
    by true t e h rec = rw e rec
    by false true e h rec = rw (e, h) refl
    by false false e h rec = rw (e, h) rec

pub first_live : (test : Place → Bool) (xs : List Slot) → first_of (filter (λ (q : Request). test q.place) (live_of xs)) ≡ option_map (λ (s : Slot). s.request) (slice_get xs (first_placed test xs))
first_live test xs = first_found test xs ∙ ap (option_map (λ (s : Slot). s.request)) (find_at (is_placed test) xs)

map_map : {X Y Z : Type 0} (f : X → Y) (g : Y → Z) (o : Option X) → option_map (λ x. g (f x)) o ≡ option_map g (option_map f o)
map_map f g None = refl
map_map f g (Some x) = refl

pub first_number : (test : Place → Bool) (xs : List Slot) → option_map (λ (s : Slot). s.request.number) (slice_get xs (first_placed test xs)) ≡ first_of (placed_in test (live_of xs))
first_number test xs =
    map_map (λ (s : Slot). s.request) (λ (q : Request). q.number) (slice_get xs (first_placed test xs))
    ∙ ap (option_map (λ (q : Request). q.number)) (sym (first_live test xs))
    ∙ sym (first_of-map (λ (q : Request). q.number) (filter (λ (q : Request). test q.place) (live_of xs)))

first_lives : (e t : Bool) → (not e && t) ≡ true → e ≡ false
first_lives true t h = absurd (cc)
first_lives false t h = refl

-- it stands where the first slot of that kind does
pub first_stands : (test : Place → Bool) (xs : List Slot) (r : ℕ) → first_of (placed_in test (live_of xs)) ≡ Some r → IsPlaceOf r xs (first_placed test xs)
first_stands test xs r first = by (slice_get xs (first_placed test xs)) refl
  where
    by : (o : Option Slot) → slice_get xs (first_placed test xs) ≡ o → IsPlaceOf r xs (first_placed test xs)
    by None e = absurd (let none : None ≡ Some r = sym (ap (option_map (λ (s : Slot). s.request.number)) e) ∙ first_number test xs ∙ first in cc)
    by (Some s) e =
        let inside = slice_get_within xs (first_placed test xs) s e in
        let same : Some s.request.number ≡ Some r = sym (ap (option_map (λ (s : Slot). s.request.number)) e) ∙ first_number test xs ∙ first in
        record {
          inside = inside;
          number = λ d. ap (λ (y : Slot). y.request.number) (get_or_from_slice_get xs (first_placed test xs) s d e) ∙ (cc);
          live = λ d. first_lives _ _ (passes_at_first (is_placed test) xs d inside);
        }

-- ---- the first that is due

due_none : (timeout t : ℕ) (l : List Request) → All (λ (q : Request). t < q.time + timeout) l → filter (is_due timeout t) l ≡ []
due_none timeout t [] later = refl
due_none timeout t (x ∷ l) later =
    let head : t < x.time + timeout = All-head (λ (q : Request). t < q.time + timeout) x l later in
    let fails : nat_le (x.time + timeout) t ≡ false = below (x.time + timeout) t head in
    rw (fails, and-false (waits x.place)) (due_none timeout t l (All-tail (λ (q : Request). t < q.time + timeout) x l later))
  where
    below : (a b : ℕ) → b < a → nat_le a b ≡ false
    below a b h = grind (arith, nat_tests)

-- where nobody waits nobody is due
pub none_due : (timeout t : ℕ) (l : List Request) → first_of (filter (λ (q : Request). waits q.place) l) ≡ None → first_of (due_in timeout t l) ≡ None
none_due timeout t [] none = refl
none_due timeout t (x ∷ l) none = by (waits x.place) refl (none_due timeout t l)
  where
    by : (b : Bool) → waits x.place ≡ b → (first_of (filter (λ (q : Request). waits q.place) l) ≡ None → first_of (due_in timeout t l) ≡ None) → first_of (due_in timeout t (x ∷ l)) ≡ None
    by true h rec = absurd (let two : Some x ≡ None = rw h at none in cc)
    by false h rec = rw h (rec (rw h at none))

-- the first that waits is the first that is due, where it is due
pub first_due : (timeout t : ℕ) (l : List Request) (q : Request) → first_of (filter (λ (q : Request). waits q.place) l) ≡ Some q → q.time + timeout ≤ t → first_of (due_in timeout t l) ≡ Some q.number
first_due timeout t [] q first over = absurd (cc)
first_due timeout t (x ∷ l) q first over = by (waits x.place) refl (λ f. first_due timeout t l q f over)
  where
    within : (a b : ℕ) → a ≤ b → nat_le a b ≡ true
    within a b h = grind (arith, nat_tests)

    by : (b : Bool) → waits x.place ≡ b → (first_of (filter (λ (q : Request). waits q.place) l) ≡ Some q → first_of (due_in timeout t l) ≡ Some q.number) → first_of (due_in timeout t (x ∷ l)) ≡ Some q.number
    by true h rec =
        let same : Some x ≡ Some q = rw h at first in
        let one : x ≡ q = cc in
        let passes : nat_le (x.time + timeout) t ≡ true = ap (λ (y : Request). nat_le (y.time + timeout) t) one ∙ within (q.time + timeout) t over in
        rw (h, passes) (ap (λ (y : Request). Some y.number) one)
    by false h rec = rw h (rec (rw h at first))

-- where it isn't, nobody is: all after it came no earlier
pub none_due_yet : (timeout t : ℕ) (l : List Request) (q : Request) → AllPairs (λ (x y : Request). x.time ≤ y.time) l → first_of (filter (λ (q : Request). waits q.place) l) ≡ Some q → t < q.time + timeout
    → first_of (due_in timeout t l) ≡ None
none_due_yet timeout t [] q times first later = refl
none_due_yet timeout t (x ∷ l) q times first later =
    by (waits x.place) refl (λ f. none_due_yet timeout t l q (λ i j d lt inside. times (suc i) (suc j) d (omega arith) (omega arith)) f later)
  where
    above : (a b : ℕ) → b < a → nat_le a b ≡ false
    above a b h = grind (arith, nat_tests)

    by : (b : Bool) → waits x.place ≡ b → (first_of (filter (λ (q : Request). waits q.place) l) ≡ Some q → first_of (due_in timeout t l) ≡ None) → first_of (due_in timeout t (x ∷ l)) ≡ None
    by true h rec =
        let same : Some x ≡ Some q = rw h at first in
        let one : x ≡ q = cc in
        let head : t < x.time + timeout = let eq : x.time ≡ q.time = ap (λ (y : Request). y.time) one in omega (arith, eq, later) in
        let fails : nat_le (x.time + timeout) t ≡ false = above (x.time + timeout) t head in
        let rest : All (λ (y : Request). t < y.time + timeout) l = λ k d inside. let le = times 0 (suc k) d (omega arith) (omega arith) in omega (arith, le, head) in
        rw (h, fails) (ap (λ (k : List Request). first_of (map (λ (y : Request). y.number) k)) (due_none timeout t l rest))
    by false h rec = rw h (rec (rw h at first))

-- The places that the policies take, read off marks.
use Rattle.std.proofs.Common.{◌≡◌, ◌∙◌, sym, ap, ◌+◌, ◌*◌, ◌-◌, ◌%◌, ◌<◌, ◌≤◌, ℕ, zero, suc, Bool, true, false, List, [], ◌∷◌, ◌++◌, length, take, drop, get_or, Option, None, Some, cond, not, refl, arith, length-drop, lt-ltb}
use Rattle.std.specs.Prelude.{◌==◌, nat_lt, slice_index, map}
use Rattle.std.specs.List.{filter, find, list_any, count_by, position_or_len}
use Rattle.std.specs.Option.{option_map, option_or, is_some}
use Rattle.std.proofs.lemmas.List.{get_or_default, get_or-drop, get_or-map, length-map, take-append-drop, take_all}
use Rattle.std.proofs.lemmas.List.Folds.{find-append, find_at}
use Rattle.std.proofs.lemmas.List.Sums.{position_or_len_is}
use Rattle.std.proofs.lemmas.Bool.{eq-eqb, le-ltb}
use Rattle.std.proofs.lemmas.Bool.Decides.{nat_tests}
use Rattle.std.proofs.lemmas.Grind.{common_steps}
use Rattle.std.proofs.lemmas.Option.{slice_get-get_or, slice_get_past}
use Rattle.memchr.specs.Find.{IsFirstByte, is_byte}
use Rattle.kn_trace.specs.declared.candidate.Cand.{Cand}
use Rattle.kn_trace.specs.Choice.{has_seat, first_available, round_robin, choice_of_two, chosen_pod, other_position, random_choice, random_word}
use Rattle.kn_policy.specs.Marks.{AreAscending, IsPlaceOf, mark_of, marks_of}
use Rattle.kn_policy.specs.Policy.{place_past}

-- ---- the first mark

pub length-marks : (cands : List Cand) → length (marks_of cands) ≡ length cands
length-marks [] = refl
length-marks (q ∷ cands) = ap suc (length-marks cands)

mark-at : (cands : List Cand) (k : ℕ) (d : Cand) → k < length cands → slice_index (marks_of cands) k ≡ mark_of (get_or cands k d)
mark-at cands k d inside = get_or-map mark_of cands k d 0 inside

full_where : (q : Cand) (m : ℕ) → m ≡ mark_of q → ((m == 1) ≡ true → ⊥) → has_seat q ≡ false
full_where q m is not_one = by (has_seat q) refl
  where
    by : (b : Bool) → has_seat q ≡ b → has_seat q ≡ false
    by false e = e
    by true e = absurd (not_one (rw (is, e) refl))

free_where : (q : Cand) (m : ℕ) → m ≡ mark_of q → (m == 1) ≡ true → has_seat q ≡ true
free_where q m is one = by (has_seat q) refl
  where
    by : (b : Bool) → has_seat q ≡ b → has_seat q ≡ true
    by true e = e
    by false e = absurd (let no : false ≡ true = rw (is, e) at one in cc)

abbrev pub nobody : Cand
nobody = record { pod = 0; limit = 0; running = 0 }

pub marked_none : (cands : List Cand) → IsFirstByte (is_byte 1) (marks_of cands) None → position_or_len has_seat cands ≡ length cands
marked_none cands nowhere =
    position_or_len_is has_seat cands (length cands) nobody (omega arith)
    (λ k lt. full_where (get_or cands k nobody) _ (mark-at cands k nobody lt) (nowhere k (omega arith) (omega (arith, length-marks cands, lt)))) (λ past. absurd (omega (arith, past)))

pub marked_some : (cands : List Cand) (i : ℕ) → IsFirstByte (is_byte 1) (marks_of cands) (Some i) → (i < length cands) × (position_or_len has_seat cands ≡ i)
marked_some cands i first =
    let inside : i < length cands = omega (arith, length-marks cands, first.0.high) in (
      inside,
      position_or_len_is has_seat cands i nobody (omega (arith, inside))
          (λ k lt. full_where (get_or cands k nobody) _ (mark-at cands k nobody (omega (arith, lt, inside))) (first.0.before k (omega arith) lt))
          (λ within. free_where (get_or cands i nobody) _ (mark-at cands i nobody within) first.1),
    )

pub first_marked : (cands : List Cand) (r : Option ℕ) → IsFirstByte (is_byte 1) (marks_of cands) r → IsPlaceOf (first_available cands) cands r
unfolding first_available
first_marked cands None nowhere = rw (find_at has_seat cands, marked_none cands nowhere, slice_get_past cands (length cands) (omega arith)) refl
first_marked cands (Some i) first =
    let here = marked_some cands i first in
    let inside = here.0 in
    (inside, λ d. rw (find_at has_seat cands, here.1, slice_get-get_or cands i d inside) refl)

-- ---- once round

mapped_or : {A B : Type 0} (f : A → B) (x y : Option A) → option_map f (option_or x y) ≡ option_or (option_map f x) (option_map f y)
mapped_or f None y = refl
mapped_or f (Some x) y = refl

-- the first of two lists, one after the other
first_of_both : (xs ys : List Cand) → first_available (xs ++ ys) ≡ option_or (first_available xs) (first_available ys)
unfolding first_available
first_of_both xs ys = rw (find-append has_seat xs ys) (mapped_or (λ (q : Cand). q.pod) (find has_seat xs) (find has_seat ys))

round_parts : (place : ℕ) (cands : List Cand) → place < length cands
    → round_robin place cands ≡ option_or (first_available (drop place cands)) (first_available (take place cands))
unfolding round_robin
round_parts place cands h = rw (lt-ltb place (length cands) h) (first_of_both (drop place cands) (take place cands))

-- a place past the end is read as 0
pub round_past : (place : ℕ) (cands : List Cand) (r : Option ℕ) → length cands ≤ place → IsPlaceOf (first_available cands) cands r → IsPlaceOf (round_robin place cands) cands r
unfolding round_robin
round_past place cands r h first = rw (le-ltb place (length cands) h) first

-- a pod from the place on
pub round_here : (place : ℕ) (cands : List Cand) (i : ℕ) → place < length cands → IsPlaceOf (first_available (drop place cands)) (drop place cands) (Some i)
    → IsPlaceOf (round_robin place cands) cands (Some (place + i))
round_here place cands i h first =
    let inside : place + i < length cands = omega (arith, length-drop place cands, first.0) in
    (inside, λ d. rw (round_parts place cands h, first.1 d) (ap Some (ap (λ (q : Cand). q.pod) (get_or-drop place cands i d))))

or_none : {X : Type 0} (x : Option X) → option_or x None ≡ x
or_none None = refl
or_none (Some x) = refl

-- or else the first of all
pub round_wrapped : (place : ℕ) (cands : List Cand) → place < length cands → first_available (drop place cands) ≡ None → round_robin place cands ≡ first_available cands
round_wrapped place cands h none =
    let front : first_available cands ≡ first_available (take place cands) =
    ap first_available (sym (take-append-drop place cands)) ∙ first_of_both (take place cands) (drop place cands)
    ∙ ap (option_or (first_available (take place cands))) none ∙ or_none (first_available (take place cands)) in
    rw (round_parts place cands h, none) (sym front)

pub drop-marks : (n : ℕ) (cands : List Cand) → drop n (marks_of cands) ≡ marks_of (drop n cands)
drop-marks zero cands = refl
drop-marks (suc n) [] = refl
drop-marks (suc n) (q ∷ cands) = drop-marks n cands

pub take-marks : (n : ℕ) (cands : List Cand) → take n (marks_of cands) ≡ marks_of (take n cands)
take-marks zero cands = refl
take-marks (suc n) [] = refl
take-marks (suc n) (q ∷ cands) = ap (λ ms. mark_of q ∷ ms) (take-marks n cands)

pub rest_all : {X : Type 0} (place : ℕ) (xs : List X) → take (length xs - place) (drop place xs) ≡ drop place xs
rest_all place xs = take_all _ _ (omega (arith, length-drop place xs))

pub rest_marks : (place : ℕ) (cands : List Cand) → take (length (marks_of cands) - place) (drop place (marks_of cands)) ≡ marks_of (take (length cands - place) (drop place cands))
rest_marks place cands = rest_all place (marks_of cands) ∙ drop-marks place cands ∙ ap marks_of (sym (rest_all place cands))

-- ---- two of all

-- the two places that the words name, of which the second is taken where fewer run there
pub two_second : (cands : List Cand) (a b i j : ℕ) (d : Cand) → 2 ≤ length cands → i ≡ a % length cands → j ≡ other_position i (b % (length cands - 1)) → i < length cands → j < length cands
    → (get_or cands j d).running < (get_or cands i d).running → IsPlaceOf (choice_of_two cands a b) cands (Some j)
unfolding choice_of_two
two_second [] a b i j d h p q x y less = absurd (omega arith)
two_second (c ∷ []) a b i j d h p q x y less = absurd (omega arith)
two_second (c ∷ e ∷ cands) a b i j d h p q x y less =
    (y, λ f. rw (← p, ← q, get_or_default (c ∷ e ∷ cands) i c d x, get_or_default (c ∷ e ∷ cands) j c d y, lt-ltb _ _ less) (ap (λ (k : Cand). Some k.pod) (get_or_default (c ∷ e ∷ cands) j d f y)))

pub two_first : (cands : List Cand) (a b i j : ℕ) (d : Cand) → 2 ≤ length cands → i ≡ a % length cands → j ≡ other_position i (b % (length cands - 1)) → i < length cands → j < length cands
    → (get_or cands i d).running ≤ (get_or cands j d).running → IsPlaceOf (choice_of_two cands a b) cands (Some i)
unfolding choice_of_two
two_first [] a b i j d h p q x y less = absurd (omega arith)
two_first (c ∷ []) a b i j d h p q x y less = absurd (omega arith)
two_first (c ∷ e ∷ cands) a b i j d h p q x y less =
    (x, λ f. rw (← p, ← q, get_or_default (c ∷ e ∷ cands) i c d x, get_or_default (c ∷ e ∷ cands) j c d y, le-ltb _ _ less) (ap (λ (k : Cand). Some k.pod) (get_or_default (c ∷ e ∷ cands) i d f x)))

-- ---- what is found, and how many have a free seat

pub some_place : (pod : Option ℕ) (cands : List Cand) (r : Option ℕ) → IsPlaceOf pod cands r → is_some r ≡ is_some pod
some_place pod cands None none = rw none refl
some_place pod cands (Some i) found = rw (found.1 nobody) refl

pub count-first : (q : Cand) (cands : List Cand) → count_by has_seat (q ∷ cands) ≡ cond (has_seat q) (suc (count_by has_seat cands)) (count_by has_seat cands)
count-first q cands = by (has_seat q) refl
  where
    by : (b : Bool) → has_seat q ≡ b → count_by has_seat (q ∷ cands) ≡ cond b (suc (count_by has_seat cands)) (count_by has_seat cands)
    by true e = grind (arith, common_steps)
    by false e = grind (arith, common_steps)

pub none_free : (cands : List Cand) → count_by has_seat cands ≡ 0 → list_any has_seat cands ≡ false
none_free [] h = refl
none_free (q ∷ cands) h = by (has_seat q) refl (none_free cands)
  where
    by : (b : Bool) → has_seat q ≡ b → (count_by has_seat cands ≡ 0 → list_any has_seat cands ≡ false) → list_any has_seat (q ∷ cands) ≡ false
    by true e rest = absurd (let more : suc (count_by has_seat cands) ≡ 0 = rw (count-first q cands, e) at h in omega (arith, more))
    by false e rest = rw e (rest (rw (count-first q cands, e) at h))

pub none_counted : (cands : List Cand) → list_any has_seat cands ≡ false → count_by has_seat cands ≡ 0
none_counted [] h = refl
none_counted (q ∷ cands) h = by (has_seat q) refl (none_counted cands)
  where
    by : (b : Bool) → has_seat q ≡ b → (list_any has_seat cands ≡ false → count_by has_seat cands ≡ 0) → count_by has_seat (q ∷ cands) ≡ 0
    by true e rest = absurd (let no : true ≡ false = rw e at h in cc)
    by false e rest = count-first q cands ∙ rw e (rest (rw e at h))

pub counted : (cands : List Cand) → list_any has_seat cands ≡ nat_lt 0 (count_by has_seat cands)
counted cands = by (count_by has_seat cands) refl (list_any has_seat cands) refl
  where
    by : (n : ℕ) → count_by has_seat cands ≡ n → (b : Bool) → list_any has_seat cands ≡ b → b ≡ nat_lt 0 n
    by zero e b f = sym f ∙ none_free cands e
    by (suc n) e true f = sym (lt-ltb 0 (suc n) (omega arith))
    by (suc n) e false f = absurd (let no : suc n ≡ 0 = sym e ∙ none_counted cands f in omega (arith, no))

-- ---- the first with a free seat

pub position_most : {X : Type 0} (p : X → Bool) (xs : List X) → position_or_len p xs ≤ length xs
position_most p [] = omega arith
position_most p (x ∷ xs) = by (p x) (position_most p xs)
  where
    by : (b : Bool) → position_or_len p xs ≤ length xs → cond (not b) (1 + position_or_len p xs) 0 ≤ suc (length xs)
    by true rest = omega arith
    by false rest = omega arith

-- past those that fail the first stands as far behind
pub position-drop : {X : Type 0} (p : X → Bool) (xs : List X) (n : ℕ) → n ≤ position_or_len p xs → position_or_len p xs ≡ n + position_or_len p (drop n xs)
position-drop p xs zero h = omega arith
position-drop p [] (suc n) h = absurd (omega arith)
position-drop p (x ∷ xs) (suc n) h = by (p x) h (position-drop p xs n)
  where
    by : (b : Bool) → suc n ≤ cond (not b) (1 + position_or_len p xs) 0 → (n ≤ position_or_len p xs → position_or_len p xs ≡ n + position_or_len p (drop n xs))
        → cond (not b) (1 + position_or_len p xs) 0 ≡ suc n + position_or_len p (drop n xs)
    by true h rest = absurd (omega arith)
    by false h rest = let same = rest (omega arith) in omega (arith, same)

pub any_free : (cands : List Cand) → 0 < count_by has_seat cands → true ≡ list_any has_seat cands
any_free cands some = sym (counted cands ∙ lt-ltb 0 (count_by has_seat cands) some)

pub first_inside : (cands : List Cand) → 0 < count_by has_seat cands → position_or_len has_seat cands < length cands
first_inside [] some = absurd (omega arith)
first_inside (q ∷ cands) some = by (has_seat q) refl (first_inside cands)
  where
    by : (b : Bool) → has_seat q ≡ b → (0 < count_by has_seat cands → position_or_len has_seat cands < length cands) → position_or_len has_seat (q ∷ cands) < suc (length cands)
    by true e rest = rw e (omega arith)
    by false e rest = let less = rest (rw (count-first q cands, e) at some) in rw e (omega (arith, less))

pub first_placed : (cands : List Cand) (i : ℕ) → i ≡ position_or_len has_seat cands → 0 < count_by has_seat cands → IsPlaceOf (first_available cands) cands (Some i)
unfolding first_available
first_placed cands i is some =
    let inside : i < length cands = rw is (first_inside cands some) in
    (inside, λ d. rw (find_at has_seat cands, ← is, slice_get-get_or cands i d inside) refl)

-- ---- where one pod alone has a free seat

none_available : (cands : List Cand) → count_by has_seat cands ≡ 0 → first_available cands ≡ None
unfolding first_available
none_available [] h = refl
none_available (q ∷ cands) h = by (has_seat q) refl (none_available cands)
  where
    by : (b : Bool) → has_seat q ≡ b → (count_by has_seat cands ≡ 0 → first_available cands ≡ None) → first_available (q ∷ cands) ≡ None
    by true e rest = absurd (let more : suc (count_by has_seat cands) ≡ 0 = rw (count-first q cands, e) at h in omega (arith, more))
    by false e rest = rw e (rest (rw (count-first q cands, e) at h))

count-parts : (n : ℕ) (cands : List Cand) → count_by has_seat cands ≡ count_by has_seat (take n cands) + count_by has_seat (drop n cands)
count-parts zero cands = omega arith
count-parts (suc n) [] = omega arith
count-parts (suc n) (q ∷ cands) = by (has_seat q) refl (count-parts n cands)
  where
    by : (b : Bool) → has_seat q ≡ b → count_by has_seat cands ≡ count_by has_seat (take n cands) + count_by has_seat (drop n cands)
        → count_by has_seat (q ∷ cands) ≡ count_by has_seat (q ∷ take n cands) + count_by has_seat (drop n cands)
    by true e rest = rw (count-first q cands, count-first q (take n cands), e) (omega (arith, rest))
    by false e rest = rw (count-first q cands, count-first q (take n cands), e) (omega (arith, rest))

-- round robin takes it, wherever it goes on
pub round_alone : (place : ℕ) (cands : List Cand) → place < length cands → count_by has_seat cands ≡ 1 → round_robin place cands ≡ first_available cands
round_alone place cands h one = by (count_by has_seat (drop place cands)) refl
  where
    by : (n : ℕ) → count_by has_seat (drop place cands) ≡ n → round_robin place cands ≡ first_available cands
    by zero none = round_wrapped place cands h (none_available (drop place cands) none)
    by (suc n) some =
        let front = none_available (take place cands) (omega (arith, count-parts place cands, one, some)) in
        let all : first_available cands ≡ first_available (drop place cands) =
        ap first_available (sym (take-append-drop place cands)) ∙ first_of_both (take place cands) (drop place cands)
        ∙ rw front refl in
        rw (round_parts place cands h, front) (or_none (first_available (drop place cands)) ∙ sym all)

-- ---- which policy it is

pub chosen_two : (cc seed place picks : ℕ) (cands : List Cand) (a b : ℕ) (r : Option ℕ) → cc ≡ 0 → a ≡ random_word seed (2 * picks)
    → b ≡ random_word seed (2 * picks + 1) → IsPlaceOf (choice_of_two (filter has_seat cands) a b) cands r → IsPlaceOf (chosen_pod cc seed place picks cands) cands r
unfolding chosen_pod random_choice
chosen_two n seed place picks cands a b r no_limit x y found = rw (no_limit, ← x, ← y) found

pub chosen_first : (cc seed place picks : ℕ) (cands : List Cand) (r : Option ℕ) → 1 ≤ cc → cc ≤ 3 → IsPlaceOf (first_available cands) cands r
    → IsPlaceOf (chosen_pod cc seed place picks cands) cands r
unfolding chosen_pod
chosen_first n seed place picks cands r low high found =
    let some : (n == 0) ≡ false = grind (arith, nat_tests) in
    rw (some, lt-ltb n 4 (omega arith)) found

pub chosen_round : (cc seed place picks : ℕ) (cands : List Cand) (r : Option ℕ) → 4 ≤ cc → IsPlaceOf (round_robin place cands) cands r
    → IsPlaceOf (chosen_pod cc seed place picks cands) cands r
unfolding chosen_pod
chosen_round n seed place picks cands r low found =
    let some : (n == 0) ≡ false = grind (arith, nat_tests) in
    rw (some, le-ltb n 4 low) found

-- ---- the place of a pod

pub place_at : (cands : List Cand) (i : ℕ) (d : Cand) → AreAscending cands → i < length cands → place_past (get_or cands i d).pod cands ≡ i + 1
place_at cands i d rise inside = ap (λ n. n + 1) (position_or_len_is (λ q. q == p) (map (λ (q : Cand). q.pod) cands) i 0 (omega (arith, size, inside))
    (λ k lt. rw (pod-at k (omega (arith, lt, inside))) (other k lt)) (λ within. rw (pod-at i inside) (eq-eqb p p refl)))
  where
    p : ℕ
    p = (get_or cands i d).pod

    size : length (map (λ (q : Cand). q.pod) cands) ≡ length cands
    size = length-map cands (λ (q : Cand). q.pod)

    pod-at : (k : ℕ) → k < length cands → get_or (map (λ (q : Cand). q.pod) cands) k 0 ≡ (get_or cands k d).pod
    pod-at k lt = get_or-map (λ (q : Cand). q.pod) cands k d 0 lt

    other : (k : ℕ) → k < i → ((get_or cands k d).pod == p) ≡ false
    other k lt = let below : (get_or cands k d).pod < p = rise k i d lt inside in grind (arith, nat_tests, below)

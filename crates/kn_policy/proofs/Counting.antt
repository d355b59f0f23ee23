-- The marked place that so many marked ones stand before.
use Rattle.std.proofs.Common.{◌≡◌, sym, ◌+◌, ◌-◌, ◌%◌, ◌<◌, ◌≤◌, ℕ, zero, suc, Bool, true, false, List, [], ◌∷◌, length, take, drop, get_or, Option, Some, cond, refl, arith, length-drop, length-take}
use Rattle.std.specs.Prelude.{if◌then◌else◌}
use Rattle.std.specs.List.{All, filter, find, count_by, sum}
use Rattle.std.specs.Option.{option_map}
use Rattle.std.proofs.lemmas.List.{drop-take, get_or-map, take-take}
use Rattle.std.proofs.lemmas.List.Elements.{All-take, All-drop}
use Rattle.std.proofs.lemmas.List.Sums.{length-filter, sum-map, sum_by-le, sum_by_more, sum_by-take-drop}
use Rattle.kn_trace.specs.declared.candidate.Cand.{Cand}
use Rattle.kn_trace.specs.Choice.{has_seat, choice_of_two, first_available, other_position}
use Rattle.kn_policy.specs.Marks.{IsPlaceOf, IsPlaceOfMark, mark_of, marks_of}
use Rattle.kn_policy.proofs.Marking.{count-first, length-marks, nobody, take-marks, two_first, two_second}

-- ---- marks 0 and 1

mark-small : (q : Cand) → mark_of q ≤ 1
mark-small q = by (has_seat q)
  where
    by : (b : Bool) → (if b then 1 else 0) ≤ 1
    by true = omega arith
    by false = omega arith

pub marks-small : (cands : List Cand) → All (λ m. m ≤ 1) (marks_of cands)
marks-small cands k d inside =
    let within : k < length cands = omega (arith, length-marks cands, inside) in
    rw (get_or-map mark_of cands k nobody d within) (mark-small (get_or cands k nobody))

pub sum-marks : (cands : List Cand) → sum (marks_of cands) ≡ count_by has_seat cands
sum-marks cands = sum-map mark_of cands

pub sum_within : (marks : List ℕ) → All (λ m. m ≤ 1) marks → sum marks ≤ length marks
sum_within marks small = omega (arith, sum_by-le (λ m. m) 1 marks small)

-- ---- where each is marked

pub all_marked : (n : ℕ) (marks : List ℕ) → All (λ m. m ≤ 1) marks → sum marks ≡ length marks → n < sum marks → IsPlaceOfMark n marks (Some n)
all_marked n marks small all inside = (omega arith, λ d. (one d).0, (one 0).1)
  where
    one : (d : ℕ) → (get_or marks n d ≡ 1) × (sum (take n marks) ≡ n)
    one d =
        let more = sum_by_more (λ m. m) marks n d (omega arith) in
        let front = sum_within (take n marks) (All-take (λ m. m ≤ 1) n marks small) in
        let back = sum_within (drop (n + 1) marks) (All-drop (λ m. m ≤ 1) (n + 1) marks small) in
        let parts = sum_by-take-drop (λ m. m) marks (n + 1) in
        let here = small n d (omega arith) in
        (omega (arith, more, front, back, parts, here, length-take n marks, length-drop (n + 1) marks), omega (arith, more, front, back, parts, here, length-take n marks, length-drop (n + 1) marks))

-- ---- of pods

-- the pod with a free seat that n others with one stand before is the one at n among them
free_at : (cands : List Cand) (i n : ℕ) (d : Cand) → i < length cands → has_seat (get_or cands i d) ≡ true → count_by has_seat (take i cands) ≡ n
    → get_or (filter has_seat cands) n d ≡ get_or cands i d
free_at [] i n d inside free count = absurd (omega arith)
free_at (q ∷ cands) zero n d inside free count = rw (free, ← count) refl
free_at (q ∷ cands) (suc i) n d inside free count = by (has_seat q) refl (λ m same. free_at cands i m d (omega arith) free same)
  where
    by : (b : Bool) → has_seat q ≡ b → ((m : ℕ) → count_by has_seat (take i cands) ≡ m → get_or (filter has_seat cands) m d ≡ get_or cands i d)
        → get_or (cond b (q ∷ filter has_seat cands) (filter has_seat cands)) n d ≡ get_or cands i d
    by true e rest =
        let more : suc (count_by has_seat (take i cands)) ≡ n = rw (count-first q (take i cands), e) at count in
        rw (← more) (rest _ refl)
    by false e rest = rest n (rw (count-first q (take i cands), e) at count)

seat_where : (q : Cand) → mark_of q ≡ 1 → has_seat q ≡ true
seat_where q one = by (has_seat q) refl
  where
    by : (b : Bool) → has_seat q ≡ b → has_seat q ≡ true
    by true e = e
    by false e = absurd (let no : 0 ≡ 1 = rw e at one in omega (arith, no))

-- the place of a mark that n others stand before, where the pod at n among those with a free seat stands
at_mark : (cands : List Cand) (n i : ℕ) (d : Cand) → IsPlaceOfMark n (marks_of cands) (Some i) → get_or (filter has_seat cands) n d ≡ get_or cands i d
at_mark cands n i d place =
    let inside : i < length cands = omega (arith, length-marks cands, place.0) in
    let seat : has_seat (get_or cands i d) ≡ true = seat_where (get_or cands i d) (rw (get_or-map mark_of cands i d 0 inside) at (place.1 0)) in
    let count : count_by has_seat (take i cands) ≡ n = rw (take-marks i cands, sum-marks (take i cands)) at place.2 in
    free_at cands i n d inside seat count

place_among : (pod : Option ℕ) (cands : List Cand) (n i : ℕ) → IsPlaceOf pod (filter has_seat cands) (Some n) → IsPlaceOfMark n (marks_of cands) (Some i) → IsPlaceOf pod cands (Some i)
place_among pod cands n i chosen place = (omega (arith, length-marks cands, place.0), λ d. rw (← at_mark cands n i d place) (chosen.1 d))

-- of two pods with a free seat, which the words name, the second is taken where fewer run there
pub second_of_free : (cands : List Cand) (a b i j x y : ℕ) (d : Cand) → 2 ≤ count_by has_seat cands → i ≡ a % count_by has_seat cands → j ≡ other_position i (b % (count_by has_seat cands - 1))
    → i < count_by has_seat cands → j < count_by has_seat cands → IsPlaceOfMark i (marks_of cands) (Some x) → IsPlaceOfMark j (marks_of cands) (Some y)
    → (get_or cands y d).running < (get_or cands x d).running → IsPlaceOf (choice_of_two (filter has_seat cands) a b) cands (Some y)
second_of_free cands a b i j x y d many first second p q at_x at_y less =
    let size : length (filter has_seat cands) ≡ count_by has_seat cands = length-filter has_seat cands in
    place_among _ cands j y (two_second (filter has_seat cands) a b i j d (rw size many) (rw size first) (rw size second) (rw size p) (rw size q)
    (rw (at_mark cands i x d at_x, at_mark cands j y d at_y) less)) at_y

pub first_of_free : (cands : List Cand) (a b i j x y : ℕ) (d : Cand) → 2 ≤ count_by has_seat cands → i ≡ a % count_by has_seat cands → j ≡ other_position i (b % (count_by has_seat cands - 1))
    → i < count_by has_seat cands → j < count_by has_seat cands → IsPlaceOfMark i (marks_of cands) (Some x) → IsPlaceOfMark j (marks_of cands) (Some y)
    → (get_or cands x d).running ≤ (get_or cands y d).running → IsPlaceOf (choice_of_two (filter has_seat cands) a b) cands (Some x)
first_of_free cands a b i j x y d many first second p q at_x at_y less =
    let size : length (filter has_seat cands) ≡ count_by has_seat cands = length-filter has_seat cands in
    place_among _ cands i x (two_first (filter has_seat cands) a b i j d (rw size many) (rw size first) (rw size second) (rw size p) (rw size q)
    (rw (at_mark cands i x d at_x, at_mark cands j y d at_y) less)) at_x

is_empty : (cands : List Cand) → length cands ≡ 0 → cands ≡ []
is_empty [] h = refl
is_empty (q ∷ cands) h = absurd (omega arith)

-- of one pod with a free seat at most, that one
pub two_of_few : (cands : List Cand) (a b : ℕ) → count_by has_seat cands ≤ 1 → choice_of_two (filter has_seat cands) a b ≡ first_available cands
unfolding choice_of_two first_available
two_of_few [] a b few = refl
two_of_few (q ∷ cands) a b few = by (has_seat q) refl (two_of_few cands a b)
  where
    by : (free : Bool) → has_seat q ≡ free → (count_by has_seat cands ≤ 1 → choice_of_two (filter has_seat cands) a b ≡ option_map (λ (k : Cand). k.pod) (find has_seat cands))
        → choice_of_two (cond free (q ∷ filter has_seat cands) (filter has_seat cands)) a b ≡ option_map (λ (k : Cand). k.pod) (cond free (Some q) (find has_seat cands))
    by true e rest =
        let more : suc (count_by has_seat cands) ≤ 1 = rw (count-first q cands, e) at few in
        let none : filter has_seat cands ≡ [] = is_empty _ (omega (arith, more, length-filter has_seat cands)) in
        rw none refl
    by false e rest = rest (rw (count-first q cands, e) at few)

-- ---- chunk by chunk

-- the marks up to a chunk's end: those before it, and its own
pub sum_chunk : (marks : List ℕ) (place size : ℕ) → place + size ≤ length marks
    → sum (take (place + size) marks) ≡ sum (take place marks) + sum (take (place + size - place) (drop place marks))
sum_chunk marks place size inside =
    let size_is : place + size - place ≡ size = omega arith in
    let parts = sum_by-take-drop (λ m. m) (take (place + size) marks) place in
    rw size_is (sym (rw (drop-take place size marks, take-take place (place + size) marks (omega arith)) at parts))

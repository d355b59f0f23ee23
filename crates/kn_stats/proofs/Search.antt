-- A binary search among pods in the order of their numbers.
use Rattle.std.proofs.Common.{◌≡◌, ℕ, zero, suc, ◌<◌, ◌≤◌, true, false, List, [], ◌∷◌, set, get_or, length, refl, sym, ap, ◌∙◌, arith, Result, Ok, Err}
use Rattle.std.specs.Prelude.{◌==◌, nat_lt, MatchResult, remove}
use Rattle.std.specs.List.Sorted.{IsSearchInRange, IsBinarySearchResult, IsNonDecreasingBy}
use Rattle.std.specs.Ordering.{nat_cmp, ordering_index}
use Rattle.std.proofs.lemmas.Bool.Decides.{nat_tests}
use Rattle.std.proofs.lemmas.Cmp.{ranked}
use Rattle.std.proofs.lemmas.List.{get_or_default}
use Rattle.std.proofs.lemmas.List.Sorted.{IsNonDecreasingBy-from_default}
use Rattle.kn_stats.specs.declared.tally.PodTally.{PodTally}
use Rattle.kn_stats.specs.Pods.{AreAbove, IsSorted, found, idle, put, without_pod}
use Rattle.kn_stats.specs.Places.{IsAt, IsGap}
use Rattle.kn_stats.proofs.Table.{above-found, above-out, sorted-tail}

above_at : (b : ℕ) (qs : List PodTally) → AreAbove b qs → (k : ℕ) (d : PodTally) → k < length qs → b < (get_or qs k d).number
above_at b [] h k d inside = absurd (omega arith)
above_at b (q ∷ qs) h zero d inside = h.0
above_at b (q ∷ qs) h (suc k) d inside = let rest = above_at q.number qs h.1 k d (omega (arith, inside)) in omega (arith, rest, h.0)

rises : (qs : List PodTally) → IsSorted qs → (i j : ℕ) (d : PodTally) → i < j → j < length qs → (get_or qs i d).number < (get_or qs j d).number
rises [] h i j d lt inside = absurd (omega arith)
rises (q ∷ qs) h zero zero d lt inside = absurd (omega arith)
rises (q ∷ qs) h zero (suc j) d lt inside = above_at q.number qs h j d (omega (arith, inside))
rises (q ∷ qs) h (suc i) zero d lt inside = absurd (omega arith)
rises (q ∷ qs) h (suc i) (suc j) d lt inside = rises qs (sorted-tail q qs h) i j d (omega (arith, lt)) (omega (arith, inside))

named : (n p : ℕ) → n ≡ p → (n == p) ≡ true
named n p same = grind (arith, nat_tests)

below : (n p : ℕ) → n < p → (n == p) ≡ false
below n p lt = grind (arith, nat_tests)

not_above : (n p : ℕ) → n < p → nat_lt p n ≡ false
not_above n p lt = grind (arith, nat_tests)

above : (n p : ℕ) → p < n → (n == p) ≡ false
above n p lt = grind (arith, nat_tests)

is_above : (n p : ℕ) → p < n → nat_lt p n ≡ true
is_above n p lt = grind (arith, nat_tests)

-- ---- a pod that is there

found_at : (p : ℕ) (qs : List PodTally) (i : ℕ) (d : PodTally) → IsSorted qs → i < length qs → (get_or qs i d).number ≡ p → found p qs ≡ get_or qs i d
found_at p [] i d h inside same = absurd (omega arith)
found_at p (q ∷ qs) zero d h inside same = rw (named q.number p same) refl
found_at p (q ∷ qs) (suc i) d h inside same =
    let lt = above_at q.number qs h i d (omega (arith, inside)) in
    rw (below q.number p (omega (arith, lt, same))) (found_at p qs i d (sorted-tail q qs h) (omega (arith, inside)) same)

changed_at : (p : ℕ) (by : PodTally → PodTally) (qs : List PodTally) (i : ℕ) (d : PodTally) → IsSorted qs → i < length qs → (get_or qs i d).number ≡ p → put p by qs ≡ set qs i (by (get_or qs i d))
changed_at p by [] i d h inside same = absurd (omega arith)
changed_at p by (q ∷ qs) zero d h inside same = rw (named q.number p same) refl
changed_at p by (q ∷ qs) (suc i) d h inside same =
    let lt = above_at q.number qs h i d (omega (arith, inside)) in
    let less : q.number < p = omega (arith, lt, same) in
    rw (below q.number p less, not_above q.number p less) (ap (λ xs. q ∷ xs) (changed_at p by qs i d (sorted-tail q qs h) (omega (arith, inside)) same))

removed_at : (p : ℕ) (qs : List PodTally) (i : ℕ) (d : PodTally) → IsSorted qs → i < length qs → (get_or qs i d).number ≡ p → without_pod p qs ≡ remove qs i
removed_at p [] i d h inside same = absurd (omega arith)
removed_at p (q ∷ qs) zero d h inside same = rw (named q.number p same) refl
removed_at p (q ∷ qs) (suc i) d h inside same =
    let lt = above_at q.number qs h i d (omega (arith, inside)) in
    rw (below q.number p (omega (arith, lt, same))) (ap (λ xs. q ∷ xs) (removed_at p qs i d (sorted-tail q qs h) (omega (arith, inside)) same))

pub is_at : (p : ℕ) (qs : List PodTally) (i : ℕ) → IsSorted qs → i < length qs → ((d : PodTally) → (get_or qs i d).number ≡ p) → IsAt p qs i
is_at p qs i h inside same =
    let d = idle p in
    let here = found_at p qs i d h inside (same d) in
    record {
      inside = inside;
      pod = λ e. get_or_default qs i e d inside ∙ sym here;
      changed = λ by. changed_at p by qs i d h inside (same d) ∙ ap (λ (q : PodTally). set qs i (by q)) (sym here);
      removed = removed_at p qs i d h inside (same d);
    }

-- ---- one that isn't

is_gap : (p : ℕ) (qs : List PodTally) (i : ℕ) → IsSorted qs → i ≤ length qs → ((k : ℕ) → k < i → (get_or qs k (idle p)).number < p)
    → ((k : ℕ) → i ≤ k → k < length qs → p < (get_or qs k (idle p)).number) → IsGap p qs i
is_gap p [] zero h inside before after = record { inside = inside; pod = refl; changed = λ by. refl; removed = refl }
is_gap p [] (suc i) h inside before after = absurd (omega (arith, inside))
is_gap p (q ∷ qs) zero h inside before after =
    let more : p < q.number = after 0 (omega arith) (omega arith) in
    record {
      inside = inside;
      pod = rw (above q.number p more) (above-found q.number p qs h (omega (arith, more)));
      changed = λ by. rw (above q.number p more, is_above q.number p more) refl;
      removed = rw (above q.number p more) (ap (λ xs. q ∷ xs) (above-out q.number p qs h (omega (arith, more))));
    }
is_gap p (q ∷ qs) (suc i) h inside before after =
    let less : q.number < p = before 0 (omega arith) in
    let rest = is_gap p qs i (sorted-tail q qs h) (omega (arith, inside)) (λ k lt. before (suc k) (omega (arith, lt))) (λ k le lt. after (suc k) (omega (arith, le)) (omega (arith, lt))) in
    record {
      inside = inside;
      pod = rw (below q.number p less) rest.pod;
      changed = λ by. rw (below q.number p less, not_above q.number p less) (ap (λ xs. q ∷ xs) (rest.changed by));
      removed = rw (below q.number p less) (ap (λ xs. q ∷ xs) rest.removed);
    }

-- ---- the search

module _ (qs : List PodTally) (h : IsSorted qs) (p : ℕ) where
  -- the comparisons with p rise along the list, as a binary search asks
  comparisons_rise : IsNonDecreasingBy (λ q. ordering_index (nat_cmp q.number p)) qs
  comparisons_rise = IsNonDecreasingBy-from_default (λ q. ordering_index (nat_cmp q.number p)) qs (idle p) (λ i j le inside.
      let numbers_rise : (get_or qs i (idle p)).number ≤ (get_or qs j (idle p)).number =
      grind (arith, rises qs h i j (idle p), λ (same : i ≡ j). ap (λ k. (get_or qs k (idle p)).number) same) in
      grind (arith, nat_tests))

  pub search_ends : (r : Result ℕ ℕ) → IsSearchInRange r (length qs) → IsBinarySearchResult (λ q. nat_cmp q.number p) qs r → MatchResult r (λ i. IsAt p qs i) (λ i. IsGap p qs i)
  search_ends (Ok i) inside equal = is_at p qs i h inside (λ d. ranked _ p _ (sym (equal d)))
  search_ends (Err i) inside parted =
      let d = idle p in
      let parts = parted comparisons_rise in
      is_gap p qs i h inside (λ k lt. ranked _ p _ (sym (parts.0 k d (omega (arith, lt, inside)) lt))) (λ k le lt. ranked _ p _ (sym (parts.1 k d le lt)))

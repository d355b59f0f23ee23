-- What a pod's place among pods whose numbers rise says of looking it up, changing it and removing it.
use Rattle.std.proofs.Common.{◌≡◌, ℕ, zero, suc, ◌<◌, ◌≤◌, Bool, true, false, ◌||◌, List, [], ◌∷◌, set, get_or, length, refl, sym, ap, subst, ◌∙◌, arith, nat_eq, Some, Option, unwrap_or, Result, Ok, Err}
use Rattle.std.specs.List.{find, remove}
use Rattle.std.specs.List.Sorted.{IsSearchInRange, IsBinarySearchResult, IsNonDecreasingBy}
use Rattle.std.specs.Ordering.{nat_cmp, ordering_index}
use Rattle.std.specs.Prelude.{IsOk}
use Rattle.std.proofs.lemmas.Bool.Decides.{nat_tests}
use Rattle.std.proofs.lemmas.Cmp.{ranked}
use Rattle.std.specs.Prelude.{map}
use Rattle.std.proofs.Math.ListN.{get_or-map}
use Rattle.std.proofs.lemmas.List.{get_or_default, length-map}
use Rattle.std.proofs.lemmas.List.Sorted.{IsNonDecreasingBy-from_default}
use Rattle.kn_seats.specs.Pods.{Pod, idle_pod, has_pod, pod_at, with_pod_changed, without_pod}
use Rattle.kn_seats.specs.declared.cells.Cells.{Cells}
use Rattle.kn_seats.specs.declared.tracker.Tracker.{Tracker}
use Rattle.kn_seats.specs.Kept.{IsAscending, IsPlaceOf, seen}

pub is_named : (n p : ℕ) → n ≡ p → nat_eq n p ≡ true
is_named n p same = grind (arith, nat_tests)

pub not_named : (n p : ℕ) → (n ≡ p → ⊥) → nat_eq n p ≡ false
not_named n p differ = grind (arith, nat_tests)

number_of : (n p : ℕ) → nat_eq n p ≡ true → n ≡ p
number_of n p named = grind (arith, nat_tests)

-- the pods after the first one rise too, and lie above it
ascending_rest : (x : Pod) (xs : List Pod) → IsAscending (x ∷ xs) → IsAscending xs
ascending_rest x xs rise i j d lt inside = rise (suc i) (suc j) d (omega arith) (omega arith)

above_first : (x : Pod) (xs : List Pod) → IsAscending (x ∷ xs) → (k : ℕ) (d : Pod) → k < length xs → x.number < (get_or xs k d).number
above_first x xs rise k d inside = rise 0 (suc k) d (omega arith) (omega arith)

-- none of these has the number
HasNone : ℕ → List Pod → Type 0
HasNone p xs = (k : ℕ) (d : Pod) → k < length xs → (get_or xs k d).number ≡ p → ⊥

none_rest : (p : ℕ) (x : Pod) (xs : List Pod) → HasNone p (x ∷ xs) → HasNone p xs
unfolding HasNone
none_rest p x xs none k d inside = none (suc k) d (omega arith)

none_after : (p : ℕ) (x : Pod) (xs : List Pod) → IsAscending (x ∷ xs) → x.number ≡ p → HasNone p xs
unfolding HasNone
none_after p x xs rise same k d inside other = absurd (omega (arith, above_first x xs rise k d inside, same, other))

unchanged : (p : ℕ) (by : Pod → Pod) (xs : List Pod) → HasNone p xs → with_pod_changed p by xs ≡ xs
unfolding HasNone
unchanged p by [] none = refl
unchanged p by (x ∷ xs) none =
    let other : nat_eq x.number p ≡ false = not_named x.number p (none 0 x (omega arith)) in
    rw other (ap (λ l. x ∷ l) (unchanged p by xs (none_rest p x xs none)))

unfiltered : (p : ℕ) (xs : List Pod) → HasNone p xs → without_pod p xs ≡ xs
unfolding HasNone
unfiltered p [] none = refl
unfiltered p (x ∷ xs) none =
    let other : nat_eq x.number p ≡ false = not_named x.number p (none 0 x (omega arith)) in
    rw other (ap (λ l. x ∷ l) (unfiltered p xs (none_rest p x xs none)))

found_at : (p : ℕ) (xs : List Pod) (i : ℕ) (d : Pod) → IsAscending xs → i < length xs → (get_or xs i d).number ≡ p → find (λ pod. nat_eq pod.number p) xs ≡ Some (get_or xs i d)
found_at p [] i d rise inside same = absurd (omega arith)
found_at p (x ∷ xs) zero d rise inside same = rw (is_named x.number p same) refl
found_at p (x ∷ xs) (suc i) d rise inside same =
    let within : i < length xs = omega arith in
    let below = above_first x xs rise i d within in
    let other : nat_eq x.number p ≡ false = not_named x.number p (λ e. absurd (omega (arith, below, same, e))) in
    rw other (found_at p xs i d (ascending_rest x xs rise) within same)

changed_at : (p : ℕ) (by : Pod → Pod) (xs : List Pod) (i : ℕ) (d : Pod) → IsAscending xs → i < length xs → (get_or xs i d).number ≡ p → with_pod_changed p by xs ≡ set xs i (by (get_or xs i d))
changed_at p by [] i d rise inside same = absurd (omega arith)
changed_at p by (x ∷ xs) zero d rise inside same =
    rw (is_named x.number p same) (ap (λ l. by x ∷ l) (unchanged p by xs (none_after p x xs rise same)))
changed_at p by (x ∷ xs) (suc i) d rise inside same =
    let within : i < length xs = omega arith in
    let below = above_first x xs rise i d within in
    let other : nat_eq x.number p ≡ false = not_named x.number p (λ e. absurd (omega (arith, below, same, e))) in
    rw other (ap (λ l. x ∷ l) (changed_at p by xs i d (ascending_rest x xs rise) within same))

removed_at : (p : ℕ) (xs : List Pod) (i : ℕ) (d : Pod) → IsAscending xs → i < length xs → (get_or xs i d).number ≡ p → without_pod p xs ≡ remove xs i
removed_at p [] i d rise inside same = absurd (omega arith)
removed_at p (x ∷ xs) zero d rise inside same =
    rw (is_named x.number p same) (unfiltered p xs (none_after p x xs rise same))
removed_at p (x ∷ xs) (suc i) d rise inside same =
    let within : i < length xs = omega arith in
    let below = above_first x xs rise i d within in
    let other : nat_eq x.number p ≡ false = not_named x.number p (λ e. absurd (omega (arith, below, same, e))) in
    rw other (ap (λ l. x ∷ l) (removed_at p xs i d (ascending_rest x xs rise) within same))

-- a place at which a pod of this number stands
pub record StandsAt (p : ℕ) (pods : List Pod) (place : ℕ) : Type 0 where
  pub inside : place < length pods
  pub number : (d : Pod) → (get_or pods place d).number ≡ p

-- where the test finds a pod of this number there is such a place: at the first one, or among the rest
place_from : (p : ℕ) (x : Pod) (xs : List Pod) (first : Bool) → nat_eq x.number p ≡ first → (first || has_pod p xs) ≡ true
    → (has_pod p xs ≡ true → (place : ℕ) × StandsAt p xs place) → (place : ℕ) × StandsAt p (x ∷ xs) place
place_from p x xs true named there rest = (0, record { inside = omega arith; number = λ d. number_of x.number p named })
place_from p x xs false named there rest =
    let found = rest there in
    (suc found.0, record { inside = let within = found.1.inside in omega arith; number = found.1.number })

pub some_place : (p : ℕ) (pods : List Pod) → has_pod p pods ≡ true → (place : ℕ) × StandsAt p pods place
some_place p [] there = absurd (let h : false ≡ true = there in cc)
some_place p (x ∷ xs) there = place_from p x xs (nat_eq x.number p) refl there (some_place p xs)

-- it is the only one
pub the_place : (p : ℕ) (pods : List Pod) (place : ℕ) → IsAscending pods → StandsAt p pods place → IsPlaceOf p pods place
the_place p pods place rise stands =
    let d = idle_pod p 0 in
    let here = get_or pods place d in
    let found : find (λ pod. nat_eq pod.number p) pods ≡ Some here = found_at p pods place d rise stands.inside (stands.number d) in
    let same : pod_at p pods ≡ here = ap (λ (o : Option Pod). unwrap_or o d) found in
    record {
      inside = stands.inside;
      pod = λ e. get_or_default pods place e d stands.inside ∙ sym same;
      changed = λ by. changed_at p by pods place d rise stands.inside (stands.number d) ∙ ap (λ (q : Pod). set pods place (by q)) (sym same);
      removed = removed_at p pods place d rise stands.inside (stands.number d);
    }

-- a tracker's pod stands where the tracker does
pub stands_at : (cells : Cells) (trackers : List Tracker) (p place : ℕ) (t : Tracker) → place < length trackers → t ≡ get_or trackers place t → t.number ≡ p
    → StandsAt p (map (seen cells) trackers) place
stands_at cells trackers p place t inside is named =
    let within : place < length (map (seen cells) trackers) = omega (arith, length-map trackers (seen cells)) in
    record {
      inside = within;
      number = λ d. ap (λ (q : Pod). q.number)
          (get_or_default (map (seen cells) trackers) place d (seen cells t) within ∙ get_or-map (seen cells) trackers place t ∙ ap (seen cells) (sym is)) ∙ named;
    }

abbrev blank : ℕ → Tracker
blank p = record { number = p; limit = 0; running = 0; queue = record { first = 0; last = 0; count = 0 }; draining = false }

module _ (cells : Cells) (trackers : List Tracker) (rise : IsAscending (map (seen cells) trackers)) (p : ℕ) where
  number_at : (i : ℕ) → (get_or (map (seen cells) trackers) i (seen cells (blank p))).number ≡ (get_or trackers i (blank p)).number
  number_at i = ap (λ (q : Pod). q.number) (get_or-map (seen cells) trackers i (blank p))

  -- the comparisons with p rise along the list, as a binary search asks
  comparisons_rise : IsNonDecreasingBy (λ (t : Tracker). ordering_index (nat_cmp t.number p)) trackers
  comparisons_rise = IsNonDecreasingBy-from_default (λ (t : Tracker). ordering_index (nat_cmp t.number p)) trackers (blank p) (λ i j le inside.
      let within : j < length (map (seen cells) trackers) = omega (arith, length-map trackers (seen cells)) in
      let at_i = number_at i in
      let at_j = number_at j in
      let numbers_rise : (get_or trackers i (blank p)).number ≤ (get_or trackers j (blank p)).number =
      grind (arith, rise i j (seen cells (blank p)), λ (same : i ≡ j). ap (λ k. (get_or trackers k (blank p)).number) same) in
      grind (arith, nat_tests))

  -- a binary search ends at a pod that is there
  pub search_finds : has_pod p (map (seen cells) trackers) ≡ true → (r : Result ℕ ℕ) → IsSearchInRange r (length trackers) → IsBinarySearchResult (λ (t : Tracker). nat_cmp t.number p) trackers r → IsOk r
  search_finds there (Ok at) inside equal = refl
  search_finds there (Err at) inside parted =
      let found = some_place p (map (seen cells) trackers) there in
      let same = found.1.number (seen cells (blank p)) in
      let is_at = number_at found.0 in
      let within = found.1.inside in
      let inside : found.0 < length trackers = omega (arith, length-map trackers (seen cells)) in
      let parts = parted comparisons_rise in
      let before : (k : ℕ) → k < at → (get_or trackers k (blank p)).number < p = λ k lt. ranked _ p _ (sym (parts.0 k (blank p) (omega arith) lt)) in
      let after : (k : ℕ) → at ≤ k → k < length trackers → p < (get_or trackers k (blank p)).number = λ k le lt. ranked _ p _ (sym (parts.1 k (blank p) le lt)) in
      absurd (grind (arith, before found.0, after found.0, same, is_at, inside))

  pub search_place : (r : Result ℕ ℕ) (at : ℕ) → r ≡ Ok at → IsSearchInRange r (length trackers) → IsBinarySearchResult (λ (t : Tracker). nat_cmp t.number p) trackers r
      → IsPlaceOf p (map (seen cells) trackers) at
  search_place (Ok n) at is inside equal =
      let same : n ≡ at = cc in
      let t = get_or trackers n (blank p) in
      let stands : StandsAt p (map (seen cells) trackers) n =
      stands_at cells trackers p n t inside (get_or_default trackers n (blank p) t inside) (ranked _ p _ (sym (equal (blank p)))) in
      subst (IsPlaceOf p (map (seen cells) trackers)) same (the_place p (map (seen cells) trackers) n rise stands)
  search_place (Err n) at is inside parted = absurd (cc)

-- the pod of a number is changed
pub pod_at-changed : (p : ℕ) (by : Pod → Pod) → ((x : Pod) → (by x).number ≡ x.number) → (pods : List Pod) → has_pod p pods ≡ true → pod_at p (with_pod_changed p by pods) ≡ by (pod_at p pods)
pod_at-changed p by keeps [] there = absurd (let h : false ≡ true = there in cc)
pod_at-changed p by keeps (x ∷ xs) there = case (nat_eq x.number p) refl there (λ h. pod_at-changed p by keeps xs h)
  where
    case : (b : Bool) → nat_eq x.number p ≡ b → (b || has_pod p xs) ≡ true → (has_pod p xs ≡ true → pod_at p (with_pod_changed p by xs) ≡ by (pod_at p xs))
        → pod_at p (with_pod_changed p by (x ∷ xs)) ≡ by (pod_at p (x ∷ xs))
    case true e h rest =
        let named : nat_eq (by x).number p ≡ true = rw (keeps x) e in
        rw (e, named) refl
    case false e h rest = rw (e, e) (rest h)

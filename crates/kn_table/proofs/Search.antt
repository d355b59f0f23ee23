-- Finding a slot by its number.
use Rattle.std.proofs.Common.{◌≡◌, ◌≢◌, refl, sym, ap, ◌∙◌, ℕ, zero, suc, ◌+◌, ◌<◌, ◌≤◌, true, false, List, [], ◌∷◌, length, get_or, arith, Some, None}
use Rattle.std.specs.Prelude.{◌==◌, ◌-◌, slice_get}
use Rattle.std.specs.List.{All, AllPairs}
use Rattle.std.proofs.lemmas.Bool.Decides.{nat_tests}
use Rattle.std.proofs.lemmas.List.{get_or_default}
use Rattle.kn_table.specs.declared.slot.Slot.{Slot}
use Rattle.kn_table.specs.Slots.{AreInOrder, IsPlaceOf, IsSlotOf, IsWithin, live_of}
use Rattle.kn_table.proofs.Marks.{found_at, none_live}
use Rattle.kn_table.proofs.Requests.{found, none_found}

abbrev Ascends : List Slot → Type 0
Ascends xs = AllPairs (λ (x y : Slot). x.request.number < y.request.number) xs

-- ---- a binary search

-- the halves of a part: where the slot in the middle is not above the number, and where it is
module _ (r : ℕ) (xs : List Slot) (pairs : Ascends xs) (from len half : ℕ) (within : IsWithin r xs from len) (most : half + half ≤ len) (d : Slot) where
  pub upper_half : (get_or xs (from + half) d).request.number ≤ r → IsWithin r xs (from + half) (len - half)
  upper_half low =
      let some = within.some in
      let end = within.inside in
      record {
        some = omega (arith, some, most);
        inside = omega (arith, some, most, end);
        only = λ place there.
            let old = within.only place there in
            let number = there.number d in
            let before : place < from + half → (get_or xs place d).request.number < (get_or xs (from + half) d).request.number = λ lt. pairs place (from + half) d lt (omega (arith, some, most, end)) in
            let first : from + half ≤ place = grind (arith, before, number, low) in
            (first, omega (arith, old.1, some, most));
      }

  pub lower_half : r < (get_or xs (from + half) d).request.number → IsWithin r xs from (len - half)
  lower_half high =
      let some = within.some in
      let end = within.inside in
      record {
        some = omega (arith, some, most);
        inside = omega (arith, end);
        only = λ place there.
            let old = within.only place there in
            let number = there.number d in
            let inside = there.inside in
            let after : from + half < place → (get_or xs (from + half) d).request.number < (get_or xs place d).request.number = λ lt. pairs (from + half) place d lt inside in
            let here : from + half ≡ place → (get_or xs (from + half) d).request.number ≡ (get_or xs place d).request.number = λ at. ap (λ k. (get_or xs k d).request.number) at in
            let last : place < from + half = grind (arith, after, here, number, high) in
            (old.0, omega (arith, last, most));
      }

-- where the only slot that may have it has another, none has it
pub none_within : (r : ℕ) (xs : List Slot) (from len : ℕ) (d : Slot) → IsWithin r xs from len → len ≤ 1 → (get_or xs from d).request.number ≢ r → All (λ (s : Slot). s.request.number ≢ r) xs
none_within r xs from len d within one other k e inside same =
    let there : IsSlotOf r xs k = record { inside = inside; number = λ f. ap (λ (s : Slot). s.request.number) (get_or_default xs k f e inside) ∙ same } in
    let only = within.only k there in
    let at : k ≡ from = omega (arith, only.0, only.1, one) in
    other (ap (λ i. (get_or xs i d).request.number) (sym at) ∙ there.number d)

-- ---- the live one

pub none_is_found : (r : ℕ) (xs : List Slot) → All (λ (s : Slot). s.request.number ≢ r) xs → found r (live_of xs) ≡ None
none_is_found r xs none = none_found r (live_of xs) (none_live r xs (λ k d inside. differs (get_or xs k d).request.number (none k d inside)))
  where
    differs : (n : ℕ) → (n ≢ r) → (r == n) ≡ false
    differs n other = grind (arith, nat_tests, other)

pub ended_is_none : (r : ℕ) (xs : List Slot) (i : ℕ) (d : Slot) → Ascends xs → IsSlotOf r xs i → (get_or xs i d).has_ended ≡ true → found r (live_of xs) ≡ None
ended_is_none r xs i d pairs there ended = found_at r xs i d pairs there.inside (there.number d) ∙ rw ended refl

pub live_is_placed : (r : ℕ) (xs : List Slot) (i : ℕ) (d : Slot) → IsSlotOf r xs i → (get_or xs i d).has_ended ≡ false → IsPlaceOf r xs i
live_is_placed r xs i d there live = record {
  inside = there.inside;
  number = there.number;
  live = λ e. ap (λ (s : Slot). s.has_ended) (get_or_default xs i e d there.inside) ∙ live;
}

-- ---- the last one

last_item : (xs : List Slot) (x : Slot) → Some x ≡ slice_get xs (length xs - 1) → (0 < length xs) × ((d : Slot) → get_or xs (length xs - 1) d ≡ x)
last_item xs x is = by xs (length xs - 1) is (λ some. omega (arith, some))
  where
    by : (xs : List Slot) (i : ℕ) → Some x ≡ slice_get xs i → (0 < length xs → i < length xs) → (0 < length xs) × ((d : Slot) → get_or xs i d ≡ x)
    by [] i e inside = absurd (let none : Some x ≡ None = e in cc)
    by (y ∷ ys) i e inside = (omega arith, λ d. at (y ∷ ys) i d (inside (omega arith)) e)
      where
        at : (xs : List Slot) (i : ℕ) (d : Slot) → i < length xs → Some x ≡ slice_get xs i → get_or xs i d ≡ x
        at [] i d low e = absurd (omega arith)
        at (y ∷ ys) zero d low e = let same : Some x ≡ Some y = e in (cc)
        at (y ∷ ys) (suc i) d low e = at ys i d (omega arith) e

-- what is above the last one is above all
module _ (xs : List Slot) (x : Slot) (order : AreInOrder xs) (is : Some x ≡ slice_get xs (length xs - 1)) where
  pub above_last : (n : ℕ) → x.request.number < n → All (λ (s : Slot). s.request.number < n) xs
  above_last n above k d inside =
      let last = (last_item xs x is).1 d in
      let number : (get_or xs (length xs - 1) d).request.number ≡ x.request.number = ap (λ (s : Slot). s.request.number) last in
      let before : k < length xs - 1 → (get_or xs k d).request.number < (get_or xs (length xs - 1) d).request.number = λ lt. order.numbers k (length xs - 1) d lt (omega (arith, inside)) in
      let here : k ≡ length xs - 1 → (get_or xs k d).request.number ≡ (get_or xs (length xs - 1) d).request.number = λ at. ap (λ j. (get_or xs j d).request.number) at in
      grind (arith, number, before, here, inside, above)

  pub after_last : (t : ℕ) → x.request.time ≤ t → All (λ (s : Slot). s.request.time ≤ t) xs
  after_last t later k d inside =
      let last = (last_item xs x is).1 d in
      let time : (get_or xs (length xs - 1) d).request.time ≡ x.request.time = ap (λ (s : Slot). s.request.time) last in
      let before : k < length xs - 1 → (get_or xs k d).request.time ≤ (get_or xs (length xs - 1) d).request.time = λ lt. order.times k (length xs - 1) d lt (omega (arith, inside)) in
      let here : k ≡ length xs - 1 → (get_or xs k d).request.time ≡ (get_or xs (length xs - 1) d).request.time = λ at. ap (λ j. (get_or xs j d).request.time) at in
      grind (arith, time, before, here, inside, later)

-- What a write to a slot, one more slot and a sweep do to the live requests, and that they keep the order.
use Rattle.std.proofs.Common.{◌≡◌, refl, sym, ap, subst, ℕ, zero, suc, ◌<◌, ◌≤◌, Bool, true, false, cond, List, [], ◌∷◌, ◌++◌, length, get_or, set, arith, Some, None}
use Rattle.std.specs.Prelude.{◌==◌, map}
use Rattle.std.specs.List.{All, AllPairs, filter}
use Rattle.std.proofs.lemmas.Bool.{eq-eqb}
use Rattle.std.proofs.lemmas.Bool.Decides.{nat_tests}
use Rattle.std.proofs.lemmas.List.{get_or-map, length-map, length-set}
use Rattle.std.proofs.lemmas.List.Kept.{AllPairs-filter}
use Rattle.std.proofs.lemmas.List.Quantifiers.{all_pairs_push}
use Rattle.kn_record.specs.declared.admission.Request.{Request}
use Rattle.kn_record.specs.Admission.{without}
use Rattle.kn_table.specs.Order.{IsOrdered}
use Rattle.kn_table.specs.declared.slot.Slot.{Slot}
use Rattle.kn_table.specs.Slots.{AreInOrder, is_live, live_of}
use Rattle.kn_trace.specs.Events.{live_most}
use Rattle.kn_table.proofs.Requests.{HasNone, changed, found, none_changed, none_found, none_without, turned}

-- ---- numbers of slots

-- no slot has this number
abbrev NoneOf : ℕ → List Slot → Type 0
NoneOf r xs = All (λ (s : Slot). (r == s.request.number) ≡ false) xs

differ : (a b : ℕ) → a < b → (a == b) ≡ false
differ a b h = grind (arith, nat_tests)

rest_none : (r : ℕ) (x : Slot) (xs : List Slot) → NoneOf r (x ∷ xs) → NoneOf r xs
rest_none r x xs none k d inside = none (suc k) d (omega arith)

pub none_live : (r : ℕ) (xs : List Slot) → NoneOf r xs → HasNone r (live_of xs)
none_live r [] none = tt
none_live r (x ∷ xs) none = by x.has_ended refl (none_live r xs (rest_none r x xs none))
  where
    by : (e : Bool) → x.has_ended ≡ e → HasNone r (live_of xs) → HasNone r (live_of (x ∷ xs))
    by true e rec = rw e rec
    by false e rec = rw e (none 0 x (omega arith), rec)

abbrev Ascends : List Slot → Type 0
Ascends xs = AllPairs (λ (x y : Slot). x.request.number < y.request.number) xs

rest_ascends : (x : Slot) (xs : List Slot) → Ascends (x ∷ xs) → Ascends xs
rest_ascends x xs pairs i j d lt inside = pairs (suc i) (suc j) d (omega arith) (omega arith)

none_after : (r : ℕ) (x : Slot) (xs : List Slot) → Ascends (x ∷ xs) → x.request.number ≡ r → NoneOf r xs
none_after r x xs pairs same k d inside =
    let lt : x.request.number < (get_or xs k d).request.number = pairs 0 (suc k) d (omega arith) (omega arith) in
    differ r _ (omega (arith, lt, same))

-- the first of several isn't a later one
other_head : (r : ℕ) (x : Slot) (xs : List Slot) (i : ℕ) (d : Slot) → Ascends (x ∷ xs) → i < length xs → (get_or xs i d).request.number ≡ r → (r == x.request.number) ≡ false
other_head r x xs i d pairs inside same =
    let lt : x.request.number < (get_or xs i d).request.number = pairs 0 (suc i) d (omega arith) (omega arith) in
    turned x.request.number r false (differ x.request.number r (omega (arith, lt, same)))

-- ---- what a number finds

pub found_at : (r : ℕ) (xs : List Slot) (i : ℕ) (d : Slot) → Ascends xs → i < length xs → (get_or xs i d).request.number ≡ r
    → found r (live_of xs) ≡ cond (get_or xs i d).has_ended None (Some (get_or xs i d).request)
found_at r [] i d pairs inside same = absurd (omega arith)
found_at r (x ∷ xs) zero d pairs inside same = by x.has_ended refl
  where
    by : (e : Bool) → x.has_ended ≡ e → found r (live_of (x ∷ xs)) ≡ cond x.has_ended None (Some x.request)
    by true e = rw e (none_found r (live_of xs) (none_live r xs (none_after r x xs pairs same)))
    by false e = rw (e, eq-eqb x.request.number r same) refl
found_at r (x ∷ xs) (suc i) d pairs inside same = by x.has_ended refl (found_at r xs i d (rest_ascends x xs pairs) (omega arith) same)
  where
    by : (e : Bool) → x.has_ended ≡ e → found r (live_of xs) ≡ cond (get_or xs i d).has_ended None (Some (get_or xs i d).request)
        → found r (live_of (x ∷ xs)) ≡ cond (get_or xs i d).has_ended None (Some (get_or xs i d).request)
    by true e rec = rw e rec
    by false e rec = rw (e, turned r x.request.number false (other_head r x xs i d pairs (omega arith) same)) rec

-- ---- what a write changes

-- the request of this number ends
pub live_of-ended : (r : ℕ) (xs : List Slot) (i : ℕ) (d y : Slot) → Ascends xs → i < length xs → (get_or xs i d).request.number ≡ r → y.has_ended ≡ true → live_of (set xs i y) ≡ without r (live_of xs)
live_of-ended r [] i d y pairs inside same ends = refl
live_of-ended r (x ∷ xs) zero d y pairs inside same ends = by x.has_ended refl
  where
    rest : without r (live_of xs) ≡ live_of xs
    rest = none_without r (live_of xs) (none_live r xs (none_after r x xs pairs same))

    by : (e : Bool) → x.has_ended ≡ e → live_of (y ∷ xs) ≡ without r (live_of (x ∷ xs))
    by true e = rw (ends, e) (sym rest)
    by false e = rw (ends, e, eq-eqb r x.request.number (sym same)) (sym rest)
live_of-ended r (x ∷ xs) (suc i) d y pairs inside same ends = by x.has_ended refl (live_of-ended r xs i d y (rest_ascends x xs pairs) (omega arith) same ends)
  where
    by : (e : Bool) → x.has_ended ≡ e → live_of (set xs i y) ≡ without r (live_of xs) → live_of (x ∷ set xs i y) ≡ without r (live_of (x ∷ xs))
    by true e rec = rw e rec
    by false e rec = rw (e, other_head r x xs i d pairs (omega arith) same) (ap (λ k. x.request ∷ k) rec)

-- the request of this number becomes another
pub live_of-changed : (by : Request → Request) (r : ℕ) (xs : List Slot) (i : ℕ) (d y : Slot) → Ascends xs → i < length xs → (get_or xs i d).request.number ≡ r → (get_or xs i d).has_ended ≡ false → y.has_ended ≡ false
    → y.request ≡ by (get_or xs i d).request → live_of (set xs i y) ≡ changed r by (live_of xs)
live_of-changed by r [] i d y pairs inside same live stays is = refl
live_of-changed by r (x ∷ xs) zero d y pairs inside same live stays is =
    let rest = none_changed r by (live_of xs) (none_live r xs (none_after r x xs pairs same)) in
    rw (stays, live, eq-eqb r x.request.number (sym same), is) (ap (λ k. by x.request ∷ k) (sym rest))
live_of-changed by r (x ∷ xs) (suc i) d y pairs inside same live stays is = go x.has_ended refl (live_of-changed by r xs i d y (rest_ascends x xs pairs) (omega arith) same live stays is)
  where
    go : (e : Bool) → x.has_ended ≡ e → live_of (set xs i y) ≡ changed r by (live_of xs) → live_of (x ∷ set xs i y) ≡ changed r by (live_of (x ∷ xs))
    go true e rec = rw e rec
    go false e rec = rw (e, other_head r x xs i d pairs (omega arith) same) (ap (λ k. x.request ∷ k) rec)

-- ---- one more slot, and a sweep

pub live_of-push : (xs : List Slot) (y : Slot) → y.has_ended ≡ false → live_of (xs ++ y ∷ []) ≡ live_of xs ++ y.request ∷ []
live_of-push [] y live = rw live refl
live_of-push (x ∷ xs) y live = by x.has_ended refl (live_of-push xs y live)
  where
    by : (e : Bool) → x.has_ended ≡ e → live_of (xs ++ y ∷ []) ≡ live_of xs ++ y.request ∷ [] → live_of (x ∷ (xs ++ y ∷ [])) ≡ live_of (x ∷ xs) ++ y.request ∷ []
    by true e rec = rw e rec
    by false e rec = rw e (ap (λ k. x.request ∷ k) rec)

pub live_of-swept : (xs : List Slot) → live_of (filter is_live xs) ≡ live_of xs
live_of-swept [] = refl
live_of-swept (x ∷ xs) = by x.has_ended refl (live_of-swept xs)
  where
    by : (e : Bool) → x.has_ended ≡ e → live_of (filter is_live xs) ≡ live_of xs → live_of (filter is_live (x ∷ xs)) ≡ live_of (x ∷ xs)
    by true e rec = rw e rec
    by false e rec = rw e (ap (λ k. x.request ∷ k) rec)

-- ---- order

key-set : {K : Type 0} (key : Slot → K) (xs : List Slot) (i : ℕ) (y d : Slot) → i < length xs → ((e : Slot) → key y ≡ key (get_or xs i e)) → (j : ℕ) → key (get_or (set xs i y) j d) ≡ key (get_or xs j d)
key-set key [] i y d inside same j = refl
key-set key (x ∷ xs) zero y d inside same zero = same x
key-set key (x ∷ xs) zero y d inside same (suc j) = refl
key-set key (x ∷ xs) (suc i) y d inside same zero = refl
key-set key (x ∷ xs) (suc i) y d inside same (suc j) = key-set key xs i y d (omega arith) same j

-- a write that keeps number and time
pub order-set : (xs : List Slot) (i : ℕ) (y : Slot) → AreInOrder xs → i < length xs → ((e : Slot) → y.request.number ≡ (get_or xs i e).request.number) → ((e : Slot) → y.request.time ≡ (get_or xs i e).request.time) → AreInOrder (set xs i y)
order-set xs i y order inside number time = record {
  numbers = λ j k d lt end.
      let first = key-set (λ (s : Slot). s.request.number) xs i y d inside number j in
      let second = key-set (λ (s : Slot). s.request.number) xs i y d inside number k in
      let old = order.numbers j k d lt (omega (arith, end, length-set xs i y)) in
      omega (arith, first, second, old);
  times = λ j k d lt end.
      let first = key-set (λ (s : Slot). s.request.time) xs i y d inside time j in
      let second = key-set (λ (s : Slot). s.request.time) xs i y d inside time k in
      let old = order.times j k d lt (omega (arith, end, length-set xs i y)) in
      omega (arith, first, second, old);
}

pub order-push : (xs : List Slot) (y : Slot) → AreInOrder xs → All (λ (s : Slot). s.request.number < y.request.number) xs → All (λ (s : Slot). s.request.time ≤ y.request.time) xs → AreInOrder (xs ++ y ∷ [])
order-push xs y order above later = record {
  numbers = all_pairs_push (λ (a b : Slot). a.request.number < b.request.number) xs y order.numbers above;
  times = all_pairs_push (λ (a b : Slot). a.request.time ≤ b.request.time) xs y order.times later;
}

pub order-swept : (xs : List Slot) → AreInOrder xs → AreInOrder (filter is_live xs)
order-swept xs order = record {
  numbers = AllPairs-filter (λ (a b : Slot). a.request.number < b.request.number) is_live xs order.numbers;
  times = AllPairs-filter (λ (a b : Slot). a.request.time ≤ b.request.time) is_live xs order.times;
}

-- what holds of all live requests holds of the slots that a sweep leaves
pub all_swept : (P : Request → Type 0) (xs : List Slot) → All P (live_of xs) → All (λ (s : Slot). P s.request) (filter is_live xs)
all_swept P xs all k d inside =
    subst P (get_or-map (λ (s : Slot). s.request) (filter is_live xs) k d d.request inside)
    (all k d.request (omega (arith, inside, length-map (filter is_live xs) (λ (s : Slot). s.request))))

pairs-map : (R : Request → Request → Type 0) (xs : List Slot) → AllPairs (λ (x y : Slot). R x.request y.request) xs → AllPairs R (map (λ (s : Slot). s.request) xs)
pairs-map R [] pairs i j d lt inside = absurd (omega arith)
pairs-map R (x ∷ xs) pairs i j d lt inside =
    let long = length-map (x ∷ xs) (λ (s : Slot). s.request) in
    let there : i < length (x ∷ xs) = omega (arith, long, lt, inside) in
    let here : j < length (x ∷ xs) = omega (arith, long, inside) in
    subst (λ a. R a (get_or (map (λ (s : Slot). s.request) (x ∷ xs)) j d)) (sym (get_or-map (λ (s : Slot). s.request) (x ∷ xs) i x d there))
    (subst (λ b. R (get_or (x ∷ xs) i x).request b) (sym (get_or-map (λ (s : Slot). s.request) (x ∷ xs) j x d here)) (pairs i j x lt here))

pub ordered : (xs : List Slot) → AreInOrder xs → length (live_of xs) ≤ live_most → IsOrdered (live_of xs)
ordered xs order few =
    let swept = order-swept xs order in
    record {
      numbers = pairs-map (λ (a b : Request). a.number < b.number) (filter is_live xs) swept.numbers;
      times = pairs-map (λ (a b : Request). a.time ≤ b.time) (filter is_live xs) swept.times;
      few = few;
    }

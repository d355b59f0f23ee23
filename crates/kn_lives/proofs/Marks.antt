-- Slots by ascending numbers: what is found, written and ended by a number, one more slot, and a sweep.
use Rattle.std.proofs.Common.{◌≡◌, ◌≢◌, refl, sym, ap, subst, ◌∙◌, ℕ, zero, suc, ◌+◌, ◌<◌, ◌≤◌, Bool, true, false, cond, List, [], ◌∷◌, ◌++◌, length, get_or, set, arith, Some, None}
use Rattle.std.specs.Prelude.{◌==◌}
use Rattle.std.specs.List.{All, filter}
use Rattle.std.specs.Map.{set_value}
use Rattle.std.proofs.lemmas.Bool.{eq-eqb, eqb-true}
use Rattle.std.proofs.lemmas.List.{get_or-map, length-map}
use Rattle.std.proofs.lemmas.List.Kept.{AllPairs-filter}
use Rattle.std.proofs.lemmas.List.Quantifiers.{all_pairs_push}
use Rattle.kn_lives.specs.declared.lives.Life.{Life}
use Rattle.kn_lives.specs.declared.slots.Slot.{Slot}
use Rattle.kn_lives.specs.Lives.{life_at}
use Rattle.kn_lives.specs.Slots.{AreAscending, IsPlaceOf, IsSlotOf, is_live, live_of}
use Rattle.kn_lives.proofs.Pairs.{differ}

-- ---- ascending numbers

rest_ascends : (x : Slot) (xs : List Slot) → AreAscending (x ∷ xs) → AreAscending xs
rest_ascends x xs pairs i j d lt inside = pairs (suc i) (suc j) d (omega arith) (omega arith)

-- a later number isn't the first
other_head : (r : ℕ) (x : Slot) (xs : List Slot) (i : ℕ) (d : Slot) → AreAscending (x ∷ xs) → i < length xs → (get_or xs i d).number ≡ r → (r == x.number) ≡ false
other_head r x xs i d pairs inside same =
    let lt : x.number < (get_or xs i d).number = pairs 0 (suc i) d (omega arith) (omega arith) in
    differ r x.number (λ e. omega (arith, lt, same, e))

-- no slot has this number
abbrev NoneOf : ℕ → List Slot → Type 0
NoneOf r xs = All (λ (s : Slot). s.number ≢ r) xs

none_after : (r : ℕ) (x : Slot) (xs : List Slot) → AreAscending (x ∷ xs) → x.number ≡ r → NoneOf r xs
none_after r x xs pairs same k d inside e =
    let lt : x.number < (get_or xs k d).number = pairs 0 (suc k) d (omega arith) (omega arith) in
    omega (arith, lt, same, e)

-- ---- what is found

pub none_found : (r : ℕ) (xs : List Slot) → NoneOf r xs → life_at (live_of xs) r ≡ None
none_found r [] none = refl
none_found r (x ∷ xs) none = by x.has_ended refl (none_found r xs (λ k d inside. none (suc k) d (omega arith)))
  where
    by : (e : Bool) → x.has_ended ≡ e → life_at (live_of xs) r ≡ None → life_at (live_of (x ∷ xs)) r ≡ None
    by true e rest = rw e rest
    by false e rest = let head : x.number ≢ r = none 0 x (omega arith) in rw (e, differ r x.number (λ same. head (sym same))) rest

pub found_at : (r : ℕ) (xs : List Slot) (i : ℕ) (d : Slot) → AreAscending xs → i < length xs → (get_or xs i d).number ≡ r
    → life_at (live_of xs) r ≡ cond (get_or xs i d).has_ended None (Some (get_or xs i d).life)
found_at r [] i d pairs inside same = absurd (omega arith)
found_at r (x ∷ xs) zero d pairs inside same = by x.has_ended refl
  where
    by : (e : Bool) → x.has_ended ≡ e → life_at (live_of (x ∷ xs)) r ≡ cond x.has_ended None (Some x.life)
    by true e = rw e (none_found r xs (none_after r x xs pairs same))
    by false e = rw (e, eq-eqb r x.number (sym same)) refl
found_at r (x ∷ xs) (suc i) d pairs inside same = by x.has_ended refl (found_at r xs i d (rest_ascends x xs pairs) (omega arith) same)
  where
    by : (e : Bool) → x.has_ended ≡ e → life_at (live_of xs) r ≡ cond (get_or xs i d).has_ended None (Some (get_or xs i d).life)
        → life_at (live_of (x ∷ xs)) r ≡ cond (get_or xs i d).has_ended None (Some (get_or xs i d).life)
    by true e rest = rw e rest
    by false e rest = rw (e, other_head r x xs i d pairs (omega arith) same) rest

pub ended_is_none : (r : ℕ) (xs : List Slot) (i : ℕ) (d : Slot) → AreAscending xs → IsSlotOf r xs i → (get_or xs i d).has_ended ≡ true → life_at (live_of xs) r ≡ None
ended_is_none r xs i d pairs there ended = found_at r xs i d pairs there.inside (there.number d) ∙ rw ended refl

-- ---- what is written, and who ends

-- the live request of this number has another life
pub live_of-set : (r : ℕ) (xs : List Slot) (i : ℕ) (d y : Slot) → AreAscending xs → i < length xs → (get_or xs i d).number ≡ r → (get_or xs i d).has_ended ≡ false
    → y.number ≡ (get_or xs i d).number → y.has_ended ≡ false → live_of (set xs i y) ≡ set_value (λ q. r == q) (live_of xs) y.life
live_of-set r [] i d y pairs inside same live number stays = absurd (omega arith)
live_of-set r (x ∷ xs) zero d y pairs inside same live number stays = rw (stays, live, eq-eqb r x.number (sym same), number) refl
live_of-set r (x ∷ xs) (suc i) d y pairs inside same live number stays = by x.has_ended refl (live_of-set r xs i d y (rest_ascends x xs pairs) (omega arith) same live number stays)
  where
    by : (e : Bool) → x.has_ended ≡ e → live_of (set xs i y) ≡ set_value (λ q. r == q) (live_of xs) y.life
        → live_of (x ∷ set xs i y) ≡ set_value (λ q. r == q) (live_of (x ∷ xs)) y.life
    by true e rest = rw e rest
    by false e rest = rw (e, other_head r x xs i d pairs (omega arith) same) (ap (λ (l : List (ℕ × Life)). (x.number, x.life) ∷ l) rest)

-- the request of this number ends
pub ended_at : (r : ℕ) (xs : List Slot) (i : ℕ) (d y : Slot) → AreAscending xs → i < length xs → (get_or xs i d).number ≡ r → y.has_ended ≡ true
    → (q : ℕ) → life_at (live_of (set xs i y)) q ≡ cond (r == q) None (life_at (live_of xs) q)
ended_at r [] i d y pairs inside same ends q = absurd (omega arith)
ended_at r (x ∷ xs) zero d y pairs inside same ends q = by (r == q) x.has_ended refl refl
  where
    other : (r == q) ≡ false → (q == x.number) ≡ false
    other e = differ q x.number (λ here. apart (r == q) e (eq-eqb r q (sym (here ∙ same))))
      where
        apart : (b : Bool) → b ≡ false → b ≡ true → ⊥
        apart true f t = cc
        apart false f t = cc

    by : (b h : Bool) → (r == q) ≡ b → x.has_ended ≡ h → life_at (live_of (y ∷ xs)) q ≡ cond (r == q) None (life_at (live_of (x ∷ xs)) q)
    by true h e live = rw (ends, e) (none_found q xs (none_after q x xs pairs (same ∙ eqb-true r q e)))
    by false true e live = rw (ends, e, live) refl
    by false false e live = rw (ends, e, live, other e) refl
ended_at r (x ∷ xs) (suc i) d y pairs inside same ends q = by x.has_ended (q == x.number) refl refl (ended_at r xs i d y (rest_ascends x xs pairs) (omega arith) same ends q)
  where
    by : (h b : Bool) → x.has_ended ≡ h → (q == x.number) ≡ b → life_at (live_of (set xs i y)) q ≡ cond (r == q) None (life_at (live_of xs) q)
        → life_at (live_of (x ∷ set xs i y)) q ≡ cond (r == q) None (life_at (live_of (x ∷ xs)) q)
    by true b live e rest = rw live rest
    by false true live e rest = rw (live, e, ap (λ n. r == n) (eqb-true q x.number e) ∙ other_head r x xs i d pairs (omega arith) same) refl
    by false false live e rest = rw (live, e) rest

pub ended_fewer : (xs : List Slot) (i : ℕ) (d y : Slot) → i < length xs → (get_or xs i d).has_ended ≡ false → y.has_ended ≡ true → length (live_of (set xs i y)) + 1 ≡ length (live_of xs)
ended_fewer [] i d y inside live ends = absurd (omega arith)
ended_fewer (x ∷ xs) zero d y inside live ends = rw (ends, live) (omega arith)
ended_fewer (x ∷ xs) (suc i) d y inside live ends = by x.has_ended refl (ended_fewer xs i d y (omega arith) live ends)
  where
    by : (e : Bool) → x.has_ended ≡ e → length (live_of (set xs i y)) + 1 ≡ length (live_of xs) → length (live_of (x ∷ set xs i y)) + 1 ≡ length (live_of (x ∷ xs))
    by true e rest = rw e rest
    by false e rest = rw e (omega (arith, rest))

-- ---- one more slot, and a sweep

pub live_of-push : (xs : List Slot) (y : Slot) → y.has_ended ≡ false → live_of (xs ++ y ∷ []) ≡ live_of xs ++ (y.number, y.life) ∷ []
live_of-push [] y live = rw live refl
live_of-push (x ∷ xs) y live = by x.has_ended refl (live_of-push xs y live)
  where
    by : (e : Bool) → x.has_ended ≡ e → live_of (xs ++ y ∷ []) ≡ live_of xs ++ (y.number, y.life) ∷ [] → live_of (x ∷ (xs ++ y ∷ [])) ≡ live_of (x ∷ xs) ++ (y.number, y.life) ∷ []
    by true e rest = rw e rest
    by false e rest = rw e (ap (λ (l : List (ℕ × Life)). (x.number, x.life) ∷ l) rest)

pub live_of-swept : (xs : List Slot) → live_of (filter is_live xs) ≡ live_of xs
live_of-swept [] = refl
live_of-swept (x ∷ xs) = by x.has_ended refl (live_of-swept xs)
  where
    by : (e : Bool) → x.has_ended ≡ e → live_of (filter is_live xs) ≡ live_of xs → live_of (filter is_live (x ∷ xs)) ≡ live_of (x ∷ xs)
    by true e rest = rw e rest
    by false e rest = rw e (ap (λ (l : List (ℕ × Life)). (x.number, x.life) ∷ l) rest)

pub swept_short : (xs : List Slot) → length (filter is_live xs) ≤ length xs
swept_short [] = omega arith
swept_short (x ∷ xs) = by x.has_ended refl (swept_short xs)
  where
    by : (e : Bool) → x.has_ended ≡ e → length (filter is_live xs) ≤ length xs → length (filter is_live (x ∷ xs)) ≤ length (x ∷ xs)
    by true e rest = rw e (omega (arith, rest))
    by false e rest = rw e (omega (arith, rest))

pub swept_count : (xs : List Slot) → length (live_of xs) ≡ length (filter is_live xs)
swept_count xs = length-map (filter is_live xs) (λ (s : Slot). (s.number, s.life))

-- slots that a sweep leaves are below a number where all pairs are
pub swept_below : (r : ℕ) (xs : List Slot) → All (λ (x : ℕ × Life). x.0 < r) (live_of xs) → All (λ (s : Slot). s.number < r) (filter is_live xs)
swept_below r xs all k d inside =
    subst (λ (x : ℕ × Life). x.0 < r) (get_or-map (λ (s : Slot). (s.number, s.life)) (filter is_live xs) k d (d.number, d.life) inside)
    (all k (d.number, d.life) (omega (arith, inside, swept_count xs)))

-- ---- order

pub order-push : (xs : List Slot) (y : Slot) → AreAscending xs → All (λ (s : Slot). s.number < y.number) xs → AreAscending (xs ++ y ∷ [])
order-push xs y pairs above = all_pairs_push (λ (a b : Slot). a.number < b.number) xs y pairs above

pub order-swept : (xs : List Slot) → AreAscending xs → AreAscending (filter is_live xs)
order-swept xs pairs = AllPairs-filter (λ (a b : Slot). a.number < b.number) is_live xs pairs

-- ---- of slots xs that are read as zs, and seen as the pairs l

module _ (r : ℕ) (xs zs : List Slot) (l : List (ℕ × Life)) (seen : live_of xs ≡ l) (same : zs ≡ xs) where
  pub nobody_there : life_at (live_of zs) r ≡ None → life_at l r ≡ None
  nobody_there none = ap (λ (k : List (ℕ × Life)). life_at k r) (sym seen) ∙ ap (λ ys. life_at (live_of ys) r) (sym same) ∙ none

  module _ (pairs : AreAscending xs) (i : ℕ) (there : IsPlaceOf r zs i) where
    place : IsPlaceOf r xs i
    place = subst (λ ys. IsPlaceOf r ys i) same there

    pub found_there : (x : Slot) → x ≡ get_or xs i x → Some x.life ≡ life_at l r
    found_there x read =
        ap (λ (s : Slot). Some s.life) read ∙ sym (found_at r xs i x pairs place.inside (place.number x) ∙ rw (place.live x) refl)
        ∙ ap (λ (k : List (ℕ × Life)). life_at k r) seen

    -- the life that is found there is written as another
    pub set_there : (x y : Slot) (known : Life) (by : Life → Life) → x ≡ get_or xs i x → life_at l r ≡ Some known
        → y.number ≡ x.number → y.has_ended ≡ x.has_ended → y.life ≡ by x.life → live_of (set xs i y) ≡ set_value (λ q. r == q) l (by known)
    set_there x y known by read found number stays is =
        let same_life : x.life ≡ known = (let e : Some x.life ≡ Some known = found_there x read ∙ found in cc) in
        live_of-set r xs i x y pairs place.inside (place.number x) (place.live x) (number ∙ ap (λ (s : Slot). s.number) read) (stays ∙ ap (λ (s : Slot). s.has_ended) read ∙ place.live x)
        ∙ ap (λ (k : List (ℕ × Life)). set_value (λ q. r == q) k y.life) seen
        ∙ ap (λ (v : Life). set_value (λ q. r == q) l v) (is ∙ ap by same_life)

    pub forgotten_there : (y : Slot) → y.has_ended ≡ true → (q : ℕ) → life_at (live_of (set xs i y)) q ≡ cond (r == q) None (life_at l q)
    forgotten_there y ends q = ended_at r xs i y y pairs place.inside (place.number y) ends q ∙ ap (λ (k : List (ℕ × Life)). cond (r == q) None (life_at k q)) seen

    pub fewer_there : (y : Slot) → y.has_ended ≡ true → length (live_of (set xs i y)) + 1 ≡ length l
    fewer_there y ends = ended_fewer xs i y y place.inside (place.live y) ends ∙ ap (λ (k : List (ℕ × Life)). length k) seen

-- The policies, as the plain program computes them.
use Rattle.std.proofs.Common.{◌≡◌, ◌-◌, ◌%◌, ◌<◌, ◌≤◌, ℕ, Bool, true, false, List, [], ◌∷◌, ◌++◌, length, Option, Some, None, refl, arith, take, drop, length-drop, lt-ltb}
use Rattle.std.proofs.lemmas.List.{take_all}
use Rattle.std.specs.Prelude.{slice_get}
use Rattle.std.specs.List.{filter, find}
use Rattle.std.specs.Option.{option_map, option_or}
use Rattle.std.proofs.lemmas.List.Folds.{find-append}
use Rattle.std.proofs.lemmas.Option.{get_or_from_slice_get}
use Rattle.kn_trace.specs.declared.candidate.Cand.{Cand}
use Rattle.kn_trace.specs.Choice.{has_seat, first_available, round_robin, choice_of_two, other_position, less_busy}

mapped_or : {A B : Type 0} (f : A → B) (x y : Option A) → option_map f (option_or x y) ≡ option_or (option_map f x) (option_map f y)
mapped_or f None y = refl
mapped_or f (Some x) y = refl

-- the first of two lists, one after the other
first_available-append : (xs ys : List Cand) → first_available (xs ++ ys) ≡ option_or (first_available xs) (first_available ys)
unfolding first_available
first_available-append xs ys = rw (find-append has_seat xs ys) (mapped_or (λ (q : Cand). q.pod) (find has_seat xs) (find has_seat ys))

round_robin-parts : (place : ℕ) (cands : List Cand) → place < length cands
    → round_robin place cands ≡ option_or (first_available (take (length cands - place) (drop place cands))) (first_available (take place cands))
unfolding round_robin
round_robin-parts place cands h =
    let cut : take (length cands - place) (drop place cands) ≡ drop place cands = take_all _ _ (omega (arith, length-drop place cands)) in
    rw (cut, lt-ltb place (length cands) h) (first_available-append (drop place cands) (take place cands))

-- a pod from the place on, or else one before it
pub round_robin_here : (place : ℕ) (cands : List Cand) (p : ℕ) → place < length cands
    → first_available (take (length cands - place) (drop place cands)) ≡ Some p → round_robin place cands ≡ Some p
round_robin_here place cands p h first = rw (round_robin-parts place cands h, first) refl

pub round_robin_round : (place : ℕ) (cands : List Cand) → place < length cands
    → first_available (take (length cands - place) (drop place cands)) ≡ None → round_robin place cands ≡ first_available (take place cands)
round_robin_round place cands h first = rw (round_robin-parts place cands h, first) refl

-- two or more: one of the two that the words name
pub chosen_of_two : (free : List Cand) (a b : ℕ) (x y : Cand) → 2 ≤ length free → slice_get free (a % length free) ≡ Some x
    → slice_get free (other_position (a % length free) (b % (length free - 1))) ≡ Some y → choice_of_two free a b ≡ Some (less_busy x y)
unfolding choice_of_two
chosen_of_two [] a b x y h p q = absurd (omega arith)
chosen_of_two (c ∷ []) a b x y h p q = absurd (omega arith)
chosen_of_two (c ∷ d ∷ free) a b x y h p q =
    rw (get_or_from_slice_get (c ∷ d ∷ free) _ x c p, get_or_from_slice_get (c ∷ d ∷ free) _ y c q) refl

find_filter : (p : Cand → Bool) (xs : List Cand) → find p xs ≡ slice_get (filter p xs) 0
find_filter p [] = refl
find_filter p (x ∷ xs) = by_test (p x) refl (find_filter p xs)
  where
    by_test : (b : Bool) → p x ≡ b → find p xs ≡ slice_get (filter p xs) 0 → find p (x ∷ xs) ≡ slice_get (filter p (x ∷ xs)) 0
    by_test true e rest = rw e refl
    by_test false e rest = rw e rest

-- none or one: the first with a free seat
pub chosen_of_few : (cands : List Cand) (a b : ℕ) → length (filter has_seat cands) < 2 → choice_of_two (filter has_seat cands) a b ≡ first_available cands
unfolding choice_of_two first_available
chosen_of_few cands a b h = rw (find_filter has_seat cands) (by_free (filter has_seat cands) h)
  where
    by_free : (free : List Cand) → length free < 2 → choice_of_two free a b ≡ option_map (λ q. q.pod) (slice_get free 0)
    by_free [] h = refl
    by_free (c ∷ []) h = refl
    by_free (c ∷ d ∷ free) h = absurd (omega arith)

-- The next Starting pod is the next to probe, or no other is.
use Rattle.std.proofs.Common.{◌≡◌, ℕ, suc, ◌<◌, Bool, true, false, cond, ◌⊎◌, inl, inr, List, [], ◌∷◌, length, get_or, refl, ap, arith}
use Rattle.std.specs.Prelude.{Option, None, Some, ◌==◌, nat_le, option_map}
use Rattle.std.specs.List.{filter, filter_map, find}
use Rattle.std.specs.Option.{option_and_then}
use Rattle.std.proofs.lemmas.Bool.{eqb-true, eq-eqb, or_cases, or_right}
use Rattle.kn_event.specs.declared.revision.Spec.{Spec}
use Rattle.kn_event.specs.Lists.{contains}
use Rattle.kn_trace.specs.Trace.{Trace, first_of, next_starting, starting_pods}
use Rattle.kn_record.specs.Facts.{Facts}
use Rattle.kn_record.specs.Made.{IsMade}
use Rattle.kn_record.specs.Order.{Ascend}
use Rattle.kn_book.specs.Book.{address_of, addressed, next_to_probe}
use Rattle.kn_book.specs.Laws.{WaitInTurn}
use Rattle.kn_book.proofs.Turns.{AreRising}

first_least : (x : ℕ) (xs : List ℕ) → ((k d : ℕ) → k < length xs → x < get_or xs k d) → (y : ℕ) → contains y xs ≡ true → x < y
first_least x [] below y h = absurd (cc)
first_least x (q ∷ xs) below y h = by (or_cases (q == y) (contains y xs) h) (λ k. first_least x xs (λ i d less. below (suc i) d (omega arith)) y k)
  where
    by : ((q == y) ≡ true) ⊎ (contains y xs ≡ true) → (contains y xs ≡ true → x < y) → x < y
    by (inl e) rest = let same : q ≡ y = eqb-true q y e in let less : x < q = below 0 0 (omega arith) in omega arith
    by (inr k) rest = rest k

ascending : (xs : List ℕ) → Ascend xs → AreRising xs
ascending [] rise = tt
ascending (x ∷ xs) rise = (first_least x xs (λ k d less. rise 0 (suc k) d (omega arith) (omega arith)), ascending xs (λ i j d less within. rise (suc i) (suc j) d (omega arith) (omega arith)))

module _ (f : ℕ → Option (ℕ × ℕ)) (t : ℕ → Bool) where
  nobody : (xs : List ℕ) → ((q : ℕ) → contains q xs ≡ true → f q ≡ None) → filter_map f (filter t xs) ≡ []
  nobody [] none = refl
  nobody (x ∷ xs) none = by (t x) (none x (rw (eq-eqb x x refl) refl)) (nobody xs (λ q k. none q (or_right (x == q) (contains q xs) k)))
    where
      by : (b : Bool) → f x ≡ None → filter_map f (filter t xs) ≡ [] → filter_map f (cond b (x ∷ filter t xs) (filter t xs)) ≡ []
      by true e rest = rw e rest
      by false e rest = rest

  first_found : (xs : List ℕ) → AreRising xs → ((p q : ℕ) → contains p xs ≡ true → contains q xs ≡ true → p < q → f p ≡ None → f q ≡ None)
      → first_of (filter_map f (filter t xs)) ≡ option_and_then f (find t xs)
  first_found [] rise turn = refl
  first_found (x ∷ xs) rise turn =
      by (t x) (f x) refl (first_found xs rise.1 (λ p q a b. turn p q (or_right (x == p) (contains p xs) a) (or_right (x == q) (contains q xs) b)))
    where
      by : (b : Bool) (o : Option (ℕ × ℕ)) → f x ≡ o → first_of (filter_map f (filter t xs)) ≡ option_and_then f (find t xs)
          → first_of (filter_map f (cond b (x ∷ filter t xs) (filter t xs))) ≡ option_and_then f (cond b (Some x) (find t xs))
      by true None e rest =
          rw e (ap (λ (l : List (ℕ × ℕ)). first_of l) (nobody xs (λ q k. turn x q (rw (eq-eqb x x refl) refl) (or_right (x == q) (contains q xs) k) (rise.0 q k) e)))
      by true (Some y) e rest = rw e refl
      by false o e rest = rest

pub probes_next : (facts : Facts) (s : Spec) (n : ℕ) (c : Trace) → IsMade s c → WaitInTurn n c → (from : ℕ) → next_to_probe n c from ≡ option_and_then (addressed n c) (next_starting c from)
unfolding next_to_probe next_starting
probes_next facts s n c made turn from =
    first_found (addressed n c) (λ p. nat_le from p) (starting_pods c) (ascending (starting_pods c) (facts.proper.starting_ascend s c made))
    (λ p q a b less none. has_none q (turn p q less (facts.members.starting_live c p a) (facts.members.starting_live c q b) (none_has p none)))
  where
    none_has : (p : ℕ) → addressed n c p ≡ None → address_of n c p ≡ None
    none_has p none = by (address_of n c p) none
      where
        by : (o : Option ℕ) → option_map {U = ℕ × ℕ} (λ a. (p, a)) o ≡ None → o ≡ None
        by None e = refl
        by (Some a) e = absurd (cc)

    has_none : (p : ℕ) → address_of n c p ≡ None → addressed n c p ≡ None
    has_none p e = rw e refl

-- What is so of every book that rows made, and that one more row leaves it so.
use Rattle.std.proofs.Common.{◌≡◌, ◌≢◌, ℕ, ◌+◌, ◌<◌, Bool, true, false, not, ◌⊎◌, inl, inr, List, [], ◌∷◌, ◌++◌, refl, sym, ◌∙◌, arith}
use Rattle.std.specs.Prelude.{Option, None, Some, ◌==◌}
use Rattle.std.proofs.lemmas.Bool.{eqb-true, eq-eqb, false_from_ne_true, or_parts}
use Rattle.std.proofs.lemmas.List.Folds.{list_any-append}
use Rattle.kn_event.specs.declared.entry.Row.{Row}
use Rattle.kn_event.specs.declared.entry.Row.TheVariants as row
use Rattle.kn_event.specs.Lists.{contains}
use Rattle.kn_trace.specs.Rows.{created_by}
use Rattle.kn_record.specs.Facts.{Facts}
use Rattle.kn_record.specs.Made.{AreDistinct}
use Rattle.kn_book.specs.Book.{Book, address_in, given, given_where, least_free, noted, pods_in, shared_out, taken, with_pod, without_pod}
use Rattle.kn_book.proofs.Lists.{IsFirst, first_in_range}
use Rattle.kn_book.proofs.Holdings.{WaitLast, distinct-given, distinct-without_pod, given_keeps, given_last, given_member, given_takes, last-given, last-with_pod, last-without_pod, pods-given, pods-with_pod, pods-without_pod, someone_waits, taken-with_pod, taken-without_pod, waits-given, waits-without_pod}
use Rattle.kn_book.proofs.Addresses.{address_left}

pub record IsSound (n : ℕ) (b : Book) : Type 0 where
  pub pods : AreDistinct (pods_in b)
  pub distinct : AreDistinct (taken b)
  pub below : (a : ℕ) → contains a (taken b) ≡ true → a < n
  -- while somebody waits no address is free
  pub full : someone_waits b ≡ true → (a : ℕ) → a < n → contains a (taken b) ≡ true
  pub order : WaitLast b

-- so it is but for one address, if somebody would wait still when that is given
pub record IsNearly (n : ℕ) (b : Book) : Type 0 where
  pub pods : AreDistinct (pods_in b)
  pub distinct : AreDistinct (taken b)
  pub below : (a : ℕ) → contains a (taken b) ≡ true → a < n
  pub rest : (a : ℕ) → least_free n b ≡ Some a → someone_waits (given a b) ≡ true → (x : ℕ) → x < n → x ≢ a → contains x (taken b) ≡ true
  pub order : WaitLast b

pub not-false : (t : Bool) → not t ≡ false → t ≡ true
not-false true e = refl
not-false false e = absurd (cc)

pub not-true : (t : Bool) → not t ≡ true → t ≡ false
not-true true e = absurd (cc)
not-true false e = refl

abbrev pub is_free : Book → ℕ → Bool
is_free b a = not (contains a (taken b))

pub least : (n : ℕ) (b : Book) → IsFirst (is_free b) 0 n (least_free n b)
unfolding least_free
least n b = first_in_range (is_free b) 0 n

pub sound_shared : (n : ℕ) (b : Book) → IsNearly n b → IsSound n (shared_out n b)
unfolding shared_out
sound_shared n b k = by (least_free n b) refl (least n b)
  where
    by : (o : Option ℕ) → least_free n b ≡ o → IsFirst (is_free b) 0 n o → IsSound n (given_where o b)
    by None e first = record { pods = k.pods; distinct = k.distinct; below = k.below; full = λ w a less. not-false (contains a (taken b)) (first.none refl a (omega arith) (omega arith)); order = k.order }
    by (Some a) e first = record {
      pods = rw (pods-given a b) k.pods;
      distinct = distinct-given a b k.distinct (not-true (contains a (taken b)) (first.passes a refl));
      below = λ x h. below x (given_member a b x h);
      full = λ w x less. full w x less (x == a) refl;
      order = last-given a b k.order;
    }
      where
        below : (x : ℕ) → (a ≡ x) ⊎ (contains x (taken b) ≡ true) → x < n
        below x (inl m) = let within = first.within a refl in let less : a < 0 + n = within.1 in omega arith
        below x (inr m) = k.below x m

        full : someone_waits (given a b) ≡ true → (x : ℕ) → x < n → (t : Bool) → (x == a) ≡ t → contains x (taken (given a b)) ≡ true
        full w x less true m = let same : x ≡ a = eqb-true x a m in rw same (given_takes a b (waits-given a b w))
        full w x less false m = given_keeps a b x (k.rest a e w x less (λ same. let yes = eq-eqb x a same in absurd (cc)))

distinct-push : (xs : List ℕ) (y : ℕ) → AreDistinct xs → contains y xs ≡ false → AreDistinct (xs ++ y ∷ [])
distinct-push [] y d out = (refl, tt)
distinct-push (x ∷ xs) y d out =
    let parts = or_parts (x == y) (contains y xs) out in
    (list_any-append (λ z. z == x) xs (y ∷ []) ∙ rw (d.0, false_from_ne_true (y == x) (λ k. let same : (x == y) ≡ true = eq-eqb x y (sym (eqb-true y x k)) in let other = parts.0 in absurd (cc))) refl, distinct-push xs y d.1 parts.1)

-- a pod more
nearly_with : (n p : ℕ) (b : Book) → IsSound n b → contains p (pods_in b) ≡ false → IsNearly n (with_pod p b)
nearly_with n p b k new = record {
  pods = rw (pods-with_pod p b) (distinct-push (pods_in b) p k.pods new);
  distinct = rw (taken-with_pod p b) k.distinct;
  below = λ a h. k.below a (rw (taken-with_pod p b) at h);
  rest = λ a e w x less apart. absurd (rest a e w (someone_waits b) refl);
  order = last-with_pod p b k.order;
}
  where
    rest : (a : ℕ) → least_free n (with_pod p b) ≡ Some a → someone_waits (given a (with_pod p b)) ≡ true → (t : Bool) → someone_waits b ≡ t → ⊥
    rest a e w true h =
        let first = least n (with_pod p b) in
        let within = first.within a e in
        let less : a < 0 + n = within.1 in
        let there : contains a (taken b) ≡ true = k.full h a (omega arith) in
        let free : contains a (taken b) ≡ false = rw (taken-with_pod p b) at (not-true (contains a (taken (with_pod p b))) (first.passes a e)) in
        cc
    rest a e w false h = let nobody = given_last a p b h in cc

module _ (facts : Facts) where
  open facts use {lists.{distinct-filter}}

  -- a pod fewer
  nearly_without : (n p : ℕ) (b : Book) → IsSound n b → IsNearly n (without_pod p b)
  nearly_without n p b k = record {
    pods = rw (pods-without_pod p b) (distinct-filter (λ q. not (p == q)) (pods_in b) k.pods);
    distinct = distinct-without_pod p b k.distinct;
    below = λ a h. k.below a (taken-without_pod p b a h);
    rest = λ a e w x less apart. rest a e w x less apart (contains x (taken (without_pod p b))) refl;
    order = last-without_pod p b k.order;
  }
    where
      rest : (a : ℕ) → least_free n (without_pod p b) ≡ Some a → someone_waits (given a (without_pod p b)) ≡ true → (x : ℕ) → x < n → x ≢ a
          → (t : Bool) → contains x (taken (without_pod p b)) ≡ t → contains x (taken (without_pod p b)) ≡ true
      rest a e w x less apart true h = h
      rest a e w x less apart false h =
          let first = least n (without_pod p b) in
          let within = first.within a e in
          let below : a < 0 + n = within.1 in
          let waits = waits-without_pod p b (waits-given a (without_pod p b) w) in
          let one : address_in b p ≡ Some x = address_left p b x k.pods (k.full waits x less) h in
          let other : address_in b p ≡ Some a = address_left p b a k.pods (k.full waits a (omega arith)) (not-true (contains a (taken (without_pod p b))) (first.passes a e)) in
          absurd (apart (let same : Some x ≡ Some a = sym one ∙ other in cc))

  -- a row
  pub sound_noted : (n : ℕ) (x : Row) (b : Book) → IsSound n b → ((p : ℕ) → created_by x ≡ Some p → contains p (pods_in b) ≡ false) → IsSound n (noted n x b)
  unfolding noted
  sound_noted n (row.Create p limit) b k new = sound_shared n (with_pod p b) (nearly_with n p b k (new p refl))
  sound_noted n (row.Remove p) b k new = sound_shared n (without_pod p b) (nearly_without n p b k)
  sound_noted n (row.LostPod p) b k new = sound_shared n (without_pod p b) (nearly_without n p b k)
  sound_noted n _ b k new = k

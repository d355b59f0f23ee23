-- The next Starting pod, and that a pod starts once.
use Rattle.std.proofs.Common.{◌≡◌, ℕ, ◌≤◌, ◌<◌, Bool, true, false, not, cond, ◌&&◌, ◌||◌, ◌⊎◌, inl, inr, List, [], ◌∷◌, ◌++◌, length, get_or, nat_le, suc, refl, sym, ◌∙◌, arith}
use Rattle.std.specs.Prelude.{None, Some, ◌==◌}
use Rattle.std.specs.List.{find}
use Rattle.std.proofs.lemmas.Bool.{eqb-true, or_cases, eq-eqb, false_from_ne_true, or_right}
use Rattle.std.proofs.lemmas.Bool.Decides.{nat_tests}
use Rattle.kn_event.specs.declared.entry.Entry.{Entry}
use Rattle.kn_event.specs.declared.revision.Spec.{Spec}
use Rattle.kn_event.specs.Lists.{contains}
use Rattle.kn_trace.specs.Rows.{created_by, drained_by, gone_by, readied_by}
use Rattle.kn_trace.specs.Trace.{Trace, created, each_row, next_starting, starting_pods}
use Rattle.kn_record.specs.Made.{IsMade, IsProper}
use Rattle.kn_record.specs.Rows.{says}
use Rattle.kn_record.specs.Order.{Ascend}
use Rattle.kn_record.specs.Facts.{Facts}
use Rattle.kn_sizes.specs.Stays.{HoldsOnwards}
use Rattle.kn_sizes.specs.Starting.{IsLeastFrom}
use Rattle.kn_sizes.proofs.Lasting.{stays_by, stays_less}

-- the first is below each member of the rest
first_below : (x : ℕ) (xs : List ℕ) → ((k d : ℕ) → k < length xs → x < get_or xs k d) → (q : ℕ) → contains q xs ≡ true → x < q
first_below x [] below q h = absurd (cc)
first_below x (y ∷ ys) below q h = by (or_cases (y == q) (contains q ys) h) (λ a. first_below x ys (λ k d less. below (suc k) d (omega arith)) q a)
  where
    by : (y == q ≡ true) ⊎ (contains q ys ≡ true) → (contains q ys ≡ true → x < q) → x < q
    by (inl e) rest = let same : y ≡ q = eqb-true y q e in let less : x < y = below 0 0 (omega arith) in omega arith
    by (inr a) rest = rest a

least_from : (from : ℕ) (xs : List ℕ) → Ascend xs → IsLeastFrom from xs (find (λ p. nat_le from p) xs)
least_from from [] rise = record { found = λ p e. absurd (cc); least = λ p e. absurd (cc); none = (λ e q h. absurd (cc), λ all. refl) }
least_from from (x ∷ xs) rise = by (nat_le from x) refl (least_from from xs (λ i j d less within. rise (suc i) (suc j) d (omega arith) (omega arith)))
  where
    after : (q : ℕ) → contains q xs ≡ true → x < q
    after q h = first_below x xs (λ k d less. rise 0 (suc k) d (omega arith) (omega arith)) q h

    here : IsLeastFrom from xs (find (λ p. nat_le from p) xs) → from ≤ x → IsLeastFrom from (x ∷ xs) (Some x)
    here rest reached = record {
      found = λ p e. let same : x ≡ p = cc in (rw (same, eq-eqb p p refl) refl, omega arith);
      least = λ p e q h far. let same : x ≡ p = cc in least p same q (or_cases (x == q) (contains q xs) h);
      none = (λ e. absurd (cc), λ all. absurd (let less : x < from = all x (rw (eq-eqb x x refl) refl) in omega arith));
    }
      where
        least : (p : ℕ) → x ≡ p → (q : ℕ) → (x == q ≡ true) ⊎ (contains q xs ≡ true) → p ≤ q
        least p same q (inl e) = let equal : x ≡ q = eqb-true x q e in omega arith
        least p same q (inr a) = let less = after q a in omega arith

    later : IsLeastFrom from xs (find (λ p. nat_le from p) xs) → x < from → IsLeastFrom from (x ∷ xs) (find (λ p. nat_le from p) xs)
    later rest short = record {
      found = λ p e. let both = rest.found p e in (or_right (x == p) (contains p xs) both.0, both.1);
      least = λ p e q h far. least p e q far (or_cases (x == q) (contains q xs) h);
      none = (λ e q h. below e q (or_cases (x == q) (contains q xs) h), λ all. rest.none.1 (λ q h. all q (or_right (x == q) (contains q xs) h)));
    }
      where
        least : (p : ℕ) → find (λ p. nat_le from p) xs ≡ Some p → (q : ℕ) → from ≤ q → (x == q ≡ true) ⊎ (contains q xs ≡ true) → p ≤ q
        least p e q far (inl k) = absurd (let equal : x ≡ q = eqb-true x q k in omega arith)
        least p e q far (inr a) = rest.least p e q a far

        below : find (λ p. nat_le from p) xs ≡ None → (q : ℕ) → (x == q ≡ true) ⊎ (contains q xs ≡ true) → q < from
        below e q (inl k) = let equal : x ≡ q = eqb-true x q k in omega arith
        below e q (inr a) = rest.none.0 e q a

    by : (b : Bool) → nat_le from x ≡ b → IsLeastFrom from xs (find (λ p. nat_le from p) xs) → IsLeastFrom from (x ∷ xs) (cond b (Some x) (find (λ p. nat_le from p) xs))
    by true e rest = here rest (grind (arith, nat_tests))
    by false e rest = later rest (grind (arith, nat_tests))

record StartsNoMore (p : ℕ) (c : Trace) : Type 0 where
  created : p < created c
  out : contains p (starting_pods c) ≡ false

module _ (facts : Facts) where
  open facts use {kinds.{says-true}, entries.{contains-push, created-push}, members.{contains-starting, created_comes, live_pod_created, starting_live}, proper.{created_next, starting_ascend, made_kept}}

  -- ---- the least from a bound on

  -- the least Starting pod from a number on
  pub next_is_least : (s : Spec) (c : Trace) (from : ℕ) → IsMade s c → IsLeastFrom from (starting_pods c) (next_starting c from)
  unfolding next_starting
  next_is_least s c from made = least_from from (starting_pods c) (starting_ascend s c made)

  -- ---- a pod starts once

  pub starting_created : (s : Spec) (c : Trace) (p : ℕ) → IsMade s c → contains p (starting_pods c) ≡ true → p < created c
  starting_created s c p made h = created_comes c p (made_kept s c made).pods (live_pod_created c p (starting_live c p h))

  starts_no_more : (s : Spec) (p : ℕ) (c : Trace) (e : Entry) → IsProper s c e.row → StartsNoMore p c → StartsNoMore p (c ++ e ∷ [])
  starts_no_more s p c e h old = record {
    created = let more = created-push c e in let less = old.created in omega arith;
    out = false_from_ne_true (contains p (starting_pods (c ++ e ∷ []))) (λ k. again (
      sym (contains-push created_by c e p ∙ rw new (or-none (contains p (each_row created_by c)))),
      sym (contains-starting (c ++ e ∷ []) p) ∙ k,
    ));
  }
    where
      or-none : (b : Bool) → (b || false) ≡ b
      or-none true = refl
      or-none false = refl

      new : says (created_by e.row) p ≡ false
      new = false_from_ne_true (says (created_by e.row) p) (λ k. let next = created_next s c e.row p h (says-true (created_by e.row) p k) in let less = old.created in absurd (omega arith))

      keep : (a x y d z g w : Bool) → (a && (not (x || y) && not (d || z) && not (g || w))) ≡ true → (a && (not x && not d && not g)) ≡ true
      keep false x y d z g w k = absurd (cc)
      keep true true y d z g w k = absurd (cc)
      keep true false true d z g w k = absurd (cc)
      keep true false false true z g w k = absurd (cc)
      keep true false false false true g w k = absurd (cc)
      keep true false false false false true w k = absurd (cc)
      keep true false false false false false w k = refl

      again : (contains p (each_row created_by c) ≡ contains p (each_row created_by (c ++ e ∷ [])))
          × ((contains p (each_row created_by (c ++ e ∷ [])) && (not (contains p (each_row readied_by (c ++ e ∷ []))) && not (contains p (each_row drained_by (c ++ e ∷ []))) && not (contains p (each_row gone_by (c ++ e ∷ []))))) ≡ true) → ⊥
      again both =
          let was = rw (← both.0, contains-push readied_by c e p, contains-push drained_by c e p, contains-push gone_by c e p) at both.1 in
          let old_one = contains-starting c p ∙ keep (contains p (each_row created_by c)) (contains p (each_row readied_by c)) _ (contains p (each_row drained_by c)) _ (contains p (each_row gone_by c)) _ was in
          let no = old.out in
          absurd (cc)

  -- a pod that was created and doesn't start never starts again
  pub starts_once : (s : Spec) (c : Trace) (p : ℕ) → IsMade s c → p < created c → contains p (starting_pods c) ≡ false → HoldsOnwards s c (λ d. contains p (starting_pods d) ≡ false)
  starts_once s c p made less out =
      stays_less s (StartsNoMore p) (λ d. contains p (starting_pods d) ≡ false) c (λ d h. h.out)
      (stays_by facts s (StartsNoMore p) c (λ d e kept h old. starts_no_more s p d e h old) made (record { created = less; out = out }))

  -- pods that were created stay so
  pub created_stays : (s : Spec) (c : Trace) → IsMade s c → HoldsOnwards s c (λ d. created c ≤ created d)
  created_stays s c made = stays_by facts s (λ d. created c ≤ created d) c (λ d e kept h old. let more = created-push d e in omega arith) made (omega arith)

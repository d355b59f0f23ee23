-- The numbers of the pods whose readiness passes a test, after one row.
use Rattle.std.proofs.Common.{◌≡◌, ℕ, suc, ◌<◌, Bool, true, false, not, ◌||◌, List, [], ◌∷◌, ◌++◌, get_or, length, refl, sym, ap, ◌∙◌, arith, nat_eq, cond, ◌⊎◌, inl, inr, subst, reverse}
use Rattle.std.specs.List.{AllPairs, filter}
use Rattle.std.proofs.lemmas.Bool.{cases_order}
use Rattle.std.proofs.lemmas.List.{reverse-append}
use Rattle.std.proofs.lemmas.List.Folds.{list_any-append}
use Rattle.kn_event.specs.Lists.{contains}
use Rattle.kn_record.specs.declared.admission.Pod.{Pod}
use Rattle.kn_record.specs.declared.admission.Readiness.{Readiness}
use Rattle.kn_record.specs.declared.admission.Readiness.TheVariants as readiness
use Rattle.kn_record.specs.Admission.{is_draining_now, is_ready_now, is_starting_now, pods_in, with_limit, with_readiness}
use Rattle.kn_record.specs.Views.{others, pod_numbers}
use Rattle.kn_pods.specs.Numbers.{inserted}
use Rattle.kn_pods.proofs.Places.{AllAbove, above_more, contains_above, differs, inserted_above, inserted_first, inserted_same, is_same}

-- the pods' numbers ascend
abbrev pub Ascend : List Pod → Type 0
Ascend all = AllPairs (λ (x y : Pod). x.number < y.number) all

ascend_rest : (x : Pod) (xs : List Pod) → Ascend (x ∷ xs) → Ascend xs
ascend_rest x xs rise i j d lt inside = rise (suc i) (suc j) d (omega arith) (omega arith)

-- the number, where it passes, before the others
abbrev pub if_in : Bool → ℕ → List ℕ → List ℕ
if_in true n ys = n ∷ ys
if_in false n ys = ys

module _ (test : Readiness → Bool) where
  in_cons : (b : Bool) (x : Pod) (ys : List Pod) → pod_numbers (cond b (x ∷ ys) ys) ≡ if_in b x.number (pod_numbers ys)
  in_cons true x ys = refl
  in_cons false x ys = refl

  pods_in-cons : (x : Pod) (xs : List Pod) → pods_in test (x ∷ xs) ≡ if_in (test x.readiness) x.number (pods_in test xs)
  pods_in-cons x xs = in_cons (test x.readiness) x (filter (λ q. test q.readiness) xs)

-- ---- all above a number

above_numbers : (n : ℕ) (all : List Pod) → ((k : ℕ) (d : Pod) → k < length all → n < (get_or all k d).number) → AllAbove n (pod_numbers all)
above_numbers n [] h = tt
above_numbers n (x ∷ xs) h = (h 0 x (omega arith), above_numbers n xs (λ k d lt. h (suc k) d (omega arith)))

-- the later ones are above the first
above_first : (x : Pod) (xs : List Pod) → Ascend (x ∷ xs) → AllAbove x.number (pod_numbers xs)
above_first x xs rise = above_numbers x.number xs (λ k d lt. rise 0 (suc k) d (omega arith) (omega arith))

above_if : (b : Bool) (n m : ℕ) (ys : List ℕ) → n < m → AllAbove n ys → AllAbove n (if_in b m ys)
above_if true n m ys lt h = (lt, h)
above_if false n m ys lt h = h

above_in : (test : Readiness → Bool) (n : ℕ) (all : List Pod) → AllAbove n (pod_numbers all) → AllAbove n (pods_in test all)
above_in test n [] h = tt
above_in test n (x ∷ xs) h = subst (AllAbove n) (sym (pods_in-cons test x xs)) (above_if (test x.readiness) n x.number (pods_in test xs) h.0 (above_in test n xs h.1))

-- ---- one more number in front

without_same : (p n : ℕ) (b : Bool) (ys : List ℕ) → nat_eq p n ≡ true → others p (if_in b n ys) ≡ others p ys
without_same p n true ys e = rw e refl
without_same p n false ys e = refl

without_other : (p n : ℕ) (b : Bool) (ys : List ℕ) → nat_eq p n ≡ false → others p (if_in b n ys) ≡ if_in b n (others p ys)
without_other p n true ys e = rw e refl
without_other p n false ys e = refl

inserted_after : (p n : ℕ) (b : Bool) (ys : List ℕ) → n < p → inserted p (if_in b n ys) ≡ if_in b n (inserted p ys)
inserted_after p n true ys lt = inserted_first p n ys lt
inserted_after p n false ys lt = refl

inserted_here : (p n : ℕ) (b : Bool) (ys : List ℕ) → n ≡ p → AllAbove p ys → inserted p (if_in b n ys) ≡ n ∷ ys
inserted_here p n true ys e h = rw e (inserted_same p ys h)
inserted_here p n false ys e h = inserted_above p ys h ∙ ap (λ m. m ∷ ys) (sym e)

contains_other : (p n : ℕ) (b : Bool) (ys : List ℕ) → nat_eq n p ≡ false → contains p (if_in b n ys) ≡ contains p ys
contains_other p n true ys e = rw e refl
contains_other p n false ys e = refl

first_passes : (p n : ℕ) (b : Bool) (ys : List ℕ) → contains p ys ≡ false → contains p (if_in b n ys) ≡ true → b ≡ true
first_passes p n true ys none h = refl
first_passes p n false ys none h = absurd (cc)

-- ---- one pod is marked, or goes

module _ (p : ℕ) where
  unmarked : (f : Readiness → Readiness) (all : List Pod) → AllAbove p (pod_numbers all) → with_readiness p f all ≡ all
  unmarked f [] h = refl
  unmarked f (x ∷ xs) h = rw (differs p x.number (λ e. let a = h.0 in absurd (omega arith))) (ap (λ ys. x ∷ ys) (unmarked f xs h.1))

  -- a mark that takes the pod out
  pub pods_in-marked_out : (test : Readiness → Bool) (f : Readiness → Readiness) → ((r : Readiness) → test (f r) ≡ false) → (all : List Pod)
      → pods_in test (with_readiness p f all) ≡ others p (pods_in test all)
  pods_in-marked_out test f out [] = refl
  pods_in-marked_out test f out (x ∷ xs) = by (nat_eq p x.number) refl (pods_in-marked_out test f out xs)
    where
      by : (b : Bool) → nat_eq p x.number ≡ b → pods_in test (with_readiness p f xs) ≡ others p (pods_in test xs)
          → pods_in test (cond b (record x { readiness = f x.readiness }) x ∷ with_readiness p f xs) ≡ others p (pods_in test (x ∷ xs))
      by true e rest =
          pods_in-cons test (record x { readiness = f x.readiness }) (with_readiness p f xs)
          ∙ ap (λ u. if_in u x.number (pods_in test (with_readiness p f xs))) (out x.readiness) ∙ rest
          ∙ sym (ap (others p) (pods_in-cons test x xs) ∙ without_same p x.number (test x.readiness) (pods_in test xs) e)
      by false e rest =
          pods_in-cons test x (with_readiness p f xs) ∙ ap (λ ys. if_in (test x.readiness) x.number ys) rest
          ∙ sym (ap (others p) (pods_in-cons test x xs) ∙ without_other p x.number (test x.readiness) (pods_in test xs) e)

  -- a mark that doesn't matter
  pub pods_in-marked_same : (test : Readiness → Bool) (f : Readiness → Readiness) → ((r : Readiness) → test (f r) ≡ test r) → (all : List Pod)
      → pods_in test (with_readiness p f all) ≡ pods_in test all
  pods_in-marked_same test f same [] = refl
  pods_in-marked_same test f same (x ∷ xs) = by (nat_eq p x.number) (pods_in-marked_same test f same xs)
    where
      by : (b : Bool) → pods_in test (with_readiness p f xs) ≡ pods_in test xs
          → pods_in test (cond b (record x { readiness = f x.readiness }) x ∷ with_readiness p f xs) ≡ pods_in test (x ∷ xs)
      by true rest =
          pods_in-cons test (record x { readiness = f x.readiness }) (with_readiness p f xs)
          ∙ ap (λ u. if_in u x.number (pods_in test (with_readiness p f xs))) (same x.readiness)
          ∙ ap (λ ys. if_in (test x.readiness) x.number ys) rest ∙ sym (pods_in-cons test x xs)
      by false rest =
          pods_in-cons test x (with_readiness p f xs) ∙ ap (λ ys. if_in (test x.readiness) x.number ys) rest ∙ sym (pods_in-cons test x xs)

  pub pods_in-gone : (test : Readiness → Bool) (all : List Pod) → pods_in test (filter (λ q. not (nat_eq p q.number)) all) ≡ others p (pods_in test all)
  pods_in-gone test [] = refl
  pods_in-gone test (x ∷ xs) = by (nat_eq p x.number) refl (pods_in-gone test xs)
    where
      rest_of : List Pod
      rest_of = filter (λ q. not (nat_eq p q.number)) xs

      by : (b : Bool) → nat_eq p x.number ≡ b → pods_in test rest_of ≡ others p (pods_in test xs)
          → pods_in test (cond (not b) (x ∷ rest_of) rest_of) ≡ others p (pods_in test (x ∷ xs))
      by true e rest = rest ∙ sym (ap (others p) (pods_in-cons test x xs) ∙ without_same p x.number (test x.readiness) (pods_in test xs) e)
      by false e rest =
          pods_in-cons test x rest_of ∙ ap (λ ys. if_in (test x.readiness) x.number ys) rest
          ∙ sym (ap (others p) (pods_in-cons test x xs) ∙ without_other p x.number (test x.readiness) (pods_in test xs) e)

  -- ---- a pod stands once

  none_above : (one : Readiness → Bool) (all : List Pod) → AllAbove p (pod_numbers all) → contains p (pods_in one all) ≡ false
  none_above one all h = contains_above p (pods_in one all) (above_in one p all h)

  later : (one : Readiness → Bool) (x : Pod) (xs : List Pod) → (x.number ≡ p → ⊥) → contains p (pods_in one (x ∷ xs)) ≡ true → contains p (pods_in one xs) ≡ true
  later one x xs other h =
      sym (ap (contains p) (pods_in-cons one x xs) ∙ contains_other p x.number (one x.readiness) (pods_in one xs) (differs x.number p other)) ∙ h

  passes : (one : Readiness → Bool) (x : Pod) (xs : List Pod) → AllAbove p (pod_numbers xs) → contains p (pods_in one (x ∷ xs)) ≡ true → one x.readiness ≡ true
  passes one x xs above h =
      first_passes p x.number (one x.readiness) (pods_in one xs) (none_above one xs above) (sym (ap (contains p) (pods_in-cons one x xs)) ∙ h)

  -- it isn't of two kinds
  pub apart : (one other : Readiness → Bool) → ((r : Readiness) → one r ≡ true → other r ≡ false) → (all : List Pod) → Ascend all
      → contains p (pods_in one all) ≡ true → contains p (pods_in other all) ≡ false
  apart one other kinds [] rise h = absurd (cc)
  apart one other kinds (x ∷ xs) rise h = by (cases_order x.number p) (apart one other kinds xs (ascend_rest x xs rise))
    where
      above : x.number ≡ p → AllAbove p (pod_numbers xs)
      above e = above_more p x.number (pod_numbers xs) (omega arith) (above_first x xs rise)

      by : (x.number ≡ p) ⊎ ((x.number < p) ⊎ (p < x.number)) → (contains p (pods_in one xs) ≡ true → contains p (pods_in other xs) ≡ false)
          → contains p (pods_in other (x ∷ xs)) ≡ false
      by (inl e) rest =
          ap (contains p) (pods_in-cons other x xs) ∙ ap (λ b. contains p (if_in b x.number (pods_in other xs))) (kinds x.readiness (passes one x xs (above e) h))
          ∙ none_above other xs (above e)
      by (inr (inl lt)) rest =
          ap (contains p) (pods_in-cons other x xs) ∙ contains_other p x.number (other x.readiness) (pods_in other xs) (differs x.number p (λ e. absurd (omega arith)))
          ∙ rest (later one x xs (λ e. absurd (omega arith)) h)
      by (inr (inr gt)) rest =
          let none = none_above one (x ∷ xs) (gt, above_more p x.number (pod_numbers xs) (omega arith) (above_first x xs rise)) in absurd (cc)

  -- a mark by which it comes in, from where it was
  pub pods_in-marked_in : (one test : Readiness → Bool) (f : Readiness → Readiness) → ((r : Readiness) → one r ≡ true → test (f r) ≡ true) → (all : List Pod) → Ascend all
      → contains p (pods_in one all) ≡ true → pods_in test (with_readiness p f all) ≡ inserted p (pods_in test all)
  pods_in-marked_in one test f comes [] rise h = absurd (cc)
  pods_in-marked_in one test f comes (x ∷ xs) rise h = by (cases_order x.number p) (pods_in-marked_in one test f comes xs (ascend_rest x xs rise))
    where
      above : x.number ≡ p → AllAbove p (pod_numbers xs)
      above e = above_more p x.number (pod_numbers xs) (omega arith) (above_first x xs rise)

      by : (x.number ≡ p) ⊎ ((x.number < p) ⊎ (p < x.number)) → (contains p (pods_in one xs) ≡ true → pods_in test (with_readiness p f xs) ≡ inserted p (pods_in test xs))
          → pods_in test (with_readiness p f (x ∷ xs)) ≡ inserted p (pods_in test (x ∷ xs))
      by (inl e) rest =
          rw (is_same p x.number (sym e))
          (pods_in-cons test (record x { readiness = f x.readiness }) (with_readiness p f xs)
          ∙ ap (λ u. if_in u x.number (pods_in test (with_readiness p f xs))) (comes x.readiness (passes one x xs (above e) h))
          ∙ ap (λ ys. x.number ∷ pods_in test ys) (unmarked f xs (above e))
          ∙ sym (ap (inserted p) (pods_in-cons test x xs) ∙ inserted_here p x.number (test x.readiness) (pods_in test xs) e (above_in test p xs (above e))))
      by (inr (inl lt)) rest =
          rw (differs p x.number (λ e. absurd (omega arith)))
          (pods_in-cons test x (with_readiness p f xs) ∙ ap (λ ys. if_in (test x.readiness) x.number ys) (rest (later one x xs (λ e. absurd (omega arith)) h))
          ∙ sym (ap (inserted p) (pods_in-cons test x xs) ∙ inserted_after p x.number (test x.readiness) (pods_in test xs) lt))
      by (inr (inr gt)) rest =
          let none = none_above one (x ∷ xs) (gt, above_more p x.number (pod_numbers xs) (omega arith) (above_first x xs rise)) in absurd (cc)

-- a live pod is of one of three kinds
pub contains-kinds : (p : ℕ) (all : List Pod)
    → contains p (pod_numbers all) ≡ ((contains p (pods_in is_starting_now all) || contains p (pods_in is_ready_now all)) || contains p (pods_in is_draining_now all))
contains-kinds p [] = refl
contains-kinds p (x ∷ xs) = ap (λ b. nat_eq x.number p || b) (contains-kinds p xs) ∙ by x.readiness refl
  where
    s : Bool
    s = contains p (pods_in is_starting_now xs)

    r : Bool
    r = contains p (pods_in is_ready_now xs)

    d : Bool
    d = contains p (pods_in is_draining_now xs)

    starts : (n s r d : Bool) → (n || ((s || r) || d)) ≡ (((n || s) || r) || d)
    starts true s r d = refl
    starts false s r d = refl

    is_ready : (n s r d : Bool) → (n || ((s || r) || d)) ≡ ((s || (n || r)) || d)
    is_ready true true r d = refl
    is_ready true false r d = refl
    is_ready false s r d = refl

    drains : (n s r d : Bool) → (n || ((s || r) || d)) ≡ ((s || r) || (n || d))
    drains true true r d = refl
    drains true false true d = refl
    drains true false false d = refl
    drains false s r d = refl

    at : (test : Readiness → Bool) (k : Readiness) → x.readiness ≡ k → contains p (pods_in test (x ∷ xs)) ≡ contains p (if_in (test k) x.number (pods_in test xs))
    at test k e = ap (contains p) (pods_in-cons test x xs ∙ ap (λ (y : Readiness). if_in (test y) x.number (pods_in test xs)) e)

    by : (k : Readiness) → x.readiness ≡ k → (nat_eq x.number p || ((s || r) || d))
        ≡ ((contains p (pods_in is_starting_now (x ∷ xs)) || contains p (pods_in is_ready_now (x ∷ xs))) || contains p (pods_in is_draining_now (x ∷ xs)))
    by readiness.Starting e = rw (at is_starting_now readiness.Starting e, at is_ready_now readiness.Starting e, at is_draining_now readiness.Starting e) (starts (nat_eq x.number p) s r d)
    by readiness.Ready e = rw (at is_starting_now readiness.Ready e, at is_ready_now readiness.Ready e, at is_draining_now readiness.Ready e) (is_ready (nat_eq x.number p) s r d)
    by readiness.Draining e = rw (at is_starting_now readiness.Draining e, at is_ready_now readiness.Draining e, at is_draining_now readiness.Draining e) (drains (nat_eq x.number p) s r d)

-- ---- a pod's limit, and a new pod

pub pods_in-limited : (p limit : ℕ) (test : Readiness → Bool) (all : List Pod) → pods_in test (with_limit p limit all) ≡ pods_in test all
pods_in-limited p limit test [] = refl
pods_in-limited p limit test (x ∷ xs) = by (nat_eq p x.number) (pods_in-limited p limit test xs)
  where
    by : (b : Bool) → pods_in test (with_limit p limit xs) ≡ pods_in test xs
        → pods_in test (cond b (record x { limit = limit }) x ∷ with_limit p limit xs) ≡ pods_in test (x ∷ xs)
    by true rest =
        pods_in-cons test (record x { limit = limit }) (with_limit p limit xs) ∙ ap (λ ys. if_in (test x.readiness) x.number ys) rest ∙ sym (pods_in-cons test x xs)
    by false rest = pods_in-cons test x (with_limit p limit xs) ∙ ap (λ ys. if_in (test x.readiness) x.number ys) rest ∙ sym (pods_in-cons test x xs)

pub pods_in-created : (test : Readiness → Bool) (all : List Pod) (x : Pod) → pods_in test (all ++ x ∷ []) ≡ pods_in test all ++ if_in (test x.readiness) x.number []
pods_in-created test [] x = pods_in-cons test x []
pods_in-created test (y ∷ ys) x =
    pods_in-cons test y (ys ++ x ∷ []) ∙ ap (λ ns. if_in (test y.readiness) y.number ns) (pods_in-created test ys x)
    ∙ by (test y.readiness) ∙ ap (λ ns. ns ++ if_in (test x.readiness) x.number []) (sym (pods_in-cons test y ys))
  where
    by : (b : Bool) → if_in b y.number (pods_in test ys ++ if_in (test x.readiness) x.number []) ≡ if_in b y.number (pods_in test ys) ++ if_in (test x.readiness) x.number []
    by true = refl
    by false = refl

pub contains-reverse : (p : ℕ) (xs : List ℕ) → contains p (reverse xs) ≡ contains p xs
contains-reverse p [] = refl
contains-reverse p (x ∷ xs) =
    ap (contains p) (reverse-append (x ∷ []) xs) ∙ list_any-append (λ y. nat_eq y p) (reverse xs) (x ∷ []) ∙ ap (λ b. b || (nat_eq x p || false)) (contains-reverse p xs)
    ∙ swap (contains p xs) (nat_eq x p)
  where
    swap : (a b : Bool) → (a || (b || false)) ≡ (b || a)
    swap true true = refl
    swap true false = refl
    swap false true = refl
    swap false false = refl

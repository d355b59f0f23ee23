-- Histories, row by row.
use Rattle.std.proofs.Common.{◌≡◌, ℕ, suc, zero, List, [], ◌∷◌, ◌++◌, Bool, true, false, refl, sym, ap, ◌∙◌, subst, append_assoc, eq-eqb}
use Rattle.std.specs.Prelude.{cond, ◌==◌}
use mathlib.Core.Option.{some, some-injective, some-ne-none}
use lib.ListN.{get_elem?}
use Rattle.kn_event.specs.declared.revision.Spec.{Spec}
use Rattle.kn_trace.specs.Events.{react}
use Rattle.kn_trace.specs.Trace.{Trace}
use Rattle.kn_cell.specs.declared.past.Past.{Past}
use Rattle.kn_cell.specs.Lists.{StartsWith, Each}
use Rattle.kn_cell.specs.History.{rows_by, trace_after}

pub starts_trans : {A : Type 0} (a b c : List A) → StartsWith b a → StartsWith c b → StartsWith c a
starts_trans a b c s t = (s.0 ++ t.0, t.1 ∙ (ap (λ l. l ++ t.0) s.1 ∙ append_assoc a s.0 t.0))

pub each_tail : {A : Type 0} (P : A → Type 0) (x : A) (xs : List A) → Each P (x ∷ xs) → Each P xs
each_tail P x xs all k y at = all (suc k) y at

pub at_left : {A : Type 0} (xs ys : List A) (i : ℕ) (y : A) → get_elem? xs i ≡ some y → get_elem? (xs ++ ys) i ≡ some y
at_left [] ys i y e = absurd (some-ne-none y (sym e))
at_left (z ∷ zs) ys zero y e = e
at_left (z ∷ zs) ys (suc i) y e = at_left zs ys i y e

pub at_later : {A : Type 0} (xs ys : List A) (i : ℕ) (y : A) → get_elem? ys i ≡ some y → (j : ℕ) × (get_elem? (xs ++ ys) j ≡ some y)
at_later [] ys i y e = (i, e)
at_later (x ∷ xs) ys i y e = let h = at_later xs ys i y e in (suc h.0, h.1)

pub each_left : {A : Type 0} (P : A → Type 0) (xs ys : List A) → Each P (xs ++ ys) → Each P xs
each_left P xs ys all k x at = all k x (at_left xs ys k x at)

pub each_right : {A : Type 0} (P : A → Type 0) (xs ys : List A) → Each P (xs ++ ys) → Each P ys
each_right P xs ys all k x at = let l = at_later xs ys k x at in all l.0 x l.1

pub none : {A : Type 0} (P : A → Type 0) → Each P []
none P k x at = absurd (some-ne-none x (sym at))

pub each_cons : {A : Type 0} (P : A → Type 0) (x : A) (xs : List A) → P x → Each P xs → Each P (x ∷ xs)
each_cons P x xs a b zero y at = subst P (some-injective x y at) a
each_cons P x xs a b (suc k) y at = b k y at

pub one : {A : Type 0} (P : A → Type 0) (y : A) → P y → Each P (y ∷ [])
one P y it = each_cons P y [] it (none P)

pub each_both : {A : Type 0} (P : A → Type 0) (xs ys : List A) → Each P xs → Each P ys → Each P (xs ++ ys)
each_both P [] ys a b = b
each_both P (x ∷ xs) ys a b = each_cons P x (xs ++ ys) (a 0 x refl) (each_both P xs ys (each_tail P x xs a) b)

pub trace_after-append : (s : Spec) (c : Trace) (h more : List Past) → trace_after s c (h ++ more) ≡ trace_after s (trace_after s c h) more
trace_after-append s c [] more = refl
trace_after-append s c (x ∷ xs) more = trace_after-append s (c ++ react s c x.event) xs more

-- a row stands among those of its pass
pub in_rows : (P : Past → Type 0) (n : ℕ) (h : List Past) (k : ℕ) (x : Past) → get_elem? h k ≡ some x → x.pass ≡ n → Each P (rows_by n h) → P x
in_rows P n [] k x at e all = absurd (some-ne-none x (sym at))
in_rows P n (y ∷ ys) zero x at e all =
    let same : y ≡ x = some-injective y x at in
    let t : (y.pass == n) ≡ true = eq-eqb y.pass n (ap (λ (z : Past). z.pass) same ∙ e) in
    let all' : Each P (y ∷ rows_by n ys) = subst (λ b. Each P (cond b (y ∷ rows_by n ys) (rows_by n ys))) t all in
    subst P same (all' 0 y refl)
in_rows P n (y ∷ ys) (suc k) x at e all = by_test (y.pass == n) all (in_rows P n ys k x at e)
  where
    by_test : (b : Bool) → Each P (cond b (y ∷ rows_by n ys) (rows_by n ys)) → (Each P (rows_by n ys) → P x) → P x
    by_test true a rest = rest (each_tail P y (rows_by n ys) a)
    by_test false a rest = rest a

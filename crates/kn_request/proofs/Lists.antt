-- Histories, row by row.
use Rattle.std.proofs.Common.{◌≡◌, ◌≢◌, ℕ, suc, zero, List, [], ◌∷◌, ◌++◌, Bool, true, false, refl, sym, ap, ◌∙◌, subst, append_assoc, eq-eqb}
use Rattle.std.specs.Prelude.{cond, ◌==◌}
use Rattle.std.proofs.lemmas.List.Elements.{filter-append}
use Rattle.std.proofs.lemmas.Bool.{eqb-false}
use mathlib.Core.Option.{some, some-injective, some-ne-none}
use lib.ListN.{get_elem?}
use Rattle.kn_event.specs.declared.revision.Spec.{Spec}
use Rattle.kn_trace.specs.Events.{react}
use Rattle.kn_trace.specs.Trace.{Trace}
use Rattle.kn_cell.specs.declared.past.Past.{Past}
use Rattle.kn_cell.specs.Lists.{StartsWith, Each}
use Rattle.kn_cell.specs.History.{rows_by, trace_after}

pub starts_trans : {A : Type 0} (a b c : List A) → StartsWith b a → StartsWith c b → StartsWith c a
starts_trans a b c s t = (s.0 ++ t.0, t.1 ∙ (ap (λ l. l ++ t.0) s.1 ∙ append_assoc a s.0 t.0))

pub each_tail : {A : Type 0} (P : A → Type 0) (x : A) (xs : List A) → Each P (x ∷ xs) → Each P xs
each_tail P x xs all k y at = all (suc k) y at

pub each_right : {A : Type 0} (P : A → Type 0) (xs ys : List A) → Each P (xs ++ ys) → Each P ys
each_right P [] ys all = all
each_right P (x ∷ xs) ys all = each_right P xs ys (each_tail P x (xs ++ ys) all)

pub at_left : {A : Type 0} (xs ys : List A) (i : ℕ) (y : A) → get_elem? xs i ≡ some y → get_elem? (xs ++ ys) i ≡ some y
at_left [] ys i y e = absurd (some-ne-none y (sym e))
at_left (z ∷ zs) ys zero y e = e
at_left (z ∷ zs) ys (suc i) y e = at_left zs ys i y e

pub each_left : {A : Type 0} (P : A → Type 0) (xs ys : List A) → Each P (xs ++ ys) → Each P xs
each_left P xs ys all k x at = all k x (at_left xs ys k x at)

pub none : {A : Type 0} (P : A → Type 0) → Each P []
none P k x at = absurd (some-ne-none x (sym at))

pub one : {A : Type 0} (P : A → Type 0) (y : A) → P y → Each P (y ∷ [])
one P y it zero x at = subst P (some-injective y x at) it
one P y it (suc k) x at = absurd (some-ne-none x (sym at))

-- what holds of a pass's rows and of all others' holds of all
pub by_whom : (Q : Past → Type 0) (n : ℕ) (xs : List Past) → Each (λ x. x.pass ≢ n → Q x) xs → Each Q (rows_by n xs) → Each Q xs
by_whom Q n [] others own = own
by_whom Q n (y ∷ ys) others own = by_test (y.pass == n) refl (by_whom Q n ys (each_tail (λ x. x.pass ≢ n → Q x) y ys others)) own
  where
    by_test : (b : Bool) → (y.pass == n) ≡ b → (Each Q (rows_by n ys) → Each Q ys) → Each Q (cond b (y ∷ rows_by n ys) (rows_by n ys)) → Each Q (y ∷ ys)
    by_test true is rest mine zero x at = mine 0 x at
    by_test true is rest mine (suc k) x at = rest (each_tail Q y (rows_by n ys) mine) k x at
    by_test false is rest mine zero x at = subst Q (some-injective y x at) (others 0 y refl (eqb-false y.pass n is))
    by_test false is rest mine (suc k) x at = rest mine k x at

pub rows_by-own : (n : ℕ) (h : List Past) (p : Past) → p.pass ≡ n → rows_by n (h ++ p ∷ []) ≡ rows_by n h ++ p ∷ []
rows_by-own n h p e = filter-append (λ (q : Past). q.pass == n) h (p ∷ []) ∙ ap (λ b. rows_by n h ++ cond b (p ∷ []) []) (eq-eqb p.pass n e)

pub trace_after-append : (s : Spec) (c : Trace) (h more : List Past) → trace_after s c (h ++ more) ≡ trace_after s (trace_after s c h) more
trace_after-append s c [] more = refl
trace_after-append s c (x ∷ xs) more = trace_after-append s (c ++ react s c x.event) xs more

-- Passes are handed out, and taken back.
use Rattle.std.proofs.Common.{◌≡◌, ◌≢◌, inl, inr, ℕ, suc, zero, drop, ◌<◌, ◌≤◌, ◌+◌, ◌-◌, List, [], ◌∷◌, ◌++◌, refl, sym, ap, ◌∙◌, subst, length, arith}
use Rattle.std.specs.Prelude.{slice_index_or, slice_set, Option, None, Some, true, ◌||◌}
use Rattle.std.proofs.Math.Seq.{drop-cons}
use Rattle.std.proofs.lemmas.List.{get_or-set_same, get_or-set_other}
use Rattle.std.proofs.lemmas.Bool.Decides.{eqb_tells}
use Rattle.atomic_table.specs.Seated.{TableId}
use Rattle.kn_cell.specs.declared.view.Joined.{Joined}
use Rattle.kn_cell.specs.Lists.{Each}
use Rattle.kn_cell.specs.Shown.{PassView, joined_shown, new_shown}
use Rattle.kn_request.specs.declared.slot.Slot.{Slot}
use Rattle.kn_cell.specs.Splitting.{gone_of}
use Rattle.kn_session.specs.Passes.{IsBlank, IsGiven, IsGivenOf, IsNewOf, joined_all, kind_of, where_some, found_by, front_of}
use Rattle.kn_session.proofs.ListFacts.{at_left, at_later, each_both, none, one}

-- what a blank pass gives away is new
pub new_of : (p q : PassView) → IsBlank p → q ≡ new_shown p → IsNewOf (kind_of p) (p.passes - p.free) q
new_of p q blank is = record {
  named = ap (λ (v : PassView). v.number) is;
  free = ap (λ (v : PassView). v.free) is;
  back = ap (λ (v : PassView). v.back) is;
  seen = ap (λ (v : PassView). v.seen) is ∙ blank.unseen;
  mine = ap (λ (v : PassView). v.mine) is;
  others = ap (λ (v : PassView). v.others) is;
  kind = ap kind_of is;
  whole = ap (λ (v : PassView). v.gone) is ∙ blank.whole;
  reader = ap (λ (v : PassView). v.scribe) is;
}

pub one_given : {C L : Type 0} (cell : TableId) (old p : PassView) (i : ℕ) (s t : Slot C L) → p ≡ record old { free = old.free - i } → i < old.free → old.free ≤ old.passes
    → IsGiven cell (IsNewOf (kind_of p) (p.passes - p.free)) s t → IsGivenOf cell old i s t
one_given {C} {L} cell old p i s t is low low' g =
    let g' : IsGiven cell (IsNewOf (kind_of old) (old.passes - (old.free - i))) s t = subst (λ (v : PassView). IsGiven cell (IsNewOf (kind_of v) (v.passes - v.free)) s t) is g in
    let n : old.passes - (old.free - i) ≡ old.passes - old.free + i = omega arith in
    subst (λ k. IsGiven cell (IsNewOf (kind_of old) k) s t) n g'

-- a list in which all up to one place has been done, and then that place
pub done_more : {A : Type 0} (P : ℕ → A → A → Type 0) (xs ys : List A) (i : ℕ) (y : A) → i < length ys
    → ((j : ℕ) (d : A) → j < i → P j (slice_index_or xs j d) (slice_index_or ys j d))
    → ((d : A) → P i (slice_index_or xs i d) y)
    → (j : ℕ) (d : A) → j < i + 1 → P j (slice_index_or xs j d) (slice_index_or (slice_set ys i y) j d)
done_more {A} P xs ys i y within before here j d low = elim (eqb_tells j i) [
  | inl e ↦
      let z : P i (slice_index_or xs i d) (slice_index_or (slice_set ys i y) i d) = subst (λ x. P i (slice_index_or xs i d) x) (sym (get_or-set_same ys i y d within)) (here d) in
      subst (λ k. P k (slice_index_or xs k d) (slice_index_or (slice_set ys i y) k d)) (sym e.1) z
  | inr e ↦
      let small : j < i = (let ne = e.1 in omega arith) in
      subst (λ x. P j (slice_index_or xs j d) x) (sym (get_or-set_other ys i j y d e.1)) (before j d small)
]

pub rest_still : {A : Type 0} (xs ys : List A) (i : ℕ) (y : A) → ((j : ℕ) (d : A) → i ≤ j → slice_index_or ys j d ≡ slice_index_or xs j d)
    → (j : ℕ) (d : A) → i + 1 ≤ j → slice_index_or (slice_set ys i y) j d ≡ slice_index_or xs j d
rest_still {A} xs ys i y rest j d high =
    let ne : j ≢ i = (λ e. omega (arith, e, high)) in
    get_or-set_other ys i j y d ne ∙ rest j d (omega arith)

-- ---- taken back

step_found : {A : Type 0} (f : A → Option PassView) (p : PassView) (s : A) (xs : List A) → joined_all (where_some (f s) p) (found_by f xs) ≡ joined_all p (found_by f (s ∷ xs))
step_found {A} f p s xs = by_found (f s)
  where
    by_found : (o : Option PassView) → joined_all (where_some o p) (found_by f xs) ≡ joined_all p (front_of o (found_by f xs))
    by_found None = refl
    by_found (Some q) = refl

pub took_one : {A : Type 0} (f : A → Option PassView) (p p' : PassView) (xs : List A) (i : ℕ) (s d : A) → i < length xs → s ≡ slice_index_or xs i d → p' ≡ where_some (f s) p
    → joined_all p' (found_by f (drop (i + 1) xs)) ≡ joined_all p (found_by f (drop i xs))
took_one {A} f p p' xs i s d low is new =
    let a = slice_index_or xs i d in
    let e1 : p' ≡ where_some (f a) p = new ∙ ap (λ (x : A). where_some (f x) p) is in
    let n : i + 1 ≡ suc i = omega arith in
    let e2 : drop i xs ≡ a ∷ drop (suc i) xs = drop-cons xs i d low in
    ap (λ x. joined_all x (found_by f (drop (i + 1) xs))) e1
    ∙ (ap (λ k. joined_all (where_some (f a) p) (found_by f (drop k xs))) n
    ∙ (step_found f p a (drop (suc i) xs) ∙ ap (λ l. joined_all p (found_by f l)) (sym e2)))

-- ---- what is so of all that was taken back

abbrev pub as_other : PassView → Joined
as_other q = record { number = q.number; seen = q.seen; mine = q.mine }

each_joined : (P : Joined → Type 0) (p q : PassView) → Each P (joined_shown p q).others → Each P p.others × P (as_other q)
each_joined P p q all = (
  (λ k o at. all k o (at_left (p.others ++ q.others) (as_other q ∷ []) k o (at_left p.others q.others k o at))),
  (let l = at_later (p.others ++ q.others) (as_other q ∷ []) 0 (as_other q) refl in all l.0 (as_other q) l.1),
)

abbrev pub AllOf : (PassView → Type 0) → List PassView → Type 0
AllOf Q [] = Unit {0}
AllOf Q (q ∷ qs) = Q q × AllOf Q qs

pub all_found : {A : Type 0} (f : A → Option PassView) (Q : PassView → Type 0) (xs : List A) → ((i : ℕ) (d : A) → i < length xs → (q : PassView) × (f (slice_index_or xs i d) ≡ Some q) × Q q)
    → AllOf Q (found_by f xs) × (length (found_by f xs) ≡ length xs)
all_found {A} f Q [] all = (tt, refl)
all_found {A} f Q (s ∷ xs) all =
    let first = all 0 s (omega arith) in
    let rest = all_found f Q xs (λ i d low. all (suc i) d (omega (arith, low))) in
    let e : found_by f (s ∷ xs) ≡ first.0 ∷ found_by f xs = ap (λ o. front_of o (found_by f xs)) first.1 in
    (subst (AllOf Q) (sym e) (first.2, rest.0), ap length e ∙ omega (arith, rest.1))

pub found_member : {A : Type 0} (f : A → Option PassView) (Q : PassView → Type 0) (xs : List A) → AllOf Q (found_by f xs) → (i : ℕ) (d : A) (q : PassView) → i < length xs → f (slice_index_or xs i d) ≡ Some q → Q q
found_member {A} f Q [] all i d q low is = absurd (omega (arith, low))
found_member {A} f Q (s ∷ xs) all zero d q low is =
    let e : found_by f (s ∷ xs) ≡ q ∷ found_by f xs = ap (λ o. front_of o (found_by f xs)) is in
    (subst (AllOf Q) e all).0
found_member {A} f Q (s ∷ xs) all (suc i) d q low is = found_member f Q xs (rest_of (f s) (found_by f xs) all) i d q (omega (arith, low)) is
  where
    rest_of : (o : Option PassView) (qs : List PassView) → AllOf Q (front_of o qs) → AllOf Q qs
    rest_of None qs a = a
    rest_of (Some x) qs a = a.1

-- from what is so of all joined passes to each of them
pub joined_members : (P : Joined → Type 0) (p : PassView) (qs : List PassView) → Each P (joined_all p qs).others → Each P p.others × AllOf (λ q. P (as_other q)) qs
joined_members P p [] all = (all, tt)
joined_members P p (q ∷ qs) all =
    let x = joined_members P (joined_shown p q) qs all in
    let y = each_joined P p q x.0 in
    (y.0, (y.1, x.1))

pub joined_last : (P : Joined → Type 0) (p q : PassView) → Each P (joined_shown p q).others → Each P p.others × P (as_other q)
joined_last P p q all = each_joined P p q all

-- and back, where none had others of its own
pub joined_step : (P : Joined → Type 0) (p q : PassView) → Each P p.others → q.others ≡ [] → P (as_other q) → Each P (joined_shown p q).others
joined_step P p q a e it =
    each_both P (p.others ++ q.others) (as_other q ∷ []) (each_both P p.others q.others a (subst (Each P) (sym e) (none P))) (one P (as_other q) it)

pub joined_each : (P : Joined → Type 0) (p : PassView) (qs : List PassView) → Each P p.others → AllOf (λ q. (q.others ≡ []) × P (as_other q)) qs → Each P (joined_all p qs).others
joined_each P p [] a all = a
joined_each P p (q ∷ qs) a all = joined_each P (joined_shown p q) qs (joined_step P p q a all.0.0 all.0.1) all.1

pub joined_back : (p : PassView) (qs : List PassView) → AllOf (λ q. (q.free ≡ 0) × (q.back ≡ 0)) qs → (joined_all p qs).back ≡ p.back + length qs
joined_back p [] all = omega arith
joined_back p (q ∷ qs) all =
    let h = joined_back (joined_shown p q) qs all.1 in
    let a = all.0.0 in
    let b = all.0.1 in
    omega arith

pub record IsSame (p q : PassView) : Type 0 where
  pub cell : q.cell ≡ p.cell
  pub free : q.free ≡ p.free
  pub passes : q.passes ≡ p.passes
  pub number : q.number ≡ p.number
  pub seen : q.seen ≡ p.seen
  pub mine : q.mine ≡ p.mine
  pub kind : kind_of q ≡ kind_of p

pub joined_same : (p : PassView) (qs : List PassView) → IsSame p (joined_all p qs)
joined_same p [] = record { cell = refl; free = refl; passes = refl; number = refl; seen = refl; mine = refl; kind = refl }
joined_same p (q ∷ qs) =
    let x = joined_same (joined_shown p q) qs in
    record { cell = x.cell; free = x.free; passes = x.passes; number = x.number; seen = x.seen; mine = x.mine; kind = x.kind }

-- a pass that takes rows out is the one that knows how many were, whichever passes it takes in
pub record IsScribe (gone : ℕ) (p : PassView) : Type 0 where
  pub scribe : p.scribe ≡ true
  pub exact : p.gone ≡ gone

pub scribe_joined : (gone : ℕ) (p q : PassView) → IsScribe gone p → IsScribe gone (joined_shown p q)
scribe_joined gone p q x = record {
  scribe = ap (λ b. b || q.scribe) x.scribe;
  exact = ap (λ b. gone_of b p.gone q.gone) x.scribe ∙ x.exact;
}

pub scribe_all : (gone : ℕ) (p : PassView) (qs : List PassView) → IsScribe gone p → IsScribe gone (joined_all p qs)
scribe_all gone p [] x = x
scribe_all gone p (q ∷ qs) x = scribe_all gone (joined_shown p q) qs (scribe_joined gone p q x)

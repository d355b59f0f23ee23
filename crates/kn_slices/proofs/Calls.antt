-- What the calls of a group keep.
use Rattle.std.proofs.Common.{◌≡◌, ◌≤◌, ◌<◌, ℕ, zero, suc, ◌+◌, ◌*◌, ◌/◌, ◌%◌, Bool, true, false, List, [], ◌∷◌, length, get_or, refl, sym, subst, inl, inr, arith, Some, nat_lt}
use Rattle.std.specs.Prelude.{slice_set, if◌then◌else◌}
use Rattle.std.proofs.lemmas.List.{get_or_default, length-set, get_or-set_same, get_or-set_other}
use Rattle.std.proofs.lemmas.Nat.{div-add-mod', mod_below}
use Rattle.std.proofs.lemmas.Bool.{cases_eq}
use Rattle.std.proofs.Math.Nat.{mul-suc}
use Rattle.kn_event.specs.declared.event.Act.{Act}
use Rattle.kn_event.specs.declared.event.Act.TheVariants as act
use Rattle.kn_event.specs.declared.event.Event.{Event}
use Rattle.kn_event.specs.Lists.{EachIs}
use Rattle.kn_core.specs.State.{RevisionState}
use Rattle.kn_core.specs.Steps.{IsWithinRange}
use Rattle.kn_slices.specs.declared.change.Change.{Change}
use Rattle.kn_slices.specs.Slices.{due_change, hold, slice_of}
use Rattle.kn_slices.specs.Activators.{HasPod, IsActivator, IsGroupOf, IsPlain, StaysLow, limit_at, running_at}
use Rattle.kn_slices.specs.Calls.{AreForcesAfter, IsGroupAct}
use Rattle.kn_slices.proofs.Activators.{has_pod, keeps_of, sets_of}
use Rattle.kn_slices.proofs.Due.{after_change, after_step, due_is, group_within}

pub plain_limit : (a : Act) (q n : ℕ) → IsPlain a → a ≡ act.Limit q n → ⊥
plain_limit a q n plain e = subst IsPlain e plain

pub plain_lost : (a : Act) (p : ℕ) → IsPlain a → a ≡ act.Lost p → ⊥
plain_lost a p plain e = subst IsPlain e plain

plain_range : (a : Act) → IsPlain a → IsWithinRange a
plain_range (act.Limit p n) plain = absurd plain
plain_range a plain = cc

-- neither a limit nor a loss
pub plain_act : (a : Act) → IsPlain a → IsGroupAct a
plain_act a plain = record {
  range = plain_range a plain;
  lost = λ p f. plain_lost a p plain f;
  some = λ q n f. absurd (plain_limit a q n plain f);
}

-- a limit that is in range
pub limit_act : (p n : ℕ) → 1 ≤ n → n ≤ 1000 → IsGroupAct (act.Limit p n)
limit_act p n some most = record {
  range = most;
  lost = λ q f. absurd cc;
  some = λ q m f. let same : n ≡ m = cc in subst (λ z. 1 ≤ z) same some;
}

at_default : (parts : List RevisionState) (i : ℕ) (d : RevisionState) → i < length parts → get_or parts i d ≡ get_or parts i (get_or parts i d)
at_default parts i d low = get_or_default parts i d (get_or parts i d) low

pub low_step : (parts : List RevisionState) (wanted force : List ℕ) (i : ℕ) (e : Event) → i < length parts → IsGroupOf parts wanted force → IsPlain e.act → StaysLow parts wanted force i e
low_step parts wanted force i e low group plain d y goes q inside =
    after_step limit_at running_at parts wanted force i (get_or parts i d) y low (at_default parts i d low) group.group
    (keeps_of (length wanted) e (get_or parts i d) y goes (group.activators i d low) (λ k n f. plain_limit e.act k n plain f)) q inside

-- a slice of a limit that is enough for all
pub slice_some : (w i n : ℕ) → 0 < n → n ≤ w → 1 ≤ slice_of w i n
slice_some w i n some enough = by (w / n) (w % n) (div-add-mod' w n) (mod_below w n some)
  where
    by : (q r : ℕ) → q * n + r ≡ w → r < n → 1 ≤ q + (if nat_lt i r then 1 else 0)
    by zero r sum low = absurd (omega (arith, sum, low, enough))
    by (suc k) r sum low = omega arith

pub slice_most : (w i n : ℕ) → 0 < n → slice_of w i n ≤ w
slice_most w i zero some = absurd (omega (arith, some))
slice_most w i (suc m) some = by (w / suc m) (w % suc m) (div-add-mod' w (suc m))
  where
    by : (q r : ℕ) → q * suc m + r ≡ w → q + (if nat_lt i r then 1 else 0) ≤ w
    by q r sum = let e : q * suc m ≡ q * m + q = mul-suc q m in one (nat_lt i r) (λ t. grind (arith, t)) e
      where
        one : (b : Bool) → (b ≡ true → i < r) → q * suc m ≡ q * m + q → q + (if b then 1 else 0) ≤ w
        one true h e = let l = h refl in omega (arith, sum, e, l)
        one false h e = omega (arith, sum, e)

pub low_change : (parts : List RevisionState) (wanted force : List ℕ) (x : Change) (e : Event) → IsGroupOf parts wanted force → due_change limit_at running_at (length parts) parts wanted ≡ Some x → e.act ≡ act.Limit x.pod x.limit
    → StaysLow parts wanted force x.activator e
low_change parts wanted force x e group is_due e_is d y goes q inside =
    let i = x.activator in
    let first = due_is limit_at running_at parts wanted x d is_due in
    let a = get_or parts i d in
    let due = due_is limit_at running_at parts wanted x a is_due in
    let each = group.group.each x.pod first.pod in
    let some : 1 ≤ x.limit = subst (λ n. 1 ≤ n) (sym first.value) (slice_some (get_or wanted x.pod 0) i (length parts) group.group.some each.least) in
    after_change limit_at running_at parts wanted force x a y (at_default parts i d first.part) group.group due
    (sets_of (length wanted) e a y x.pod x.limit goes (group.activators i d first.part) e_is first.pod some) q inside

-- the due limit is in range
pub due_range : (parts : List RevisionState) (wanted force : List ℕ) (x : Change) (d : RevisionState) → IsGroupOf parts wanted force → due_change limit_at running_at (length parts) parts wanted ≡ Some x → (1 ≤ x.limit) × (x.limit ≤ 1000)
due_range parts wanted force x d group is_due =
    let first = due_is limit_at running_at parts wanted x d is_due in
    let each = group.group.each x.pod first.pod in
    let least = each.least in
    let above = each.above in
    let most = each.most in
    let some = slice_some (get_or wanted x.pod 0) x.activator (length parts) group.group.some least in
    let top = slice_most (get_or wanted x.pod 0) x.activator (length parts) group.group.some in
    let is = first.value in
    (omega (arith, is, some), omega (arith, is, top, above, most))

-- so it is, since there is an activator
pub due_range_of : (parts : List RevisionState) (wanted force : List ℕ) (x : Change) → IsGroupOf parts wanted force → due_change limit_at running_at (length parts) parts wanted ≡ Some x → (1 ≤ x.limit) × (x.limit ≤ 1000)
due_range_of [] wanted force x group is_due = let some = group.group.some in absurd (omega (arith, some))
due_range_of (a ∷ rest) wanted force x group is_due = due_range (a ∷ rest) wanted force x a group is_due

-- one member is another one, of the same kind
pub each_set : (P : RevisionState → Type 0) (parts : List RevisionState) (i : ℕ) (y : RevisionState) → i < length parts → EachIs P parts → P y → EachIs P (slice_set parts i y)
each_set P parts i y low all is j d inside = elim (cases_eq j i) [
  | inl same ↦ subst (λ k. P (get_or (slice_set parts i y) k d)) (sym same) (subst P (sym (get_or-set_same parts i y d low)) is)
  | inr other ↦ subst P (sym (get_or-set_other parts i j y d other)) (all j d (subst (λ n. j < n) (length-set parts i y) inside))
]

-- the group after the call
pub group_after_call : (parts : List RevisionState) (wanted force force' : List ℕ) (i : ℕ) (y d : RevisionState) → i < length parts → IsGroupOf parts wanted force → IsActivator (length wanted) y
    → ((q : ℕ) → q < length wanted → hold (limit_at q) (running_at q) (slice_set parts i y) ≤ get_or force q 0)
    → AreForcesAfter (slice_set parts i y) wanted force force' → IsGroupOf (slice_set parts i y) wanted force'
group_after_call parts wanted force force' i y d low group is below after = record {
  group = group_within limit_at running_at parts wanted force force' i y group.group below after.many after.each;
  activators = each_set (IsActivator (length wanted)) parts i y low group.activators is;
}

pub each_has : (pods : ℕ) (parts : List RevisionState) (p : ℕ) → EachIs (IsActivator pods) parts → p < pods → EachIs (HasPod p) parts
each_has pods parts p all low j d inside = has_pod pods p (get_or parts j d) (all j d inside) low

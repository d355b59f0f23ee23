-- What a due change is, and that it keeps what is held within the limit in force.
use Rattle.std.proofs.Common.{◌≡◌, ◌<◌, ◌≤◌, ◌⊎◌, inl, inr, ℕ, suc, ◌+◌, ◌-◌, Bool, true, false, ◌&&◌, nat_lt, nat_le, max, List, [], ◌∷◌, ◌++◌, take, length, get_or, refl, ap, ◌∙◌, sym, subst, arith, Option, Some, None, drop}
use Rattle.std.proofs.lemmas.Option.{none-some}
use Rattle.std.proofs.lemmas.Bool.{cases_eq}
use Rattle.std.proofs.lemmas.List.Sums.{sum_by-cons, sum_by_more_le}
use Rattle.std.proofs.lemmas.List.{length-set}
use Rattle.std.proofs.Math.Seq.{drop-cons, take-append_seam}
use Rattle.std.specs.Prelude.{IfSome, slice_set, if◌then◌else◌}
use Rattle.kn_event.specs.Lists.{or_else}
use Rattle.kn_slices.specs.Group.{IsDue, IsGroup, IsWithin, Keeps, Sets}
use Rattle.kn_slices.specs.Slices.{change, change_where, cut_at, cut_of, due_change, first_from, force_after, hold, raise_at, raise_of, runs, slice_of}
use Rattle.kn_slices.specs.declared.change.Change.{Change}
use Rattle.kn_slices.proofs.Sums.{hold_set}

abbrev FirstIs : {A X : Type 0} → (ℕ → A → Option X) → ℕ → List A → X → A → Type 0
FirstIs test i xs x d = (k : ℕ) × (k < length xs) × (test (i + k) (get_or xs k d) ≡ Some x)

later : {A X : Type 0} (test : ℕ → A → Option X) (i : ℕ) (a : A) (rest : List A) (x : X) (d : A) → FirstIs test (i + 1) rest x d → FirstIs test i (a ∷ rest) x d
later test i a rest x d (k, low, is) = (suc k, omega (arith, low), ap (λ j. test j (get_or rest k d)) (omega arith) ∙ is)

by_test : {A X : Type 0} (test : ℕ → A → Option X) (i : ℕ) (a : A) (rest : List A) (x : X) (d : A) (o : Option X) → (first_from test (i + 1) rest ≡ Some x → FirstIs test (i + 1) rest x d)
    → test i a ≡ o → or_else o (first_from test (i + 1) rest) ≡ Some x → FirstIs test i (a ∷ rest) x d
by_test test i a rest x d None more is f = later test i a rest x d (more f)
by_test test i a rest x d (Some y) more is f = (0, omega arith, ap (λ j. test j a) (omega arith) ∙ (is ∙ f))

-- the first answer is one of the test
pub first_is : {A X : Type 0} (test : ℕ → A → Option X) (i : ℕ) (xs : List A) (x : X) (d : A) → first_from test i xs ≡ Some x → FirstIs test i xs x d
first_is test i [] x d e = absurd (none-some x e)
first_is test i (a ∷ rest) x d e = by_test test i a rest x d (test i a) (first_is test (i + 1) rest x d) refl e

-- the change that a test lets through
through : (b : Bool) (y x : Change) → change_where b y ≡ Some x → (b ≡ true) × (y ≡ x)
through true y x e = (refl, some_is y x e)
  where
    some_is : (y x : Change) → Some y ≡ Some x → y ≡ x
    some_is y x e = cc
through false y x e = absurd (none-some x e)

either : {X : Type 0} (a b : Option X) (x : X) → or_else a b ≡ Some x → (a ≡ Some x) ⊎ (b ≡ Some x)
either None b x e = inr e
either (Some y) b x e = inl e

below : (a b : ℕ) → nat_lt a b ≡ true → a < b
below a b t = grind (arith, t)

both : (a b : Bool) → (a && b) ≡ true → (a ≡ true) × (b ≡ true)
both true b t = (refl, t)
both false b t = (t, absurd (false-true t))
  where
    false-true : false ≡ true → ⊥
    false-true e = grind (arith, e)

first_of : {A X : Type 0} (test : ℕ → A → Option X) (xs : List A) (x : X) (d : A) → first_from test 0 xs ≡ Some x → (k : ℕ) × (k < length xs) × (test k (get_or xs k d) ≡ Some x)
first_of test xs x d e = let (k, low, is) = first_is test 0 xs x d e in (k, low, ap (λ j. test j (get_or xs k d)) (omega arith) ∙ is)

cut_is : {A : Type 0} (limit running : ℕ → A → ℕ) (parts : List A) (wanted : List ℕ) (x : Change) (d : A) (p i : ℕ) → p < length wanted → i < length parts
    → cut_at (limit p) (length parts) (get_or wanted p 0) p i (get_or parts i d) ≡ Some x → IsDue limit running parts wanted x d
cut_is limit running parts wanted x d p i p_low i_low e =
    let (test, is) = through (nat_lt (slice_of (get_or wanted p 0) i (length parts)) (limit p (get_or parts i d))) (change i p (slice_of (get_or wanted p 0) i (length parts))) x e in
    subst (λ y. IsDue limit running parts wanted y d) is
    (let low = below (slice_of (get_or wanted p 0) i (length parts)) (limit p (get_or parts i d)) test in
    record { pod = p_low; part = i_low; value = refl; other = λ e. absurd (omega (arith, low, e)); way = inl low })

raise_is : {A : Type 0} (limit running : ℕ → A → ℕ) (parts : List A) (wanted : List ℕ) (x : Change) (d : A) (p i : ℕ) → p < length wanted → i < length parts
    → raise_at (limit p) (running p) (hold (limit p) (running p) parts) (length parts) (get_or wanted p 0) p i (get_or parts i d) ≡ Some x → IsDue limit running parts wanted x d
raise_is limit running parts wanted x d p i p_low i_low e =
    let a = get_or parts i d in
    let s = slice_of (get_or wanted p 0) i (length parts) in
    let h = hold (limit p) (running p) parts - max (limit p a) (running p a) + max s (running p a) in
    let (test, is) = through (nat_lt (limit p a) s && nat_le h (get_or wanted p 0)) (change i p s) x e in
    let (less, fits) = both (nat_lt (limit p a) s) (nat_le h (get_or wanted p 0)) test in
    let more = below (limit p a) s less in
    subst (λ y. IsDue limit running parts wanted y d) is
    (record { pod = p_low; part = i_low; value = refl; other = λ e. absurd (omega (arith, more, e)); way = inr (up_to h (get_or wanted p 0) fits) })
  where
    up_to : (a b : ℕ) → nat_le a b ≡ true → a ≤ b
    up_to a b t = grind (arith, t)

a_cut : {A : Type 0} (limit running : ℕ → A → ℕ) (parts : List A) (wanted : List ℕ) (x : Change) (d : A)
    → first_from (cut_of limit (length parts) parts) 0 wanted ≡ Some x → IsDue limit running parts wanted x d
a_cut limit running parts wanted x d e =
    let (p, p_low, p_is) = first_of (cut_of limit (length parts) parts) wanted x 0 e in
    let (i, i_low, i_is) = first_of (cut_at (limit p) (length parts) (get_or wanted p 0) p) parts x d p_is in
    cut_is limit running parts wanted x d p i p_low i_low i_is

a_raise : {A : Type 0} (limit running : ℕ → A → ℕ) (parts : List A) (wanted : List ℕ) (x : Change) (d : A)
    → first_from (raise_of limit running (length parts) parts) 0 wanted ≡ Some x → IsDue limit running parts wanted x d
a_raise limit running parts wanted x d e =
    let (p, p_low, p_is) = first_of (raise_of limit running (length parts) parts) wanted x 0 e in
    let (i, i_low, i_is) = first_of (raise_at (limit p) (running p) (hold (limit p) (running p) parts) (length parts) (get_or wanted p 0) p) parts x d p_is in
    raise_is limit running parts wanted x d p i p_low i_low i_is

pub due_is : {A : Type 0} (limit running : ℕ → A → ℕ) (parts : List A) (wanted : List ℕ) (x : Change) (d : A)
    → due_change limit running (length parts) parts wanted ≡ Some x → IsDue limit running parts wanted x d
due_is limit running parts wanted x d e = elim (either (first_from (cut_of limit (length parts) parts) 0 wanted) (first_from (raise_of limit running (length parts) parts) 0 wanted) x e) [
  | inl cut ↦ a_cut limit running parts wanted x d cut
  | inr raise ↦ a_raise limit running parts wanted x d raise
]

-- no more runs than is held
pub runs_within : {A : Type 0} (g r : A → ℕ) (xs : List A) → runs r xs ≤ hold g r xs
runs_within g r [] = omega arith
runs_within g r (x ∷ xs) =
    let a = sum_by-cons r x xs in
    let b = sum_by-cons (λ y. max (g y) (r y)) x xs in
    let h = runs_within g r xs in
    omega (arith, a, b, h)

-- ---- a due change

at_pod : (held held' old_limit old_runs new_limit new_runs wanted force : ℕ) → held' + max old_limit old_runs ≡ held + max new_limit new_runs
    → held ≤ force → wanted ≤ force → new_runs ≤ max old_runs new_limit → max old_limit old_runs ≤ held
    → (new_limit < old_limit) ⊎ (held - max old_limit old_runs + max new_limit old_runs ≤ wanted) → held' ≤ force
at_pod held held' old_limit old_runs new_limit new_runs wanted force sum a b c m (inl cut) = omega (arith, sum, a, b, c, cut)
at_pod held held' old_limit old_runs new_limit new_runs wanted force sum a b c m (inr raise) = omega (arith, sum, a, b, c, m, raise)

elsewhere : (held held' old_limit old_runs new_limit new_runs force : ℕ) → held' + max old_limit old_runs ≡ held + max new_limit new_runs
    → held ≤ force → new_limit ≡ old_limit → new_runs ≤ max old_runs new_limit → held' ≤ force
elsewhere held held' old_limit old_runs new_limit new_runs force sum a same c = omega (arith, sum, a, same, c)

max_within : {A : Type 0} (g r : A → ℕ) (xs : List A) (i : ℕ) (d : A) → i < length xs → max (g (get_or xs i d)) (r (get_or xs i d)) ≤ hold g r xs
max_within g r xs i d low = let s = sum_by_more_le (λ a. max (g a) (r a)) xs i d low in omega (arith, s)

-- what a group holds of a pod after the due change is within what was in force
pub after_change : {A : Type 0} (limit running : ℕ → A → ℕ) (parts : List A) (wanted force : List ℕ) (x : Change) (a y : A) → a ≡ get_or parts x.activator a → IsGroup limit running parts wanted force
    → IsDue limit running parts wanted x a → Sets limit running (length wanted) x.pod x.limit a y
    → (q : ℕ) → q < length wanted → hold (limit q) (running q) (slice_set parts x.activator y) ≤ get_or force q 0
after_change limit running parts wanted force x a y at group due sets q low =
    let b = get_or parts x.activator a in
    let sum = hold_set (limit q) (running q) parts x.activator y a due.part in
    let each = group.each q low in
    let most = max_within (limit q) (running q) parts x.activator a due.part in
    let sets' = subst (λ z. Sets limit running (length wanted) x.pod x.limit z y) at sets in
    elim (cases_eq q x.pod) [
      | inl same ↦ at_pod (hold (limit q) (running q) parts) (hold (limit q) (running q) (slice_set parts x.activator y)) (limit q b) (running q b) x.limit (running q y) (get_or wanted q 0) (get_or force q 0)
          (sum ∙ ap (λ n. hold (limit q) (running q) parts + max n (running q y)) (ap (λ p. limit p y) same ∙ sets'.here)) each.within each.above
          (subst (λ n. running q y ≤ max (running q b) n) (ap (λ p. limit p y) same ∙ sets'.here) (sets'.runs q low)) most
          (subst (λ p. (x.limit < limit p b) ⊎ (hold (limit p) (running p) parts - max (limit p b) (running p b) + max x.limit (running p b) ≤ get_or wanted p 0)) (sym same) due.way)
      | inr other ↦ elsewhere (hold (limit q) (running q) parts) (hold (limit q) (running q) (slice_set parts x.activator y)) (limit q b) (running q b) (limit q y) (running q y) (get_or force q 0)
          sum each.within (sets'.others q low other) (sets'.runs q low)
    ]

-- a pod's part of the group after a call, where what is held is within what was in force
pub kept : (n held held' wanted force force' : ℕ) → IsWithin n held wanted force → held' ≤ force → force' ≡ force_after held' wanted force → IsWithin n held' wanted force'
kept n held held' wanted force force' was low is = by_le (nat_le held' wanted) refl
  where
    fits : nat_le held' wanted ≡ true → held' ≤ wanted
    fits t = grind (arith, t)

    by_le : (b : Bool) → nat_le held' wanted ≡ b → IsWithin n held' wanted force'
    by_le true t = let e : force' ≡ wanted = is ∙ ap (λ b. if b then wanted else force) t in
        record { within = omega (arith, e, fits t); above = omega (arith, e); same = λ _. e; least = was.least; most = let a = was.above in let m = was.most in omega (arith, e, a, m) }
    by_le false t = let e : force' ≡ force = is ∙ ap (λ b. if b then wanted else force) t in
        record { within = omega (arith, e, low); above = let a = was.above in omega (arith, e, a); same = λ up. absurd (no t up); least = was.least; most = let m = was.most in omega (arith, e, m) }
      where
        no : nat_le held' wanted ≡ false → held' ≤ wanted → ⊥
        no f up = grind (arith, f, up)

-- where it is
pub due_part : {A : Type 0} (limit running : ℕ → A → ℕ) (parts : List A) (wanted : List ℕ) (x : Change) → 1 ≤ length parts
    → due_change limit running (length parts) parts wanted ≡ Some x → x.activator < length parts
due_part limit running [] wanted x some e = absurd (omega (arith, some))
due_part limit running (a ∷ rest) wanted x some e = let due = due_is limit running (a ∷ rest) wanted x a e in due.part

pub due_inside : {A : Type 0} (limit running : ℕ → A → ℕ) (parts : List A) (wanted : List ℕ) (x : Change) → 1 ≤ length parts
    → due_change limit running (length parts) parts wanted ≡ Some x → (x.activator < length parts) × (x.pod < length wanted)
due_inside limit running [] wanted x some e = absurd (omega (arith, some))
due_inside limit running (a ∷ rest) wanted x some e = let due = due_is limit running (a ∷ rest) wanted x a e in (due.part, due.pod)

pub on_some : (P : Change → Type 0) (o : Option Change) → ((x : Change) → o ≡ Some x → P x) → IfSome o P
on_some P None h = tt
on_some P (Some x) h = h x refl

pub few_after : {A : Type 0} (limit running : ℕ → A → ℕ) (parts : List A) (wanted force : List ℕ) (x : Change) (a y : A) → a ≡ get_or parts x.activator a → IsGroup limit running parts wanted force
    → due_change limit running (length parts) parts wanted ≡ Some x → Sets limit running (length wanted) x.pod x.limit a y
    → (parts' : List A) (wanted' : List ℕ) → parts' ≡ slice_set parts x.activator y → wanted' ≡ wanted
    → (p : ℕ) → p < length wanted' → hold (limit p) (running p) parts' ≤ 1000
few_after limit running parts wanted force x a y at group e sets parts' wanted' is wants p low =
    let low' : p < length wanted = subst (λ w. p < length w) wants low in
    let h = after_change limit running parts wanted force x a y at group (due_is limit running parts wanted x a e) sets p low' in
    let each = group.each p low' in
    let m = each.most in
    subst (λ xs. hold (limit p) (running p) xs ≤ 1000) (sym is) (omega (arith, h, m))

pub group_after : {A : Type 0} (limit running : ℕ → A → ℕ) (parts : List A) (wanted force force' : List ℕ) (x : Change) (a y : A) → a ≡ get_or parts x.activator a → IsGroup limit running parts wanted force
    → due_change limit running (length parts) parts wanted ≡ Some x → Sets limit running (length wanted) x.pod x.limit a y
    → length force' ≡ length force → ((p : ℕ) → p < length wanted → get_or force' p 0 ≡ force_after (hold (limit p) (running p) (slice_set parts x.activator y)) (get_or wanted p 0) (get_or force p 0))
    → IsGroup limit running (slice_set parts x.activator y) wanted force'
group_after limit running parts wanted force force' x a y at group e sets same each = record {
  some = rw length-set group.some;
  few = rw length-set group.few;
  pods = group.pods;
  many = same ∙ group.many;
  each = λ p low. subst (λ n. IsWithin n (hold (limit p) (running p) (slice_set parts x.activator y)) (get_or wanted p 0) (get_or force' p 0)) (sym (length-set parts x.activator y))
      (kept (length parts) (hold (limit p) (running p) parts) (hold (limit p) (running p) (slice_set parts x.activator y)) (get_or wanted p 0) (get_or force p 0) (get_or force' p 0) (group.each p low)
      (after_change limit running parts wanted force x a y at group (due_is limit running parts wanted x a e) sets p low) (each p low));
}

-- what a slice that was lent is afterwards
pub lent : {A : Type 0} (n : ℕ) (new old : List A) → length new ≡ n → take n (new ++ drop (length new) old) ≡ new
lent n new old e = subst (λ m. take m (new ++ drop (length new) old) ≡ new) e (take-append_seam new (drop (length new) old))

pub some_same : (y x : Change) → Some y ≡ Some x → y ≡ x
some_same y x e = cc

-- the same clause of other names for the lists
pub each_of : {A : Type 0} (limit running : ℕ → A → ℕ) (parts parts' : List A) (wanted wanted' force force' new : List ℕ) → parts' ≡ parts → wanted' ≡ wanted → force' ≡ force
    → ((p : ℕ) → p < length wanted' → get_or new p 0 ≡ force_after (hold (limit p) (running p) parts') (get_or wanted' p 0) (get_or force' p 0))
    → (p : ℕ) → p < length wanted → get_or new p 0 ≡ force_after (hold (limit p) (running p) parts) (get_or wanted p 0) (get_or force p 0)
each_of {A} limit running parts parts' wanted wanted' force force' new a b c each =
    subst (λ (f : List ℕ). (p : ℕ) → p < length wanted → get_or new p 0 ≡ force_after (hold (limit p) (running p) parts) (get_or wanted p 0) (get_or f p 0)) c
    (subst (λ (w : List ℕ). (p : ℕ) → p < length w → get_or new p 0 ≡ force_after (hold (limit p) (running p) parts) (get_or w p 0) (get_or force' p 0)) b
    (subst (λ (xs : List A). (p : ℕ) → p < length wanted' → get_or new p 0 ≡ force_after (hold (limit p) (running p) xs) (get_or wanted' p 0) (get_or force' p 0)) a each))

-- an event that changes no limit leaves what is held within what was in force
pub after_step : {A : Type 0} (limit running : ℕ → A → ℕ) (parts : List A) (wanted force : List ℕ) (i : ℕ) (a y : A) → i < length parts → a ≡ get_or parts i a → IsGroup limit running parts wanted force
    → Keeps limit running (length wanted) a y → (q : ℕ) → q < length wanted → hold (limit q) (running q) (slice_set parts i y) ≤ get_or force q 0
after_step limit running parts wanted force i a y inside at group keeps q low =
    let b = get_or parts i a in
    let sum = hold_set (limit q) (running q) parts i y a inside in
    let each = group.each q low in
    let keeps' = subst (λ z. Keeps limit running (length wanted) z y) at keeps in
    elsewhere (hold (limit q) (running q) parts) (hold (limit q) (running q) (slice_set parts i y)) (limit q b) (running q b) (limit q y) (running q y) (get_or force q 0) sum each.within (keeps'.limits q low) (keeps'.runs q low)

-- the group after a call, where what is held of each pod is within what was in force
pub group_within : {A : Type 0} (limit running : ℕ → A → ℕ) (parts : List A) (wanted force force' : List ℕ) (i : ℕ) (y : A) → IsGroup limit running parts wanted force
    → ((q : ℕ) → q < length wanted → hold (limit q) (running q) (slice_set parts i y) ≤ get_or force q 0)
    → length force' ≡ length force → ((p : ℕ) → p < length wanted → get_or force' p 0 ≡ force_after (hold (limit p) (running p) (slice_set parts i y)) (get_or wanted p 0) (get_or force p 0))
    → IsGroup limit running (slice_set parts i y) wanted force'
group_within limit running parts wanted force force' i y group low same each = record {
  some = rw length-set group.some;
  few = rw length-set group.few;
  pods = group.pods;
  many = same ∙ group.many;
  each = λ p inside. subst (λ n. IsWithin n (hold (limit p) (running p) (slice_set parts i y)) (get_or wanted p 0) (get_or force' p 0)) (sym (length-set parts i y))
      (kept (length parts) (hold (limit p) (running p) parts) (hold (limit p) (running p) (slice_set parts i y)) (get_or wanted p 0) (get_or force p 0) (get_or force' p 0) (group.each p inside) (low p inside) (each p inside));
}

-- one that the test has no answer for
pub skip : {A X : Type 0} (test : ℕ → A → Option X) (xs : List A) (p : ℕ) (d : A) → p < length xs → test p (get_or xs p d) ≡ None → first_from test (p + 1) (drop (p + 1) xs) ≡ first_from test p (drop p xs)
skip test xs p d low none =
    let one : suc p ≡ p + 1 = omega arith in
    let rest = ap (λ n. drop n xs) one in
    sym (ap (first_from test p) (drop-cons xs p d low ∙ ap (λ l. get_or xs p d ∷ l) rest) ∙ ap (λ o. or_else o (first_from test (p + 1) (drop (p + 1) xs))) none)

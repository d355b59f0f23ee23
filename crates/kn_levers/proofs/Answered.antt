-- When two answers of the zero rule differ.
use Rattle.std.proofs.Common.{◌≡◌, refl, sym, subst, ℕ, ◌-◌, ◌*◌, ◌<◌, ◌≤◌, Bool, true, false, not, cond, ◌&&◌, ◌||◌, arith, lit<}
use Rattle.std.specs.Prelude.{◌==◌, nat_lt, nat_le, max}
use Rattle.std.proofs.lemmas.Bool.Decides.{nat_tests}
use Rattle.kn_event.specs.declared.entry.Phase.{Phase}
use Rattle.kn_event.specs.declared.entry.Phase.TheVariants as phase
use Rattle.kn_event.specs.declared.revision.Spec.{Spec}
use Rattle.kn_scaling.specs.declared.zero.Standing.{Standing}
use Rattle.kn_scaling.specs.Zero.{has_lasted, is_proxy, may_go, no_pods, some_pods, zero_rule, zero_rule_in}
use Rattle.kn_levers.specs.Laws.{is_other}
use Rattle.kn_levers.specs.Levers.{is_young}
use Rattle.kn_levers.specs.Settings.{hour_ms}

-- ---- tests

pub and_is : (x y : Bool) → x && y ≡ true → (x ≡ true) × (y ≡ true)
and_is true y h = (refl, h)
and_is false y h = absurd (let e : false ≡ true = h in cc)

-- what isn't both, where the second is
pub first_not : (x y : Bool) → y ≡ true → not (x && y) ≡ true → x ≡ false
first_not true y k h = absurd (let e : false ≡ true = rw k at h in cc)
first_not false y k h = refl

pub or_true : (x : Bool) → x || true ≡ true
or_true true = refl
or_true false = refl

pub less_is : (a b : ℕ) → a < b → nat_lt a b ≡ true
less_is a b less = grind (arith, nat_tests)

pub is_less : (a b : ℕ) → nat_lt a b ≡ true → a < b
is_less a b e = grind (arith, nat_tests)

pub not_less : (a b : ℕ) → nat_lt a b ≡ false → b ≤ a
not_less a b e = grind (arith, nat_tests)

pub no_more : (a b : ℕ) → nat_le a b ≡ true → a ≤ b
no_more a b e = grind (arith, nat_tests)

pub same_is : (a b : ℕ) → (a == b) ≡ true → a ≡ b
same_is a b e = grind (arith, nat_tests)

-- a number that isn't this one
pub not_same : (a b : ℕ) → (a == b) ≡ false → a ≡ b → ⊥
not_same a b e same = grind (arith, nat_tests)

pub other_fewer : (a b : ℕ) → (a == b) ≡ false → a ≤ b → a ≤ b - 1
other_fewer a b e few = grind (arith, nat_tests)

-- fewer than another, which isn't the most of both
pub under_most : (low a most : ℕ) → (a == low) ≡ false → low ≤ most → a ≤ most → most ≤ a → low ≤ most - 1
under_most low a most e few all many = grind (arith, nat_tests)

pub is_false : (b : Bool) → not b ≡ true → b ≡ false
is_false true h = sym h
is_false false h = refl

pub more_differ : (a b : ℕ) → a < b → (a == b) ≡ false
more_differ a b less = grind (arith, nat_tests)

fewer_differ : (a b : ℕ) → b < a → (a == b) ≡ false
fewer_differ a b less = grind (arith, nat_tests)

-- ---- the zero rule, with some pods asked for and with none

pub zero_some : (s : Spec) (time ready bounded : ℕ) (x : Standing) → 0 < bounded → zero_rule s time ready bounded x ≡ some_pods ready bounded
unfolding zero_rule
zero_some s time ready bounded x some = rw (less_is 0 bounded some) refl

pub zero_none : (s : Spec) (time ready : ℕ) (x : Standing) → zero_rule s time ready 0 x ≡ cond s.to_zero (zero_rule_in x.phase s time ready x) (some_pods ready 1)
unfolding zero_rule
zero_none s time ready x = refl

-- ---- times

pub lasted_is : (since ms time : ℕ) → since ≤ time → nat_le ms (time - since) ≡ has_lasted since ms time
lasted_is since ms time order = grind (arith, nat_tests)

pub lasted : (since ms time : ℕ) → since ≤ time → nat_lt (time - since) ms ≡ false → has_lasted since ms time ≡ true
lasted since ms time order past = grind (arith, nat_tests)

pub not_lasted : (since ms time : ℕ) → since ≤ time → nat_lt (time - since) ms ≡ true → has_lasted since ms time ≡ false
not_lasted since ms time order young = grind (arith, nat_tests)

-- ---- another count of some pods

pub more_is_other : (s t : Spec) (time ready a b : ℕ) (x : Standing) → 0 < a → a < b → is_other (zero_rule s time ready a x) (zero_rule t time ready b x) ≡ true
more_is_other s t time ready a b x some more = rw (zero_some s time ready a x some, zero_some t time ready b x (omega arith), more_differ a b more) refl

pub fewer_is_other : (s t : Spec) (time ready a b : ℕ) (x : Standing) → 0 < b → b < a → is_other (zero_rule s time ready a x) (zero_rule t time ready b x) ≡ true
fewer_is_other s t time ready a b x some fewer = rw (zero_some s time ready a x (omega arith), zero_some t time ready b x some, fewer_differ a b fewer) refl

-- ---- none in place of some: one pod may be kept then

-- so many pods, or none that isn't applied, or one
kept_is_other : (a : ℕ) (ready : ℕ) → (a == 1) ≡ false → is_other (some_pods ready a) (some_pods ready 1) ≡ true
kept_is_other a ready not_one = rw not_one refl

stays_is_other : (a ready want : ℕ) (p : Phase) → is_other (some_pods ready a) (record { want = want; applied = false; phase = p }) ≡ true
stays_is_other a ready want p = or_true (not (a == want))

goes_is_other : (a ready : ℕ) (applied : Bool) → 0 < a → is_other (some_pods ready a) (no_pods applied) ≡ true
goes_is_other a ready applied some = rw (fewer_differ a 0 some) refl

none_is_other : (s t : Spec) (time ready a : ℕ) (x : Standing) → x.phase_since ≤ time → t.to_zero ≡ s.to_zero → t.stable_s ≡ s.stable_s → 0 < a
    → not ((a == 1) && (not s.to_zero || is_young s x.phase (time - x.phase_since))) ≡ true
    → is_other (zero_rule s time ready a x) (zero_rule t time ready 0 x) ≡ true
none_is_other s t time ready a x order zero window some kept =
    rw (zero_some s time ready a x some, zero_none t time ready x)
    (subst (λ (z : Bool). is_other (some_pods ready a) (cond z (zero_rule_in x.phase t time ready x) (some_pods ready 1)) ≡ true) (sym zero)
    (by s.to_zero refl x.phase refl (nat_lt (time - x.phase_since) (1000 * s.stable_s)) refl kept))
  where
    by : (z : Bool) → s.to_zero ≡ z → (p : Phase) → x.phase ≡ p → (y : Bool) → nat_lt (time - x.phase_since) (1000 * s.stable_s) ≡ y
        → not ((a == 1) && (not z || is_young s p (time - x.phase_since))) ≡ true
        → is_other (some_pods ready a) (cond z (zero_rule_in p t time ready x) (some_pods ready 1)) ≡ true
    by false e p f y g h = kept_is_other a ready (first_not (a == 1) true refl h)
    by true e phase.Activating f y g h = stays_is_other a ready x.want phase.Activating
    by true e phase.Active f true g h =
        rw (window, not_lasted x.phase_since (1000 * s.stable_s) time order g) (kept_is_other a ready (first_not (a == 1) (nat_lt (time - x.phase_since) (1000 * s.stable_s)) g h))
    by true e phase.Active f false g h = rw (window, lasted x.phase_since (1000 * s.stable_s) time order g) (goes_is_other a ready false some)
    by true e phase.Inactive f y g h = goes_is_other a ready (may_go t time x) some

-- fewer, with none among them where no pod is kept
pub lower_is_other : (s t : Spec) (time ready a b : ℕ) (x : Standing) → x.phase_since ≤ time → t.to_zero ≡ s.to_zero → t.stable_s ≡ s.stable_s → b < a
    → (nat_lt 0 b || not ((a == 1) && (not s.to_zero || is_young s x.phase (time - x.phase_since)))) ≡ true
    → is_other (zero_rule s time ready a x) (zero_rule t time ready b x) ≡ true
lower_is_other s t time ready a b x order zero window fewer kept = by (nat_lt 0 b) refl kept
  where
    by : (y : Bool) → nat_lt 0 b ≡ y → (y || not ((a == 1) && (not s.to_zero || is_young s x.phase (time - x.phase_since)))) ≡ true
        → is_other (zero_rule s time ready a x) (zero_rule t time ready b x) ≡ true
    by true e h = let some : 0 < b = grind (arith, nat_tests) in fewer_is_other s t time ready a b x some fewer
    by false e h = let none : b ≡ 0 = grind (arith, nat_tests) in rw none (none_is_other s t time ready a x order zero window (omega arith) h)

-- ---- no pod is asked for, with and without the other settings

-- scale to zero turned off where none is wanted
pub one_for_none : (s t : Spec) (time ready : ℕ) (x : Standing) → (zero_rule s time ready 0 x).want ≡ 0 → t.to_zero ≡ false → is_other (zero_rule s time ready 0 x) (zero_rule t time ready 0 x) ≡ true
one_for_none s t time ready x none off = rw (none, zero_none t time ready x, off) refl

-- one pod is kept
pub kept_one : (s : Spec) (time ready : ℕ) (x : Standing) → x.phase_since ≤ time → (not s.to_zero || is_young s x.phase (time - x.phase_since)) ≡ true → zero_rule s time ready 0 x ≡ some_pods ready 1
kept_one s time ready x order keeps = rw (zero_none s time ready x) (by s.to_zero x.phase (nat_lt (time - x.phase_since) (1000 * s.stable_s)) refl keeps)
  where
    by : (z : Bool) (p : Phase) (y : Bool) → nat_lt (time - x.phase_since) (1000 * s.stable_s) ≡ y → (not z || is_young s p (time - x.phase_since)) ≡ true
        → cond z (zero_rule_in p s time ready x) (some_pods ready 1) ≡ some_pods ready 1
    by false p y g h = refl
    by true phase.Activating y g h = absurd (let e : false ≡ true = h in cc)
    by true phase.Active true g h = rw (not_lasted x.phase_since (1000 * s.stable_s) time order g) refl
    by true phase.Active false g h = absurd (let e : false ≡ true = rw g at h in cc)
    by true phase.Inactive y g h = absurd (let e : false ≡ true = h in cc)

-- scale to zero turned on where no pod is kept by it
pub on_is_other : (s : Spec) (time ready : ℕ) (x : Standing) → x.phase_since ≤ time → s.to_zero ≡ false → is_young s x.phase (time - x.phase_since) ≡ false
    → is_other (zero_rule s time ready 0 x) (zero_rule (record s { to_zero = true }) time ready 0 x) ≡ true
on_is_other s time ready x order off old = rw (zero_none s time ready x, zero_none (record s { to_zero = true }) time ready x, off) (by x.phase old)
  where
    by : (p : Phase) → is_young s p (time - x.phase_since) ≡ false → is_other (some_pods ready 1) (zero_rule_in p (record s { to_zero = true }) time ready x) ≡ true
    by phase.Activating h = stays_is_other 1 ready x.want phase.Activating
    by phase.Active h = rw (lasted x.phase_since (1000 * s.stable_s) time order h) refl
    by phase.Inactive h = goes_is_other 1 ready (may_go (record s { to_zero = true }) time x) (lit< tt)

-- goes inactive, or is it
pub none_wanted : (s : Spec) (time ready : ℕ) (x : Standing) → s.to_zero ≡ true → x.phase ≡ phase.Active → has_lasted x.phase_since (1000 * s.stable_s) time ≡ true
    → zero_rule s time ready 0 x ≡ no_pods false
none_wanted s time ready x on active old = rw (zero_none s time ready x, on, active, old) refl

pub none_inactive : (s : Spec) (time ready : ℕ) (x : Standing) → s.to_zero ≡ true → x.phase ≡ phase.Inactive → zero_rule s time ready 0 x ≡ no_pods (may_go s time x)
none_inactive s time ready x on inactive = rw (zero_none s time ready x, on, inactive) refl

-- some pods within the window, asked for or one
young_some : (t : Spec) (time ready bounded : ℕ) (x : Standing) → x.phase ≡ phase.Active → has_lasted x.phase_since (1000 * t.stable_s) time ≡ false → 0 < (zero_rule t time ready bounded x).want
young_some t time ready bounded x active young = by (nat_lt 0 bounded) refl
  where
    at_none : (z : Bool) → t.to_zero ≡ z → 0 < (zero_rule t time ready 0 x).want
    at_none true e = rw (zero_none t time ready x, e, active, young) (lit< tt)
    at_none false e = rw (zero_none t time ready x, e) (lit< tt)

    by : (b : Bool) → nat_lt 0 bounded ≡ b → 0 < (zero_rule t time ready bounded x).want
    by true e = let some : 0 < bounded = grind (arith, nat_tests) in rw (zero_some t time ready bounded x some) some
    by false e = let none : bounded ≡ 0 = grind (arith, nat_tests) in rw none (at_none t.to_zero refl)

-- a longer window keeps some where none is wanted
pub longer_is_other : (s t : Spec) (time ready bounded : ℕ) (x : Standing) → zero_rule s time ready 0 x ≡ no_pods false → x.phase ≡ phase.Active → has_lasted x.phase_since (1000 * t.stable_s) time ≡ false
    → is_other (zero_rule s time ready 0 x) (zero_rule t time ready bounded x) ≡ true
longer_is_other s t time ready bounded x none active young =
    let some = young_some t time ready bounded x active young in
    rw (none, more_differ 0 (zero_rule t time ready bounded x).want some) refl

-- a shorter one lets the pod go that was kept
pub shorter_is_other : (s t : Spec) (time ready : ℕ) (x : Standing) → zero_rule s time ready 0 x ≡ some_pods ready 1 → zero_rule t time ready 0 x ≡ no_pods false
    → is_other (zero_rule s time ready 0 x) (zero_rule t time ready 0 x) ≡ true
shorter_is_other s t time ready x one none = rw (one, none) refl

-- pods that wait for the first ready one, with and without a bound above none
pub waits_is_other : (s t : Spec) (time ready bounded : ℕ) (x : Standing) → s.to_zero ≡ true → x.phase ≡ phase.Activating → 0 < bounded
    → is_other (zero_rule s time ready 0 x) (zero_rule t time ready bounded x) ≡ true
waits_is_other s t time ready bounded x on waits some = rw (zero_some t time ready bounded x some, zero_none s time ready x, on, waits) (or_true (not (x.want == bounded)))

-- ---- pods of an inactive revision that go in place of staying, or stay

pub flips_is_other : (s t : Spec) (time ready : ℕ) (x : Standing) → s.to_zero ≡ true → t.to_zero ≡ true → x.phase ≡ phase.Inactive → may_go t time x ≡ not (may_go s time x)
    → is_other (zero_rule s time ready 0 x) (zero_rule t time ready 0 x) ≡ true
flips_is_other s t time ready x on on' inactive other =
    rw (none_inactive s time ready x on inactive, none_inactive t time ready x on' inactive, other) (by (may_go s time x))
  where
    by : (b : Bool) → is_other (no_pods b) (no_pods (not b)) ≡ true
    by true = refl
    by false = refl

most_zero : (n : ℕ) → max 0 n ≡ n
most_zero n = omega arith

zero_most : (n : ℕ) → max n 0 ≡ n
zero_most n = omega arith

-- without a grace period they go once the retention is over
pub goes_by_grace : (s : Spec) (time : ℕ) (x : Standing) → has_lasted x.phase_since s.retention_ms time ≡ true → may_go (record s { grace_ms = 0 }) time x ≡ true
unfolding may_go
goes_by_grace s time x over = rw (most_zero s.retention_ms, over) refl

lasts_none : (since time : ℕ) → since ≤ time → has_lasted since 0 time ≡ true
lasts_none since time order = grind (arith, nat_tests)

-- without a retention once the grace period is over, by the phase or by the mode
pub goes_by_retention : (s : Spec) (time : ℕ) (x : Standing) → x.phase_since ≤ time
    → (has_lasted x.phase_since s.grace_ms time || (is_proxy x.mode && has_lasted x.mode_since s.grace_ms time)) ≡ true → may_go (record s { retention_ms = 0 }) time x ≡ true
unfolding may_go
goes_by_retention s time x order over = rw (zero_most s.grace_ms, lasts_none x.phase_since time order) over

-- without both at once
pub goes_by_both : (s : Spec) (time : ℕ) (x : Standing) → x.phase_since ≤ time → may_go (record s { grace_ms = 0; retention_ms = 0 }) time x ≡ true
unfolding may_go
goes_by_both s time x order = rw (lasts_none x.phase_since time order) refl

longer_waits : (since ms time : ℕ) → has_lasted since hour_ms time ≡ false → has_lasted since (max ms hour_ms) time ≡ false
longer_waits since ms time young = grind (arith, nat_tests)

-- with the longest retention they stay for an hour
pub stays_by_retention : (s : Spec) (time : ℕ) (x : Standing) → has_lasted x.phase_since hour_ms time ≡ false → may_go (record s { retention_ms = hour_ms }) time x ≡ false
unfolding may_go
stays_by_retention s time x young = rw (longer_waits x.phase_since s.grace_ms time young, young) refl

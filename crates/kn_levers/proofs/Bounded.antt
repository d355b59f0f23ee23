-- A count within its bounds.
use Rattle.std.proofs.Common.{◌≡◌, refl, ℕ, ◌<◌, ◌≤◌, Bool, true, false, cond, ◌||◌, arith}
use Rattle.std.specs.Prelude.{◌==◌, nat_lt, max, min}
use Rattle.std.proofs.lemmas.Bool.Decides.{nat_tests}
use Rattle.kn_event.specs.Revision.{AreInRange}
use Rattle.kn_event.specs.declared.revision.Spec.{Spec}
use Rattle.kn_scaling.specs.Zero.{bounded_count, lower_bound, pods_most}

-- ---- the lower bound

pub min_least : (t : Spec) (reached : Bool) → t.min ≤ lower_bound t reached
unfolding lower_bound
min_least t true = omega arith
min_least t false = omega arith

pub initial_least : (t : Spec) (reached : Bool) → reached ≡ false → t.initial ≤ lower_bound t reached
unfolding lower_bound
initial_least t reached never = rw never (omega arith)

pub lower_within : (t : Spec) (reached : Bool) (k : ℕ) → t.min ≤ k → (reached ≡ false → t.initial ≤ k) → lower_bound t reached ≤ k
unfolding lower_bound
lower_within t true k least initial = least
lower_within t false k least initial = let few = initial refl in omega arith

pub lower_most : (s : Spec) (reached : Bool) → AreInRange s → lower_bound s reached ≤ pods_most
lower_most s reached range = lower_within s reached pods_most range.min (λ never. range.initial)

-- ---- a count

pub bounded_most : (s : Spec) (reached : Bool) (n : ℕ) → bounded_count s reached n ≤ pods_most
unfolding bounded_count
bounded_most s reached n = omega arith

-- one below the lower bound rises to it, whatever max-scale is
pub low_rises : (t : Spec) (reached : Bool) (n b : ℕ) → n ≤ b → b < pods_most → b < lower_bound t reached → b < bounded_count t reached n
unfolding bounded_count
low_rises t reached n b asked few low = by (nat_lt n (lower_bound t reached)) refl
  where
    by : (x : Bool) → nat_lt n (lower_bound t reached) ≡ x → b < bounded_count t reached n
    by true e = rw e (omega arith)
    by false e = absurd (grind (arith, nat_tests))

-- more that are asked for are wanted, where max-scale lets them
pub more_rises : (t : Spec) (reached : Bool) (n b : ℕ) → b < n → b < pods_most → (t.max == 0 || nat_lt b t.max) ≡ true → b < bounded_count t reached n
unfolding bounded_count
more_rises t reached n b more few room = by (nat_lt n (lower_bound t reached)) refl (t.max == 0) refl
  where
    by : (x : Bool) → nat_lt n (lower_bound t reached) ≡ x → (y : Bool) → (t.max == 0) ≡ y → b < bounded_count t reached n
    by true e y f = rw e (let less : n < lower_bound t reached = grind (arith, nat_tests) in omega arith)
    by false e true f = rw (e, f) (omega arith)
    by false e false f = rw (e, f) (let less : b < t.max = grind (arith, nat_tests) in omega arith)

pub bounded_within : (s : Spec) (reached : Bool) (n : ℕ) → bounded_count s reached n ≤ max (lower_bound s reached) n
unfolding bounded_count
bounded_within s reached n = by (nat_lt n (lower_bound s reached)) refl (s.max == 0) refl
  where
    by : (x : Bool) → nat_lt n (lower_bound s reached) ≡ x → (y : Bool) → (s.max == 0) ≡ y → bounded_count s reached n ≤ max (lower_bound s reached) n
    by true e y f = rw e (omega arith)
    by false e true f = rw (e, f) (omega arith)
    by false e false f = rw (e, f) (omega arith)

pub bounded_some : (s : Spec) (reached : Bool) (n : ℕ) → 0 < max (lower_bound s reached) n → 0 < bounded_count s reached n
unfolding bounded_count
bounded_some s reached n some = by (nat_lt n (lower_bound s reached)) refl (s.max == 0) refl
  where
    by : (x : Bool) → nat_lt n (lower_bound s reached) ≡ x → (y : Bool) → (s.max == 0) ≡ y → 0 < bounded_count s reached n
    by true e y f = rw e (let less : n < lower_bound s reached = grind (arith, nat_tests) in omega arith)
    by false e true f = rw (e, f) (let least : lower_bound s reached ≤ n = grind (arith, nat_tests) in omega arith)
    by false e false f =
        rw (e, f) (let least : lower_bound s reached ≤ n = grind (arith, nat_tests) in let most : 0 < s.max = grind (arith, nat_tests) in omega arith)

-- no fewer than the lower bound are asked for, where no more are wanted than asked for
pub lower_fits : (s : Spec) (reached : Bool) (n : ℕ) → lower_bound s reached ≤ pods_most → bounded_count s reached n ≤ n → lower_bound s reached ≤ n
unfolding bounded_count
lower_fits s reached n most fits = by (nat_lt n (lower_bound s reached)) refl fits
  where
    by : (x : Bool) → nat_lt n (lower_bound s reached) ≡ x → min pods_most (cond x (lower_bound s reached) (cond (s.max == 0) n (min s.max n))) ≤ n → lower_bound s reached ≤ n
    by true e h = let less : n < lower_bound s reached = grind (arith, nat_tests) in omega arith
    by false e h = grind (arith, nat_tests)

-- more are wanted than are asked for: by the lower bound
pub raised_is : (s : Spec) (reached : Bool) (n : ℕ) → lower_bound s reached ≤ pods_most → n < bounded_count s reached n → bounded_count s reached n ≡ lower_bound s reached
unfolding bounded_count
raised_is s reached n most more = by (nat_lt n (lower_bound s reached)) refl (s.max == 0) refl more
  where
    by : (x : Bool) → nat_lt n (lower_bound s reached) ≡ x → (y : Bool) → (s.max == 0) ≡ y
        → n < min pods_most (cond x (lower_bound s reached) (cond y n (min s.max n)))
        → min pods_most (cond x (lower_bound s reached) (cond y n (min s.max n))) ≡ lower_bound s reached
    by true e y f h = omega arith
    by false e true f h = absurd (omega arith)
    by false e false f h = absurd (omega arith)

-- none is asked for where none is wanted
pub none_asked : (s : Spec) (reached : Bool) (n : ℕ) → bounded_count s reached n ≡ 0 → n ≡ 0
unfolding bounded_count
none_asked s reached n none = by (nat_lt n (lower_bound s reached)) refl (s.max == 0) refl none
  where
    by : (x : Bool) → nat_lt n (lower_bound s reached) ≡ x → (y : Bool) → (s.max == 0) ≡ y
        → min pods_most (cond x (lower_bound s reached) (cond y n (min s.max n))) ≡ 0 → n ≡ 0
    by true e y f h = let less : n < lower_bound s reached = grind (arith, nat_tests) in absurd (omega arith)
    by false e true f h = omega arith
    by false e false f h = let most : 0 < s.max = grind (arith, nat_tests) in omega arith

-- a lower bound of some pods, below which as many or fewer are asked for
pub sinks : (t : Spec) (reached : Bool) (n k : ℕ) → lower_bound t reached ≡ k → n ≤ k → 0 < k → (0 < bounded_count t reached n) × (bounded_count t reached n ≤ k)
unfolding bounded_count
sinks t reached n k low asked some = by (nat_lt n (lower_bound t reached)) refl (t.max == 0) refl
  where
    by : (x : Bool) → nat_lt n (lower_bound t reached) ≡ x → (y : Bool) → (t.max == 0) ≡ y → (0 < bounded_count t reached n) × (bounded_count t reached n ≤ k)
    by true e y f = rw e (omega arith, omega arith)
    by false e true f = let least : lower_bound t reached ≤ n = grind (arith, nat_tests) in rw (e, f) (omega arith, omega arith)
    by false e false f =
        let least : lower_bound t reached ≤ n = grind (arith, nat_tests) in
        let most : 0 < t.max = grind (arith, nat_tests) in
        rw (e, f) (omega arith, omega arith)

-- max-scale, below which no lower bound holds
pub at_most : (t : Spec) (reached : Bool) (n k : ℕ) → t.max ≡ k → 0 < k → k ≤ pods_most → lower_bound t reached ≤ n → k ≤ n → bounded_count t reached n ≡ k
unfolding bounded_count
at_most t reached n k most some few low asked = by (nat_lt n (lower_bound t reached)) refl (t.max == 0) refl
  where
    by : (x : Bool) → nat_lt n (lower_bound t reached) ≡ x → (y : Bool) → (t.max == 0) ≡ y → bounded_count t reached n ≡ k
    by true e y f = absurd (grind (arith, nat_tests))
    by false e true f = absurd (grind (arith, nat_tests))
    by false e false f = rw (e, f) (omega arith)

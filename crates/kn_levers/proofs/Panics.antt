-- What is asked for in panic and out of it.
use Rattle.std.proofs.Common.{◌≡◌, refl, sym, ◌∙◌, ℕ, ◌+◌, ◌-◌, ◌≤◌, Bool, true, false, cond, arith, List, [], ◌∷◌, Option, None, Some}
use Rattle.std.specs.Prelude.{nat_lt, nat_le, max}
use Rattle.std.specs.List.{filter, find}
use Rattle.std.proofs.lemmas.Bool.Decides.{nat_tests}
use Rattle.kn_scaling.specs.declared.delay.Asked.{Asked}
use Rattle.kn_scaling.specs.declared.panic.Judged.{Judged}
use Rattle.kn_scaling.specs.Delay.{delayed_count, is_recent, recent_count}
use Rattle.kn_scaling.specs.Panic.{greatest_of_run, greater_count, is_over_decision, is_panicking, is_within_window, panicking_run, undelayed_count}

-- in panic at least what the decision itself asks for
pub most_of_run : (d : Judged) (earlier : List Judged) → is_panicking (d ∷ earlier) ≡ true → greater_count d ≤ undelayed_count (d ∷ earlier)
unfolding undelayed_count greatest_of_run panicking_run
most_of_run d earlier panics = rw panics (omega arith)

pub calm_count : (d : Judged) (earlier : List Judged) → is_panicking (d ∷ earlier) ≡ false → undelayed_count (d ∷ earlier) ≡ d.counts.stable_count
unfolding undelayed_count
calm_count d earlier calm = rw calm refl

pub stable_least : (d : Judged) (earlier : List Judged) → d.counts.stable_count ≤ undelayed_count (d ∷ earlier)
stable_least d earlier = by (is_panicking (d ∷ earlier)) refl
  where
    by : (x : Bool) → is_panicking (d ∷ earlier) ≡ x → d.counts.stable_count ≤ undelayed_count (d ∷ earlier)
    by true e = let most = most_of_run d earlier e in omega arith
    by false e = let same = calm_count d earlier e in omega arith

-- the window is no shorter
within_stays : (a c : Judged) (o : Option Judged) → a.time ≡ c.time → a.window_ms ≤ c.window_ms → is_within_window a o ≡ true → is_within_window c o ≡ true
within_stays a c None time window h = h
within_stays a c (Some last) time window h = grind (arith, nat_tests)

-- who panics does so with a window that is no shorter, and over where it was over
pub panic_stays : (a c : Judged) (earlier : List Judged) → a.time ≡ c.time → a.window_ms ≤ c.window_ms → (a.counts.over ≡ true → c.counts.over ≡ true)
    → is_panicking (a ∷ earlier) ≡ true → is_panicking (c ∷ earlier) ≡ true
unfolding is_panicking
panic_stays a c earlier time window over panics = by c.counts.over refl a.counts.over refl panics
  where
    now : nat_le c.time (c.time + c.window_ms) ≡ true
    now = grind (arith, nat_tests)

    by : (x : Bool) → c.counts.over ≡ x → (y : Bool) → a.counts.over ≡ y → is_within_window a (cond y (Some a) (find is_over_decision earlier)) ≡ true
        → is_within_window c (cond x (Some c) (find is_over_decision earlier)) ≡ true
    by true e y f h = now
    by false e true f h = absurd (let g : false ≡ true = sym e ∙ over f in cc)
    by false e false f h = within_stays a c (find is_over_decision earlier) time window h

in_both_runs : (a c : Judged) (earlier : List Judged) → a.counts.stable_count ≤ c.counts.stable_count → a.counts.panic_count ≤ c.counts.panic_count
    → is_panicking (a ∷ earlier) ≡ true → is_panicking (c ∷ earlier) ≡ true → undelayed_count (a ∷ earlier) ≤ undelayed_count (c ∷ earlier)
unfolding undelayed_count greatest_of_run panicking_run
in_both_runs a c earlier stable panic e f = rw (e, f) (omega (arith, stable, panic))

-- counts that are no more, over no more often, with a window that is no longer, ask for no more
pub fewer_ask : (a c : Judged) (earlier : List Judged) → a.time ≡ c.time → a.window_ms ≤ c.window_ms → (a.counts.over ≡ true → c.counts.over ≡ true)
    → a.counts.stable_count ≤ c.counts.stable_count → a.counts.panic_count ≤ c.counts.panic_count → undelayed_count (a ∷ earlier) ≤ undelayed_count (c ∷ earlier)
fewer_ask a c earlier time window over stable panic = by (is_panicking (a ∷ earlier)) refl (is_panicking (c ∷ earlier)) refl
  where
    by : (x : Bool) → is_panicking (a ∷ earlier) ≡ x → (y : Bool) → is_panicking (c ∷ earlier) ≡ y → undelayed_count (a ∷ earlier) ≤ undelayed_count (c ∷ earlier)
    by true e true f = in_both_runs a c earlier stable panic e f
    by true e false f = let panics = panic_stays a c earlier time window over e in absurd (let g : false ≡ true = sym f ∙ panics in cc)
    by false e y f =
        let asks = calm_count a earlier e in
        let least = stable_least c earlier in
        omega (arith, asks, least, stable)

-- ---- the delay

pub delayed_is : (delay : ℕ) (a : Asked) (earlier : List Asked) → delayed_count delay (a ∷ earlier) ≡ max a.count (recent_count delay a.second earlier)
unfolding delayed_count
delayed_is delay a earlier = refl

none_recent : (second : ℕ) (earlier : List Asked) → filter (is_recent 0 second) earlier ≡ []
none_recent second [] = refl
none_recent second (a ∷ earlier) = rw (never (second - a.second)) (none_recent second earlier)
  where
    never : (n : ℕ) → nat_lt n 0 ≡ false
    never n = grind (arith, nat_tests)

-- without a delay what the decision itself asks for
pub undelayed_alone : (a : Asked) (earlier : List Asked) → delayed_count 0 (a ∷ earlier) ≡ a.count
unfolding delayed_count recent_count
undelayed_alone a earlier = rw (none_recent a.second earlier) (omega arith)

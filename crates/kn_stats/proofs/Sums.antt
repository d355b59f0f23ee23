-- Sums over changes: one change more, a later second, and a stretch that ends earlier.
use Rattle.std.proofs.Common.{◌≡◌, refl, sym, ap, ◌∙◌, ℕ, ◌+◌, ◌-◌, ◌*◌, ◌≤◌, ◌<◌, Bool, true, false, cond, ◌&&◌, ◌||◌, List, [], ◌∷◌, ◌++◌, arith}
use Rattle.std.specs.Prelude.{◌==◌, if◌then◌else◌}
use Rattle.std.specs.List.{sum_by}
use Rattle.std.proofs.lemmas.List.Sums.{sum_by-cons, sum_by_push}
use Rattle.kn_scaling.specs.Average.{second_of}
use Rattle.kn_stats.specs.declared.change.Change.{Change}
use Rattle.kn_stats.specs.declared.tally.Tally.{Tally}
use Rattle.kn_stats.specs.Changes.{AreBy, TimedChange, after_in, after_sum, arrived_by, count_of, is_start, part, timed}
use Rattle.kn_stats.specs.Pods.{anew, no_tally, so_far, tally_after}
use Rattle.kn_stats.specs.Totals.{IsTally, left_of}

abbrev one_if : Bool → ℕ
one_if b = cond b 1 0

-- ---- one change more

pub by-push : (t : ℕ) (cs : List TimedChange) (x : TimedChange) → AreBy t cs → x.time ≤ t → AreBy t (cs ++ x ∷ [])
by-push t [] x h le = (le, tt)
by-push t (y ∷ ys) x h le = (h.0, by-push t ys x h.1 le)

pub by-later : (t u : ℕ) (cs : List TimedChange) → t ≤ u → AreBy t cs → AreBy u cs
by-later t u [] le h = tt
by-later t u (x ∷ xs) le h = (omega (arith, le, h.0), by-later t u xs le h.1)

pub count-push : (test : Change → Bool) (cs : List TimedChange) (x : TimedChange) → count_of test (cs ++ x ∷ []) ≡ count_of test cs + one_if (test x.change)
unfolding count_of
count-push test cs x = sum_by_push (λ (y : TimedChange). cond (test y.change) 1 0) cs x

pub after-push : (test : Change → Bool) (from until : ℕ) (cs : List TimedChange) (x : TimedChange) → after_sum test from until (cs ++ x ∷ []) ≡ after_sum test from until cs + part test from until x
unfolding after_sum
after-push test from until cs x = sum_by_push (part test from until) cs x

-- the second of a change has as much after it as is left
here : (t : ℕ) → after_in (1000 * second_of t) (1000 * (second_of t + 1)) t ≡ left_of t
here t = omega arith

part-here : (test : Change → Bool) (time : ℕ) (c : Change) (b : Bool) → test c ≡ b → part test (1000 * second_of time) (1000 * (second_of time + 1)) (timed time c) ≡ (if b then left_of time else 0)
part-here test time c b e = ap (λ v. if v then after_in (1000 * second_of time) (1000 * (second_of time + 1)) time else 0) e ∙ by b
  where
    by : (v : Bool) → (if v then after_in (1000 * second_of time) (1000 * (second_of time + 1)) time else 0) ≡ (if v then left_of time else 0)
    by true = here time
    by false = refl

pub tally_push : (begins ends : Change → Bool) (time : ℕ) (c : Change) (t : Tally) (cs : List TimedChange) (b e : Bool) → begins c ≡ b → ends c ≡ e → (b ≡ true → e ≡ false)
    → (e ≡ true → (0 < t.count) × (left_of time ≤ t.area)) → IsTally begins ends (second_of time) t cs → IsTally begins ends (second_of time) (tally_after b e (left_of time) t) (cs ++ timed time c ∷ [])
tally_push begins ends time c t cs b e is_b is_e apart there is = by b e is_b is_e apart there
  where
    s : ℕ
    s = second_of time

    nb : (v : Bool) → begins c ≡ v → count_of begins (cs ++ timed time c ∷ []) ≡ count_of begins cs + one_if v
    nb v h = count-push begins cs (timed time c) ∙ ap (λ w. count_of begins cs + one_if w) h

    ne : (v : Bool) → ends c ≡ v → count_of ends (cs ++ timed time c ∷ []) ≡ count_of ends cs + one_if v
    ne v h = count-push ends cs (timed time c) ∙ ap (λ w. count_of ends cs + one_if w) h

    ab : (v : Bool) → begins c ≡ v → after_sum begins (1000 * s) (1000 * (s + 1)) (cs ++ timed time c ∷ []) ≡ after_sum begins (1000 * s) (1000 * (s + 1)) cs + (if v then left_of time else 0)
    ab v h = after-push begins (1000 * s) (1000 * (s + 1)) cs (timed time c) ∙ ap (λ m. after_sum begins (1000 * s) (1000 * (s + 1)) cs + m) (part-here begins time c v h)

    ae : (v : Bool) → ends c ≡ v → after_sum ends (1000 * s) (1000 * (s + 1)) (cs ++ timed time c ∷ []) ≡ after_sum ends (1000 * s) (1000 * (s + 1)) cs + (if v then left_of time else 0)
    ae v h = after-push ends (1000 * s) (1000 * (s + 1)) cs (timed time c) ∙ ap (λ m. after_sum ends (1000 * s) (1000 * (s + 1)) cs + m) (part-here ends time c v h)

    by : (b e : Bool) → begins c ≡ b → ends c ≡ e → (b ≡ true → e ≡ false) → (e ≡ true → (0 < t.count) × (left_of time ≤ t.area)) → IsTally begins ends s (tally_after b e (left_of time) t) (cs ++ timed time c ∷ [])
    by true true x y apart there = absurd (let h = apart refl in cc)
    by true false x y apart there = record { count = omega (arith, nb true x, ne false y, is.count); area = omega (arith, ab true x, ae false y, is.area) }
    by false true x y apart there =
        let some = there refl in
        record { count = omega (arith, nb false x, ne true y, is.count, some.0); area = omega (arith, ab false x, ae true y, is.area, some.1) }
    by false false x y apart there = record { count = omega (arith, nb false x, ne false y, is.count); area = omega (arith, ab false x, ae false y, is.area) }

same-second : (s : ℕ) → (s == s) ≡ true
same-second s = grind (arith)

and-true : (a b : Bool) → b ≡ true → (a && b) ≡ a
and-true true b h = h
and-true false b h = refl

pub arrived-push : (cs : List TimedChange) (time : ℕ) (c : Change) → arrived_by (cs ++ timed time c ∷ []) (second_of time) ≡ arrived_by cs (second_of time) + one_if (is_start c)
unfolding arrived_by
arrived-push cs time c =
    let s = second_of time in
    sum_by_push (λ (y : TimedChange). cond (is_start y.change && (second_of y.time == s)) 1 0) cs (timed time c)
    ∙ ap (λ b. sum_by (λ (y : TimedChange). cond (is_start y.change && (second_of y.time == s)) 1 0) cs + one_if b) (and-true (is_start c) (s == s) (same-second s))

-- ---- nothing yet

pub tally_none : (begins ends : Change → Bool) (second : ℕ) → IsTally begins ends second no_tally []
unfolding count_of after_sum
tally_none begins ends second = record { count = refl; area = refl }

-- ---- a second after all changes

all-after : (b : Bool) (m : ℕ) → m ≡ 1000 → (if b then m else 0) ≡ 1000 * cond b 1 0
all-after true m h = omega (arith, h)
all-after false m h = omega arith

pub sum-past : (test : Change → Bool) (s t : ℕ) (cs : List TimedChange) → second_of t < s → AreBy t cs → after_sum test (1000 * s) (1000 * (s + 1)) cs ≡ 1000 * count_of test cs
unfolding after_sum count_of
sum-past test s t [] h all = refl
sum-past test s t (x ∷ xs) h all =
    let a = sum_by-cons (part test (1000 * s) (1000 * (s + 1))) x xs in
    let b = sum_by-cons (λ (y : TimedChange). cond (test y.change) 1 0) x xs in
    let whole : after_in (1000 * s) (1000 * (s + 1)) x.time ≡ 1000 = omega (arith, h, all.0) in
    let one = all-after (test x.change) (after_in (1000 * s) (1000 * (s + 1)) x.time) whole in
    let more = sum-past test s t xs h all.1 in
    omega (arith, a, b, one, more)

pub tally_anew : (begins ends : Change → Bool) (second s time : ℕ) (t : Tally) (cs : List TimedChange) → second_of time < s → AreBy time cs → IsTally begins ends second t cs → IsTally begins ends s (anew t) cs
tally_anew begins ends second s time t cs later by is =
    let a = sum-past begins s time cs later by in
    let b = sum-past ends s time cs later by in
    record { count = is.count; area = omega (arith, a, b, is.count) }

and-no : (x b : Bool) → b ≡ false → (x && b) ≡ false
and-no true b h = h
and-no false b h = refl

other-second : (s t u : ℕ) → second_of t < s → u ≤ t → (second_of u == s) ≡ false
other-second s t u h le = let d : second_of u < s = omega (arith, h, le) in grind (arith, d)

pub past-arrived : (s t : ℕ) (cs : List TimedChange) → second_of t < s → AreBy t cs → arrived_by cs s ≡ 0
unfolding arrived_by
past-arrived s t [] h all = refl
past-arrived s t (x ∷ xs) h all =
    let a = sum_by-cons (λ (y : TimedChange). cond (is_start y.change && (second_of y.time == s)) 1 0) x xs in
    let none = ap one_if (and-no (is_start x.change) (second_of x.time == s) (other-second s t x.time h all.0)) in
    omega (arith, a, none, past-arrived s t xs h all.1)

-- ---- two kinds at once

both-parts : (f g : Bool) (m : ℕ) → (f ≡ true → g ≡ false) → (if f || g then m else 0) ≡ (if f then m else 0) + (if g then m else 0)
both-parts true true m apart = absurd (let h = apart refl in cc)
both-parts true false m apart = omega arith
both-parts false g m apart = omega arith

pub sum-both : (f g : Change → Bool) (from until : ℕ) (cs : List TimedChange) → ((c : Change) → f c ≡ true → g c ≡ false)
    → after_sum (λ c. f c || g c) from until cs ≡ after_sum f from until cs + after_sum g from until cs
unfolding after_sum
sum-both f g from until [] apart = refl
sum-both f g from until (x ∷ xs) apart =
    let a = sum_by-cons (part (λ c. f c || g c) from until) x xs in
    let b = sum_by-cons (part f from until) x xs in
    let d = sum_by-cons (part g from until) x xs in
    let one = both-parts (f x.change) (g x.change) (after_in from until x.time) (apart x.change) in
    omega (arith, a, b, d, one, sum-both f g from until xs apart)

-- ---- a stretch that ends at this time

shorter-part : (b : Bool) (m n left : ℕ) → m ≡ n + left → (if b then m else 0) ≡ (if b then n else 0) + cond b 1 0 * left
shorter-part true m n left h = omega (arith, h)
shorter-part false m n left h = omega arith

count_product : (a b left : ℕ) → (a + b) * left ≡ a * left + b * left
count_product a b left = grind (arith)

sum-shorter : (test : Change → Bool) (time : ℕ) (cs : List TimedChange) → AreBy time cs
    → after_sum test (1000 * second_of time) (1000 * (second_of time + 1)) cs ≡ after_sum test (1000 * second_of time) time cs + count_of test cs * left_of time
unfolding after_sum count_of
sum-shorter test time [] all = omega arith
sum-shorter test time (x ∷ xs) all =
    let s = second_of time in
    let a = sum_by-cons (part test (1000 * s) (1000 * (s + 1))) x xs in
    let b = sum_by-cons (part test (1000 * s) time) x xs in
    let n = ap (λ m. m * left_of time) (sum_by-cons (λ (y : TimedChange). cond (test y.change) 1 0) x xs)
    ∙ count_product (cond (test x.change) 1 0) (sum_by (λ (y : TimedChange). cond (test y.change) 1 0) xs) (left_of time) in
    let split : after_in (1000 * s) (1000 * (s + 1)) x.time ≡ after_in (1000 * s) time x.time + left_of time = omega (arith, all.0) in
    let one = shorter-part (test x.change) (after_in (1000 * s) (1000 * (s + 1)) x.time) (after_in (1000 * s) time x.time) (left_of time) split in
    omega (arith, a, b, n, one, sum-shorter test time xs all.1)

-- what was taken up to now, with the ends taken back
pub so_far_is : (begins ends : Change → Bool) (time : ℕ) (t : Tally) (cs : List TimedChange) → AreBy time cs → IsTally begins ends (second_of time) t cs
    → so_far (left_of time) t + after_sum ends (1000 * second_of time) time cs ≡ after_sum begins (1000 * second_of time) time cs + (t.count * left_of time - t.area)
so_far_is begins ends time t cs by is =
    let a = sum-shorter begins time cs by in
    let b = sum-shorter ends time cs by in
    let n = ap (λ m. m * left_of time) (sym is.count) ∙ count_product t.count (count_of ends cs) (left_of time) in
    omega (arith, a, b, n, is.area)

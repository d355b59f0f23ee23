-- A second that is over: what is added later changes neither its load nor its count nor whether it is a sample.
use Rattle.std.proofs.Common.{◌≡◌, refl, sym, ap, ◌∙◌, ◌+◌, ◌-◌, ◌*◌, ◌≤◌, ◌<◌, ℕ, Bool, true, false, List, [], ◌∷◌, ◌++◌, arith, length, max, min, cond, append-nil}
use Rattle.std.specs.Prelude.{Option, None, Some, ⊤, nat_lt, ◌/◌, ◌==◌, if◌then◌else◌}
use Rattle.std.specs.Bool.{then_some}
use Rattle.std.specs.List.{cons_option, filter_map, sum_by}
use Rattle.std.proofs.lemmas.List.Elements.{filter_map-append, filter-append}
use Rattle.std.proofs.lemmas.List.Sums.{sum_by-append, sum_by-cons}
use Rattle.kn_event.specs.declared.revision.Metric.{Metric}
use Rattle.kn_event.specs.Lists.{is_some_of}
use Rattle.kn_scaling.specs.Average.{window_average}
use Rattle.kn_trace.specs.Rows.{ended_by, taken_by}
use Rattle.kn_trace.specs.Trace.{Trace, first_of}
use Rattle.kn_trace.specs.Load.{count_in, count_most, end_by, end_of, end_within, entries_before, has_ready_pod, load_in, samples, taken_in}
use Rattle.kn_past.specs.Seconds.{AreFrom, end_of_second, sample_by}
use Rattle.kn_past.proofs.Adds.{adds, adds_of, load-sum}
use Rattle.kn_past.proofs.Below.{average_below}

-- ---- the load

abbrev BeginsFrom : ℕ → List ℕ → Type 0
BeginsFrom b [] = ⊤
BeginsFrom b (t ∷ ts) = b ≤ t

ends-by : (b t : ℕ) (x : Bool) (ts : List ℕ) → b ≤ t → BeginsFrom b ts → BeginsFrom b (cons_option (then_some x t) ts)
ends-by b t true ts h more = h
ends-by b t false ts h more = more

ends_from : (b r : ℕ) (d : Trace) → AreFrom b d → BeginsFrom b (filter_map (end_by r) d)
ends_from b r [] h = tt
ends_from b r (e ∷ es) h = ends-by b e.time (is_some_of r (ended_by e.row)) (filter_map (end_by r) es) h.0 (ends_from b r es h.1)

within_same : (b : ℕ) (xs ys : List ℕ) → BeginsFrom b ys → end_within b (first_of (xs ++ ys)) ≡ end_within b (first_of xs)
within_same b [] [] h = refl
within_same b [] (y ∷ ys) h = omega (arith, h)
within_same b (x ∷ xs) ys h = refl

end_same : (b r : ℕ) (c d : Trace) → AreFrom b d → end_within b (end_of (c ++ d) r) ≡ end_within b (end_of c r)
unfolding end_of
end_same b r c d h = rw (filter_map-append (end_by r) c d) (within_same b (filter_map (end_by r) c) (filter_map (end_by r) d) (ends_from b r d h))

end_most : (b : ℕ) (o : Option ℕ) → end_within b o ≤ b
end_most b None = omega arith
end_most b (Some t) = omega arith

adds-by : (n from : ℕ) (f g : ℕ → Option ℕ) → ((r : ℕ) → end_within (1000 * (n + 1)) (f r) ≡ end_within (1000 * (n + 1)) (g r)) → (o : Option ℕ) → adds_of n from f o ≡ adds_of n from g o
adds-by n from f g same None = refl
adds-by n from f g same (Some r) = ap (λ m. m - max (1000 * n) from) (same r)

none-by : (n from : ℕ) (f : ℕ → Option ℕ) → 1000 * (n + 1) ≤ from → (o : Option ℕ) → adds_of n from f o ≡ 0
none-by n from f h None = refl
none-by n from f h (Some r) = let m = end_most (1000 * (n + 1)) (f r) in omega (arith, m, h)

sum-within : (n : ℕ) (f g : ℕ → Option ℕ) → ((r : ℕ) → end_within (1000 * (n + 1)) (f r) ≡ end_within (1000 * (n + 1)) (g r)) → (c : Trace) → sum_by (adds n f) c ≡ sum_by (adds n g) c
sum-within n f g same [] = refl
sum-within n f g same (e ∷ es) =
    let one = adds-by n e.time f g same (taken_by e.row) in
    let more = sum-within n f g same es in
    let a = sum_by-cons (adds n f) e es in
    let b = sum_by-cons (adds n g) e es in
    omega (arith, one, more, a, b)

sum-none : (n : ℕ) (f : ℕ → Option ℕ) (d : Trace) → AreFrom (1000 * (n + 1)) d → sum_by (adds n f) d ≡ 0
sum-none n f [] h = refl
sum-none n f (e ∷ es) h =
    let one = none-by n e.time f h.0 (taken_by e.row) in
    let more = sum-none n f es h.1 in
    let a = sum_by-cons (adds n f) e es in
    omega (arith, one, more, a)

pub load-later : (c d : Trace) (n : ℕ) → AreFrom (end_of_second n) d → load_in (c ++ d) n ≡ load_in c n
load-later c d n h =
    let now = load-sum n (c ++ d) in
    let parts = sum_by-append (adds n (end_of (c ++ d))) c d in
    let same = sum-within n (end_of (c ++ d)) (end_of c) (λ r. end_same (1000 * (n + 1)) r c d h) c in
    let none = sum-none n (end_of (c ++ d)) d h in
    let was = load-sum n c in
    omega (arith, now, parts, same, none, was)

-- ---- the count

later_second : (n t : ℕ) → 1000 * (n + 1) ≤ t → (t / 1000 == n) ≡ false
later_second n t h = let d : n < t / 1000 = omega (arith, h) in grind (arith, d)

none_taken : (n : ℕ) (d : Trace) → AreFrom (1000 * (n + 1)) d → filter_map (taken_in n) d ≡ []
none_taken n [] h = refl
none_taken n (e ∷ es) h =
    ap (λ b. cons_option (if b then taken_by e.row else None) (filter_map (taken_in n) es)) (later_second n e.time h.0) ∙ none_taken n es h.1

pub count-later : (c d : Trace) (n : ℕ) → AreFrom (end_of_second n) d → count_in (c ++ d) n ≡ count_in c n
unfolding count_in
count-later c d n h =
    ap (λ (rs : List ℕ). min count_most (length rs))
    (filter_map-append (taken_in n) c d ∙ ap (λ rs. filter_map (taken_in n) c ++ rs) (none_taken n d h) ∙ append-nil (filter_map (taken_in n) c))

-- ---- the sample

late : (b t : ℕ) → b ≤ t → nat_lt t b ≡ false
late b t h = grind (arith, h)

none_before : (b : ℕ) (d : Trace) → AreFrom b d → entries_before b d ≡ []
none_before b [] h = refl
none_before b (e ∷ es) h = ap (λ x. cond x (e ∷ entries_before b es) (entries_before b es)) (late b e.time h.0) ∙ none_before b es h.1

before_same : (b : ℕ) (c d : Trace) → AreFrom b d → entries_before b (c ++ d) ≡ entries_before b c
before_same b c d h = filter-append (λ e. nat_lt e.time b) c d ∙ ap (λ xs. entries_before b c ++ xs) (none_before b d h) ∙ append-nil (entries_before b c)

pub sample_is : (m : Metric) (c : Trace) (n : ℕ) → samples m c n ≡ sample_by m (load_in c n) (count_in c n) (has_ready_pod (entries_before (end_of_second n) c))
unfolding samples load_in
sample_is m c n = refl

pub samples-later : (m : Metric) (c d : Trace) (n : ℕ) → AreFrom (end_of_second n) d → samples m (c ++ d) n ≡ samples m c n
samples-later m c d n h =
    sample_is m (c ++ d) n
    ∙ ap (λ x. sample_by m x (count_in (c ++ d) n) (has_ready_pod (entries_before (1000 * (n + 1)) (c ++ d)))) (load-later c d n h)
    ∙ ap (λ x. sample_by m (load_in c n) x (has_ready_pod (entries_before (1000 * (n + 1)) (c ++ d)))) (count-later c d n h)
    ∙ ap (λ x. sample_by m (load_in c n) (count_in c n) (has_ready_pod x)) (before_same (1000 * (n + 1)) c d h)
    ∙ sym (sample_is m c n)

-- ---- averages

from_earlier : (a b : ℕ) (d : Trace) → a ≤ b → AreFrom b d → AreFrom a d
from_earlier a b [] le h = tt
from_earlier a b (e ∷ es) le h = (omega (arith, le, h.0), from_earlier a b es le h.1)

pub average-later : (m : Metric) (c d : Trace) (n end : ℕ) → AreFrom (1000 * end) d → window_average (samples m (c ++ d)) n end ≡ window_average (samples m c) n end
average-later m c d n end h = average_below (samples m (c ++ d)) (samples m c) n end (λ s below. samples-later m c d s (from_earlier (1000 * (s + 1)) (1000 * end) d (omega (arith, below)) h))

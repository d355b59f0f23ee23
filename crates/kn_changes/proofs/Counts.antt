-- As many arrive in a second by the changes as by the entries.
use Rattle.std.proofs.Common.{◌≡◌, ℕ, ◌+◌, Bool, true, false, List, [], ◌∷◌, ◌++◌, length, refl, ap, ◌∙◌, arith}
use Rattle.std.specs.Prelude.{Option, None, Some, option_map, ◌==◌, ◌&&◌, min, if◌then◌else◌}
use Rattle.std.specs.List.{cons_option, filter_map, sum_by}
use Rattle.kn_event.specs.declared.entry.Row.{Row}
use Rattle.kn_event.specs.declared.entry.Row.TheVariants as row
use Rattle.kn_scaling.specs.Average.{second_of}
use Rattle.kn_trace.specs.Trace.{Trace, assigned, pod_of}
use Rattle.kn_trace.specs.Load.{count_in, count_most, taken_in}
use Rattle.kn_stats.specs.Changes.{TimedChange, arrived_by, arrived_count, is_start, timed}
use Rattle.kn_changes.specs.Changes.{change_by, change_of, changes_after, changes_of, end_at}
use Rattle.kn_changes.proofs.Loads.{of_change, sum-option}

-- 1 for a start in second n
abbrev one_in : ℕ → TimedChange → ℕ
one_in n x = if is_start x.change && (second_of x.time == n) then 1 else 0

abbrev counted : Option ℕ → ℕ
counted None = 0
counted (Some r) = 1

-- an end is no start
end-counts : (n t : ℕ) (o : Option ℕ) (b : Bool) → one_in n (timed t (end_at o b)) ≡ 0
end-counts n t None b = refl
end-counts n t (Some p) true = refl
end-counts n t (Some p) false = refl

-- no request is taken in with an end
none-counts : (b : Bool) → 0 ≡ counted (if b then None else None)
none-counts true = refl
none-counts false = refl

start-counts : (b : Bool) (r : ℕ) → (if b then 1 else 0) ≡ counted (if b then Some r else None)
start-counts true r = refl
start-counts false r = refl

row-counts : (n t : ℕ) (c : Trace) (x : Row) → of_change (one_in n) (option_map (timed t) (change_by c x)) ≡ counted (taken_in n (record { time = t; row = x }))
row-counts n t c (row.Admit r tag) = start-counts (second_of t == n) r
row-counts n t c (row.Direct r p) = start-counts (second_of t == n) r
row-counts n t c (row.Finish r ok) = end-counts n t (pod_of c r) (assigned c r) ∙ none-counts (second_of t == n)
row-counts n t c (row.Expire r) = end-counts n t (pod_of c r) (assigned c r) ∙ none-counts (second_of t == n)
row-counts n t c (row.Cancel r) = end-counts n t (pod_of c r) (assigned c r) ∙ none-counts (second_of t == n)
row-counts n t c (row.LostRequest r) = end-counts n t (pod_of c r) (assigned c r) ∙ none-counts (second_of t == n)
row-counts n t c _ = none-counts (second_of t == n)

length-option : (o : Option ℕ) (xs : List ℕ) → length (cons_option o xs) ≡ counted o + length xs
length-option None xs = omega arith
length-option (Some x) xs = omega arith

all-count : (n : ℕ) (d c : Trace) → sum_by (one_in n) (changes_after d c) ≡ length (filter_map (taken_in n) c)
all-count n d [] = refl
all-count n d (e ∷ es) =
    let this = sum-option (one_in n) (change_of d e) (changes_after (d ++ e ∷ []) es) in
    let one = row-counts n e.time d e.row in
    let rest = all-count n (d ++ e ∷ []) es in
    let whole = length-option (taken_in n e) (filter_map (taken_in n) es) in
    omega (arith, this, one, rest, whole)

pub count_same : (c : Trace) (n : ℕ) → arrived_count (changes_of c) n ≡ count_in c n
unfolding arrived_by changes_of count_in
count_same c n = ap (min count_most) (all-count n [] c)

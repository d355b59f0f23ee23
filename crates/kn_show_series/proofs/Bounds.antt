-- How long all requests had waited that began to run.
use Rattle.std.proofs.Common.{◌≡◌, ◌≤◌, ◌<◌, ◌+◌, ◌*◌, ◌^◌, ℕ, Bool, true, false, cond, eqb, List, [], ◌∷◌, ◌++◌, length, Option, None, Some, ap, arith, lit<}
use Rattle.std.specs.Prelude.{sum}
use Rattle.std.specs.List.{All}
use Rattle.std.proofs.lemmas.List.Elements.{All-cons, All-head, All-nil, All-tail}
use Rattle.std.proofs.lemmas.List.Sums.{sum_by-append}
use Rattle.std.proofs.lemmas.Nat.{mul-le}
use Rattle.kn_event.specs.Revision.{AreInRange}
use Rattle.kn_event.specs.declared.entry.Entry.{Entry}
use Rattle.kn_event.specs.declared.event.Event.{Event}
use Rattle.kn_event.specs.declared.revision.Spec.{Spec}
use Rattle.kn_trace.specs.Events.{added, opening, react, trace_of}
use Rattle.kn_trace.specs.Laws.{IsSettled}
use Rattle.kn_trace.specs.Trace.{Trace, each_row}
use Rattle.kn_trace.specs.Rows.{begun_by}
use Rattle.kn_record.specs.Made.{IsMade}
use Rattle.kn_record.specs.Order.{AreTimesInOrder}
use Rattle.kn_record.specs.Rows.{counted}
use Rattle.kn_laws.specs.History.{History}
use Rattle.kn_lives.specs.Lives.{by_row}
use Rattle.kn_show_series.specs.Steps.{step_of, wait_in, wait_until, waits_in}
use Rattle.kn_show_series.proofs.Lists.{length-each_row-append, length-each_row-cons, length-each_row-le}

-- ---- times

times_end : (from to : ℕ) (c : Trace) → AreTimesInOrder from c to → from ≤ to
times_end from to [] h = h
times_end from to (x ∷ c) h = let low = h.0 in let rest = times_end x.time to c h.1 in omega arith

pub times_all : (from to : ℕ) (c : Trace) → AreTimesInOrder from c to → All (λ (x : Entry). x.time ≤ to) c
times_all from to [] h = All-nil (λ (x : Entry). x.time ≤ to)
times_all from to (x ∷ c) h = All-cons (λ (y : Entry). y.time ≤ to) x c (times_end x.time to c h.1) (times_all x.time to c h.1)

-- ---- each that began waited at most so long

sum_one : (b : Bool) (o : Option ℕ) (before : Trace) (u t : ℕ) → u ≤ t → sum (cond b (wait_until u before o) []) ≤ counted o * t
sum_one false None before u t h = omega arith
sum_one false (Some q) before u t h = omega arith
sum_one true None before u t h = omega arith
sum_one true (Some q) before u t h = omega arith

sum_waits : (step start k t : ℕ) (before c : Trace) → All (λ (x : Entry). x.time ≤ t) c → sum (by_row (wait_in step start k) before c) ≤ length (each_row begun_by c) * t
unfolding by_row
sum_waits step start k t before [] h = omega arith
sum_waits step start k t before (x ∷ c) h =
    let one = sum_one (eqb (step_of step start x.time) k) (begun_by x.row) before x.time t (All-head (λ (y : Entry). y.time ≤ t) x c h) in
    let rest = sum_waits step start k t (before ++ x ∷ []) c (All-tail (λ (y : Entry). y.time ≤ t) x c h) in
    let parts = sum_by-append (λ n. n) (wait_in step start k before x) (by_row (wait_in step start k) (before ++ x ∷ []) c) in
    let product : (counted (begun_by x.row) + length (each_row begun_by c)) * t ≡ counted (begun_by x.row) * t + length (each_row begun_by c) * t = omega arith in
    rw (length-each_row-cons begun_by x c, product) (omega arith)

-- ---- an event lets no more begin than it has rows

abbrev pub AddsFew : Type 0
AddsFew = (s : Spec) (c : Trace) (e : Event) → AreInRange s → IsMade s c → IsSettled s c → length (react s c e) ≤ 41005

abbrev pub StaysMade : Type 0
StaysMade = (s : Spec) (c : Trace) (e : Event) → IsMade s c → IsMade s (c ++ react s c e)

abbrev pub IsThenSettled : Type 0
IsThenSettled = (s : Spec) (c : Trace) (e : Event) → IsMade s c → IsSettled s (c ++ react s c e)

begun_added : (s : Spec) (c : Trace) (es : List Event) → AddsFew
    → StaysMade → IsThenSettled
    → AreInRange s → IsMade s c → IsSettled s c → length (each_row begun_by (added s c es)) ≤ 41005 * length es
unfolding added
begun_added s c [] few made_on settled_on range made settled = omega arith
begun_added s c (e ∷ es) few made_on settled_on range made settled =
    let one = length-each_row-le begun_by (react s c e) in
    let rows = few s c e range made settled in
    let rest = begun_added s (c ++ react s c e) es few made_on settled_on range (made_on s c e made) (settled_on s c e made) in
    let parts = length-each_row-append begun_by (react s c e) (added s (c ++ react s c e) es) in
    omega arith

begun_few : (s : Spec) (start : ℕ) (es : List Event) → each_row begun_by (opening s start) ≡ []
    → length (each_row begun_by (added s (opening s start) es)) ≤ 41005 * length es → length (each_row begun_by (trace_of s start es)) ≤ 41005 * length es
unfolding trace_of
begun_few s start es none more =
    let parts = length-each_row-append begun_by (opening s start) (added s (opening s start) es) in
    let first = ap length none in
    omega arith

-- so all that they waited comes to less
pub waits_few : (step from k clock count : ℕ) (s : Spec) (start : ℕ) (c : Trace) → AddsFew
    → StaysMade → IsThenSettled
    → IsMade s (opening s start) → IsSettled s (opening s start) → each_row begun_by (opening s start) ≡ []
    → AreInRange s → AreTimesInOrder start c clock → clock ≤ 2 ^ 42 → count < 2 ^ 64 → History s start clock count c → sum (waits_in step from k c) < 2 ^ 128
unfolding waits_in
waits_few step from k clock count s start c few made_on settled_on made settled none range times early many h =
    let begun : length (each_row begun_by c) ≤ 41005 * count =
    rw h.trace (let most = begun_few s start h.events none (begun_added s (opening s start) h.events few made_on settled_on range made settled) in let e = h.many in omega arith) in
    let all = sum_waits step from k clock [] c (times_all start clock c times) in
    let product = mul-le (length (each_row begun_by c)) clock (41005 * 2 ^ 64) (2 ^ 42) (omega arith) early in
    let small : 41005 * 2 ^ 64 * 2 ^ 42 < 2 ^ 128 = lit< tt in
    omega arith

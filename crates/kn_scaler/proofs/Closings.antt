-- The seconds that closed are those of the trace.
use Rattle.std.proofs.Common.{◌≡◌, ℕ, ◌+◌, ◌-◌, ◌*◌, ◌^◌, ◌<◌, ◌≤◌, ◌⊎◌, inl, inr, Bool, true, false, ◌&&◌, ◌||◌, refl, sym, ap, ◌∙◌, arith, nat_lt, nat_le, Option, None, Some, IfSome, cond, min}
use Rattle.std.specs.Bool.{then_some}
use Rattle.std.proofs.lemmas.Bool.{cases_lt, cases_order}
use Rattle.std.proofs.lemmas.Bool.Decides.{nat_tests}
use Rattle.std.proofs.Math.Bridge.{le_prop}
use mathlib.Core.HLevel.{Unit-prop}
use Rattle.kn_event.specs.declared.revision.Metric.{Metric}
use Rattle.kn_event.specs.declared.revision.Metric.TheVariants as metric
use Rattle.kn_event.specs.declared.revision.Spec.{Spec}
use Rattle.kn_scaling.specs.Average.{Samples, is_in_run, second_of, value_of, with_run}
use Rattle.kn_scaling.specs.Worked as worked
use Rattle.kn_trace.specs.Load.{count_in, has_ready_pod, load_in, samples}
use Rattle.kn_trace.specs.Trace.{Trace}
use Rattle.kn_record.specs.Made.{IsMade}
use Rattle.kn_record.specs.Order.{AreTimesInOrder}
use Rattle.kn_past.specs.Seconds.{sample_by}
use Rattle.kn_stats.specs.declared.closed.Closed.{Closed}
use Rattle.kn_stats.specs.declared.closed.Run.{Run}
use Rattle.kn_stats.specs.Changes.{arrived_by, arrived_count, counted_most, load_by}
use Rattle.kn_stats.specs.Closing.{closed_by, end_of_first, is_sampled, run_of}
use Rattle.kn_decider.specs.Closing.{CanClose, CanFollow, IsOverAt, below, end_after, with_closed, with_closed_run}
use Rattle.kn_changes.specs.Changes.{changes_of}
use Rattle.kn_scaler.specs.Facts.{TraceFacts}
use Rattle.kn_scaler.proofs.Times.{is_not_over}

is_before : (s until : ℕ) → s < until → nat_lt s until ≡ true
is_before s until lt = grind (arith, nat_tests)

not_before : (s until : ℕ) → until ≤ s → nat_lt s until ≡ false
not_before s until le = grind (arith, nat_tests)

is_from : (s first : ℕ) → first ≤ s → nat_le first s ≡ true
is_from s first le = grind (arith, nat_tests)

not_from : (s first : ℕ) → s < first → nat_le first s ≡ false
not_from s first lt = grind (arith, nat_tests)

none_if_not : (b : Bool) → (b && false) ≡ false
none_if_not true = refl
none_if_not false = refl

in_run : (from until s : ℕ) → from ≤ s → s < until → is_in_run from (until - from) s ≡ true
in_run from until s le lt = rw (is_from s from le) (is_before s (from + (until - from)) (omega arith))

out_of_run : (from until s : ℕ) → (s < from) ⊎ (until ≤ s) → is_in_run from (until - from) s ≡ false
out_of_run from until s (inl lt) = rw (not_from s from lt) refl
out_of_run from until s (inr le) = by (cases_lt s from)
  where
    by : (s < from) ⊎ (from ≤ s) → is_in_run from (until - from) s ≡ false
    by (inl lt) = rw (not_from s from lt) refl
    by (inr from_le) = rw (not_before s (from + (until - from)) (omega arith)) (none_if_not (nat_le from s))

-- ---- one run of seconds

pub run-in : (m : Metric) (ready : Bool) (from until load arrived s : ℕ) (f : Samples) → from ≤ s → s < until
    → with_closed_run m (run_of m ready from until load arrived) f s ≡ cond (is_sampled m ready load arrived) (Some (value_of m load arrived)) (f s)
unfolding with_run
run-in m ready from until load arrived s f le lt = rw (is_before from until (omega arith)) (by (is_sampled m ready load arrived))
  where
    by : (b : Bool) → (let g : Samples = cond b (with_run f (worked.run_of from (until - from) (value_of m load arrived))) f in g) s ≡ cond b (Some (value_of m load arrived)) (f s)
    by true = rw (in_run from until s le lt) refl
    by false = refl

pub run-out : (m : Metric) (ready : Bool) (from until load arrived s : ℕ) (f : Samples) → (s < from) ⊎ (until ≤ s) → with_closed_run m (run_of m ready from until load arrived) f s ≡ f s
unfolding with_run
run-out m ready from until load arrived s f out = by (nat_lt from until)
  where
    with_some : (b : Bool) → (let g : Samples = cond b (with_run f (worked.run_of from (until - from) (value_of m load arrived))) f in g) s ≡ f s
    with_some true = rw (out_of_run from until s out) refl
    with_some false = refl

    by : (b : Bool) → with_closed_run m (cond b (Some (record { second = from; count = until - from; load = load; sampled = is_sampled m ready load arrived; arrived = arrived })) None) f s ≡ f s
    by true = with_some (is_sampled m ready load arrived)
    by false = refl

-- ---- what a second is a sample of

by_load : (l r a : Bool) (n : ℕ) → cond ((l || r) || (false && a)) (Some n) None ≡ then_some ((l || l) || r) n
by_load true r a n = refl
by_load false true a n = refl
by_load false false a n = refl

by_arrivals : (l r a : Bool) (n : ℕ) → cond ((l || r) || (true && a)) (Some n) None ≡ then_some ((a || l) || r) n
by_arrivals true true true n = refl
by_arrivals true true false n = refl
by_arrivals true false true n = refl
by_arrivals true false false n = refl
by_arrivals false true true n = refl
by_arrivals false true false n = refl
by_arrivals false false true n = refl
by_arrivals false false false n = refl

some_thousands : (n : ℕ) → nat_lt 0 n ≡ nat_lt 0 (1000 * n)
some_thousands n = by (cases_lt 0 n)
  where
    by : (0 < n) ⊎ (n ≤ 0) → nat_lt 0 n ≡ nat_lt 0 (1000 * n)
    by (inl lt) = is_before 0 n lt ∙ sym (is_before 0 (1000 * n) (omega arith))
    by (inr le) = not_before 0 n le ∙ sym (not_before 0 (1000 * n) (omega arith))

is_sample : (m : Metric) (ready : Bool) (load arrived : ℕ) → cond (is_sampled m ready load arrived) (Some (value_of m load arrived)) None ≡ sample_by m load arrived ready
is_sample metric.Concurrency ready load arrived = by_load (nat_lt 0 load) ready (nat_lt 0 arrived) load
is_sample metric.Rps ready load arrived =
    by_arrivals (nat_lt 0 load) ready (nat_lt 0 arrived) (1000 * arrived)
    ∙ ap (λ b. then_some ((b || nat_lt 0 load) || ready) (1000 * arrived)) (some_thousands arrived)

-- ---- what a Decider asks of them

run_follows : (end : ℕ) (m : Metric) (ready : Bool) (from until load arrived : ℕ) → end ≤ from → until ≤ 2 ^ 42 → load ≤ 20000000 → arrived ≤ 1000000 → IfSome (run_of m ready from until load arrived) (CanFollow end)
run_follows end m ready from until load arrived low high small few = by (cases_lt from until)
  where
    by : (from < until) ⊎ (until ≤ from) → IfSome (run_of m ready from until load arrived) (CanFollow end)
    by (inl lt) = rw (is_before from until lt) (record { second = low; some = omega arith; last = omega arith; load = small; arrived = few })
    by (inr le) = rw (not_before from until le) tt

run_ends : (end : ℕ) (m : Metric) (ready : Bool) (from until load arrived : ℕ) → end ≤ until → end_after (run_of m ready from until load arrived) end ≤ until
run_ends end m ready from until load arrived low = by (cases_lt from until)
  where
    with_some : (b : Bool) → from < until → cond b (from + (until - from)) end ≤ until
    with_some true lt = omega arith
    with_some false lt = low

    by : (from < until) ⊎ (until ≤ from) → end_after (run_of m ready from until load arrived) end ≤ until
    by (inl lt) = rw (is_before from until lt) (with_some (is_sampled m ready load arrived) lt)
    by (inr le) = rw (not_before from until le) low

run_is_over : (m : Metric) (ready : Bool) (from until load arrived next : ℕ) → until ≤ next → IsOverAt next (run_of m ready from until load arrived)
run_is_over m ready from until load arrived next le = by (cases_lt from until)
  where
    by : (from < until) ⊎ (until ≤ from) → IsOverAt next (run_of m ready from until load arrived)
    by (inl lt) = rw (is_before from until lt) (omega arith)
    by (inr from_le) = rw (not_before from until from_le) tt

first_end : (from to : ℕ) → from ≤ to → (from ≤ end_of_first from to) × (end_of_first from to ≤ from + 1) × (end_of_first from to ≤ to)
first_end from to le = by (cases_lt from to)
  where
    by : (from < to) ⊎ (to ≤ from) → (from ≤ end_of_first from to) × (end_of_first from to ≤ from + 1) × (end_of_first from to ≤ to)
    by (inl lt) = rw (is_before from to lt) (omega arith, omega arith, omega arith)
    by (inr over) = rw (not_before from to over) (omega arith, omega arith, omega arith)

-- ---- facts of which there is one proof

follow_prop : (end : ℕ) (run : Run) (p q : CanFollow end run) → p ≡ q
follow_prop end run p q = λ i. record { second = le_prop p.second q.second i; some = le_prop p.some q.some i; last = le_prop p.last q.last i; load = le_prop p.load q.load i; arrived = le_prop p.arrived q.arrived i }

if_follow_prop : (end : ℕ) (run : Option Run) (p q : IfSome run (CanFollow end)) → p ≡ q
if_follow_prop end None p q = Unit-prop p q
if_follow_prop end (Some run) p q = follow_prop end run p q

pub close_prop : (end : ℕ) (c : Closed) (p q : CanClose end c) → p ≡ q
close_prop end c p q = λ i. record { first = if_follow_prop end c.first p.first q.first i; rest = if_follow_prop (end_after c.first end) c.rest p.rest q.rest i }

-- ---- the seconds of a trace

-- what is known of a trace when time passes
pub record Passes (s : Spec) (c : Trace) (time to : ℕ) : Type 0 where
  pub made : IsMade s c
  pub times : AreTimesInOrder 0 c time
  pub order : time ≤ to

module _ (facts : TraceFacts) where
  open facts use {seconds.{before, sample, load_most, load, count}}

  sample-of : (m : Metric) (c : Trace) (time n many arrived : ℕ) (ready : Bool) → AreTimesInOrder 0 c time → second_of time ≤ n → many ≡ load_in c n → arrived ≡ count_in c n → has_ready_pod c ≡ ready
      → sample_by m many arrived ready ≡ samples m c n
  sample-of m c time n many arrived ready times le is_load is_count is_ready =
      ap (λ k. sample_by m k arrived ready) is_load
      ∙ ap (λ k. sample_by m (load_in c n) k ready) is_count
      ∙ ap (sample_by m (load_in c n) (count_in c n)) (sym is_ready ∙ ap has_ready_pod (sym (before c 0 time n times (is_not_over time n le))))
      ∙ sym (sample m c n)

  pub closed-samples : (s : Spec) (c : Trace) (ready : Bool) (time to : ℕ) → Passes s c time to → has_ready_pod c ≡ ready
      → ((n : ℕ) → second_of time < n → load_by (changes_of c) n ≡ load_by (changes_of c) (second_of time + 1))
      → ((n : ℕ) → second_of time < n → arrived_by (changes_of c) n ≡ 0)
      → (n : ℕ) → n < second_of to
      → with_closed s.metric (closed_by s.metric (changes_of c) (second_of time) (second_of to) ready) (below (second_of time) (samples s.metric c)) n ≡ samples s.metric c n
  unfolding closed_by
  closed-samples s c ready time to passes is_ready alike quiet n lt = by (cases_order n (second_of time))
    where
      by : (n ≡ second_of time) ⊎ ((n < second_of time) ⊎ (second_of time < n))
          → with_closed s.metric (closed_by s.metric (changes_of c) (second_of time) (second_of to) ready) (below (second_of time) (samples s.metric c)) n ≡ samples s.metric c n
      by (inl now) =
          let cs = changes_of c in
          let lt_end : n < end_of_first (second_of time) (second_of to) = rw (is_before (second_of time) (second_of to) (omega arith)) (omega arith) in
          let none : below (second_of time) (samples s.metric c) n ≡ None = rw (not_before n (second_of time) (omega arith)) refl in
          run-out s.metric ready (second_of time + 1) (second_of to) (load_by cs (second_of time + 1)) 0 n _ (inl (omega arith))
          ∙ run-in s.metric ready (second_of time) (end_of_first (second_of time) (second_of to)) (load_by cs (second_of time)) (arrived_count cs (second_of time)) n _ (omega arith) lt_end
          ∙ ap (cond (is_sampled s.metric ready (load_by cs (second_of time)) (arrived_count cs (second_of time))) (Some (value_of s.metric (load_by cs (second_of time)) (arrived_count cs (second_of time))))) none
          ∙ is_sample s.metric ready (load_by cs (second_of time)) (arrived_count cs (second_of time))
          ∙ sample-of s.metric c time n _ _ ready passes.times (omega arith)
          (ap (load_by cs) (sym now) ∙ load s c 0 time n passes.made passes.times)
          (ap (arrived_count cs) (sym now) ∙ count c n) is_ready
      by (inr (inl earlier)) =
          let cs = changes_of c in
          run-out s.metric ready (second_of time + 1) (second_of to) (load_by cs (second_of time + 1)) 0 n _ (inl (omega arith))
          ∙ run-out s.metric ready (second_of time) (end_of_first (second_of time) (second_of to)) (load_by cs (second_of time)) (arrived_count cs (second_of time)) n _ (inl earlier)
          ∙ rw (is_before n (second_of time) earlier) refl
      by (inr (inr after)) =
          let cs = changes_of c in
          let end = (first_end (second_of time) (second_of to) (omega arith)).1 in
          let none : below (second_of time) (samples s.metric c) n ≡ None = rw (not_before n (second_of time) (omega arith)) refl in
          run-in s.metric ready (second_of time + 1) (second_of to) (load_by cs (second_of time + 1)) 0 n _ (omega arith) lt
          ∙ ap (cond (is_sampled s.metric ready (load_by cs (second_of time + 1)) 0) (Some (value_of s.metric (load_by cs (second_of time + 1)) 0)))
          (run-out s.metric ready (second_of time) (end_of_first (second_of time) (second_of to)) (load_by cs (second_of time)) (arrived_count cs (second_of time)) n _ (inr (omega (arith, end))) ∙ none)
          ∙ is_sample s.metric ready (load_by cs (second_of time + 1)) 0
          ∙ sample-of s.metric c time n _ _ ready passes.times (omega arith)
          (sym (alike n after) ∙ load s c 0 time n passes.made passes.times)
          (ap (min counted_most) (sym (quiet n after)) ∙ count c n) is_ready

  pub can_close : (s : Spec) (c : Trace) (ready : Bool) (time to end : ℕ) → Passes s c time to → to ≤ 2 ^ 42 → end ≤ second_of time → CanClose end (closed_by s.metric (changes_of c) (second_of time) (second_of to) ready)
  unfolding closed_by
  can_close s c ready time to end passes high low =
      let cs = changes_of c in
      let ends = first_end (second_of time) (second_of to) (omega arith) in
      let first_load = load s c 0 time (second_of time) passes.made passes.times in
      let first_most = load_most s c 0 time (second_of time) passes.made passes.times in
      let next_load = load s c 0 time (second_of time + 1) passes.made passes.times in
      let next_most = load_most s c 0 time (second_of time + 1) passes.made passes.times in
      record {
        first = run_follows end s.metric ready (second_of time) (end_of_first (second_of time) (second_of to)) (load_by cs (second_of time)) (arrived_count cs (second_of time)) low (omega (arith, ends.2)) (omega (arith, first_load, first_most)) (omega arith);
        rest = run_follows (end_after (run_of s.metric ready (second_of time) (end_of_first (second_of time) (second_of to)) (load_by cs (second_of time)) (arrived_count cs (second_of time))) end) s.metric ready (second_of time + 1) (second_of to) (load_by cs (second_of time + 1)) 0
            (let e = run_ends end s.metric ready (second_of time) (end_of_first (second_of time) (second_of to)) (load_by cs (second_of time)) (arrived_count cs (second_of time)) (omega (arith, ends.0)) in omega (arith, e, ends.1)) (omega arith) (omega (arith, next_load, next_most)) (omega arith);
      }

-- they lie before the second that is open now
pub all_over : (s : Spec) (c : Trace) (ready : Bool) (time to : ℕ) → time ≤ to
    → (let closed = closed_by s.metric (changes_of c) (second_of time) (second_of to) ready in IsOverAt (second_of to) closed.first × IsOverAt (second_of to) closed.rest)
unfolding closed_by
all_over s c ready time to le =
    let ends = first_end (second_of time) (second_of to) (omega arith) in (
      run_is_over s.metric ready (second_of time) (end_of_first (second_of time) (second_of to)) (load_by (changes_of c) (second_of time)) (arrived_count (changes_of c) (second_of time)) (second_of to) ends.2,
      run_is_over s.metric ready (second_of time + 1) (second_of to) (load_by (changes_of c) (second_of time + 1)) 0 (second_of to) (omega arith),
    )

pub ends_by : (s : Spec) (c : Trace) (ready : Bool) (time to end : ℕ) → time ≤ to → end ≤ second_of time
    → (let closed = closed_by s.metric (changes_of c) (second_of time) (second_of to) ready in end_after closed.rest (end_after closed.first end) ≤ second_of to)
unfolding closed_by
ends_by s c ready time to end le low =
    let ends = first_end (second_of time) (second_of to) (omega arith) in
    let first = run_ends end s.metric ready (second_of time) (end_of_first (second_of time) (second_of to)) (load_by (changes_of c) (second_of time)) (arrived_count (changes_of c) (second_of time)) (omega (arith, ends.0)) in
    run_ends _ s.metric ready (second_of time + 1) (second_of to) (load_by (changes_of c) (second_of time + 1)) 0 (omega (arith, first, ends.2))

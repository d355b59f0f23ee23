-- One event more: what it changes of the step that it lies in.
use Rattle.std.proofs.Common.{◌≡◌, ◌≤◌, ◌<◌, ◌+◌, ◌-◌, ℕ, Bool, true, false, cond, ◌||◌, ◌&&◌, eqb, ltb, List, [], ◌∷◌, ◌++◌, length, map, refl, ap, sym, ◌∙◌, arith, append-nil, length-append}
use Rattle.std.specs.Prelude.{Option, fold, max, unwrap_or}
use Rattle.std.specs.List.{All, filter, list_any, range_with_len}
use Rattle.std.proofs.lemmas.Bool.{eq-eqb, le-ltb, lt-ltb, ltb-true, ne_eqb}
use Rattle.std.proofs.lemmas.List.{take-append-le, take_all, map-append}
use Rattle.std.proofs.lemmas.List.Elements.{All-append, All-cons, All-nil, All-push, All-weaker, filter-append}
use Rattle.std.proofs.lemmas.List.Folds.{list_any-append}
use Rattle.std.proofs.lemmas.List.Sums.{count_by-le-length, sum_by_push}
use Rattle.kn_event.specs.declared.entry.Entry.{Entry}
use Rattle.kn_event.specs.declared.event.Event.{Event}
use Rattle.kn_trace.specs.Events.{trace_of}
use Rattle.kn_trace.specs.Trace.{Trace, held, last_of}
use Rattle.kn_laws.specs.Kinds.{EachAt}
use Rattle.kn_lives.specs.Lives.{by_row}
use Rattle.kn_teller.specs.Run.{Run, later, now_of, trace}
use Rattle.kn_show_series.specs.declared.current.OpenStep.{OpenStep}
use Rattle.kn_show_series.specs.declared.gauges.Gauges.{Gauges}
use Rattle.kn_show_series.specs.State.{IsPast, IsStepOf}
use Rattle.kn_show_series.specs.Steps.{counts_of, events_before, follows_filled, gauges_of, held_after, held_peak, is_filled, is_shown, rows_in, step_of, wait_in, wait_of, waits_in}
use Rattle.kn_show_series.proofs.Lists.{filter-all, greatest-range_more, last_of-push, map-range_agree}
use Rattle.kn_show_series.proofs.Past.{events_before-all, rows_in-none}
use Rattle.kn_show_series.proofs.Steps.{step_of-le}

-- ---- the clock

pub now_of-later : (r : Run) (e : Event) → now_of (later r e) ≡ e.time
now_of-later r e =
    ap (λ (o : Option ℕ). unwrap_or o r.start) (
    ap last_of (map-append (λ (x : Event). x.time) r.events (e ∷ [])) ∙ last_of-push (map (λ (x : Event). x.time) r.events) e.time
    )

-- what is said of each row at a time holds of all rows of an event
pub each_at-all : (P : Entry → Type 0) (t : ℕ) (c : Trace) → ((x : Entry) → x.time ≡ t → P x) → EachAt t c → All P c
each_at-all P t [] f h = All-nil P
each_at-all P t (x ∷ c) f h = All-cons P x c (f x h.0) (each_at-all P t c f h.1)

pub past_later : (r : Run) (e : Event) (log : Trace) → IsPast r → now_of r ≤ e.time → trace (later r e) ≡ trace r ++ log → EachAt e.time log → IsPast (later r e)
past_later r e log past order same at =
    let now = now_of-later r e in
    let first = past.start in
    record {
      start = omega (arith, now);
      events =
          All-push (λ (x : Event). x.time ≤ now_of (later r e)) r.events e
          (All-weaker (λ (x : Event). x.time ≤ now_of r) (λ (x : Event). x.time ≤ now_of (later r e)) (λ x h. omega (arith, now)) r.events past.events) (omega (arith, now));
      rows = rw same (
          All-append (λ (x : Entry). x.time ≤ now_of (later r e)) (trace r) log
          (All-weaker (λ (x : Entry). x.time ≤ now_of r) (λ (x : Entry). x.time ≤ now_of (later r e)) (λ x h. omega (arith, now)) (trace r) past.rows)
          (each_at-all (λ (x : Entry). x.time ≤ now_of (later r e)) e.time log (λ x h. omega (arith, now)) at)
          );
    }

-- row by row over rows in two parts
abbrev pub GoesByParts : Type 0
GoesByParts = (f : Trace → Entry → List ℕ) (c xs ys : Trace) → by_row f c (xs ++ ys) ≡ by_row f c xs ++ by_row f (c ++ xs) ys

-- ---- rows of the step

rows_in-same : (step start k t : ℕ) (c log : Trace) → step_of step start t ≡ k → EachAt t log → rows_in step start k (c ++ log) ≡ rows_in step start k c ++ log
unfolding rows_in
rows_in-same step start k t c log e at =
    let test : Entry → Bool = λ (x : Entry). eqb (step_of step start x.time) k in
    filter-append test c log ∙ ap (λ (xs : Trace). filter test c ++ xs)
    (filter-all test log (each_at-all (λ x. test x ≡ true) t log (λ x h. eq-eqb (step_of step start x.time) k (ap (step_of step start) h ∙ e)) at))

pub rows_in-append : (step start j : ℕ) (c log : Trace) → rows_in step start j (c ++ log) ≡ rows_in step start j c ++ rows_in step start j log
unfolding rows_in
rows_in-append step start j c log = filter-append (λ (x : Entry). eqb (step_of step start x.time) j) c log

rows_in-other : (step start j t : ℕ) (c log : Trace) → (step_of step start t ≡ j → ⊥) → EachAt t log → rows_in step start j (c ++ log) ≡ rows_in step start j c
rows_in-other step start j t c log ne at =
    rows_in-append step start j c log
    ∙ ap (λ (xs : Trace). rows_in step start j c ++ xs)
    (rows_in-none step start j log (each_at-all (λ (x : Entry). eqb (step_of step start x.time) j ≡ false) t log (λ x h. ne_eqb (step_of step start x.time) j (λ e. ne (ap (step_of step start) (sym h) ∙ e))) at))
    ∙ append-nil (rows_in step start j c)

by_row-same : (step start k t : ℕ) (b log : Trace) → step_of step start t ≡ k → EachAt t log → by_row (wait_in step start k) b log ≡ by_row wait_of b log
unfolding by_row
by_row-same step start k t b [] e at = refl
by_row-same step start k t b (x ∷ log) e at =
    rw (eq-eqb (step_of step start x.time) k (ap (step_of step start) at.0 ∙ e))
    (ap (λ (ws : List ℕ). wait_of b x ++ ws) (by_row-same step start k t (b ++ x ∷ []) log e at.1))

pub waits_in-same : (step start k t : ℕ) (c log : Trace) → GoesByParts
    → step_of step start t ≡ k → EachAt t log → waits_in step start k (c ++ log) ≡ waits_in step start k c ++ by_row wait_of c log
unfolding waits_in
waits_in-same step start k t c log parts e at =
    parts (wait_in step start k) [] c log ∙ ap (λ (ws : List ℕ). by_row (wait_in step start k) [] c ++ ws) (by_row-same step start k t c log e at)

-- ---- what fills a step

is_filled-same : (step : ℕ) (r : Run) (e : Event) (log : Trace) (k : ℕ) → trace (later r e) ≡ trace r ++ log → step_of step r.start e.time ≡ k → EachAt e.time log
    → is_filled step (later r e) k ≡ (is_filled step r k || list_any (λ (x : Entry). is_shown x.row) log)
unfolding is_filled
is_filled-same step r e log k same here at =
    rw (same, rows_in-same step r.start k e.time (trace r) log here at, list_any-append (λ (x : Entry). is_shown x.row) (rows_in step r.start k (trace r)) log)
    (or_both (eqb k 0) (list_any (λ (x : Entry). is_shown x.row) (rows_in step r.start k (trace r))) (list_any (λ (x : Entry). is_shown x.row) log))
  where
    or_both : (a b c : Bool) → (a || (b || c)) ≡ ((a || b) || c)
    or_both true b c = refl
    or_both false b c = refl

is_filled-other : (step : ℕ) (r : Run) (e : Event) (log : Trace) (j : ℕ) → trace (later r e) ≡ trace r ++ log → (step_of step r.start e.time ≡ j → ⊥) → EachAt e.time log
    → is_filled step (later r e) j ≡ is_filled step r j
unfolding is_filled
is_filled-other step r e log j same ne at = rw (same, rows_in-other step r.start j e.time (trace r) log ne at)

follows_filled-same : (step : ℕ) (r : Run) (e : Event) (log : Trace) (k : ℕ) → trace (later r e) ≡ trace r ++ log → step_of step r.start e.time ≡ k → EachAt e.time log
    → follows_filled step (later r e) k ≡ follows_filled step r k
unfolding follows_filled
follows_filled-same step r e log k same here at = by (ltb 0 k) refl
  where
    by : (b : Bool) → ltb 0 k ≡ b → (b && is_filled step (later r e) (k - 1)) ≡ (b && is_filled step r (k - 1))
    by false h = refl
    by true h =
        let above = ltb-true 0 k h in
        ap (λ b. true && b) (is_filled-other step r e log (k - 1) same (λ x. omega arith) at)

-- ---- the most held

events_before-push : (step : ℕ) (r : Run) (e : Event) (k : ℕ) → events_before step (later r e) k ≡ events_before step r k + cond (ltb (step_of step r.start e.time) k) 1 0
unfolding events_before
events_before-push step r e k = sum_by_push (λ (x : Event). cond (ltb (step_of step r.start x.time) k) 1 0) r.events e

events_before-le : (step : ℕ) (r : Run) (k : ℕ) → events_before step r k ≤ length r.events
unfolding events_before
events_before-le step r k = count_by-le-length (λ (e : Event). ltb (step_of step r.start e.time) k) r.events

at_or_after : (a k n : ℕ) → k ≤ a → n + cond (ltb a k) 1 0 ≡ n
at_or_after a k n h = rw (le-ltb a k h) (omega arith)

before_end : (a k n m : ℕ) → a < k → m ≡ n → m + cond (ltb a k) 1 0 ≡ n + 1
before_end a k n m h e = rw (lt-ltb a k h) (omega arith)

held_after-early : (r : Run) (e : Event) (j : ℕ) → j ≤ length r.events → held_after (later r e) j ≡ held_after r j
unfolding held_after
held_after-early r e j h = ap (λ (es : List Event). length (held (trace_of r.spec r.start es))) (take-append-le j r.events (e ∷ []) h)

held_peak-more : (step : ℕ) (r : Run) (e : Event) (k : ℕ) → 0 < step → IsPast r → now_of r ≤ e.time → step_of step r.start e.time ≡ k
    → held_peak step (later r e) k ≡ max (held_peak step r k) (length (held (trace (later r e))))
unfolding held_peak held_after
held_peak-more step r e k pos past order here =
    let n = length r.events in
    let from = events_before step r k in
    let before = step_of-le step r.start (now_of r) e.time pos order in
    let to : events_before step r (k + 1) ≡ n = events_before-all step r (k + 1) pos past (omega arith) in
    let from_later : events_before step (later r e) k ≡ from = events_before-push step r e k ∙ at_or_after (step_of step r.start e.time) k from (omega arith) in
    let to_later : events_before step (later r e) (k + 1) ≡ n + 1 = events_before-push step r e (k + 1) ∙ before_end (step_of step r.start e.time) (k + 1) n (events_before step r (k + 1)) (omega arith) to in
    let low : from ≤ n = events_before-le step r k in
    let size : n + 1 + 1 - from ≡ (n + 1 - from) + 1 = omega arith in
    let end : from + (n + 1 - from) ≡ n + 1 = omega arith in
    let whole = take_all (n + 1) (r.events ++ e ∷ []) (omega (arith, length-append r.events (e ∷ []))) in
    rw (from_later, to_later, to, size) (
    greatest-range_more (held_after (later r e)) from (n + 1 - from) (n + 1) end
    ∙ ap (λ (ns : List ℕ). max (fold max 0 ns) (held_after (later r e) (n + 1))) (map-range_agree (held_after (later r e)) (held_after r) from (n + 1 - from) (λ j l. held_after-early r e j (omega arith)))
    ∙ ap (λ (es : List Event). max (fold max 0 (map (held_after r) (range_with_len from (n + 1 - from)))) (length (held (trace_of r.spec r.start es)))) whole
    )

-- ---- the step with the event

pub takes_event : (step : ℕ) (r : Run) (e : Event) (log : Trace) (k : ℕ) (x y : OpenStep) → GoesByParts
    → 0 < step → IsPast r → now_of r ≤ e.time → trace (later r e) ≡ trace r ++ log → EachAt e.time log → step_of step r.start e.time ≡ k → IsStepOf step r k x
    → y.from ≡ x.from
    → y.gauges ≡ gauges_of r.spec (trace (later r e))
    → y.counts ≡ counts_of (rows_in step r.start k (trace r) ++ log) (waits_in step r.start k (trace r) ++ by_row wait_of (trace r) log)
    → y.held_peak ≡ max x.held_peak y.gauges.held
    → y.filled ≡ (x.filled || list_any (λ (x : Entry). is_shown x.row) log)
    → y.follows_filled ≡ x.follows_filled
    → IsStepOf step (later r e) k y
unfolding gauges_of
takes_event step r e log k x y parts pos past order same at here old from gauges counts peak filled follows = record {
  from = from ∙ old.from;
  gauges = gauges;
  counts = rw (same, rows_in-same step r.start k e.time (trace r) log here at, waits_in-same step r.start k e.time (trace r) log parts here at) counts;
  peak = peak ∙ ap (λ n. max n y.gauges.held) old.peak ∙ ap (λ n. max (held_peak step r k) n) (ap (λ (g : Gauges). g.held) gauges) ∙ sym (held_peak-more step r e k pos past order here);
  filled = filled ∙ ap (λ b. b || list_any (λ (x : Entry). is_shown x.row) log) old.filled ∙ sym (is_filled-same step r e log k same here at);
  follows = follows ∙ old.follows ∙ sym (follows_filled-same step r e log k same here at);
}

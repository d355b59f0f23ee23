-- A step behind all that has come: it opens with nothing in it.
use Rattle.std.proofs.Common.{◌≡◌, ◌≤◌, ◌<◌, ◌+◌, ◌-◌, ◌*◌, ℕ, Bool, true, false, eqb, ltb, [], ◌∷◌, ◌++◌, length, refl, ap, sym, ◌∙◌, arith}
use Rattle.std.specs.List.{All}
use Rattle.std.proofs.Math.Bool.{and-false}
use Rattle.std.proofs.lemmas.Bool.{lt-ltb, ne_eqb}
use Rattle.std.proofs.lemmas.List.{take_all}
use Rattle.std.proofs.lemmas.List.Elements.{All-head, All-tail, All-weaker}
use Rattle.std.proofs.lemmas.List.Sums.{length-filter}
use Rattle.kn_event.specs.declared.entry.Entry.{Entry}
use Rattle.kn_event.specs.declared.event.Event.{Event}
use Rattle.kn_trace.specs.Trace.{Trace, held}
use Rattle.kn_lives.specs.Lives.{by_row}
use Rattle.kn_teller.specs.Run.{Run, now_of, trace}
use Rattle.kn_show_series.specs.Open.{begun_at}
use Rattle.kn_show_series.specs.Series.{open_step}
use Rattle.kn_show_series.specs.State.{IsPast, IsStepOf}
use Rattle.kn_show_series.specs.Steps.{counts_in, counts_of, events_before, follows_filled, gauges_of, held_after, held_peak, is_filled, is_told, rows_in, step_of, wait_in, waits_in}
use Rattle.kn_show_series.proofs.Lists.{filter-all, filter-none}
use Rattle.kn_show_series.proofs.Steps.{step_of-le}

-- ---- rows that lie in other steps

-- each lies in another step
abbrev pub AreElsewhere : ℕ → ℕ → ℕ → Trace → Type 0
AreElsewhere step start k c = All (λ (x : Entry). eqb (step_of step start x.time) k ≡ false) c

pub rows_in-none : (step start k : ℕ) (c : Trace) → AreElsewhere step start k c → rows_in step start k c ≡ []
unfolding rows_in
rows_in-none step start k c h = filter-none (λ (x : Entry). eqb (step_of step start x.time) k) c h

pub by_row-none : (step start k : ℕ) (b c : Trace) → AreElsewhere step start k c → by_row (wait_in step start k) b c ≡ []
unfolding by_row
by_row-none step start k b [] h = refl
by_row-none step start k b (x ∷ c) h =
    rw (All-head (λ (y : Entry). eqb (step_of step start y.time) k ≡ false) x c h)
    (by_row-none step start k (b ++ x ∷ []) c (All-tail (λ (y : Entry). eqb (step_of step start y.time) k ≡ false) x c h))

pub waits_in-none : (step start k : ℕ) (c : Trace) → AreElsewhere step start k c → waits_in step start k c ≡ []
unfolding waits_in
waits_in-none step start k c h = by_row-none step start k [] c h

-- ---- all that has come lies before a later step

pub rows_before : (step : ℕ) (r : Run) (k : ℕ) → 0 < step → IsPast r → open_step step r < k → AreElsewhere step r.start k (trace r)
rows_before step r k pos past l =
    All-weaker (λ (x : Entry). x.time ≤ now_of r) (λ (x : Entry). eqb (step_of step r.start x.time) k ≡ false)
    (λ x h. let low = step_of-le step r.start x.time (now_of r) pos h in ne_eqb (step_of step r.start x.time) k (λ e. omega arith)) (trace r) past.rows

pub events_before-all : (step : ℕ) (r : Run) (k : ℕ) → 0 < step → IsPast r → open_step step r < k → events_before step r k ≡ length r.events
unfolding events_before
events_before-all step r k pos past l =
    let before : Event → Bool = λ (e : Event). ltb (step_of step r.start e.time) k in
    let all = All-weaker (λ (e : Event). e.time ≤ now_of r) (λ (e : Event). before e ≡ true)
    (λ e h. let low = step_of-le step r.start e.time (now_of r) pos h in lt-ltb (step_of step r.start e.time) k (omega arith)) r.events past.events in
    sym (length-filter before r.events) ∙ ap length (filter-all before r.events all)

pub counts_in-none : (step : ℕ) (r : Run) (k : ℕ) → 0 < step → IsPast r → open_step step r < k → counts_in step r k ≡ counts_of [] []
counts_in-none step r k pos past l =
    let apart = rows_before step r k pos past l in
    rw (rows_in-none step r.start k (trace r) apart, waits_in-none step r.start k (trace r) apart)

pub is_filled-none : (step : ℕ) (r : Run) (k : ℕ) → 0 < step → IsPast r → open_step step r < k → is_filled step r k ≡ false
unfolding is_filled
is_filled-none step r k pos past l =
    rw (ne_eqb k 0 (λ e. omega arith), rows_in-none step r.start k (trace r) (rows_before step r k pos past l))

held_peak-none : (step : ℕ) (r : Run) (k : ℕ) → 0 < step → IsPast r → open_step step r < k → held_peak step r k ≡ length (held (trace r))
unfolding held_peak held_after
held_peak-none step r k pos past l =
    let n = length r.events in
    let one : n + 1 - n ≡ 1 = omega arith in
    rw (events_before-all step r k pos past l, events_before-all step r (k + 1) pos past (omega arith), one)
    (let all = take_all n r.events (omega arith) in rw all (omega arith))

-- so it opens
pub begins_later : (step : ℕ) (r : Run) (k from : ℕ) → 0 < step → IsPast r → open_step step r < k → from ≡ r.start + k * step
    → IsStepOf step r k (begun_at from (follows_filled step r k) (gauges_of r.spec (trace r)))
unfolding gauges_of
begins_later step r k from pos past l e = record {
  from = e;
  gauges = refl;
  counts = sym (counts_in-none step r k pos past l);
  peak = sym (held_peak-none step r k pos past l);
  filled = sym (is_filled-none step r k pos past l);
  follows = refl;
}

-- ---- and steps from the second one on are not told

pub untold : (step : ℕ) (r : Run) (k : ℕ) → 0 < step → IsPast r → open_step step r + 2 ≤ k → is_told step r k ≡ false
unfolding follows_filled
untold step r k pos past l =
    rw (is_filled-none step r k pos past (omega arith), is_filled-none step r (k - 1) pos past (omega arith), and-false (ltb 0 k))

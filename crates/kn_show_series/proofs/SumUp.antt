-- Each count over all lines of a run.
use Rattle.std.proofs.Common.{◌≡◌, ◌≤◌, ◌<◌, ◌+◌, ℕ, Bool, true, false, ◌||◌, eqb, List, [], length, Option, refl, ap, sym, ◌∙◌, arith}
use Rattle.std.specs.Prelude.{sum}
use Rattle.std.specs.List.{All, filter, list_any, range_with_len, sum_by}
use Rattle.std.proofs.lemmas.List.Elements.{All-weaker}
use Rattle.std.proofs.lemmas.List.Sums.{sum_by_push}
use Rattle.kn_event.specs.declared.entry.Entry.{Entry}
use Rattle.kn_event.specs.declared.entry.Row.{Row}
use Rattle.kn_event.specs.declared.event.Event.{Event}
use Rattle.kn_event.specs.declared.revision.Spec.{Spec}
use Rattle.kn_trace.specs.Rows.{arrived_by, begun_by, decision_by, ended_by, expired_by, refused_by}
use Rattle.kn_trace.specs.Trace.{Trace, each_row}
use Rattle.kn_record.specs.Order.{AreTimesInOrder}
use Rattle.kn_laws.specs.History.{AreInOrder, GoesOn, IsMadeBy}
use Rattle.kn_lives.specs.Lives.{by_row}
use Rattle.kn_teller.specs.Run.{Run, now_of, trace}
use Rattle.kn_show_series.specs.declared.counts.Counts.{Counts}
use Rattle.kn_show_series.specs.Laws.{SumUp, counts_at, over_lines_of, steps_with_line}
use Rattle.kn_show_series.specs.Series.{open_step}
use Rattle.kn_show_series.specs.Steps.{counts_in, counts_of, failed_by, follows_filled, is_filled, is_shown, is_told, rows_in, step_of, wait_of, waits_in}
use Rattle.kn_show_series.proofs.Bounds.{times_all}
use Rattle.kn_show_series.proofs.Events.{GoesByParts}
use Rattle.kn_show_series.proofs.Lines.{range-append}
use Rattle.kn_show_series.proofs.Steps.{step_of-le}
use Rattle.kn_show_series.proofs.Summed.{IsSaidByShown, rows_in-all, rows_said, rows_said-none, sum_passed, sum_same, waited_in, waited_in-none, waits_in-all}
use Rattle.kn_show_series.proofs.Totals.{arrived-total, arrived_shown, begun_shown, decision_shown, decisions-total, ended-total, ended_shown, expired-total, expired_shown, failed-total, failed_shown, refused-total, refused_shown}
use Rattle.kn_show_series.proofs.UpTo.{HasItsTime, counts_at-is}

-- a step without a line has no row that is shown
nothing_shown : (step k : ℕ) (r : Run) → is_told step r k ≡ false → list_any (λ (x : Entry). is_shown x.row) (rows_in step r.start k (trace r)) ≡ false
unfolding is_filled
nothing_shown step k r h = by (eqb k 0) (list_any (λ (x : Entry). is_shown x.row) (rows_in step r.start k (trace r))) (follows_filled step r k) h
  where
    by : (a b c : Bool) → ((a || b) || c) ≡ false → b ≡ false
    by true b c h = absurd (cc)
    by false true c h = absurd (cc)
    by false false c h = refl

-- the steps up to that of the last event
abbrev all_steps : ℕ → Run → List ℕ
all_steps step r = range_with_len 0 (open_step step r + 1)

over_all : (g : ℕ → ℕ) (step : ℕ) (r : Run) → ((k : ℕ) → is_told step r k ≡ false → g k ≡ 0) → sum_by g (steps_with_line step r) ≡ sum_by g (all_steps step r)
unfolding steps_with_line
over_all g step r none =
    let k = open_step step r in
    sum_by_push g (filter (is_told step r) (range_with_len 0 k)) k ∙ ap (λ n. n + g k) (sum_passed g (is_told step r) none (range_with_len 0 k))
    ∙ sym (ap (sum_by g) (range-append 0 k 1 k (omega arith)) ∙ sum_by_push g (range_with_len 0 k) k)

module _ (append : (s : Spec) (start : ℕ) (es more : List Event) → GoesOn s start es more) (at : HasItsTime) (parts : GoesByParts)
    (times : (s : Spec) (start clock count : ℕ) (c : Trace) → IsMadeBy s start clock count c → AreTimesInOrder start c clock)
    (step : ℕ) (pos : 0 < step) (r : Run) (order : AreInOrder r.start r.events (now_of r))
  where
    -- every row lies in one of them
    in_steps : All (λ (x : Entry). step_of step r.start x.time < open_step step r + 1) (trace r)
    in_steps =
        let made : IsMadeBy r.spec r.start (now_of r) (length r.events) (trace r) = ∣ record { events = r.events; order = order; many = refl; trace = refl } ∣₁ in
        All-weaker (λ (x : Entry). x.time ≤ now_of r) (λ (x : Entry). step_of step r.start x.time < open_step step r + 1)
        (λ x l. let low = step_of-le step r.start x.time (now_of r) pos l in omega arith) (trace r)
        (times_all r.start (now_of r) (trace r) (times r.spec r.start (now_of r) (length r.events) (trace r) made))

    over : (count : Counts → ℕ) (g : ℕ → ℕ) → ((k : ℕ) → count (counts_in step r k) ≡ g k) → ((k : ℕ) → is_told step r k ≡ false → g k ≡ 0)
        → over_lines_of count step r ≡ sum_by g (all_steps step r)
    over count g is none =
        sum_same (λ k. count (counts_at step r k)) g (λ k. ap count (counts_at-is append at step k r parts pos order) ∙ is k) (steps_with_line step r) ∙ over_all g step r none

    rows : {X : Type 0} (count : Counts → ℕ) (f : Row → Option X) → ((k : ℕ) → count (counts_in step r k) ≡ rows_said f step r.start (trace r) k) → IsSaidByShown f
        → over_lines_of count step r ≡ length (each_row f (trace r))
    rows count f is shown =
        over count (rows_said f step r.start (trace r)) is (λ k h. rows_said-none f step r.start k (trace r) shown (nothing_shown step k r h))
        ∙ rows_in-all f step r.start (open_step step r + 1) (trace r) in_steps

    waited : over_lines_of (λ n. n.waited) step r ≡ sum (by_row wait_of [] (trace r))
    unfolding counts_of waits_in
    waited =
        over (λ n. n.waited) (waited_in step r.start [] (trace r)) (λ k. refl) (λ k h. ap sum (waited_in-none step r.start k [] (trace r) begun_shown (nothing_shown step k r h)))
        ∙ waits_in-all step r.start (open_step step r + 1) [] (trace r) in_steps

    pub sum_up : SumUp step r
    unfolding counts_of
    sum_up = record {
      arrived = rows (λ n. n.arrived) arrived_by (λ k. refl) arrived_shown ∙ arrived-total (trace r);
      refused = rows (λ n. n.refused) refused_by (λ k. refl) refused_shown ∙ refused-total (trace r);
      ended = rows (λ n. n.ended) ended_by (λ k. refl) ended_shown ∙ ended-total (trace r);
      failed = rows (λ n. n.failed) failed_by (λ k. refl) failed_shown ∙ failed-total (trace r);
      expired = rows (λ n. n.expired) expired_by (λ k. refl) expired_shown ∙ expired-total (trace r);
      decisions = rows (λ n. n.decisions) decision_by (λ k. refl) decision_shown ∙ decisions-total (trace r);
      ran = rows (λ n. n.ran) begun_by (λ k. refl) begun_shown;
      waited = waited;
    }

-- After the opening.
use Rattle.std.proofs.Common.{◌≡◌, ◌≤◌, ◌/◌, ℕ, Bool, true, false, cond, eqb, List, [], ◌∷◌, ◌++◌, length, map, Option, None, Some, refl, ap, sym, ◌∙◌, subst, arith}
use Rattle.std.specs.Prelude.{max, option_map, unwrap_or}
use Rattle.std.specs.List.{All, cons_option}
use Rattle.std.proofs.Math.Nat.{sub_self, zero-div}
use Rattle.std.proofs.lemmas.List.Elements.{All-nil}
use Rattle.kn_event.specs.declared.entry.Entry.{Entry}
use Rattle.kn_event.specs.declared.entry.Row.{Row}
use Rattle.kn_event.specs.declared.event.Event.{Event}
use Rattle.kn_event.specs.declared.revision.Spec.{Spec}
use Rattle.kn_trace.specs.Events.{opening, trace_of}
use Rattle.kn_trace.specs.Rows.{arrived_by, begun_by, decision_by, ended_by, expired_by, refused_by}
use Rattle.kn_trace.specs.Trace.{Trace, each_row, held, last_of}
use Rattle.kn_core.specs.State.{RevisionState}
use Rattle.kn_record.specs.Order.{AreTimesInOrder}
use Rattle.kn_lives.specs.declared.lives.Life.{Life}
use Rattle.kn_lives.specs.Lives.{AreLives, by_row}
use Rattle.kn_teller.specs.Run.{IsOpened, Run, now_of, trace}
use Rattle.kn_show_series.specs.declared.current.OpenStep.{OpenStep}
use Rattle.kn_show_series.specs.declared.gauges.Gauges.{Gauges}
use Rattle.kn_show_series.specs.Series.{open_step}
use Rattle.kn_show_series.specs.State.{IsPast, IsSeriesOf, IsStepOf, IsUnopened, SeriesState}
use Rattle.kn_show_series.specs.Steps.{counts_of, events_before, failed_by, follows_filled, gauges_of, held_after, held_peak, is_filled, rows_in, step_of, wait_in, waits_in}
use Rattle.kn_show_series.proofs.Bounds.{times_all}
use Rattle.kn_show_series.proofs.Lists.{each_row-filter_none}

-- ---- no row of the opening is counted

-- nor what is read of it
pub each_row-map_none : {X : Type 0} (f : Row → Option X) (g : X → ℕ) (c : Trace) → each_row (λ x. option_map g (f x)) c ≡ [] → each_row f c ≡ []
each_row-map_none f g [] h = refl
each_row-map_none {X} f g (x ∷ c) h = by (f x.row) h (each_row-map_none f g c)
  where
    by : (o : Option X) → cons_option (option_map g o) (each_row (λ y. option_map g (f y)) c) ≡ [] → (each_row (λ y. option_map g (f y)) c ≡ [] → each_row f c ≡ []) → cons_option o (each_row f c) ≡ []
    by None none more = more none
    by (Some y) none more = absurd (cc)

by_row-none : (step start k : ℕ) (before c : Trace) → each_row begun_by c ≡ [] → by_row (wait_in step start k) before c ≡ []
unfolding by_row
by_row-none step start k before [] h = refl
by_row-none step start k before (x ∷ c) h = by (begun_by x.row) refl h (by_row-none step start k (before ++ x ∷ []) c)
  where
    none_of : (b : Bool) (more : List ℕ) → more ≡ [] → cond b [] [] ++ more ≡ []
    none_of true more e = e
    none_of false more e = e

    by : (o : Option ℕ) → begun_by x.row ≡ o → cons_option o (each_row begun_by c) ≡ [] → (each_row begun_by c ≡ [] → by_row (wait_in step start k) (before ++ x ∷ []) c ≡ [])
        → wait_in step start k before x ++ by_row (wait_in step start k) (before ++ x ∷ []) c ≡ []
    by None e none more = rw e (none_of (eqb (step_of step start x.time) k) (by_row (wait_in step start k) (before ++ x ∷ []) c) (more none))
    by (Some q) e none more = absurd (cc)

pub counts_of-none : (step start k : ℕ) (c : Trace) → each_row arrived_by c ≡ [] → each_row refused_by c ≡ [] → each_row ended_by c ≡ [] → each_row failed_by c ≡ [] → each_row expired_by c ≡ []
    → each_row decision_by c ≡ [] → each_row begun_by c ≡ [] → counts_of (rows_in step start k c) (waits_in step start k c) ≡ counts_of [] []
unfolding counts_of rows_in waits_in
counts_of-none step start k c arrived refused ended failed expired decided begun =
    let here : Entry → Bool = λ (x : Entry). eqb (step_of step start x.time) k in
    rw (
      each_row-filter_none arrived_by here c arrived,
      each_row-filter_none refused_by here c refused,
      each_row-filter_none ended_by here c ended,
      each_row-filter_none failed_by here c failed,
      each_row-filter_none expired_by here c expired,
      each_row-filter_none decision_by here c decided,
      each_row-filter_none begun_by here c begun,
      by_row-none step start k [] c begun,
    )

-- ---- what is kept of the first step

no_events : (r : Run) → r.events ≡ [] → now_of r ≡ r.start
no_events r none = ap (λ (es : List Event). unwrap_or (last_of (map (λ (e : Event). e.time) es)) r.start) none

abbrev only : Run → List Event → Run
only r es = record { spec = r.spec; start = r.start; events = es }

first_peak : (step : ℕ) (r : Run) → held_peak step (only r []) 0 ≡ length (held (trace (only r [])))
unfolding held_peak events_before held_after
first_peak step r = omega arith

held_peak-first : (step : ℕ) (r : Run) → r.events ≡ [] → held_peak step r 0 ≡ length (held (trace r))
held_peak-first step r none = subst (λ (es : List Event). held_peak step (only r es) 0 ≡ length (held (trace (only r es)))) (sym none) (first_peak step r)

opens_past : (r : Run) (rev : RevisionState) → r.events ≡ [] → rev.clock ≡ r.start → AreTimesInOrder rev.start (trace r) rev.clock → IsPast r
opens_past r rev none clock times =
    let now = no_events r none in
    record {
      start = omega (arith, now);
      events = subst (λ (es : List Event). All (λ (e : Event). e.time ≤ now_of r) es) (sym none) (All-nil (λ (e : Event). e.time ≤ now_of r));
      rows = subst (λ n. All (λ (x : Entry). x.time ≤ n) (trace r)) (clock ∙ sym now) (times_all rev.start rev.clock (trace r) times);
    }

first_step : (step : ℕ) (r : Run) → r.events ≡ [] → open_step step r ≡ 0
first_step step r none = ap (step_of step r.start) (no_events r none) ∙ ap (λ n. n / step) (sub_self r.start) ∙ zero-div step

pub opened : (x : SeriesState) (r : Run) (rev : RevisionState) (log : Trace) (g : Gauges) (y : OpenStep) → ((s : Spec) (start : ℕ) (l : List (ℕ × Life)) → AreLives l [] [] → AreLives l [] (trace_of s start []))
    → ((s : Spec) (start step from k : ℕ) → counts_of (rows_in step from k (opening s start)) (waits_in step from k (opening s start)) ≡ counts_of [] [])
    → AreTimesInOrder rev.start (trace r) rev.clock → IsUnopened x r → IsOpened r rev log → g ≡ gauges_of r.spec (trace r)
    → y ≡ record x.current { gauges = g; held_peak = max x.current.held_peak g.held } → IsSeriesOf (record x { current = y }) r
unfolding gauges_of is_filled follows_filled
opened x r rev log g y lives counts times u o gauges is =
    let at_first : IsStepOf x.step r 0 y = record {
      from = ap (λ (z : OpenStep). z.from) is ∙ u.first.from ∙ omega arith;
      gauges = ap (λ (z : OpenStep). z.gauges) is ∙ gauges;
      counts =
          ap (λ (z : OpenStep). z.counts) is ∙ u.first.counts ∙ sym (counts r.spec r.start x.step r.start 0)
          ∙ ap (λ (c : Trace). counts_of (rows_in x.step r.start 0 c) (waits_in x.step r.start 0 c)) (sym (o.trace_is ∙ o.rows));
      peak =
          ap (λ (z : OpenStep). z.held_peak) is ∙ ap (λ n. max n g.held) u.first.peak ∙ max_zero g.held
          ∙ ap (λ (z : Gauges). z.held) gauges ∙ sym (held_peak-first x.step r u.none);
      filled = ap (λ (z : OpenStep). z.filled) is ∙ u.first.filled;
      follows = ap (λ (z : OpenStep). z.follows_filled) is ∙ u.first.follows;
    } in
    record {
      ranges = u.ranges;
      past = opens_past r rev u.none o.clock times;
      pods = u.pods;
      lives = subst (λ (es : List Event). AreLives x.lives es (trace_of r.spec r.start es)) (sym u.none) (lives r.spec r.start x.lives u.lives);
      step = subst (λ k. IsStepOf x.step r k y) (sym (first_step x.step r u.none)) at_first;
    }
  where
    max_zero : (n : ℕ) → max 0 n ≡ n
    max_zero n = omega arith

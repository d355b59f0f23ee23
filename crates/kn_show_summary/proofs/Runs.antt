-- What a teller keeps of its run, and the texts that it makes.
use Rattle.std.proofs.Common.{◌≡◌, ℕ, ◌+◌, ◌-◌, ◌≤◌, Bool, true, false, cond, List, [], ◌∷◌, ◌++◌, length, refl, sym, ap, ◌∙◌, arith}
use Rattle.std.specs.Prelude.{◌==◌, if◌then◌else◌}
use Rattle.std.proofs.lemmas.List.Sums.{sum_by-append}
use Rattle.kn_event.specs.declared.entry.Entry.{Entry}
use Rattle.kn_event.specs.declared.event.Event.{Event}
use Rattle.kn_trace.specs.Events.{react}
use Rattle.kn_trace.specs.Report.{is_admit, rows_with}
use Rattle.kn_trace.specs.Scale.{count_ready}
use Rattle.kn_trace.specs.Trace.{Trace}
use Rattle.kn_teller.specs.Run.{Run, later, now_of, trace}
use Rattle.kn_lives.specs.Lives.{tags}
use Rattle.kn_costs.specs.Gauges.{costs, gauges, peaks}
use Rattle.kn_costs.specs.Steps.{cold, cold_at}
use Rattle.kn_show_summary.specs.Counted.{counted}
use Rattle.kn_show_summary.specs.Summary.{KnowsRun, SummaryState}
use Rattle.kn_show_summary.specs.Text.{pods_text, requests_text}

pub requests_is : (x : SummaryState) (r : Run) (events : ℕ) → KnowsRun x r → events ≡ length r.events
    → requests_text x.start x.gauges.clock events x.gauges.present x.rows.counts.counted ≡ requests_text r.start (now_of r) (length r.events) (gauges (trace r)) (counted r.spec (trace r))
requests_is x r events k many = rw (k.start, k.clock, many, k.present, k.rows.counted) refl

pub pods_is : (x : SummaryState) (r : Run) → KnowsRun x r
    → pods_text x.cold x.rows.counts.counted x.gauges.peaks x.gauges.costs ≡ pods_text (cold r) (counted r.spec (trace r)) (peaks r) (costs r)
pods_is x r k = rw (k.cold, k.rows.counted, k.peaks, k.costs) refl

pub no_tags : (es : List Event) → es ≡ [] → length (tags es) ≡ 0
unfolding tags
no_tags es none = rw none refl

pub nothing : (ws : List ℕ) → length ws ≤ 0 → ws ≡ []
nothing [] h = refl
nothing (w ∷ ws) h = absurd (omega arith)

-- how many were admitted at an event while no pod was Ready
pub cold_is : (r : Run) (e : Event) (log : Trace) (ready more : ℕ) → log ≡ react r.spec (trace r) e → trace (later r e) ≡ trace r ++ log → ready ≡ count_ready (trace r)
    → more ≡ (if ready == 0 then rows_with is_admit (trace (later r e)) - rows_with is_admit (trace r) else 0) → more ≡ cold_at r.spec (trace r) e
cold_is r e log ready more rows whole is said = by (ready == 0) refl
  where
    both : rows_with is_admit (trace (later r e)) ≡ rows_with is_admit (trace r) + rows_with is_admit (react r.spec (trace r) e)
    both = ap (rows_with is_admit) (whole ∙ ap (λ (l : Trace). trace r ++ l) rows) ∙ sum_by-append (λ (x : Entry). cond (is_admit x.row) 1 0) (trace r) (react r.spec (trace r) e)

    by : (b : Bool) → (ready == 0) ≡ b → more ≡ cold_at r.spec (trace r) e
    by true zero =
        let same : (count_ready (trace r) == 0) ≡ true = ap (λ (n : ℕ). n == 0) (sym is) ∙ zero in
        let here : cold_at r.spec (trace r) e ≡ rows_with is_admit (react r.spec (trace r) e) = rw same refl in
        let more_is : more ≡ rows_with is_admit (trace (later r e)) - rows_with is_admit (trace r) = rw zero at said in
        omega (arith, here, more_is, both)
    by false some =
        let same : (count_ready (trace r) == 0) ≡ false = ap (λ (n : ℕ). n == 0) (sym is) ∙ some in
        let here : cold_at r.spec (trace r) e ≡ 0 = rw same refl in
        let more_is : more ≡ 0 = rw some at said in
        omega (arith, here, more_is)

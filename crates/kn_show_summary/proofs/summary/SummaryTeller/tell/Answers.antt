use Rattle.std.proofs.Common.{◌≡◌, ◌+◌, ◌-◌, ◌∙◌, ◌++◌, ◌∷◌, [], ℕ, ap, sym, subst, arith}
use Rattle.kn_trace.specs.Report.{is_admit, rows_with}
use Rattle.kn_trace.specs.Scale.{count_ready}
use Rattle.kn_trace.specs.Trace.{arrivals}
use Rattle.kn_teller.specs.Run.{later, now_of, trace}
use Rattle.kn_costs.specs.Gauges.{gauges, with_now, with_time}
use Rattle.kn_costs.specs.Steps.{cold}
use Rattle.kn_costs.specs.declared.gauges.Now.{Now}
use Rattle.kn_show_summary.specs.Counted.{Counted, counted}
use Rattle.kn_show_summary.specs.Rows.{AreRowsOf}
use Rattle.kn_show_summary.specs.Summary.{KnowsRun, SummaryState}
use Rattle.kn_show_summary.proofs.Runs.{cold_is}
use Rattle.kn_show_summary.proofs.summary.SummaryTeller.tell.Goals as goal

pub returns-clause-knows : goal.returns-clause-knows
unfolding gauges counted
returns-clause-knows g c r knows step =
    let e = c.args.e.now in
    let c0 = trace r in
    let held = subst (λ (x : SummaryState). KnowsRun x r) (sym c.self.view_is) knows in
    let seen : c.of.result ≡ gauges (trace (later r e)) = c.of.ensures.value (later r e) held.ranges step.stands in
    let before : AreRowsOf c.self.inside.rows r.spec (r.events ++ e ∷ []) c0 = record {
      counted = held.rows.counted;
      waits = held.rows.waits;
      limit = held.rows.limit;
      lives = c.lives_laws.ensures.later r.spec r.start r.events (e ∷ []) c.self.inside.rows.lives held.rows.lives;
    } in
    let arrived : arrivals (trace (later r e)) ≡ c.of.result.arrivals = ap (λ (n : Now). n.arrivals) (sym seen) in
    let told = c.add_all.ensures.kept r.spec r.start r.events e (record {
      some = omega (arith, held.ranges.timeout_least);
      rows = step.rows;
      tagged = c.arrival_tag.ensures;
      few = omega (arith, ap arrivals step.trace_is, arrived, c.of.ensures.few);
    }) before in
    let rows : AreRowsOf c.add_all.new.self r.spec (r.events ++ e ∷ []) (trace (later r e)) = subst (AreRowsOf c.add_all.new.self r.spec (r.events ++ e ∷ [])) (sym step.trace_is) told in
    let ready : c.present-was_ready.result.ready ≡ count_ready c0 = ap (λ (n : Now). n.ready) (c.present-was_ready.ensures ∙ held.present) in
    let first : c.admitted-admitted.result ≡ rows_with is_admit c0 = c.admitted-admitted.ensures ∙ ap (λ (t : Counted). t.admitted) held.rows.counted in
    let last : c.admitted.result ≡ rows_with is_admit (trace (later r e)) = c.admitted.ensures ∙ ap (λ (t : Counted). t.admitted) rows.counted in
    record {
      ranges = held.ranges;
      start = held.start;
      clock = c.see.ensures.clock ∙ c.pass.ensures.clock ∙ omega (arith, held.clock, step.order) ∙ sym (c.run_laws.ensures.clock_next r e);
      present = c.see.ensures.present ∙ seen;
      peaks =
          c.see.ensures.peaks ∙ ap (λ (n : Now). with_now n c.pass.new.self.peaks) seen
          ∙ ap (with_now (gauges (trace (later r e)))) (c.pass.ensures.peaks ∙ held.peaks) ∙ sym (c.run_laws.ensures.peaks_next r e);
      costs =
          c.see.ensures.costs ∙ c.pass.ensures.costs ∙ ap (λ (t : ℕ). with_time (e.time - t) c.self.inside.gauges.present c.self.inside.gauges.costs) held.clock
          ∙ ap (λ (n : Now). with_time (e.time - now_of r) n c.self.inside.gauges.costs) held.present
          ∙ ap (with_time (e.time - now_of r) (gauges (trace r))) held.costs ∙ sym (c.run_laws.ensures.costs_next r e);
      cold =
          ap (λ (n : ℕ). n + c.admitted_cold.result) held.cold
          ∙ ap (λ (n : ℕ). cold r + n) (cold_is r e c.args.log.now c.present-was_ready.result.ready c.admitted_cold.result step.rows step.trace_is ready (rw (last, first) at c.admitted_cold.ensures))
          ∙ sym (c.run_laws.ensures.cold_next r e);
      rows = rows;
    }

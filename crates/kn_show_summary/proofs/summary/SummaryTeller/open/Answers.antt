use Rattle.std.proofs.Common.{◌≡◌, ◌≤◌, ◌∙◌, [], ℕ, List, ap, sym, subst, arith, length}
use Rattle.kn_event.specs.declared.event.Event.{Event}
use Rattle.kn_trace.specs.Events.{trace_of}
use Rattle.kn_teller.specs.Run.{trace}
use Rattle.kn_lives.specs.declared.lives.Life.{Life}
use Rattle.kn_lives.specs.Lives.{AreLives}
use Rattle.kn_begun.specs.Begun.{waits}
use Rattle.kn_waits.specs.Waits.{AreWaits, WaitsState}
use Rattle.kn_costs.specs.declared.gauges.Now.{Now}
use Rattle.kn_costs.specs.Gauges.{GaugesState, nothing_at, with_now}
use Rattle.kn_show_summary.specs.Counted.{counted}
use Rattle.kn_show_summary.specs.Summary.{AwaitsRun, SummaryState}
use Rattle.kn_show_summary.proofs.Runs.{no_tags, nothing}
use Rattle.kn_show_summary.proofs.summary.SummaryTeller.open.Goals as goal

pub returns-clause-knows : goal.returns-clause-knows
returns-clause-knows g c r awaits opened =
    let none = opened.none in
    let held = subst (λ (x : SummaryState). AwaitsRun x r) (sym c.self.view_is) awaits in
    let few : length (waits (trace r)) ≤ 0 =
    omega (arith, c.begin_laws.ensures.few r.spec (trace r) opened.made, c.lives_laws.ensures.count r.spec r.start r.events, no_tags r.events none) in
    let nobody : waits [] ≡ waits (trace r) = c.begin_laws.ensures.first ∙ sym (nothing (waits (trace r)) few) in
    record {
      ranges = held.ranges;
      start = held.start;
      clock = c.see.ensures.clock ∙ ap (λ (g : GaugesState). g.clock) held.gauges ∙ sym (c.run_laws.ensures.clock_first r none);
      present = c.see.ensures.present ∙ c.of.ensures.value r held.ranges opened.stands;
      peaks =
          c.see.ensures.peaks ∙ ap (λ (g : GaugesState). with_now c.of.result g.peaks) held.gauges
          ∙ ap (λ (n : Now). with_now n (nothing_at r.start).peaks) (c.of.ensures.value r held.ranges opened.stands) ∙ sym (c.run_laws.ensures.peaks_first r none);
      costs = c.see.ensures.costs ∙ ap (λ (g : GaugesState). g.costs) held.gauges ∙ sym (c.run_laws.ensures.costs_first r none);
      cold = held.cold ∙ sym (c.run_laws.ensures.cold_first r none);
      rows = record {
        counted = c.add_opening.ensures.counted r.spec [] held.rows.counted ∙ ap (counted r.spec) (sym opened.trace_is);
        waits = subst (λ (ws : List ℕ). AreWaits c.add_opening.new.self.waits ws) nobody (subst (λ (w : WaitsState). AreWaits w (waits [])) (sym c.add_opening.ensures.waits) held.rows.waits);
        limit = ap (λ (w : WaitsState). length w.counters) c.add_opening.ensures.waits ∙ held.rows.limit;
        lives = subst (λ (es : List Event). AreLives c.add_opening.new.self.lives es (trace_of r.spec r.start es)) (sym none) (c.lives_laws.ensures.opened r.spec r.start c.add_opening.new.self.lives (subst (λ (l : List (ℕ × Life)). AreLives l [] []) (sym c.add_opening.ensures.lives) held.rows.lives));
      };
    }

use Rattle.std.proofs.Common.{◌∙◌, ap, subst, sym}
use Rattle.std.specs.Prelude.{max}
use Rattle.kn_event.specs.declared.revision.Spec.{Spec}
use Rattle.kn_teller.specs.Run.{trace}
use Rattle.kn_show_series.specs.State.{IsSeriesOf, SeriesState}
use Rattle.kn_show_series.specs.Steps.{gauges_of, pods_of}
use Rattle.kn_show_series.specs.Fields.{header}
use Rattle.kn_show_series.proofs.Opened.{opened}
use Rattle.kn_show_series.proofs.series.SeriesTeller.open.Goals as goal

pub returns-in-Err-clause-err : goal.returns-in-Err-clause-err
unfolding header
returns-in-Err-clause-err g c = λ r u o. c.in-Err.ensures.err

pub returns-clause-ok : goal.returns-clause-ok
unfolding header
returns-clause-ok g c = λ r u o. c.in-Ok.ensures.ok

pub returns-clause-knows : goal.returns-clause-knows
returns-clause-knows g c = λ r u o.
    let rev = c.args.revision.now in
    let viewed = c.self.view_is in
    let pods = ap (λ (x : SeriesState). x.pods) viewed ∙ u.pods ∙ ap (λ (s : Spec). pods_of s.kind) (sym o.spec) in
    let gauges = c.of.ensures (trace r) o.stands pods ∙ ap (λ (s : Spec). gauges_of s (trace r)) o.spec in
    let new = c.measure.ensures ∙ ap (λ (x : SeriesState). record x.current { gauges = c.of.result; held_peak = max x.current.held_peak c.of.result.held }) viewed in
    let all = opened c.args.self.now r rev c.args._log.now c.of.result c.measure.new.self c.lives_laws.ensures.opened c.opening_laws.ensures
    (c.history_laws.ensures.times rev.spec rev.start rev.clock rev.events (trace r) o.stands.events) u o gauges new in
    subst (λ (x : SeriesState). IsSeriesOf (record x { current = c.measure.new.self }) r) (sym viewed) all

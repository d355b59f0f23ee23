use Rattle.std.proofs.Common.{◌≡◌, ◌<◌, ◌∙◌, ℕ, List, ap, subst, sym}
use Rattle.std.specs.Prelude.{max}
use Rattle.kn_event.specs.Revision.{AreInRange}
use Rattle.kn_laws.specs.Kinds.{EachAt}
use Rattle.kn_lives.specs.declared.lives.Life.{Life}
use Rattle.kn_lives.specs.Lives.{AreLives}
use Rattle.kn_teller.specs.Run.{later, trace}
use Rattle.kn_show_series.specs.State.{IsSeriesOf, IsStepOf, Precedes, SeriesState}
use Rattle.kn_show_series.specs.Steps.{pods_of, step_of}
use Rattle.kn_show_series.proofs.Told.{precedes, told}
use Rattle.kn_show_series.proofs.series.SeriesTeller.tell.Goals as goal

pub returns-clause-knows : goal.returns-clause-knows
returns-clause-knows g c = λ r h s.
    let e = c.args.e.now in
    let rev = c.args.revision.now in
    let old = c.args.self.now in
    let mid : SeriesState = record { step = c.self.inside.step; pods = c.self.inside.pods; lives = c.self.inside.lives; current = c.pass.new.self } in
    let n = c.count.new.self in
    let step = ap (λ (x : SeriesState). x.step) c.self.view_is in
    let at = subst (EachAt e.time) (sym s.rows) (c.part_laws.ensures.rows.react-at r.spec (trace r) e) in
    let few = λ (step from k : ℕ). c.wait_laws.ensures (trace (later r e)) step from k s.stands (subst AreInRange (sym s.spec) h.ranges) in
    let before = subst (λ (x : SeriesState). Precedes x.step r e.time x.current) (sym c.self.view_is) (precedes old r e rev c.args.log.now h s) in
    let passed = subst (λ m. IsStepOf m r (step_of m r.start e.time) c.pass.new.self) step (c.in-Ok.ensures.step r before) in
    let counts = c.count.ensures.counts r (subst (λ (l : List (ℕ × Life)). AreLives l r.events (trace r)) (sym (ap (λ (x : SeriesState). x.lives) c.self.view_is)) h.lives) s.rows in
    let gauges = λ (p : n.pods ≡ pods_of rev.spec.kind). c.of.ensures (trace (later r e)) s.stands (ap (λ (x : SeriesState). x.pods) c.self-2.view_is ∙ p) in
    let new = c.measure.ensures ∙ ap (λ (x : SeriesState). record x.current { gauges = c.of.result; held_peak = max x.current.held_peak c.of.result.held }) c.self-2.view_is in
    let pos : 0 < old.step = subst (λ m. 0 < m) step c.self.invariant in
    let all =
    told r e rev c.args.log.now old mid n c.of.result c.measure.new.self (λ f t xs ys. c.row_laws.ensures.append f t xs ys) at few pos h s passed
    (c.count.ensures.step ∙ step) (c.count.ensures.pods ∙ ap (λ (x : SeriesState). x.pods) c.self.view_is) counts gauges new in
    subst (λ (x : SeriesState). IsSeriesOf (record x { current = c.measure.new.self }) (later r e)) (sym c.self-2.view_is) all

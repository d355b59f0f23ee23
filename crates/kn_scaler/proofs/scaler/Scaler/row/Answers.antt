use Rattle.std.proofs.Common.{refl, sym, ap, ◌∙◌, subst, append-nil, None, Some}
use Rattle.std.specs.Prelude.{IfSome}
use Rattle.kn_stats.specs.Totals.{CanCount, IsTotalsOf, TotalsState}
use Rattle.kn_changes.specs.Changes.{changes_of}
use Rattle.kn_scaler.specs.Stands.{ScalerState}
use Rattle.kn_scaler.proofs.Nexts.{may_change, next_change}
use Rattle.kn_scaler.proofs.Others.{row-stands}
use Rattle.kn_scaler.proofs.scaler.Scaler.row.Goals as goal

pub change-requires : goal.change-requires
change-requires c =
    let can = may_change c.place_laws.ensures.change c.measure_laws.ensures.change c.args.self.now c.args.added c.args.at c.args.through c.change_of.result c.change_of.ensures c.requires in
    let now = subst (λ o. IfSome o (CanCount c.args.self.now.stats)) c.in-Some.is can in
    subst (λ (x : ScalerState). CanCount x.stats c.in-Some.change) (sym c.self.view_is) now

pub returns-in-Some-clause-stands : goal.returns-in-Some-clause-stands
returns-in-Some-clause-stands c =
    rw (← c.self.view_is)
    (λ s b quiet next.
    let old : ScalerState = record { stats = c.self.inside.stats; decider = c.self.inside.decider } in
    let change = next_change c.place_laws.ensures.change s old b c.args.added c.args.at c.args.through c.change_of.result c.change_of.ensures next in
    row-stands c.trace_facts.ensures s old b c.args.added c.change.new.self next.stands (c.row_laws.ensures.beside s b old.stats.time c.args.added next.made next.proper quiet)
    (ap (λ (t : TotalsState). t.time) c.change.ensures.state) (ap (λ (t : TotalsState). t.metric) c.change.ensures.state) (Some c.in-Some.change) (change ∙ c.in-Some.is)
    (c.change.ensures.stands (changes_of b) next.stands.stats))

pub returns-in-None-clause-stands : goal.returns-in-None-clause-stands
returns-in-None-clause-stands c = λ s b quiet next.
    let old = c.args.self.now in
    let change = next_change c.place_laws.ensures.change s old b c.args.added c.args.at c.args.through c.change_of.result c.change_of.ensures next in
    row-stands c.trace_facts.ensures s old b c.args.added old.stats next.stands (c.row_laws.ensures.beside s b old.stats.time c.args.added next.made next.proper quiet)
    refl refl None (change ∙ c.in-None.is) (subst (IsTotalsOf old.stats) (sym (append-nil (changes_of b))) next.stands.stats)

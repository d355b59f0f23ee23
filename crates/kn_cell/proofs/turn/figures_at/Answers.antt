use Rattle.std.proofs.Common.{◌≡◌, ◌+◌, length, ap, sym, ◌∙◌, subst}
use Rattle.kn_core.specs.State.{StandsFor}
use Rattle.kn_figures.specs.Figures.{IsFiguresOf}
use Rattle.kn_figures.specs.Tallies.{IsTallyOf}
use Rattle.kn_trace.specs.Trace.{Trace}
use Rattle.kn_cell.specs.State.{DeskState}
use Rattle.kn_cell.proofs.TurnFacts.{figures_seen, slot_first}
use Rattle.kn_cell.proofs.TurnMoves.{first_or}
use Rattle.kn_cell.proofs.turn.figures_at.Goals as goal

pub slot_mut-requires : goal.slot_mut-requires
slot_mut-requires c = let t = c.requires.turn in (c.requires.same, (t.value, slot_first c.args.place.now.me.1 t.value t.slot))

pub returns-clause-value : goal.returns-clause-value
returns-clause-value c =
    let t = c.requires.turn in
    let same : c.slot_mut.result.now ≡ t.value = ap (first_or c.slot_mut.result.now) (sym c.slot_mut.ensures.value ∙ t.slot) in
    figures_seen c.args.place.now.me.0 t.value c.figures.result t.goes t.gone
    (subst (λ (y : DeskState). (d counted : Trace) → StandsFor y.revision d → IsTallyOf y.tally counted
    → IsFiguresOf y.revision.spec d counted (y.taken + length y.history) y.taken c.figures.result) same c.figures.ensures)

use Rattle.std.proofs.Common.{◌≡◌, ◌+◌, ap, sym, subst, ◌∙◌}
use Rattle.kn_cell.specs.Shown.{IsClosed, PassView, joined_shown}
use Rattle.kn_request.specs.declared.slot.Slot.{Slot}
use Rattle.kn_session.specs.Passes.{found_in}
use Rattle.kn_session.proofs.CloseFacts.{closes_all, closing_full}
use Rattle.kn_session.proofs.HandFacts.{joined_same}
use Rattle.kn_session.proofs.over.close_session.Goals as goal

pub take_back-requires-clause-passes : goal.take_back-requires-clause-passes
take_back-requires-clause-passes g c i d low =
    let x = c.requires.passes i d low in
    (x.0, x.1, x.2.of)

pub join-requires-clause-cell : goal.join-requires-clause-cell
join-requires-clause-cell g c = ap (λ (p : PassView). p.cell) c.take_back.ensures.pass ∙ ((joined_same c.args.first (found_in c.args.slots.now)).cell ∙ c.requires.cell)

pub close-requires-clause-cell : goal.close-requires-clause-cell
close-requires-clause-cell g c =
    ap (λ (p : PassView). p.cell) c.join.ensures ∙ (ap (λ (p : PassView). p.cell) c.take_back.ensures.pass ∙ ((joined_same c.args.first (found_in c.args.slots.now)).cell ∙ c.requires.cell))

pub close-requires-clause-all : goal.close-requires-clause-all
close-requires-clause-all g c =
    let full = closing_full c.args.cell (λ (s : Slot g.row.C.Denot g.row.L.Denot). s.work.pass) c.args.slots.now c.args.first c.args.ticks c.requires.passes c.requires.ticks c.requires.all in
    subst (λ (v : PassView). 1 + v.free + v.back ≡ v.passes) (sym (c.join.ensures ∙ ap (λ (v : PassView). joined_shown v c.args.ticks) c.take_back.ensures.pass)) full

pub returns-clause-closes : goal.returns-clause-closes
returns-clause-closes g c =
    let is = c.join.ensures ∙ ap (λ (v : PassView). joined_shown v c.args.ticks) c.take_back.ensures.pass in
    let x = subst (λ (v : PassView). IsClosed v c.close.result.0 c.close.result.1) is c.close.ensures.closes in
    closes_all c.args.cell c.args.slots.now c.args.first c.args.ticks c.close.result.0 c.close.result.1 c.requires.passes c.requires.ticks c.requires.first.0 c.requires.first.1 c.requires.first.2 x

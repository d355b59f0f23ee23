use Rattle.std.proofs.Common.{◌≡◌, ◌≤◌, ap, ◌∙◌, refl, arith}
use Rattle.atomic_table.specs.Table.{Me}
use Rattle.kn_cell.specs.declared.view.View.{View}
use Rattle.kn_cell.specs.State.{DeskState}
use Rattle.kn_cell.specs.Rule.{GetsTurn}
use Rattle.kn_cell.proofs.TurnFacts.{waits_of}
use Rattle.kn_cell.proofs.ShownFacts.{looks_recorded, looks_idle, adds_recorded, misfits_idle}
use Rattle.kn_cell.proofs.cell.RevisionCell.try_on.Goals as goal
use Rattle.kn_cell.proofs.cell.RevisionCell.try_on.Goals.{in-Ok, in-Err}

pub returns : goal.returns
returns c =
    let place = c.pass.inside.place in
    let t = place.table_id in
    let v = place.me.0 in
    let m = c.take.new.place.me in
    let w = c.attempt.new.place.me in
    let turn : GetsTurn place.me m = c.take.ensures.turn c.if-take-ne0.false in
    let same : v.missed ≤ v.missed = omega arith in
    let got = waits_of v v place.me.1 m same (λ _. refl) c.pass.invariant.fresh refl turn in
    let kept : m.0.missed ≡ v.missed = ap (λ (x : Me DeskState View). x.0.missed) turn.after in
    elim c.match-attempt.branch [
      | in-Ok b ↦
          let row = b.in-Ok.ensures.ok in
          rw (← c.pass.view_is, c.attempt.ensures.same.0, c.take.ensures.same.0, b.result-is) (
            looks_recorded t v c.args.act c.args.time c.attempt.new.answer m w got row,
            adds_recorded t v c.args.act c.args.time c.attempt.new.answer m w got row,
            ap (λ (x : Me DeskState View). x.0.missed) row.after_is ∙ kept,
          )
      | in-Err b ↦
          let full = b.in-Err.ensures.err in
          rw (← c.pass.view_is, c.attempt.ensures.same.0, c.take.ensures.same.0, b.result-is) (
            looks_idle t v m w got full.0,
            misfits_idle t v c.args.act b.in-Err.full m w got full.0 full.1,
            ap (λ (x : Me DeskState View). x.0.missed) full.0 ∙ kept,
          )
    ]

pub attempt-requires-clause-turn : goal.attempt-requires-clause-turn
attempt-requires-clause-turn c =
    let place = c.pass.inside.place in
    let v = place.me.0 in
    let m = c.take.new.place.me in
    let turn : GetsTurn place.me m = c.take.ensures.turn c.if-take-ne0.false in
    let same : v.missed ≤ v.missed = omega arith in
    (waits_of v v place.me.1 m same (λ _. refl) c.pass.invariant.fresh refl turn).has

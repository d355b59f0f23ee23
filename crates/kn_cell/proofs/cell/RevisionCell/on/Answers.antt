use Rattle.std.proofs.Common.{rules}
use Rattle.kn_cell.proofs.ShownFacts.{adds_recorded, looks_idle, looks_recorded}
use Rattle.kn_cell.proofs.cell.RevisionCell.on.Goals as goal
use Rattle.kn_cell.proofs.cell.RevisionCell.on.Goals.{in-Ok, in-Err}

pub returns-clause-looks : goal.returns-clause-looks
returns-clause-looks g c =
    let place = c.pass.inside.place in
    let m = c.take_turn.new.place.me in
    let w = c.attempt.new.place.me in
    elim c.match-attempt.branch [
      | in-Ok b ↦
          let looks = looks_recorded place.table_id place.me.0 c.args.act c.args.time c.attempt.new.answer m w c.take_turn.ensures.turn b.in-Ok.ensures.ok in
          rw (← c.pass.view_is, c.attempt.ensures.same.0, c.take_turn.ensures.same.0) looks
      | in-Err b ↦
          let looks = looks_idle place.table_id place.me.0 m w c.take_turn.ensures.turn b.in-Err.ensures.err.0 in
          rw (← c.pass.view_is, c.attempt.ensures.same.0, c.take_turn.ensures.same.0) looks
    ]

pub returns-clause-ok : goal.returns-clause-ok
returns-clause-ok g c =
    let place = c.pass.inside.place in
    let m = c.take_turn.new.place.me in
    let w = c.attempt.new.place.me in
    elim c.match-attempt.branch [
      | in-Ok b ↦
          let adds = adds_recorded place.table_id place.me.0 c.args.act c.args.time c.attempt.new.answer m w c.take_turn.ensures.turn b.in-Ok.ensures.ok in
          rw (← c.pass.view_is, c.attempt.ensures.same.0, c.take_turn.ensures.same.0, b.result-is) adds
      | in-Err b ↦ rw b.result-is (search rules)
    ]

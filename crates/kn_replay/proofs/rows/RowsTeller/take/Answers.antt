use Rattle.std.proofs.Common.{◌≡◌, [], arith, sym}
use Rattle.std.proofs.lemmas.Grind.{common_steps}
use Rattle.std.proofs.lemmas.Result.{on_err_weaker, on_ok_weaker}
use Rattle.kn_core.specs.Firsts.{first_rows}
use Rattle.kn_report.specs.Waiting.{Adds}
use Rattle.kn_trace.specs.Report.{rows_text}
use Rattle.kn_replay.proofs.Firsts.{adds_put, text_of_both, text_of_first}
use Rattle.kn_replay.proofs.rows.RowsTeller.take.Goals as goal
use Rattle.kn_replay.proofs.rows.RowsTeller.take.Goals.{then-not-has_room+in-Ok, else-not-has_room}

pub returns-then-is_empty-clause-ok : goal.returns-then-is_empty-clause-ok
returns-then-is_empty-clause-ok g c r known run =
    let room : Adds (g.O.Sink.held c.args.out.now) (g.O.Sink.held c.if-not-has_room.out) c.args.waiting.now c.if-not-has_room.waiting [] =
    elim c.if-not-has_room.branch [
      | then-not-has_room+in-Ok w ↦ rw (w.waiting-is, w.out-is) w.in-Ok.ensures.ok
      | else-not-has_room w ↦ rw (w.waiting-is, w.out-is) c.adding_laws.ensures.laws.nothing
    ] in
    let first = first_rows c.args.e.now.time c.take_first-first.result in
    let none : c.take_first-first.new.log ≡ [] = grind (arith, common_steps) in
    rw (text_of_first first _ _ (c.take_first-first.ensures.logged r run) none)
    (adds_put c.adding_laws.ensures.laws room c.put_first.ensures.text)

pub returns-clause-ok : goal.returns-clause-ok
returns-clause-ok g c r known run =
    let room : Adds (g.O.Sink.held c.args.out.now) (g.O.Sink.held c.if-not-has_room.out) c.args.waiting.now c.if-not-has_room.waiting [] =
    elim c.if-not-has_room.branch [
      | then-not-has_room+in-Ok w ↦ rw (w.waiting-is, w.out-is) w.in-Ok.ensures.ok
      | else-not-has_room w ↦ rw (w.waiting-is, w.out-is) c.adding_laws.ensures.laws.nothing
    ] in
    let first = first_rows c.args.e.now.time c.take_first-first.result in
    let all = text_of_both first c.take_first-first.new.log _ (c.take_first-first.ensures.logged r run) in
    on_ok_weaker c.add_many.result
    (λ more. c.adding_laws.ensures.laws.more (adds_put c.adding_laws.ensures.laws room c.put_first.ensures.text) more (sym all))
    c.add_many.ensures.ok

pub returns-clause-err : goal.returns-clause-err
returns-clause-err g c r known run =
    let room : Adds (g.O.Sink.held c.args.out.now) (g.O.Sink.held c.if-not-has_room.out) c.args.waiting.now c.if-not-has_room.waiting [] =
    elim c.if-not-has_room.branch [
      | then-not-has_room+in-Ok w ↦ rw (w.waiting-is, w.out-is) w.in-Ok.ensures.ok
      | else-not-has_room w ↦ rw (w.waiting-is, w.out-is) c.adding_laws.ensures.laws.nothing
    ] in
    let first = first_rows c.args.e.now.time c.take_first-first.result in
    let log = c.take_first-first.new.log in
    rw (text_of_both first log _ (c.take_first-first.ensures.logged r run))
    (on_err_weaker c.add_many.result
    (c.adding_laws.ensures.laws.last (g.O.Sink.held c.add_many.new.out) (rows_text log) (adds_put c.adding_laws.ensures.laws room c.put_first.ensures.text))
    c.add_many.ensures.err)

use Rattle.std.proofs.Common.{◌∙◌}
use Rattle.kn_begun.specs.Begun.{waits}
use Rattle.kn_teller.specs.Run.{trace}
use Rattle.kn_show_summary.specs.Summary.{summary}
use Rattle.kn_show_summary.proofs.Runs.{pods_is, requests_is}
use Rattle.kn_show_summary.proofs.Waits.{all_added, first_fails, on_err, on_ok, second_fails, third_fails}
use Rattle.kn_show_summary.proofs.summary.SummaryTeller.end.Goals as goal

pub returns-in-Err-clause-err : goal.returns-in-Err-clause-err
unfolding summary
returns-in-Err-clause-err g c r k many =
    first_fails c.adding_laws.ensures.laws (g.O.Sink.held c.args.out.now) (g.O.Sink.held c.add.new.out) c.args.waiting.now c.bytes.result.now _ _ _
    (c.bytes.ensures ∙ c.put_requests.ensures ∙ requests_is c.args.self.now r c.args.events k many)
    c.in-Err.ensures.err

pub returns-in-Err-add-clause-err : goal.returns-in-Err-add-clause-err
unfolding summary
returns-in-Err-add-clause-err g c r k many =
    second_fails c.adding_laws.ensures.laws (g.O.Sink.held c.args.out.now) (g.O.Sink.held c.add.new.out) (g.O.Sink.held c.add-2.new.out) c.args.waiting.now c.add.new.self c.bytes.result.now c.bytes-2.result.now _ _ _
    (c.bytes.ensures ∙ c.put_requests.ensures ∙ requests_is c.args.self.now r c.args.events k many)
    (c.bytes-2.ensures ∙ c.put_waits.ensures (waits (trace r)) k.rows.waits)
    c.in-Ok.ensures.ok
    c.in-Err-add.ensures.err

pub returns-clause-ok : goal.returns-clause-ok
unfolding summary
returns-clause-ok g c r k many =
    on_ok c.add-3.result
    (all_added c.adding_laws.ensures.laws (g.O.Sink.held c.args.out.now) (g.O.Sink.held c.add.new.out) (g.O.Sink.held c.add-2.new.out) (g.O.Sink.held c.add-3.new.out)
    c.args.waiting.now c.add.new.self c.add-2.new.self c.add-3.new.self c.bytes.result.now c.bytes-2.result.now c.bytes-3.result.now _ _ _
    (c.bytes.ensures ∙ c.put_requests.ensures ∙ requests_is c.args.self.now r c.args.events k many)
    (c.bytes-2.ensures ∙ c.put_waits.ensures (waits (trace r)) k.rows.waits)
    (c.bytes-3.ensures ∙ c.put_pods.ensures ∙ pods_is c.args.self.now r k)
    c.in-Ok.ensures.ok c.in-Ok-add.ensures.ok)
    c.add-3.ensures.ok

pub returns-clause-err : goal.returns-clause-err
unfolding summary
returns-clause-err g c r k many =
    on_err c.add-3.result
    (third_fails c.adding_laws.ensures.laws (g.O.Sink.held c.args.out.now) (g.O.Sink.held c.add.new.out) (g.O.Sink.held c.add-2.new.out) (g.O.Sink.held c.add-3.new.out)
    c.args.waiting.now c.add.new.self c.add-2.new.self c.bytes.result.now c.bytes-2.result.now c.bytes-3.result.now _ _ _
    (c.bytes.ensures ∙ c.put_requests.ensures ∙ requests_is c.args.self.now r c.args.events k many)
    (c.bytes-2.ensures ∙ c.put_waits.ensures (waits (trace r)) k.rows.waits)
    (c.bytes-3.ensures ∙ c.put_pods.ensures ∙ pods_is c.args.self.now r k)
    c.in-Ok.ensures.ok c.in-Ok-add.ensures.ok)
    c.add-3.ensures.err

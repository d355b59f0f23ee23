use Rattle.std.proofs.Common.{◌++◌, ap, refl, subst, sym}
use Rattle.std.specs.Prelude.{OnErr, OnOk}
use Rattle.kn_io.specs.Prefix.{AppendsPrefix}
use Rattle.kn_report.specs.Waiting.{Adds}
use Rattle.kn_trace.specs.Rows.{decision_by}
use Rattle.kn_show_reasons.specs.Notices.{arrived_in, pod_in}
use Rattle.kn_show_reasons.proofs.Rows.{no_decision, row_decided, row_other}
use Rattle.kn_show_reasons.proofs.reasons.add_row.Goals as goal

pub returns-in-Decided-clause-ok : goal.returns-in-Decided-clause-ok
returns-in-Decided-clause-ok g c =
    let x = c.args.seen.now in
    let e = c.args.e.now in
    let text = row_decided c.args.spec.now x.phase x.since (arrived_in x.lives) (pod_in x.lives) x.ready e.time e.row c.in-Decided.d _ refl (sym (ap decision_by c.in-Decided.is)) in
    subst (λ m. OnOk c.add_decision.result (Adds (g.O.Sink.held c.args.out.now) (g.O.Sink.held c.add_decision.new.out) c.args.waiting.now c.add_decision.new.waiting m)) text c.add_decision.ensures.ok

pub returns-in-Decided-clause-err : goal.returns-in-Decided-clause-err
returns-in-Decided-clause-err g c =
    let x = c.args.seen.now in
    let e = c.args.e.now in
    let text = row_decided c.args.spec.now x.phase x.since (arrived_in x.lives) (pod_in x.lives) x.ready e.time e.row c.in-Decided.d _ refl (sym (ap decision_by c.in-Decided.is)) in
    subst (λ m. OnErr c.add_decision.result (AppendsPrefix (g.O.Sink.held c.args.out.now) (g.O.Sink.held c.add_decision.new.out) (c.args.waiting.now ++ m))) text c.add_decision.ensures.err

pub returns-in_default-clause-ok : goal.returns-in_default-clause-ok
returns-in_default-clause-ok g c =
    let x = c.args.seen.now in
    let e = c.args.e.now in
    let text = row_other c.args.spec.now x.phase x.since (arrived_in x.lives) (pod_in x.lives) x.ready e.time e.row c.of-notice.result c.of-notice.ensures (no_decision e.row c.in_default.not-Decided) in
    subst (λ m. OnOk c.add_notice.result (Adds (g.O.Sink.held c.args.out.now) (g.O.Sink.held c.add_notice.new.out) c.args.waiting.now c.add_notice.new.waiting m)) text c.add_notice.ensures.ok

pub returns-in_default-clause-err : goal.returns-in_default-clause-err
returns-in_default-clause-err g c =
    let x = c.args.seen.now in
    let e = c.args.e.now in
    let text = row_other c.args.spec.now x.phase x.since (arrived_in x.lives) (pod_in x.lives) x.ready e.time e.row c.of-notice.result c.of-notice.ensures (no_decision e.row c.in_default.not-Decided) in
    subst (λ m. OnErr c.add_notice.result (AppendsPrefix (g.O.Sink.held c.args.out.now) (g.O.Sink.held c.add_notice.new.out) (c.args.waiting.now ++ m))) text c.add_notice.ensures.err

use Rattle.kn_request.proofs.Talking.{cut_short}
use Rattle.kn_request.proofs.one.put.Goals as goal

pub returns-in-Err-clause-writes : goal.returns-in-Err-clause-writes
returns-in-Err-clause-writes g c =
    let kept = g.C.Sink.kept in
    let held = g.C.Sink.held in
    cut_short (kept c.args.caller.now) (kept c.put_all.new.out) (held c.args.caller.now) (held c.put_all.new.out) c.args.bytes.now c.args.served c.put_all.ensures.kept_stays c.in-Err.ensures.err

use Rattle.std.proofs.Common.{◌++◌, subst, ap}
use Rattle.kn_reply.specs.Plain.{Puts}
use Rattle.kn_reply.proofs.Puts.{start_is}
use Rattle.kn_reply.proofs.plain.put_start.Goals as goal

pub returns-clause-puts : goal.returns-clause-puts
returns-clause-puts g c =
    let text = c.args.interim.now in
    let same = start_is c.args.version c.args.code _ c.args.reason.now c.three_digits.ensures in
    subst (Puts (g.O.Sink.held c.args.out.now) (g.O.Sink.held c.put_pieces.new.out) c.put_pieces.result) (ap (λ l. text ++ l) same) c.put_pieces.ensures.puts

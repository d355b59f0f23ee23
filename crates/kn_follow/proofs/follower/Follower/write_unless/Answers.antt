use Rattle.std.proofs.Common.{subst}
use Rattle.std.specs.Prelude.{OnErr}
use Rattle.kn_io.specs.Prefix.{AppendsPrefix}
use Rattle.kn_follow.specs.Following.{Running}
use Rattle.kn_follow.proofs.follower.Follower.write_unless.Goals as goal

pub returns-clause-err : goal.returns-clause-err
returns-clause-err g c =
    subst (λ (r : Running). OnErr c.flush.result (AppendsPrefix (g.O.Sink.held c.args.out.now) (g.O.Sink.held c.flush.new.out) r.waiting)) c.self.view_is c.flush.ensures.err

use Rattle.std.proofs.Common.{◌++◌, sym, subst}
use Rattle.std.specs.Prelude.{OnErr}
use Rattle.kn_io.specs.Prefix.{AppendsPrefix}
use Rattle.kn_teller.specs.Run.{IsOpened}
use Rattle.kn_follow.specs.Following.{Running}
use Rattle.kn_follow.proofs.follower.Follower.tell_start.Goals as goal

pub returns-clause-err : goal.returns-clause-err
returns-clause-err g c r awaits opened =
    let was = subst (λ (x : Running). IsOpened r x.revision x.log) (sym c.self.view_is) opened in
    subst (λ (x : Running). OnErr c.open.result (AppendsPrefix (g.O.Sink.held c.args.out.now) (g.O.Sink.held c.open.new.out) (x.waiting ++ (g.T.Teller.manner c.args.teller.now).opens r)))
    c.self.view_is (c.open.ensures.err r awaits was)

use Rattle.std.proofs.Common.{◌++◌, sym, subst}
use Rattle.std.specs.Prelude.{OnErr}
use Rattle.kn_io.specs.Prefix.{AppendsPrefix}
use Rattle.kn_teller.specs.Run.{IsRunOf}
use Rattle.kn_follow.specs.Following.{Running}
use Rattle.kn_follow.proofs.follower.Follower.take.Goals as goal

pub returns-clause-err : goal.returns-clause-err
returns-clause-err g c r knows run =
    let was = subst (λ (x : Running). IsRunOf r x.revision) (sym c.self.view_is) run in
    subst (λ (x : Running). OnErr c.take.result (AppendsPrefix (g.O.Sink.held c.args.out.now) (g.O.Sink.held c.take.new.out) (x.waiting ++ (g.T.Teller.manner c.args.teller.now).tells r c.args.e.now)))
    c.self.view_is (c.take.ensures.err r knows was)

use Rattle.std.proofs.Common.{◌++◌, subst}
use Rattle.kn_journal.specs.declared.status.Status.TheVariants as status
use Rattle.kn_follow.specs.Endings.{Stops}
use Rattle.kn_follow.specs.Following.{Running}
use Rattle.kn_follow.proofs.Statuses.{stops_behind}
use Rattle.kn_follow.proofs.follower.Follower.end.Goals as goal

pub returns-clause-stops : goal.returns-clause-stops
returns-clause-stops g c r knows many =
    subst (λ (x : Running). Stops (x.waiting ++ (g.T.Teller.manner c.args.teller.now).ends c.args.version r) (g.O.Sink.held c.args.out.now) (g.O.Sink.held c.stop.new.out) status.Ok c.stop.result)
    c.self.view_is
    (stops_behind c.adding_laws.ensures.laws (g.O.Sink.held c.args.out.now) (g.O.Sink.held c.end.new.out) (g.O.Sink.held c.stop.new.out) c.self.inside.waiting c.end.new.waiting _ status.Ok c.stop.result (c.in-Ok.ensures.ok r knows many) c.stop.ensures.stops)

-- The group as it was opened.
use Rattle.kn_activators.specs.Sharing.{opened}
use Rattle.kn_activators.proofs.Standings.{before_opened, few_opened}
use Rattle.kn_activators.proofs.replay.Replay.new.Goals as goal

pub returns-clause-stands : goal.returns-clause-stands
unfolding opened
returns-clause-stands c = record { traces = c.in_ok-group.ensures.opening.traces; wanted = c.in_ok-group.ensures.opening.wanted; force = c.in_ok-group.ensures.opening.force }

pub returns-clause-order : goal.returns-clause-order
returns-clause-order c = before_opened c.in_ok-group.group c.args.setup.activators c.args.start c.in_ok-group.ensures.opening.clocks

pub returns-clause-few : goal.returns-clause-few
returns-clause-few c = few_opened c.in_ok-group.group c.args.setup.activators c.args.start c.in_ok-group.ensures.opening.clocks c.in_ok-group.ensures.opening.load

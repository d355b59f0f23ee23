-- What is asked of the group, in the words of what it stands for.
use Rattle.std.proofs.Common.{◌<◌, ◌≤◌, ap, length, subst, sym}
use Rattle.kn_core.specs.State.{RevisionState}
use Rattle.kn_activators.proofs.Standings.{before_asked, grows_asked, is_asked, parts_are, stands_asked}
use Rattle.kn_activators.proofs.replay.Replay.ask.Goals as goal
use Rattle.std.specs.Prelude.{List}

pub ask-requires-clause-pod : goal.ask-requires-clause-pod
ask-requires-clause-pod c = subst (λ n. c.args.p < n) (sym c.self.invariant.of.pods) (rw (← c.self.view_is) at c.requires.pod)

pub ask-requires-clause-least : goal.ask-requires-clause-least
ask-requires-clause-least c = subst (λ n. n ≤ c.args.limit) (sym (parts_are c.self.inside.setup c.self.inside.group c.self.invariant.of)) (rw (← c.self.view_is) at c.requires.least)

pub invariant_of-self : goal.invariant_of-self
invariant_of-self c = record {
  setup = c.self.invariant.setup;
  of = is_asked c.self.inside.setup c.self.inside.group c.ask.new.self c.args.p c.args.limit c.self.invariant.of c.ask.ensures.parts c.ask.ensures.wanted;
  many = c.self.invariant.many;
}

pub returns-clause-stands : goal.returns-clause-stands
returns-clause-stands c = rw (← c.self.view_is) (stands_asked c.self.inside.group c.ask.new.self c.args.p c.args.limit c.ask.ensures.parts c.ask.ensures.wanted c.ask.ensures.force)

pub returns-clause-parts : goal.returns-clause-parts
returns-clause-parts c = rw (← c.self.view_is) (ap (λ (xs : List RevisionState). length xs) c.ask.ensures.parts)

pub returns-clause-order : goal.returns-clause-order
returns-clause-order c = rw (← c.self.view_is) (before_asked c.self.inside.group c.ask.new.self c.ask.ensures.parts)

pub returns-clause-load : goal.returns-clause-load
returns-clause-load c = rw (← c.self.view_is) (grows_asked c.self.inside.group c.ask.new.self c.ask.ensures.parts c.ask.ensures.unset)

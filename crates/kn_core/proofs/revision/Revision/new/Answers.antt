use Rattle.std.proofs.Common.{List, arith, subst, sym}
use Rattle.kn_event.specs.declared.entry.Entry.{Entry}
use Rattle.kn_trace.specs.Events.{opening}
use Rattle.kn_laws.specs.Kinds.{EachAt}
use Rattle.kn_core.proofs.Runs.{at_least}
use Rattle.kn_core.proofs.Refused.{leaves_all}
use Rattle.kn_core.proofs.Times.{opening_then}
use Rattle.kn_core.proofs.revision.Revision.new.Goals as goal

pub returns-clause-stands : goal.returns-clause-stands
returns-clause-stands c = record { events = c.history_laws.ensures.opening c.args.spec c.args.start; parts = c.in_ok-parts.ensures.stands }

pub invariant_of-result : goal.invariant_of-result
invariant_of-result c = record {
  clock = c.requires.times;
  spec = c.in_ok-parts.ensures.stands.spec;
  timed = c.in_ok-parts.ensures.timed;
  measured = at_least _ _ c.in_ok-parts.ensures.measured;
  ranges = c.in_ok-parts.ensures.ranges;
  events = omega arith;
  created = let few = c.in_ok-parts.ensures.created in omega (arith, few);
  some = ∣ (opening c.args.spec c.args.start, returns-clause-stands c) ∣₁;
}

pub returns-clause-lawful : goal.returns-clause-lawful
returns-clause-lawful c = λ d h. c.history_laws.ensures.lawful _ _ _ _ d h.events

pub returns-clause-settled : goal.returns-clause-settled
returns-clause-settled c = λ d h. c.history_laws.ensures.settled _ _ _ _ d h.events

pub returns-clause-inert : goal.returns-clause-inert
returns-clause-inert c = λ d e h. c.history_laws.ensures.inert _ _ _ _ d e h.events

pub returns-clause-beside : goal.returns-clause-beside
returns-clause-beside c = λ d e h. leaves_all c.step_laws.ensures.answers c.step_laws.ensures.beside _ d e h.parts.made (c.history_laws.ensures.settled _ _ _ _ d h.events)

pub returns-clause-at : goal.returns-clause-at
returns-clause-at c = subst (λ (es : List Entry). EachAt c.args.start es) (sym c.in_ok-parts.ensures.logged) (opening_then c.args.spec c.args.start)

use Rattle.std.proofs.Common.{◌∙◌, ◌++◌, sym, ap, arith, rules}
use Rattle.std.proofs.Math.Bridge.{le_prop}
use Rattle.std.proofs.Math.Logic.{∥∥₁_elim, ∥∥₁_map}
use Rattle.kn_event.specs.declared.revision.Spec.{Spec}
use Rattle.kn_trace.specs.Events.{react}
use Rattle.kn_core.proofs.Live.{few_live, timed_later}
use Rattle.kn_core.proofs.Runs.{at_least, few_arrivals, measured_later, parts_of_settled, parts_of_some}
use Rattle.kn_core.proofs.Times.{each_prop}
use Rattle.kn_core.proofs.revision.Revision.take_by.Goals as goal

pub react_first-requires-clause-can : goal.react_first-requires-clause-can
react_first-requires-clause-can c = record {
  some = parts_of_settled c.history_laws.ensures.settled _ c.self.invariant.spec c.self.invariant.some;
  ranges = rw c.self.invariant.spec c.self.invariant.ranges;
  limit = (rw (← c.self.view_is) at c.limit-limit.ensures) ∙ sym (ap (λ (s : Spec). s.cc) c.self.invariant.spec);
  order = measured_later _ _ _ (rw (← c.self.view_is) at c.requires.order) c.self.invariant.measured;
  few = few_live c.append_laws.ensures.views _ c.size_laws.ensures.live (parts_of_some _ c.self.invariant.spec c.self.invariant.some);
  arrivals =
      let count = rw (← c.self.view_is) at c.requires.count in
      omega (arith, count, few_arrivals c.append_laws.ensures.views c.count_laws.ensures.arrivals _ c.self.invariant.some);
  timed = timed_later _ _ _ (rw (← c.self.view_is) at c.requires.order) c.self.invariant.timed;
  created =
      let count = rw (← c.self.view_is) at c.requires.count in
      let before = c.self.invariant.created in
      omega (arith, count, before);
}

pub invariant_of-self : goal.invariant_of-self
invariant_of-self c = record {
  clock = c.requires.times;
  spec = c.react_first.ensures.spec ∙ c.self.invariant.spec;
  timed = c.react_first.ensures.timed;
  measured = at_least _ _ c.react_first.ensures.measured;
  ranges = c.self.invariant.ranges;
  events = let count = rw (← c.self.view_is) at c.requires.count in omega (arith, count);
  created = let before = c.self.invariant.created in omega (arith, before, c.react_first.ensures.created);
  some = ∥∥₁_map c.self.invariant.some (λ h. (
    h.0 ++ react c.self.inside.spec h.0 c.args.e.now,
    record {
      events = c.history_laws.ensures.step _ _ _ _ h.0 c.args.e.now h.1.events (rw (← c.self.view_is) at c.requires.order);
      parts = c.react_first.ensures.adds.stands _ h.0 h.1.parts (c.history_laws.ensures.settled _ _ _ _ h.0 h.1.events);
    },
  ));
}

pub returns-clause-takes : goal.returns-clause-takes
returns-clause-takes c = record {
  logged = rw (← c.self.view_is) (λ d h. c.react_first.ensures.adds.logged _ d h.parts (c.history_laws.ensures.settled _ _ _ _ d h.events));
  stands = rw (← c.self.view_is) (λ d h. record {
    events = c.history_laws.ensures.step _ _ _ _ d c.args.e.now h.events (rw (← c.self.view_is) at c.requires.order);
    parts = c.react_first.ensures.adds.stands _ d h.parts (c.history_laws.ensures.settled _ _ _ _ d h.events);
  });
  at = ∥∥₁_elim c.self.invariant.some (each_prop _ _) (λ h.
      let s = c.self.inside.spec in
      let e = c.args.e.now in
      rw (c.react_first.ensures.adds.logged s h.0 h.1.parts (c.history_laws.ensures.settled _ _ _ _ h.0 h.1.events)) (c.part_laws.ensures.rows.react-at s h.0 e));
  few = ∥∥₁_elim c.self.invariant.some le_prop (λ h.
      let s = c.self.inside.spec in
      let e = c.args.e.now in
      rw (c.react_first.ensures.adds.logged s h.0 h.1.parts (c.history_laws.ensures.settled _ _ _ _ h.0 h.1.events)) (c.entry_laws.ensures.entries s h.0 e c.self.invariant.ranges h.1.parts.made (c.history_laws.ensures.settled _ _ _ _ h.0 h.1.events)));
  spec = search rules;
  start = search rules;
  clock = search rules;
  events = search rules;
}

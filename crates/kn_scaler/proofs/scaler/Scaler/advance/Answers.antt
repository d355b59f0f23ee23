use Rattle.std.proofs.Common.{◌≤◌, sym, subst}
use Rattle.kn_changes.specs.Changes.{changes_of}
use Rattle.kn_scaler.specs.Stands.{ScalerState, StandsForSome}
use Rattle.kn_scaler.proofs.Advances.{AreOver, advanced-stands, may-close, up-to-now}
use Rattle.kn_scaler.proofs.scaler.Scaler.advance.Goals as goal

pub closed-requires : goal.closed-requires
closed-requires c =
    let old : ScalerState = record { stats = c.self.inside.stats; decider = c.self.inside.decider } in
    let over : AreOver old.stats c.args.time c.args.ready c.advance-closed.result =
    record {
      order = subst (λ (z : ScalerState). z.stats.time ≤ c.args.time) (sym c.self.view_is) c.requires.order;
      seconds = c.advance-closed.ensures.closed;
      alike = c.advance-closed.ensures.alike;
      quiet = c.advance-closed.ensures.quiet;
    } in
    may-close c.trace_facts.ensures old c.args.time c.args.ready c.advance-closed.result over c.requires.range c.self.invariant.end (subst StandsForSome (sym c.self.view_is) c.requires.made)

pub invariant_of-self : goal.invariant_of-self
invariant_of-self c =
    let old : ScalerState = record { stats = c.self.inside.stats; decider = c.self.inside.decider } in
    let over : AreOver old.stats c.args.time c.args.ready c.advance-closed.result =
    record {
      order = subst (λ (z : ScalerState). z.stats.time ≤ c.args.time) (sym c.self.view_is) c.requires.order;
      seconds = c.advance-closed.ensures.closed;
      alike = c.advance-closed.ensures.alike;
      quiet = c.advance-closed.ensures.quiet;
    } in
    up-to-now c.trace_facts.ensures old c.advance-closed.new.self c.closed.new.self c.args.time c.args.ready c.advance-closed.result over c.advance-closed.ensures.state c.closed.ensures.end c.closed.ensures.kept
    (record { end = c.self.invariant.end; last = c.self.invariant.last }) (subst StandsForSome (sym c.self.view_is) c.requires.made)

pub returns-clause-stands : goal.returns-clause-stands
returns-clause-stands c =
    let old : ScalerState = record { stats = c.self.inside.stats; decider = c.self.inside.decider } in
    let over : AreOver old.stats c.args.time c.args.ready c.advance-closed.result =
    record {
      order = subst (λ (z : ScalerState). z.stats.time ≤ c.args.time) (sym c.self.view_is) c.requires.order;
      seconds = c.advance-closed.ensures.closed;
      alike = c.advance-closed.ensures.alike;
      quiet = c.advance-closed.ensures.quiet;
    } in
    rw (← c.self.view_is)
    (λ s b made ready stands.
    advanced-stands c.trace_facts.ensures s old (record { stats = c.advance-closed.new.self; decider = c.closed.new.self }) b c.args.time c.args.ready c.advance-closed.result over c.advance-closed.ensures.state
    (record { stands = c.closed.ensures.stands; kept = c.closed.ensures.kept }) (c.advance-closed.ensures.stands (changes_of b) stands.stats) made ready stands)

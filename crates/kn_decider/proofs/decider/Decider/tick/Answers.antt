use Rattle.std.proofs.Common.{◌≡◌, ℕ, ◌≤◌, None, Some, Option, sym, ap, ◌∙◌, subst}
use Rattle.std.proofs.Math.Logic.{∥∥₁_elim}
use Rattle.std.specs.Prelude.{option_map, unwrap_or}
use Rattle.kn_scaling.specs.Average.{Samples, second_of}
use Rattle.kn_scaling.specs.Decide.{Past, Ruling, decision_at, no_load, ruling}
use Rattle.kn_window.specs.Stands.{IsWindowOf}
use Rattle.kn_decider.specs.contracts.decider.Decider.{the_view}
use Rattle.kn_decider.specs.Decider.{DeciderState, IsDeciderOf, with_tick}
use Rattle.kn_decider.proofs.Rulings.{none_at, some_at}
use Rattle.kn_decider.proofs.Samples.{average_prop, if_average_prop, panic_seen, stable_seen}
use Rattle.kn_decider.proofs.decider.Decider.tick.Goals as goal

pub average_or_none-panic-requires : goal.average_or_none-panic-requires
average_or_none-panic-requires c =
    ∥∥₁_elim c.self.invariant.seen (if_average_prop c.average-in-Some.result)
    (λ (f : (samples : Samples) × IsWindowOf c.self.inside.stable samples × IsWindowOf c.self.inside.panic_window samples). c.average-in-Some.ensures.small f.0 f.2)

pub decide-requires-clause-stable : goal.decide-requires-clause-stable
decide-requires-clause-stable c =
    ∥∥₁_elim c.self.invariant.seen (average_prop c.in-Some.stable)
    (λ (f : (samples : Samples) × IsWindowOf c.self.inside.stable samples × IsWindowOf c.self.inside.panic_window samples). c.in-Some.ensures.small f.0 f.1)

pub returns-in-None-clause-decision : goal.returns-in-None-clause-decision
returns-in-None-clause-decision c =
    rw (← c.self.view_is)
    (λ past until le stands.
    sym (ap (option_map (λ (r : Ruling). r.decision))
    (none_at c.self.inside.spec past c.args.time c.args.ready (stable_seen c.sample_laws.ensures.below (the_view c.self.inside) past until (second_of c.args.time) le stands None c.self.invariant.stable c.in-None.ensures.value))))

pub returns-in-None-clause-stands : goal.returns-in-None-clause-stands
returns-in-None-clause-stands c =
    rw (← c.self.view_is)
    (λ past until le stands.
    subst (λ (o : Option Ruling). IsDeciderOf (the_view c.self.inside) (with_tick c.args.time o past) until)
    (sym (none_at c.self.inside.spec past c.args.time c.args.ready (stable_seen c.sample_laws.ensures.below (the_view c.self.inside) past until (second_of c.args.time) le stands None c.self.invariant.stable c.in-None.ensures.value)))
    stands)

-- the decision is by the two averages
some_ruling : (c : goal.After-decide) (past : Past) (until : ℕ) → second_of c.args.time ≤ until → IsDeciderOf c.args.self.now past until
    → decision_at c.args.self.now.spec past c.args.time c.args.ready ≡ Some (ruling c.args.self.now.spec past c.args.time c.args.ready c.in-Some.stable c.average_or_none-panic.result)
some_ruling c past until le stands =
    let d : DeciderState = the_view c.self.inside in
    let here = subst (λ (x : DeciderState). IsDeciderOf x past until) (sym c.self.view_is) stands in
    let stable = stable_seen c.sample_laws.ensures.below d past until (second_of c.args.time) le here (Some c.in-Some.stable) c.self.invariant.stable c.in-Some.ensures.value in
    let panic = panic_seen c.sample_laws.ensures.below d past until (second_of c.args.time) le here c.average-in-Some.result c.self.invariant.panic_window c.average-in-Some.ensures.value in
    subst (λ (x : DeciderState). decision_at x.spec past c.args.time c.args.ready ≡ Some (ruling x.spec past c.args.time c.args.ready c.in-Some.stable c.average_or_none-panic.result)) c.self.view_is
    (some_at d.spec past c.args.time c.args.ready c.in-Some.stable c.average_or_none-panic.result stable (c.average_or_none-panic.ensures.value ∙ ap (λ o. unwrap_or o no_load) panic))

pub returns-in-Some-clause-decision : goal.returns-in-Some-clause-decision
returns-in-Some-clause-decision c = λ past until le stands.
    ap Some (c.decide.ensures.decision past until stands) ∙ sym (ap (option_map (λ (r : Ruling). r.decision)) (some_ruling c past until le stands))

pub returns-in-Some-clause-stands : goal.returns-in-Some-clause-stands
returns-in-Some-clause-stands c = λ past until le stands.
    subst (λ (o : Option Ruling). IsDeciderOf c.decide.new.self (with_tick c.args.time o past) until) (sym (some_ruling c past until le stands)) (c.decide.ensures.stands past until stands)

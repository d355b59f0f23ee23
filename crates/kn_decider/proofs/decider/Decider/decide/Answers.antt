use mir.Syntax.{w64}
use mir.Val.{SFits, of_z, to_z}
use Rattle.std.proofs.Common.{ap, ◌∙◌, ◌∷◌, map, rules, subst, ℕ}
use Rattle.std.proofs.lemmas.Int.{to_z-of_z}
use Rattle.kn_scaling.specs.declared.zero.Standing.{Standing}
use Rattle.kn_scaling.specs.Average.{second_of}
use Rattle.kn_scaling.specs.Decide.{Past, Ruling, asked_of, judged_of}
use Rattle.kn_scaling.specs.Delay.{asked_at, delayed_count}
use Rattle.kn_scaling.specs.Panic.{is_panicking, undelayed_count}
use Rattle.kn_scaling.specs.Zero.{bounded_count, zero_rule}
use Rattle.kn_panic.specs.Stands.{IsPanicOf, judged_by}
use Rattle.kn_zero.specs.Zero.{ZeroState, with_answer, with_mode}
use Rattle.kn_decider.specs.Decider.{DeciderState, IsDeciderOf}
use Rattle.kn_decider.proofs.Rulings.{AreParts, Parts, ruled, stands_next}
use Rattle.kn_decider.proofs.decider.Decider.decide.Goals as goal

abbrev state : goal.After-mode_is → DeciderState
state c = record {
  spec = c.self.inside.spec;
  stable = c.self.inside.stable;
  panic_window = c.self.inside.panic_window;
  panic = c.self.inside.panic;
  delay = c.self.inside.delay;
  zero = c.self.inside.zero;
  reached = c.self.inside.reached;
}

abbrev parts : goal.After-mode_is → Parts
parts c = record {
  counts = c.counts-counts.result;
  panicking = c.take-panicked.result.panicking;
  undelayed = c.take-panicked.result.count;
  delayed = c.take-delayed.result;
  excess = to_z w64 (of_z w64 c.excess_burst-excess.result);
  bounded = c.bounds-bounded.result;
  answer = c.take-answer.result;
  mode = c.mode-mode.result;
}

are_parts : (c : goal.After-mode_is) (past : Past) (until : ℕ) → IsDeciderOf (state c) past until → AreParts (state c).spec past c.args.time c.args.ready c.args.stable c.args.panic (parts c)
are_parts c past until stands =
    let spec = c.self.inside.spec in
    let window = c.stable_window_ms-window_ms.ensures in
    record {
      counts = c.counts-counts.ensures;
      panicking =
          c.take-panicked.ensures.panicking (map (judged_of spec) past.decisions) stands.panic
          ∙ ap (λ w. is_panicking (judged_by c.args.time c.counts-counts.result w ∷ map (judged_of spec) past.decisions)) window;
      undelayed =
          c.take-panicked.ensures.count (map (judged_of spec) past.decisions) stands.panic
          ∙ ap (λ w. undelayed_count (judged_by c.args.time c.counts-counts.result w ∷ map (judged_of spec) past.decisions)) window;
      delayed =
          c.take-delayed.ensures.count (map asked_of past.decisions) stands.delay
          ∙ ap (λ n. delayed_count n (asked_at (second_of c.args.time) c.take-panicked.result.count ∷ map asked_of past.decisions)) c.self.invariant.delay;
      excess = let fits : SFits w64 c.excess_burst-excess.result = search rules in to_z-of_z w64 c.excess_burst-excess.result fits ∙ c.excess_burst-excess.ensures;
      bounded = c.bounds-bounded.ensures ∙ ap (λ b. bounded_count spec b c.take-delayed.result) stands.reached;
      answer =
          c.take-answer.ensures.answer spec c.self.invariant.settings
          ∙ ap (λ (s : Standing). zero_rule spec c.args.time c.args.ready c.bounds-bounded.result s) stands.standing;
      mode = c.mode-mode.ensures;
    }

pub returns-clause-decision : goal.returns-clause-decision
returns-clause-decision c =
    rw (← c.self.view_is)
    (λ past until stands. ap (λ (r : Ruling). r.decision) (ruled c.self.inside.spec past c.args.time c.args.ready c.args.stable c.args.panic (parts c) (are_parts c past until stands)))

pub returns-clause-stands : goal.returns-clause-stands
returns-clause-stands c =
    rw (← c.self.view_is)
    (λ past until stands.
    stands_next (state c) past until c.args.time c.args.ready c.args.stable c.args.panic (parts c) (are_parts c past until stands) stands c.take-panicked.new.self c.take-delayed.new.self c.mode_is.new.self
    (subst (λ w. IsPanicOf c.take-panicked.new.self (judged_by c.args.time c.counts-counts.result w ∷ map (judged_of c.self.inside.spec) past.decisions)) c.stable_window_ms-window_ms.ensures
    (c.take-panicked.ensures.stands (map (judged_of c.self.inside.spec) past.decisions) stands.panic))
    (c.take-delayed.ensures.stands (map asked_of past.decisions) stands.delay)
    (ap (λ (z : ZeroState). z.standing) c.mode_is.ensures
    ∙ ap (λ (z : ZeroState). with_mode c.args.time c.mode-mode.result z.standing) c.take-answer.ensures.standing
    ∙ ap (λ (s : Standing). with_mode c.args.time c.mode-mode.result (with_answer c.args.time c.take-answer.result s)) stands.standing))

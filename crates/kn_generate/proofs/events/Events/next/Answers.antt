use Rattle.std.proofs.Common.{◌∙◌, ◌+◌, ◌%◌, ap}
use mir.Val.{bool_byte}
use Rattle.kn_event.specs.declared.event.Act.{Act}
use Rattle.kn_generate.specs.Generated.{generated_event}
use Rattle.kn_generate.specs.Making.{Made}
use Rattle.kn_generate.proofs.Words.{behind_first, behind_later, first_event, later_event, same_word}
use Rattle.kn_generate.proofs.events.Events.next.Goals as goal

pub invariant_of-self : goal.invariant_of-self
invariant_of-self c = behind_first _ _ _ _ _ c.if-i-lt-PODS.true c.self.invariant

pub returns-then-i-lt-PODS-clause-event : goal.returns-then-i-lt-PODS-clause-event
returns-then-i-lt-PODS-clause-event c =
    first_event _ _ _ _ _ c.if-i-lt-PODS.true c.self.invariant ∙ ap (λ (m : Made). generated_event m.seed m.made) c.self.view_is

pub invariant_of-self-2 : goal.invariant_of-self-2
invariant_of-self-2 c =
    let drawn = same_word _ _ _ _ c.from-word.ensures c.next_word.ensures in
    behind_later _ _ _ _ c.from-word.result _ _ c.if-i-lt-PODS.false drawn c.self.invariant _ (c.from.ensures ∙ ap bool_byte c.is_arrival.ensures)

pub returns-clause-event : goal.returns-clause-event
returns-clause-event c =
    let drawn = same_word _ _ _ _ c.from-word.ensures c.next_word.ensures in
    let made = later_event _ _ _ _ c.from-word.result _ _ c.if-i-lt-PODS.false drawn c.self.invariant in
    ap (λ (a : Act). record { time = c.self.inside.time + c.from-word.result % 4; act = a }) c.act_by-act.ensures.act ∙ made ∙ ap (λ (m : Made). generated_event m.seed m.made) c.self.view_is

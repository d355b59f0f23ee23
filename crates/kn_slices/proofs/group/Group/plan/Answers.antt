-- The due change, in the words of the activators' traces.
use Rattle.std.proofs.Common.{◌≡◌, ◌<◌, ◌∙◌, ap, sym, length}
use Rattle.kn_event.specs.Lists.{or_else}
use Rattle.kn_slices.specs.Activators.{limit_at, running_at}
use Rattle.kn_slices.specs.Slices.{due_change, first_from, raise_of}
use Rattle.kn_slices.specs.declared.change.Change.{Change}
use Rattle.kn_slices.proofs.Alike.{due_traces}
use Rattle.kn_slices.proofs.Due.{due_inside, on_some}
use Rattle.kn_slices.proofs.group.Group.plan.Goals as goal

pub returns-in-None-clause-traces : goal.returns-in-None-clause-traces
returns-in-None-clause-traces c = rw (← c.self.view_is) (λ cs traces.
    let parts = c.self.inside.parts.items in
    let wanted = c.self.inside.wanted.items in
    let n = length parts in
    let none = rw (← c.self.view_is) at c.in-None.ensures in
    let found = rw (← c.self.view_is) at c.first_raise.ensures in
    let raises = first_from (raise_of limit_at running_at n parts) 0 wanted in
    let due : c.first_raise.result ≡ due_change limit_at running_at n parts wanted = found ∙ ap (λ o. or_else o raises) none in
    due ∙ due_traces c.append_laws.ensures.views parts wanted c.self.inside.force.items cs c.self.invariant.group traces)

pub returns-in-None-clause-range : goal.returns-in-None-clause-range
returns-in-None-clause-range c = rw (← c.self.view_is) (
    let parts = c.self.inside.parts.items in
    let wanted = c.self.inside.wanted.items in
    let n = length parts in
    let none = rw (← c.self.view_is) at c.in-None.ensures in
    let found = rw (← c.self.view_is) at c.first_raise.ensures in
    let raises = first_from (raise_of limit_at running_at n parts) 0 wanted in
    let due : due_change limit_at running_at n parts wanted ≡ c.first_raise.result = sym (found ∙ ap (λ o. or_else o raises) none) in
    on_some (λ (x : Change). (x.activator < length parts) × (x.pod < length wanted)) c.first_raise.result
    (λ x is. due_inside limit_at running_at parts wanted x c.self.invariant.group.group.some (due ∙ is)))

pub returns-in-Some-clause-traces : goal.returns-in-Some-clause-traces
returns-in-Some-clause-traces c = rw (← c.self.view_is) (λ cs traces.
    let parts = c.self.inside.parts.items in
    let wanted = c.self.inside.wanted.items in
    let n = length parts in
    let found = rw (← c.self.view_is) at c.in-Some.ensures in
    let raises = first_from (raise_of limit_at running_at n parts) 0 wanted in
    ap (λ o. or_else o raises) found ∙ due_traces c.append_laws.ensures.views parts wanted c.self.inside.force.items cs c.self.invariant.group traces)

pub returns-in-Some-clause-range : goal.returns-in-Some-clause-range
returns-in-Some-clause-range c = rw (← c.self.view_is) (
    let parts = c.self.inside.parts.items in
    let wanted = c.self.inside.wanted.items in
    let n = length parts in
    let found = rw (← c.self.view_is) at c.in-Some.ensures in
    let raises = first_from (raise_of limit_at running_at n parts) 0 wanted in
    due_inside limit_at running_at parts wanted c.in-Some.cut c.self.invariant.group.group.some (sym (ap (λ o. or_else o raises) found)))

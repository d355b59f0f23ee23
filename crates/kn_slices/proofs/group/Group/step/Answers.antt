use Rattle.std.proofs.Common.{◌∙◌, refl, length}
use Rattle.kn_slices.specs.Activators.{limit_at, running_at}
use Rattle.kn_slices.specs.Slices.{hold}
use Rattle.kn_slices.proofs.Calls.{low_step, plain_act, plain_limit}
use Rattle.kn_slices.proofs.Due.{lent}
use Rattle.kn_slices.proofs.Listed.{still_open}
use Rattle.kn_slices.proofs.Taken.{holds_rules, keeps_wanted, plain_marks, plain_unset, steps_group, taken_opened}
use Rattle.kn_slices.proofs.group.Group.step.Goals as goal

pub step_in-requires-clause-can : goal.step_in-requires-clause-can
step_in-requires-clause-can c = rw c.deref_mut.ensures.value (rw (← c.self.view_is) at c.requires.can)

pub step_in-requires-clause-act : goal.step_in-requires-clause-act
step_in-requires-clause-act c = plain_act c.args.e.now.act c.requires.act

pub step_in-requires-clause-low : goal.step_in-requires-clause-low
step_in-requires-clause-low c =
    let can = rw (← c.self.view_is) at c.requires.can in
    rw (c.deref_mut.ensures.value, c.deref.ensures.value, c.deref_mut-2.ensures.value)
    (low_step c.self.inside.parts.items c.self.inside.wanted.items c.self.inside.force.items c.args.i c.args.e.now can.part c.self.invariant.group c.requires.act)

pub invariant_of-self : goal.invariant_of-self
invariant_of-self c =
    let can = rw (← c.self.view_is) at c.requires.can in
    let parts = c.self.inside.parts.items in
    let wanted = c.self.inside.wanted.items in
    let whole = lent c.self.inside.parts.len c.step_in.new.parts parts (c.step_in.ensures.adds.same ∙ c.deref_mut.ensures.len) in
    let whole' = lent c.self.inside.force.len c.step_in.new.force c.self.inside.force.items (c.step_in.ensures.force.many ∙ c.deref_mut-2.ensures.len) in
    let takes = rw (c.deref_mut.ensures.value, c.deref.ensures.value) at c.step_in.ensures.takes in
    let force = rw (c.deref.ensures.value, c.deref_mut-2.ensures.value) at c.step_in.ensures.force in
    rw (whole, whole') (record {
      group = rw c.deref.ensures.value at c.step_in.ensures.group;
      marked = plain_marks parts c.step_in.new.parts (length wanted) c.args.i c.args.e.now can.part takes (λ q n f. plain_limit c.args.e.now.act q n c.requires.act f) wanted c.self.inside.marks.items refl c.self.invariant.marked;
      opened = taken_opened parts c.step_in.new.parts (length wanted) c.args.i c.args.e.now can.part takes c.self.inside.limit c.self.inside.start c.self.invariant.opened;
      kept = still_open wanted c.self.inside.force.items c.self.inside.marks.items c.step_in.new.force c.self.inside.marks.items c.self.inside.listed.items c.self.invariant.kept (λ p inside off. refl)
          (λ p inside. (hold (limit_at p) (running_at p) c.step_in.new.parts, force.each p inside));
      roomy = c.self.invariant.roomy;
      holds = c.self.invariant.holds;
    })

pub returns-clause-steps : goal.returns-clause-steps
returns-clause-steps c =
    let can = rw (← c.self.view_is) at c.requires.can in
    let whole = lent c.self.inside.parts.len c.step_in.new.parts c.self.inside.parts.items (c.step_in.ensures.adds.same ∙ c.deref_mut.ensures.len) in
    let takes = rw (c.deref_mut.ensures.value, c.deref.ensures.value) at c.step_in.ensures.takes in
    let adds = rw c.deref_mut.ensures.value at c.step_in.ensures.adds in
    rw (← c.self.view_is, whole) (steps_group _ _ c.args.i c.args.e.now can.part takes c.step_in.new.log adds)

pub returns-clause-told : goal.returns-clause-told
returns-clause-told c = rw (← c.self.view_is) (λ cs d traces.
    let can = rw (← c.self.view_is) at c.requires.can in
    (rw c.deref_mut.ensures.value at c.step_in.ensures.told) d _ (traces.each c.args.i d can.part))

pub returns-clause-keeps : goal.returns-clause-keeps
returns-clause-keeps c =
    let can = rw (← c.self.view_is) at c.requires.can in
    let whole = lent c.self.inside.parts.len c.step_in.new.parts c.self.inside.parts.items (c.step_in.ensures.adds.same ∙ c.deref_mut.ensures.len) in
    let whole' = lent c.self.inside.force.len c.step_in.new.force c.self.inside.force.items (c.step_in.ensures.force.many ∙ c.deref_mut-2.ensures.len) in
    let takes = rw (c.deref_mut.ensures.value, c.deref.ensures.value) at c.step_in.ensures.takes in
    let group = rw c.deref.ensures.value at c.step_in.ensures.group in
    let force = rw (c.deref.ensures.value, c.deref_mut-2.ensures.value) at c.step_in.ensures.force in
    rw (← c.self.view_is, whole, whole') (keeps_wanted _ _ c.args.i c.args.e.now can.part takes
    (record { views = c.append_laws.ensures.views; lawful = c.history_laws.ensures.lawful; settled = c.history_laws.ensures.settled; inert = c.history_laws.ensures.inert })
    refl refl refl c.self.invariant.group group force)

pub returns-clause-unset : goal.returns-clause-unset
returns-clause-unset c =
    let can = rw (← c.self.view_is) at c.requires.can in
    let parts = c.self.inside.parts.items in
    let wanted = c.self.inside.wanted.items in
    let whole = lent c.self.inside.parts.len c.step_in.new.parts parts (c.step_in.ensures.adds.same ∙ c.deref_mut.ensures.len) in
    let takes = rw (c.deref_mut.ensures.value, c.deref.ensures.value) at c.step_in.ensures.takes in
    rw (← c.self.view_is, whole) (λ j d inside.
    plain_unset parts c.step_in.new.parts (length wanted) c.args.i c.args.e.now can.part takes (λ q n f. plain_limit c.args.e.now.act q n c.requires.act f) wanted refl j d inside)

pub returns-clause-rules : goal.returns-clause-rules
returns-clause-rules c = holds_rules
    (record { views = c.append_laws.ensures.views; lawful = c.history_laws.ensures.lawful; settled = c.history_laws.ensures.settled; inert = c.history_laws.ensures.inert })
    _ (invariant_of-self c).group

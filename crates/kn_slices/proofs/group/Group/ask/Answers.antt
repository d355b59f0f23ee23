use Rattle.std.proofs.Common.{◌≡◌, ◌<◌, ◌∙◌, ◌++◌, refl, ap, arith, sym, subst, List, length, max, get_or, take, drop}
use Rattle.std.specs.Prelude.{slice_set, vec_capacity}
use Rattle.std.proofs.lemmas.List.{get_or_default, length-set}
use Rattle.kn_core.specs.State.{RevisionState}
use Rattle.kn_slices.specs.Activators.{HoldMarks, limit_at, running_at}
use Rattle.kn_slices.specs.Slices.{force_after, hold}
use Rattle.kn_slices.proofs.Alike.{hold_traces}
use Rattle.kn_slices.proofs.Calls.{each_has}
use Rattle.kn_slices.proofs.Due.{lent}
use Rattle.kn_slices.proofs.Steps.{group_asked, marks_asked, one_more}
use Rattle.kn_slices.proofs.Taken.{holds_rules}
use Rattle.kn_slices.proofs.group.Group.ask.Goals as goal
use Rattle.kn_slices.proofs.group.Group.ask.Goals.{After-list_open}

pub force_after-requires-clause-pod : goal.force_after-requires-clause-pod
force_after-requires-clause-pod c =
    let low = rw (← c.self.view_is) at c.requires.pod in
    rw c.deref.ensures.value (each_has (length c.self.inside.wanted.items) c.self.inside.parts.items c.args.p c.self.invariant.group.activators low)

pub unset_at-unset-requires-clause-pod : goal.unset_at-unset-requires-clause-pod
unset_at-unset-requires-clause-pod c =
    let low = rw (← c.self.view_is) at c.requires.pod in
    rw c.deref-2.ensures.value (each_has (length c.self.inside.wanted.items) c.self.inside.parts.items c.args.p c.self.invariant.group.activators low)

pub set_mark-requires-clause-pod : goal.set_mark-requires-clause-pod
set_mark-requires-clause-pod c =
    let low = rw (← c.self.view_is) at c.requires.pod in
    rw c.deref_mut.ensures.value (omega (arith, low, c.self.invariant.marked.many))

pub set_mark-requires-clause-known : goal.set_mark-requires-clause-known
set_mark-requires-clause-known c =
    let marked = c.self.inside.marked in
    rw c.deref_mut.ensures.value (subst (λ n. HoldMarks n c.self.inside.marks.items marked.items (vec_capacity marked)) (sym c.self.invariant.marked.many) c.self.invariant.holds)

-- the marks, of what is kept
whole : (c : After-list_open) → take c.self.inside.marks.len (c.set_mark.new.marks ++ drop (length c.set_mark.new.marks) c.self.inside.marks.items) ≡ slice_set c.self.inside.marks.items c.args.p c.unset_at-unset.result
whole c =
    let less = c.set_mark.ensures.marks ∙ rw c.deref_mut.ensures.value refl in
    lent c.self.inside.marks.len c.set_mark.new.marks c.self.inside.marks.items (ap length c.set_mark.ensures.marks ∙ (length-set c.deref_mut.result.now c.args.p _ ∙ c.deref_mut.ensures.len)) ∙ less

-- the limit in force, of what is kept
next : (c : After-list_open) → c.force_after.result
    ≡ force_after (hold (limit_at c.args.p) (running_at c.args.p) c.self.inside.parts.items) c.args.limit (max (get_or c.self.inside.force.items c.args.p 0) c.args.limit)
next c =
    let p = c.args.p in
    let force = c.self.inside.force.items in
    let low = rw (← c.self.view_is) at c.requires.pod in
    let inside : p < length force = omega (arith, low, c.self.invariant.group.group.many) in
    c.force_after.ensures
    ∙ (ap (λ (xs : List RevisionState). force_after (hold (limit_at p) (running_at p) xs) c.args.limit c.max-most.result) c.deref.ensures.value
    ∙ ap (λ n. force_after (hold (limit_at p) (running_at p) c.self.inside.parts.items) c.args.limit n) (c.max-most.ensures ∙ ap (λ n. max n c.args.limit) (c.index.ensures ∙ get_or_default force p c.index.result.now 0 inside)))

pub invariant_of-self : goal.invariant_of-self
invariant_of-self c =
    let p = c.args.p in
    let parts = c.self.inside.parts.items in
    let wanted = c.self.inside.wanted.items in
    let low = rw (← c.self.view_is) at c.requires.pod in
    let least = rw (← c.self.view_is) at c.requires.least in
    let count = c.unset_at-unset.ensures ∙ rw c.deref-2.ensures.value refl in
    let less = c.set_mark.ensures.marks ∙ rw c.deref_mut.ensures.value refl in
    rw (whole c) (record {
      group = group_asked parts wanted c.self.inside.force.items p c.args.limit c.force_after.result low least c.requires.most (next c) c.self.invariant.group;
      marked = marks_asked parts wanted c.self.inside.marks.items p c.args.limit c.unset_at-unset.result low count c.self.invariant.marked;
      opened = c.self.invariant.opened;
      kept = rw (c.deref-3.ensures.value, c.deref-4.ensures.value, c.deref-5.ensures.value, whole c) at c.list_open.ensures.known;
      roomy = rw c.deref-3.ensures.value at c.list_open.ensures.room;
      holds = subst (λ n. HoldMarks n (slice_set c.self.inside.marks.items p c.unset_at-unset.result) c.set_mark.new.marked.items (vec_capacity c.set_mark.new.marked)) (c.self.invariant.marked.many ∙ sym (length-set wanted p c.args.limit))
          (rw (c.deref_mut.ensures.value, less) at c.set_mark.ensures.known);
    })

pub returns-clause-force : goal.returns-clause-force
returns-clause-force c = rw (← c.self.view_is) (λ cs traces.
    let p = c.args.p in
    let force = c.self.inside.force.items in
    let low = rw (← c.self.view_is) at c.requires.pod in
    let held = hold_traces c.append_laws.ensures.views c.self.inside.parts.items c.self.inside.wanted.items force cs p c.self.invariant.group traces low in
    ap (λ n. slice_set force p n) (next c ∙ ap (λ n. force_after n c.args.limit (max (get_or force p 0) c.args.limit)) held))

pub returns-clause-unset : goal.returns-clause-unset
returns-clause-unset c = rw (← c.self.view_is) (λ j d inside.
    let low = rw (← c.self.view_is) at c.requires.pod in
    let parts = c.self.inside.parts.items in
    one_more (get_or parts j d) c.self.inside.wanted.items (length parts) j c.args.p c.args.limit low)

pub returns-clause-rules : goal.returns-clause-rules
returns-clause-rules c = holds_rules
    (record { views = c.append_laws.ensures.views; lawful = c.history_laws.ensures.lawful; settled = c.history_laws.ensures.settled; inert = c.history_laws.ensures.inert })
    _ (invariant_of-self c).group

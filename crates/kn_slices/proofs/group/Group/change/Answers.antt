use Rattle.std.proofs.Common.{◌∙◌, ◌-◌, arith, ap, sym, subst, refl, length, get_or}
use Rattle.std.specs.Prelude.{slice_set, vec_capacity}
use Rattle.std.proofs.lemmas.List.{length-set}
use Rattle.kn_slices.specs.Group.{IsDue}
use Rattle.kn_core.specs.State.{RevisionState}
use Rattle.kn_slices.specs.Activators.{HoldMarks, limit_at, running_at}
use Rattle.kn_slices.specs.Slices.{hold}
use Rattle.kn_slices.specs.Traces.{made_at}
use Rattle.kn_slices.proofs.Calls.{due_range_of, limit_act, low_change}
use Rattle.kn_slices.proofs.Due.{due_is, due_part, lent}
use Rattle.kn_slices.proofs.Listed.{still_open, unmarked}
use Rattle.kn_slices.proofs.Taken.{due_load, due_marked, due_marks, holds_rules, keeps_wanted, makes_due, steps_group, taken_opened}
use Rattle.kn_slices.proofs.group.Group.change.Goals as goal

pub take-requires-clause-can : goal.take-requires-clause-can
take-requires-clause-can c =
    let x = c.in-Some.change in
    let can = rw (← c.self.view_is) at c.requires.can in
    let due = rw (← c.self.view_is) at (sym c.in-Some.ensures.due) in
    let low = due_part limit_at running_at c.self.inside.parts.items c.self.inside.wanted.items x c.self.invariant.group.group.some due in
    rw c.deref_mut.ensures.value (record { part = low; order = λ d. can.order x.activator d low; times = can.times; count = λ d. can.count x d due })

pub take-requires-clause-act : goal.take-requires-clause-act
take-requires-clause-act c =
    let due = rw (← c.self.view_is) at (sym c.in-Some.ensures.due) in
    let (least, most) = due_range_of c.self.inside.parts.items c.self.inside.wanted.items c.self.inside.force.items c.in-Some.change c.self.invariant.group due in
    limit_act c.in-Some.change.pod c.in-Some.change.limit least most

pub take-requires-clause-low : goal.take-requires-clause-low
take-requires-clause-low c =
    let due = rw (← c.self.view_is) at (sym c.in-Some.ensures.due) in
    rw (c.deref_mut.ensures.value, c.deref.ensures.value, c.deref_mut-in-Some.ensures.value)
    (low_change c.self.inside.parts.items c.self.inside.wanted.items c.self.inside.force.items c.in-Some.change (made_at c.args.time c.in-Some.change) c.self.invariant.group due refl)

pub unmark-requires-clause-pod : goal.unmark-requires-clause-pod
unmark-requires-clause-pod c =
    let due = rw (← c.self.view_is) at (sym c.in-Some.ensures.due) in
    let parts = c.self.inside.parts.items in
    let low = due_part limit_at running_at parts c.self.inside.wanted.items c.in-Some.change c.self.invariant.group.group.some due in
    let there = (due_is limit_at running_at parts c.self.inside.wanted.items c.in-Some.change c.take.ensures.takes.part due).pod in
    rw c.deref_mut-in-Some-2.ensures.value (omega (arith, there, c.self.invariant.marked.many))

pub unmark-requires-clause-some : goal.unmark-requires-clause-some
unmark-requires-clause-some c =
    let x = c.in-Some.change in
    let parts = c.self.inside.parts.items in
    let wanted = c.self.inside.wanted.items in
    let due = rw (← c.self.view_is) at (sym c.in-Some.ensures.due) in
    let low = due_part limit_at running_at parts wanted x c.self.invariant.group.group.some due in
    let takes = rw (c.deref_mut.ensures.value, c.deref.ensures.value) at c.take.ensures.takes in
    let is_due : (d : RevisionState) → IsDue limit_at running_at parts wanted x d = λ d. due_is limit_at running_at parts wanted x d due in
    rw c.deref_mut-in-Some-2.ensures.value (due_marked parts c.take.new.parts wanted x c.args.time is_due low (is_due takes.part).pod takes takes.part c.self.inside.marks.items c.self.invariant.marked)

pub unmark-requires-clause-known : goal.unmark-requires-clause-known
unmark-requires-clause-known c =
    let marked = c.self.inside.marked in
    rw c.deref_mut-in-Some-2.ensures.value (subst (λ n. HoldMarks n c.self.inside.marks.items marked.items (vec_capacity marked)) (sym c.self.invariant.marked.many) c.self.invariant.holds)

pub invariant_of-self : goal.invariant_of-self
invariant_of-self c =
    let x = c.in-Some.change in
    let parts = c.self.inside.parts.items in
    let wanted = c.self.inside.wanted.items in
    let due = rw (← c.self.view_is) at (sym c.in-Some.ensures.due) in
    let low = due_part limit_at running_at parts wanted x c.self.invariant.group.group.some due in
    let whole = lent c.self.inside.parts.len c.take.new.parts parts (c.take.ensures.adds.same ∙ c.deref_mut.ensures.len) in
    let takes = rw (c.deref_mut.ensures.value, c.deref.ensures.value) at c.take.ensures.takes in
    let d = takes.part in
    let marks = c.self.inside.marks.items in
    let less = c.unmark.ensures.marks ∙ rw c.deref_mut-in-Some-2.ensures.value refl in
    let whole-marks = lent c.self.inside.marks.len c.unmark.new.marks marks (ap length c.unmark.ensures.marks ∙ (length-set c.deref_mut-in-Some-2.result.now x.pod _ ∙ c.deref_mut-in-Some-2.ensures.len)) in
    let is_due : (d : RevisionState) → IsDue limit_at running_at parts wanted x d = λ d. due_is limit_at running_at parts wanted x d due in
    let whole' = lent c.self.inside.force.len c.take.new.force c.self.inside.force.items (c.take.ensures.force.many ∙ c.deref_mut-in-Some.ensures.len) in
    let some = due_marked parts c.take.new.parts wanted x c.args.time is_due low (is_due d).pod takes d marks c.self.invariant.marked in
    let force = rw (c.deref.ensures.value, c.deref_mut-in-Some.ensures.value) at c.take.ensures.force in
    rw (whole, whole', whole-marks, less) (record {
      group = rw c.deref.ensures.value at c.take.ensures.group;
      marked = due_marks parts c.take.new.parts wanted x c.args.time is_due low (is_due d).pod takes d c.self.inside.marks.items c.self.invariant.marked;
      opened = taken_opened parts c.take.new.parts (length wanted) x.activator (made_at c.args.time x) low takes c.self.inside.limit c.self.inside.start c.self.invariant.opened;
      kept = still_open wanted c.self.inside.force.items marks c.take.new.force _ c.self.inside.listed.items c.self.invariant.kept
          (unmarked wanted c.self.inside.force.items marks c.self.inside.listed.items x.pod _ c.self.invariant.kept some)
          (λ p inside. (hold (limit_at p) (running_at p) c.take.new.parts, force.each p inside));
      roomy = c.self.invariant.roomy;
      holds = subst (λ n. HoldMarks n (slice_set marks x.pod (get_or marks x.pod 0 - 1)) c.unmark.new.marked.items (vec_capacity c.unmark.new.marked)) c.self.invariant.marked.many
          (rw (c.deref_mut-in-Some-2.ensures.value, less) at c.unmark.ensures.known);
    })

pub returns-clause-makes : goal.returns-clause-makes
returns-clause-makes c =
    let x = c.in-Some.change in
    let parts = c.self.inside.parts.items in
    let due = rw (← c.self.view_is) at (sym c.in-Some.ensures.due) in
    let low = due_part limit_at running_at parts c.self.inside.wanted.items x c.self.invariant.group.group.some due in
    let whole = lent c.self.inside.parts.len c.take.new.parts parts (c.take.ensures.adds.same ∙ c.deref_mut.ensures.len) in
    let takes = rw (c.deref_mut.ensures.value, c.deref.ensures.value) at c.take.ensures.takes in
    let adds = rw c.deref_mut.ensures.value at c.take.ensures.adds in
    rw (← c.self.view_is, whole) (makes_due _ _ x c.args.time c.take.new.log due (steps_group _ _ x.activator (made_at c.args.time x) low takes c.take.new.log adds))

pub returns-clause-keeps : goal.returns-clause-keeps
returns-clause-keeps c =
    let x = c.in-Some.change in
    let parts = c.self.inside.parts.items in
    let due = rw (← c.self.view_is) at (sym c.in-Some.ensures.due) in
    let low = due_part limit_at running_at parts c.self.inside.wanted.items x c.self.invariant.group.group.some due in
    let whole = lent c.self.inside.parts.len c.take.new.parts parts (c.take.ensures.adds.same ∙ c.deref_mut.ensures.len) in
    let whole' = lent c.self.inside.force.len c.take.new.force c.self.inside.force.items (c.take.ensures.force.many ∙ c.deref_mut-in-Some.ensures.len) in
    let takes = rw (c.deref_mut.ensures.value, c.deref.ensures.value) at c.take.ensures.takes in
    let group = rw c.deref.ensures.value at c.take.ensures.group in
    let force = rw (c.deref.ensures.value, c.deref_mut-in-Some.ensures.value) at c.take.ensures.force in
    rw (← c.self.view_is, whole, whole') (keeps_wanted _ _ x.activator (made_at c.args.time x) low takes
    (record { views = c.append_laws.ensures.views; lawful = c.history_laws.ensures.lawful; settled = c.history_laws.ensures.settled; inert = c.history_laws.ensures.inert })
    refl refl refl c.self.invariant.group group force)

pub returns-clause-load : goal.returns-clause-load
returns-clause-load c =
    let x = c.in-Some.change in
    let parts = c.self.inside.parts.items in
    let wanted = c.self.inside.wanted.items in
    let due = rw (← c.self.view_is) at (sym c.in-Some.ensures.due) in
    let low = due_part limit_at running_at parts wanted x c.self.invariant.group.group.some due in
    let whole = lent c.self.inside.parts.len c.take.new.parts parts (c.take.ensures.adds.same ∙ c.deref_mut.ensures.len) in
    let takes = rw (c.deref_mut.ensures.value, c.deref.ensures.value) at c.take.ensures.takes in
    rw (← c.self.view_is, whole) (λ j d inside.
    due_load parts c.take.new.parts wanted x c.args.time (λ d. due_is limit_at running_at parts wanted x d due) low (due_is limit_at running_at parts wanted x d due).pod takes d j d inside)

pub returns-clause-rules : goal.returns-clause-rules
returns-clause-rules c = holds_rules
    (record { views = c.append_laws.ensures.views; lawful = c.history_laws.ensures.lawful; settled = c.history_laws.ensures.settled; inert = c.history_laws.ensures.inert })
    _ (invariant_of-self c).group

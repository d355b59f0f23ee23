use Rattle.std.proofs.Common.{◌<◌, ◌^◌, ◌∙◌, length, refl, sym, arith, Some}
use Rattle.kn_event.specs.declared.entry.Row.TheVariants as row
use Rattle.kn_record.specs.Admission.{stepped, waits}
use Rattle.kn_throttle.specs.Kept.{can_run}
use Rattle.kn_throttle.proofs.Parts.{cands_ascend}
use Rattle.kn_throttle.proofs.Ended.{pod_there}
use Rattle.kn_throttle.proofs.Dispatching.{cands_fit, first_there, found_where, kept_begun, runs_next}
use Rattle.kn_throttle.proofs.Dispatched.{calm_where}
use Rattle.kn_throttle.proofs.Running.{none_runs, one_runs}
use Rattle.kn_throttle.proofs.Walking.{each_found, kept_ran, none_where, walk_none, walk_run}
use Rattle.kn_throttle.proofs.throttle.Throttle.run_next.Goals as goal

pub invariant_of-self : goal.invariant_of-self
invariant_of-self c = kept_ran _ _ _ _ _ _ _ _ c.self.invariant (rw (← c.self.view_is) at c.in_default.ensures.none)

pub returns-in_default-clause-ends : goal.returns-in_default-clause-ends
returns-in_default-clause-ends c = λ d t h.
    let k = c.self.invariant in
    rw (← c.self.view_is) (walk_none c.walk_laws.ensures.promoted c.self.inside.spec _ d t c.self.inside.pods (rw (← c.self.view_is) at h) (each_found c.self.inside.pods k.sound.order.pods)
    (none_where (can_run c.self.inside.table) c.self.inside.pods (rw (← c.self.view_is) at c.in_default.ensures.none)))

pub promote-requires : goal.promote-requires
promote-requires c = record { there = pod_there _ _ _ _ _ _ _ _ c.in-Some.p c.self.invariant (rw (← c.self.view_is) at c.in-Some.ensures.there) }

pub invariant_of-self-in-None : goal.invariant_of-self-in-None
invariant_of-self-in-None c =
    let k = c.self.invariant in
    let none = none_runs _ _ _ _ _ _ _ _ c.in-Some.p k (rw (← c.self.view_is) at c.in-Some.ensures.there) (rw (← c.self.view_is) at c.in-Some.ensures.first) c.in-None.ensures.answer in
    rw c.in-None.ensures.refused (kept_ran _ _ _ _ _ _ _ _ k none)

pub returns-in-None-clause-ends : goal.returns-in-None-clause-ends
returns-in-None-clause-ends c = λ d t h.
    let k = c.self.invariant in
    let none = none_runs _ _ _ _ _ _ _ _ c.in-Some.p k (rw (← c.self.view_is) at c.in-Some.ensures.there) (rw (← c.self.view_is) at c.in-Some.ensures.first) c.in-None.ensures.answer in
    rw (← c.self.view_is) (walk_none c.walk_laws.ensures.promoted c.self.inside.spec _ d t c.self.inside.pods (rw (← c.self.view_is) at h) (each_found c.self.inside.pods k.sound.order.pods)
    (none_where (can_run c.self.inside.table) c.self.inside.pods none))

pub begin-requires-clause-order : goal.begin-requires-clause-order
begin-requires-clause-order c =
    let k = c.self.invariant in
    rw k.candidates (cands_ascend c.self.inside.table c.self.inside.pods k.sound.order.pods)

pub begin-requires-clause-fits : goal.begin-requires-clause-fits
begin-requires-clause-fits c =
    let k = c.self.invariant in
    let few = k.sound.few in
    let fits : length c.self.inside.table < 2 ^ 63 = omega arith in
    rw k.candidates (cands_fit c.self.inside.table c.self.inside.pods fits)

pub run-requires : goal.run-requires
run-requires c =
    let k = c.self.invariant in
    let here = one_runs _ _ _ _ _ _ _ _ c.in-Some.p c.in-Some-promote.r k (rw (← c.self.view_is) at c.in-Some.ensures.there) (rw (← c.self.view_is) at c.in-Some.ensures.first) c.in-Some-promote.ensures.answer in
    let found = found_where (can_run c.self.inside.table) c.self.inside.pods c.in-Some.p k.sound.order.pods (first_there c.in-Some.p _ here) in
    let next = runs_next _ _ _ _ _ _ _ _ c.in-Some.p (Some c.in-Some-promote.r) k found c.in-Some-promote.ensures.answer in
    let first = next.first ∙ sym next.is in
    (c.in-Some.p, first_there c.in-Some-promote.r _ first)

pub invariant_of-self-in-Some-promote : goal.invariant_of-self-in-Some-promote
unfolding stepped
invariant_of-self-in-Some-promote c =
    let k = c.self.invariant in
    let here = one_runs _ _ _ _ _ _ _ _ c.in-Some.p c.in-Some-promote.r k (rw (← c.self.view_is) at c.in-Some.ensures.there) (rw (← c.self.view_is) at c.in-Some.ensures.first) c.in-Some-promote.ensures.answer in
    let found = found_where (can_run c.self.inside.table) c.self.inside.pods c.in-Some.p k.sound.order.pods (first_there c.in-Some.p _ here) in
    let next = runs_next _ _ _ _ _ _ _ _ c.in-Some.p (Some c.in-Some-promote.r) k found c.in-Some-promote.ensures.answer in
    let first = next.first ∙ sym next.is in
    let moves = c.run.ensures.moves c.in-Some.p (first_there c.in-Some-promote.r _ first) in
    kept_begun _ _ _ _ _ _ _ _ _ _ c.in-Some-promote.r c.in-Some.p c.run.new.self k (rw c.run.ensures.begun (c.order_laws.ensures.step _ 0 (row.Run c.in-Some-promote.r) k.sound.order tt)) c.run.ensures.len moves first
    c.in-Some-promote.ensures.promoted c.promote.ensures.counted c.begin.ensures

pub returns-in-Some-promote-clause-after : goal.returns-in-Some-promote-clause-after
unfolding stepped
returns-in-Some-promote-clause-after c = λ t. rw (c.run.ensures.begun, ← c.self.view_is) refl

pub returns-in-Some-promote-clause-fewer : goal.returns-in-Some-promote-clause-fewer
returns-in-Some-promote-clause-fewer c =
    let k = c.self.invariant in
    let here = one_runs _ _ _ _ _ _ _ _ c.in-Some.p c.in-Some-promote.r k (rw (← c.self.view_is) at c.in-Some.ensures.there) (rw (← c.self.view_is) at c.in-Some.ensures.first) c.in-Some-promote.ensures.answer in
    let found = found_where (can_run c.self.inside.table) c.self.inside.pods c.in-Some.p k.sound.order.pods (first_there c.in-Some.p _ here) in
    let next = runs_next _ _ _ _ _ _ _ _ c.in-Some.p (Some c.in-Some-promote.r) k found c.in-Some-promote.ensures.answer in
    let first = next.first ∙ sym next.is in
    let moves = c.run.ensures.moves c.in-Some.p (first_there c.in-Some-promote.r _ first) in
    rw (← c.self.view_is) (omega (arith, moves.counts waits))

pub returns-in-Some-promote-clause-begins : goal.returns-in-Some-promote-clause-begins
returns-in-Some-promote-clause-begins c = λ d t h.
    let k = c.self.invariant in
    let here = one_runs _ _ _ _ _ _ _ _ c.in-Some.p c.in-Some-promote.r k (rw (← c.self.view_is) at c.in-Some.ensures.there) (rw (← c.self.view_is) at c.in-Some.ensures.first) c.in-Some-promote.ensures.answer in
    let found = found_where (can_run c.self.inside.table) c.self.inside.pods c.in-Some.p k.sound.order.pods (first_there c.in-Some.p _ here) in
    let next = runs_next _ _ _ _ _ _ _ _ c.in-Some.p (Some c.in-Some-promote.r) k found c.in-Some-promote.ensures.answer in
    let first = next.first ∙ sym next.is in
    let moves = c.run.ensures.moves c.in-Some.p (first_there c.in-Some-promote.r _ first) in
    rw (← c.self.view_is) (walk_run c.walk_laws.ensures.promote c.walk_laws.ensures.promoted c.self.inside.spec _ d t c.in-Some.p c.in-Some-promote.r c.self.inside.pods (rw (← c.self.view_is) at h) (each_found c.self.inside.pods k.sound.order.pods)
    (rw c.run.ensures.begun at moves) here first)

pub returns-in_default-clause-calm : goal.returns-in_default-clause-calm
returns-in_default-clause-calm c =
    let k = c.self.invariant in
    rw (← c.self.view_is) (calm_where c.walk_laws.ensures.promoted c.self.inside.spec _ k.sound.order.pods (rw (← c.self.view_is) at c.in_default.ensures.none))

pub returns-in-None-clause-calm : goal.returns-in-None-clause-calm
returns-in-None-clause-calm c =
    let k = c.self.invariant in
    let none = none_runs _ _ _ _ _ _ _ _ c.in-Some.p k (rw (← c.self.view_is) at c.in-Some.ensures.there) (rw (← c.self.view_is) at c.in-Some.ensures.first) c.in-None.ensures.answer in
    rw (← c.self.view_is) (calm_where c.walk_laws.ensures.promoted c.self.inside.spec _ k.sound.order.pods none)

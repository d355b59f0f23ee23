use Rattle.std.proofs.Common.{◌≡◌, ◌<◌, true, false, [], length, refl, sym, ap, ◌∙◌, arith, Some}
use Rattle.kn_event.specs.declared.entry.Row.{Row}
use Rattle.kn_event.specs.declared.entry.Row.TheVariants as row
use Rattle.kn_event.specs.declared.entry.Mode.TheVariants.{Serve}
use Rattle.kn_trace.specs.declared.candidate.Cand.{Cand}
use Rattle.kn_trace.specs.Events.{live_most}
use Rattle.kn_record.specs.Admission.{is_ready_now, pods_in, stepped}
use Rattle.kn_throttle.proofs.Ended.{pod_there}
use Rattle.kn_throttle.proofs.Arriving.{admitted-row, direct-row, full-seat, in_turn, is_refused, kept_admitted, kept_directed, none_ready, not_full, refused-row, through-row}
use Rattle.kn_throttle.proofs.throttle.Throttle.enter.Goals as goal
use Rattle.kn_throttle.proofs.throttle.Throttle.enter.Goals.{in-Serve+else-not-is_empty, in_default}

d0 : Cand
d0 = record { pod = 0; limit = 0; running = 0 }

pub queue_at-requires-clause-there : goal.queue_at-requires-clause-there
unfolding d0
queue_at-requires-clause-there c =
    let k = c.self.invariant in
    let turn = in_turn _ _ _ _ _ _ _ _ c.as_slice-ready.result.now d0 k c.as_slice-ready.ensures c.if-not-is_empty.ensures in
    pod_there _ _ _ _ _ _ _ _ _ k turn.there

pub returns-then-not-queue_at-clause-value : goal.returns-then-not-queue_at-clause-value
unfolding d0
returns-then-not-queue_at-clause-value c = λ tag.
    let k = c.self.invariant in
    let turn = in_turn _ _ _ _ _ _ _ _ c.as_slice-ready.result.now d0 k c.as_slice-ready.ensures c.if-not-is_empty.ensures in
    let few : length c.self.inside.table < live_most = omega (arith, c.len.ensures.len) in
    let full = sym (full-seat _ _ _ _ _ _ _ _ _ k turn) ∙ is_refused _ _ c.queue_at.ensures.not_full c.if-not-queue_at.true in
    rw (← c.self.view_is, c.in-Serve.is) (direct-row c.self.inside.spec _ tag _ true few turn full)

pub invariant_of-self-then-not-is_empty : goal.invariant_of-self-then-not-is_empty
unfolding d0 stepped
invariant_of-self-then-not-is_empty c =
    let k = c.self.invariant in
    let turn = in_turn _ _ _ _ _ _ _ _ c.as_slice-ready.result.now d0 k c.as_slice-ready.ensures c.if-not-is_empty.ensures in
    let few : length c.self.inside.table < live_most = omega (arith, c.len.ensures.len) in
    let there = turn.there in
    rw (c.push.ensures.pushed, c.with-self-inside.ensures)
    (kept_directed _ _ _ _ _ _ _ _ _ _ c.args.time k (rw (← c.self.view_is) at c.requires.few) few there (c.order_laws.ensures.step _ c.args.time (row.Direct c.self.inside.arrivals _) k.sound.order (refl, there)) c.if-not-queue_at.ensures.queued c.if-not-queue_at.ensures.counted)

pub returns-then-not-is_empty-clause-value : goal.returns-then-not-is_empty-clause-value
unfolding d0
returns-then-not-is_empty-clause-value c = λ tag.
    let k = c.self.invariant in
    let turn = in_turn _ _ _ _ _ _ _ _ c.as_slice-ready.result.now d0 k c.as_slice-ready.ensures c.if-not-is_empty.ensures in
    let few : length c.self.inside.table < live_most = omega (arith, c.len.ensures.len) in
    let full = sym (full-seat _ _ _ _ _ _ _ _ _ k turn) ∙ not_full _ _ c.queue_at.ensures.not_full c.if-not-queue_at.false in
    rw (← c.self.view_is, c.in-Serve.is) (direct-row c.self.inside.spec _ tag _ false few turn full)

pub returns-then-not-enter-clause-value : goal.returns-then-not-enter-clause-value
returns-then-not-enter-clause-value c = λ tag.
    let k = c.self.invariant in
    let few : length c.self.inside.table < live_most = omega (arith, c.len.ensures.len) in
    let none : c.args.mode ≡ Serve → pods_in is_ready_now c.self.inside.pods ≡ [] =
    elim c.match-mode.branch [
      | in-Serve+else-not-is_empty w ↦ λ m. none_ready _ _ _ _ _ _ _ _ w.as_slice-ready.result.now k w.as_slice-ready.ensures w.if-not-is_empty.ensures
      | in_default w ↦ λ m. absurd (w.in_default.not-Serve m)
    ] in
    rw (← c.self.view_is) (through-row c.self.inside.spec c.args.mode _ tag few none ∙ ap (λ (x : Row). Some x) (refused-row _ _ _ _ _ _ _ _ tag k (c.if-not-enter.ensures.full.0 refl)))

pub invariant_of-self-2 : goal.invariant_of-self-2
unfolding stepped
invariant_of-self-2 c =
    let k = c.self.invariant in
    let few : length c.self.inside.table < live_most = omega (arith, c.len.ensures.len) in
    rw c.push-2.ensures.pushed
    (kept_admitted _ _ _ _ _ _ _ _ _ c.args.time k (rw (← c.self.view_is) at c.requires.few) few (c.order_laws.ensures.step _ c.args.time (row.Admit c.self.inside.arrivals 0) k.sound.order refl) c.if-not-enter.ensures.entered)

pub returns-clause-value : goal.returns-clause-value
returns-clause-value c = λ tag.
    let k = c.self.invariant in
    let few : length c.self.inside.table < live_most = omega (arith, c.len.ensures.len) in
    let none : c.args.mode ≡ Serve → pods_in is_ready_now c.self.inside.pods ≡ [] =
    elim c.match-mode.branch [
      | in-Serve+else-not-is_empty w ↦ λ m. none_ready _ _ _ _ _ _ _ _ w.as_slice-ready.result.now k w.as_slice-ready.ensures w.if-not-is_empty.ensures
      | in_default w ↦ λ m. absurd (w.in_default.not-Serve m)
    ] in
    rw (← c.self.view_is) (through-row c.self.inside.spec c.args.mode _ tag few none ∙ ap (λ (x : Row). Some x) (admitted-row _ _ _ _ _ _ _ _ tag k (λ e. absurd (let no = c.if-not-enter.ensures.full.1 e in cc))))

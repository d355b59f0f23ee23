use Rattle.std.proofs.Common.{◌≡◌, ◌<◌, ◌^◌, ◌∙◌, length, None, inl, inr, rules, refl, sym, arith}
use Rattle.kn_event.specs.declared.entry.Row.TheVariants as row
use Rattle.kn_trace.specs.Trace.{first_of}
use Rattle.kn_record.specs.Admission.{is_held_place, placed_in, stepped, waits}
use Rattle.kn_throttle.proofs.Parts.{cands_ascend}
use Rattle.kn_throttle.proofs.Ended.{pod_there}
use Rattle.kn_throttle.proofs.Dispatching.{cands_fit, kept_assigned}
use Rattle.kn_throttle.proofs.Dispatched.{calm_where, still_none}
use Rattle.kn_throttle.proofs.Walking.{chosen_at, free-seat, held_runs, next_some, none_free, none_room, picked_at, policy_after, robin-after, seat_found}
use Rattle.kn_throttle.proofs.throttle.Throttle.assign_next.Goals as goal

pub returns-in_default-clause-ends : goal.returns-in_default-clause-ends
returns-in_default-clause-ends c = λ d t h.
    let first : None ≡ first_of (placed_in is_held_place c.args.self.now.admission.live) = search rules in
    c.walk_laws.ensures.assigned c.args.self.now.spec c.args.self.now.admission d t h (inl (sym first))

pub returns-then-not-has_free_seat-clause-ends : goal.returns-then-not-has_free_seat-clause-ends
returns-then-not-has_free_seat-clause-ends c = λ d t h.
    rw (← c.self.view_is) (c.walk_laws.ensures.assigned c.self.inside.spec _ d t (rw (← c.self.view_is) at h) (inr (none_free c.choice_laws.ensures.none _ _ _ _ _ _ _ _ c.self.invariant (sym c.has_free_seat.ensures ∙ c.if-not-has_free_seat.true))))

pub acquire-requires : goal.acquire-requires
acquire-requires c = held_runs _ _ _ _ _ _ _ _ c.in-Some.r c.self.invariant c.in-Some.ensures.held

pub returns-then-not-acquire-clause-ends : goal.returns-then-not-acquire-clause-ends
returns-then-not-acquire-clause-ends c = λ d t h.
    rw (← c.self.view_is) (c.walk_laws.ensures.assigned c.self.inside.spec _ d t (rw (← c.self.view_is) at h) (inr (none_room _ _ _ _ _ _ _ _ c.self.invariant (c.if-not-acquire.ensures.full.0 refl))))

pub pick_place-requires-clause-order : goal.pick_place-requires-clause-order
pick_place-requires-clause-order c =
    let k = c.self.invariant in
    rw (c.as_slice.ensures, c.first_free-first.ensures.unchanged, k.candidates) (cands_ascend c.self.inside.table c.self.inside.pods k.sound.order.pods)

pub pick_place-requires-clause-first : goal.pick_place-requires-clause-first
pick_place-requires-clause-first c = rw (c.as_slice.ensures, c.first_free-first.ensures.unchanged) c.first_free-first.ensures.first

pub begin_at-p-requires-clause-order : goal.begin_at-p-requires-clause-order
begin_at-p-requires-clause-order c =
    let k = c.self.invariant in
    rw (c.first_free-first.ensures.unchanged, k.candidates) (cands_ascend c.self.inside.table c.self.inside.pods k.sound.order.pods)

pub begin_at-p-requires-clause-inside : goal.begin_at-p-requires-clause-inside
begin_at-p-requires-clause-inside c = rw (← c.as_slice.ensures) (rw c.unwrap-place.ensures at c.pick_place.ensures.inside)

pub begin_at-p-requires-clause-fits : goal.begin_at-p-requires-clause-fits
begin_at-p-requires-clause-fits c =
    let k = c.self.invariant in
    let few = k.sound.few in
    let fits : length c.self.inside.table < 2 ^ 63 = omega arith in
    rw (c.first_free-first.ensures.unchanged, k.candidates) (cands_fit c.self.inside.table c.self.inside.pods fits)

pub reserve_seat-requires-clause-there : goal.reserve_seat-requires-clause-there
reserve_seat-requires-clause-there c =
    let k = c.self.invariant in
    let same = c.as_slice.ensures ∙ c.first_free-first.ensures.unchanged in
    let pod = rw c.first_free-first.ensures.unchanged at c.begin_at-p.ensures.pod in
    let p = c.begin_at-p.result in
    let chosen = chosen_at _ _ _ _ _ _ _ _ p c.unwrap-place.result c.as_slice.result.now c.pick_place.result k same c.unwrap-place.ensures c.pick_place.ensures.chosen pod in
    let found = seat_found c.seating_laws.ensures _ _ _ _ _ _ _ _ p k chosen in
    pod_there _ _ _ _ _ _ _ _ p k found.there

pub invariant_of-self-2 : goal.invariant_of-self-2
unfolding stepped
invariant_of-self-2 c =
    let k = c.self.invariant in
    let same = c.as_slice.ensures ∙ c.first_free-first.ensures.unchanged in
    let pod = rw c.first_free-first.ensures.unchanged at c.begin_at-p.ensures.pod in
    let p = c.begin_at-p.result in
    let chosen = chosen_at _ _ _ _ _ _ _ _ p c.unwrap-place.result c.as_slice.result.now c.pick_place.result k same c.unwrap-place.ensures c.pick_place.ensures.chosen pod in
    let found = seat_found c.seating_laws.ensures _ _ _ _ _ _ _ _ p k chosen in
    let free = c.reserve_seat.ensures.free ∙ free-seat _ _ _ _ _ _ _ _ p k found in
    let order = c.order_laws.ensures.step _ 0 (row.Assign c.in-Some.r p) k.sound.order found.there in
    let picked = picked_at c.self.inside.policy c.pick_place.new.self c.self.inside.candidates c.as_slice.result.now c.pick_place.result p c.unwrap-place.result same c.unwrap-place.ensures c.pick_place.ensures.picked pod in
    kept_assigned _ _ _ _ _ _ _ _ _ _ _ _ c.in-Some.r p c.assign_first.new.self k
    (record { live = rw (c.assign_first.ensures.moved c.in-Some.r (sym c.in-Some.ensures.first)) order.live; arrived = rw (c.assign_first.ensures.moved c.in-Some.r (sym c.in-Some.ensures.first)) order.arrived; pods = order.pods; created = order.created; homes = rw (c.assign_first.ensures.moved c.in-Some.r (sym c.in-Some.ensures.first)) order.homes })
    c.assign_first.ensures.len (c.assign_first.ensures.moves c.in-Some.r (sym c.in-Some.ensures.first)) c.if-not-acquire.ensures.acquired (rw free at c.reserve_seat.ensures.reserved) (rw free at c.reserve_seat.ensures.counted) (rw c.first_free-first.ensures.unchanged at c.begin_at-p.ensures.begun)
    (policy_after c.self.inside.spec _ c.pick_place.new.self p _ c.self.inside.assignments c.as_slice.result.now c.choice_laws.ensures.picked k.policy picked)

pub returns-clause-after : goal.returns-clause-after
unfolding stepped
returns-clause-after c = λ t.
    let k = c.self.invariant in
    let same = c.as_slice.ensures ∙ c.first_free-first.ensures.unchanged in
    let pod = rw c.first_free-first.ensures.unchanged at c.begin_at-p.ensures.pod in
    let picked = picked_at c.self.inside.policy c.pick_place.new.self c.self.inside.candidates c.as_slice.result.now c.pick_place.result c.begin_at-p.result c.unwrap-place.result same c.unwrap-place.ensures c.pick_place.ensures.picked pod in
    let robin = robin-after c.self.inside.table c.self.inside.pods c.as_slice.result.now c.self.inside.policy c.pick_place.new.self c.begin_at-p.result (same ∙ k.candidates) picked in
    rw ((c.assign_first.ensures.moved c.in-Some.r (sym c.in-Some.ensures.first)), robin, ← c.self.view_is) refl

pub returns-clause-fewer : goal.returns-clause-fewer
returns-clause-fewer c =
    let moves = c.assign_first.ensures.moves c.in-Some.r (sym c.in-Some.ensures.first) in
    let counts = moves.counts waits in
    rw (← c.self.view_is) (omega (arith, counts))

pub returns-clause-begins : goal.returns-clause-begins
returns-clause-begins c = λ d t h.
    let k = c.self.invariant in
    let same = c.as_slice.ensures ∙ c.first_free-first.ensures.unchanged in
    let pod = rw c.first_free-first.ensures.unchanged at c.begin_at-p.ensures.pod in
    let p = c.begin_at-p.result in
    let chosen = chosen_at _ _ _ _ _ _ _ _ p c.unwrap-place.result c.as_slice.result.now c.pick_place.result k same c.unwrap-place.ensures c.pick_place.ensures.chosen pod in
    let next = next_some _ _ _ _ _ _ _ _ p k (λ e. absurd (let no = c.if-not-acquire.ensures.full.1 e in cc)) chosen in
    rw (← c.self.view_is) (c.walk_laws.ensures.assign c.self.inside.spec _ d t c.in-Some.r p (rw (← c.self.view_is) at h) (sym c.in-Some.ensures.first) next)

pub returns-clause-calm : goal.returns-clause-calm
returns-clause-calm c = λ calm.
    let k = c.self.invariant in
    let still = still_none c.in-Some.r c.begin_at-p.result _ _ c.self.inside.pods (c.assign_first.ensures.moves c.in-Some.r (sym c.in-Some.ensures.first)) (rw (← c.self.view_is) at calm.pods) in
    calm_where c.walk_laws.ensures.promoted c.self.inside.spec _ k.sound.order.pods still

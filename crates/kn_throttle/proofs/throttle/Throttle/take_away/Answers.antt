use Rattle.std.proofs.Common.{◌∙◌, ap, refl}
use Rattle.kn_event.specs.declared.entry.Row.TheVariants as row
use Rattle.kn_seats.specs.Seats.{State}
use Rattle.kn_seats.specs.Pods.{without_pod}
use Rattle.kn_record.specs.Admission.{stepped}
use Rattle.kn_throttle.proofs.Coming.{drained_seat, drained_there, kept_gone}
use Rattle.kn_throttle.proofs.Ended.{pod_there}
use Rattle.kn_throttle.proofs.Parts.{cands_ascend}
use Rattle.kn_throttle.proofs.Walking.{one_gone}
use Rattle.kn_throttle.proofs.throttle.Throttle.take_away.Goals as goal

pub drain-requires : goal.drain-requires
drain-requires c = record { there = pod_there _ _ _ _ _ _ _ _ c.args.p c.self.invariant (rw (← c.self.view_is) at c.requires.there) }

pub remove-requires-2-clause-there : goal.remove-requires-2-clause-there
remove-requires-2-clause-there c =
    let k = c.self.invariant in
    drained_there c.self.inside.seats c.drain.new.self c.self.inside.table c.self.inside.pods c.args.p k.seats (rw (← c.self.view_is) at c.requires.there) c.drain.ensures.changed

pub remove-requires-2-clause-draining : goal.remove-requires-2-clause-draining
remove-requires-2-clause-draining c =
    let k = c.self.invariant in
    (drained_seat c.self.inside.seats c.drain.new.self c.self.inside.table c.self.inside.pods c.args.p k.seats (rw (← c.self.view_is) at c.requires.there) (rw (← c.self.view_is) at c.requires.none) c.drain.ensures.changed).0

pub remove-requires-2-clause-none : goal.remove-requires-2-clause-none
remove-requires-2-clause-none c =
    let k = c.self.invariant in
    (drained_seat c.self.inside.seats c.drain.new.self c.self.inside.table c.self.inside.pods c.args.p k.seats (rw (← c.self.view_is) at c.requires.there) (rw (← c.self.view_is) at c.requires.none) c.drain.ensures.changed).1

pub remove-requires-3 : goal.remove-requires-3
remove-requires-3 c =
    let k = c.self.invariant in
    rw k.candidates (cands_ascend c.self.inside.table c.self.inside.pods k.sound.order.pods)

pub invariant_of-self : goal.invariant_of-self
unfolding stepped
invariant_of-self c =
    let k = c.self.invariant in
    rw (c.remove.ensures, c.without-self-inside.ensures, c.without-self-inside-2.ensures)
    (kept_gone _ _ _ _ _ _ _ _ _ _ _ c.args.p c.capacity-capacity.result k (c.order_laws.ensures.step _ 0 (row.LostPod c.args.p) k.sound.order (rw (← c.self.view_is) at c.requires.none))
    (c.remove-2.ensures.removed ∙ ap (λ (x : State). record x { pods = without_pod c.args.p x.pods }) c.drain.ensures.changed) (c.remove-2.ensures.counted ∙ c.drain.ensures.counted) c.remove-3.ensures (c.capacity-capacity.ensures.value ∙ rw c.most_running.ensures refl) c.set_capacity.ensures)

pub returns-clause-after : goal.returns-clause-after
unfolding stepped
returns-clause-after c = rw (c.remove.ensures, ← c.self.view_is) refl

pub returns-clause-fewer : goal.returns-clause-fewer
returns-clause-fewer c =
    let k = c.self.invariant in
    rw (c.remove.ensures, ← c.self.view_is) (one_gone c.args.p c.self.inside.pods k.sound.order.pods (rw (← c.self.view_is) at c.requires.there))

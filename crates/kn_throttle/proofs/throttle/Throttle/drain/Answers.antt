use Rattle.std.proofs.Common.{◌∙◌, refl}
use Rattle.kn_event.specs.declared.entry.Row.TheVariants as row
use Rattle.kn_trace.specs.Scale.{drain_order}
use Rattle.kn_trace.specs.Trace.{ready_pods, starting_pods}
use Rattle.kn_record.specs.Admission.{stepped}
use Rattle.kn_throttle.proofs.Answering.{drain_member}
use Rattle.kn_throttle.proofs.Ended.{pod_there}
use Rattle.kn_throttle.proofs.Living.{either_there, kept_drained}
use Rattle.kn_throttle.proofs.Parts.{cands_ascend}
use Rattle.kn_throttle.proofs.throttle.Throttle.drain.Goals as goal

pub drain-requires : goal.drain-requires
drain-requires c = record { there = pod_there _ _ _ _ _ _ _ _ c.args.p c.self.invariant (either_there c.args.p c.self.inside.pods (rw (← c.self.view_is) at c.requires)) }

pub remove-requires : goal.remove-requires
remove-requires c =
    let k = c.self.invariant in
    rw k.candidates (cands_ascend c.self.inside.table c.self.inside.pods k.sound.order.pods)

pub invariant_of-self : goal.invariant_of-self
unfolding stepped
invariant_of-self c =
    let k = c.self.invariant in
    let there = either_there c.args.p c.self.inside.pods (rw (← c.self.view_is) at c.requires) in
    rw (c.set_draining.ensures, c.with-self-inside.ensures)
    (kept_drained _ _ _ _ _ _ _ _ _ _ _ c.args.p c.capacity-capacity.result k (c.order_laws.ensures.step _ 0 (row.Drain c.args.p) k.sound.order tt) there c.drain.ensures.changed c.drain.ensures.counted c.remove.ensures (c.capacity-capacity.ensures.value ∙ rw c.most_running.ensures refl) c.set_capacity.ensures)

pub returns-clause-stands : goal.returns-clause-stands
unfolding stepped drain_order
returns-clause-stands c = λ d t h.
    let s = c.args.self.now.spec in
    let views = c.append_laws.ensures.views s c.args.self.now.admission d h in
    rw c.set_draining.ensures (c.append_laws.ensures.append s _ d t (row.Drain c.args.p) (rw (← c.self.view_is) at h) (drain_member c.args.p (starting_pods d) (ready_pods d) (rw (views.starting, views.ready) c.requires)))

use Rattle.std.proofs.Common.{arith, ◌∙◌, refl}
use Rattle.kn_event.specs.declared.entry.Row.TheVariants as row
use Rattle.kn_record.specs.Admission.{stepped}
use Rattle.kn_throttle.proofs.Coming.{candidate_there, fewer_ready, kept_readied, starting_there}
use Rattle.kn_throttle.proofs.Ended.{pod_there}
use Rattle.kn_throttle.proofs.Parts.{cands_ascend}
use Rattle.kn_throttle.proofs.throttle.Throttle.pod_ready.Goals as goal

pub limit-requires : goal.limit-requires
limit-requires c =
    let starts = rw (← c.self.view_is) at c.requires in
    pod_there _ _ _ _ _ _ _ _ c.args.p c.self.invariant (starting_there c.args.p c.self.inside.pods starts)

pub running-requires : goal.running-requires
running-requires c =
    let starts = rw (← c.self.view_is) at c.requires in
    pod_there _ _ _ _ _ _ _ _ c.args.p c.self.invariant (starting_there c.args.p c.self.inside.pods starts)

pub insert-requires-clause-order : goal.insert-requires-clause-order
insert-requires-clause-order c =
    let k = c.self.invariant in
    rw k.candidates (cands_ascend c.self.inside.table c.self.inside.pods k.sound.order.pods)

pub insert-requires-clause-room : goal.insert-requires-clause-room
insert-requires-clause-room c =
    let k = c.self.invariant in
    let starts = rw (← c.self.view_is) at c.requires in
    let few = k.sound.few_pods in
    let less = fewer_ready c.args.p c.self.inside.table c.self.inside.pods starts in
    rw k.candidates (omega arith)

pub invariant_of-self : goal.invariant_of-self
unfolding stepped
invariant_of-self c =
    let k = c.self.invariant in
    let starts = rw (← c.self.view_is) at c.requires in
    rw c.set_ready.ensures
    (kept_readied _ _ _ _ _ _ _ _ _ _ c.args.p c.capacity-capacity.result _ k (c.order_laws.ensures.step _ 0 (row.Ready c.args.p) k.sound.order tt) starts
    (candidate_there c.self.inside.seats c.self.inside.table c.self.inside.pods c.args.p c.limit.result c.running.result k.seats k.sound.order.pods (starting_there c.args.p c.self.inside.pods starts) c.limit.ensures c.running.ensures)
    c.insert.ensures (c.capacity-capacity.ensures.value ∙ rw c.most_running.ensures refl) c.set_capacity.ensures)

pub returns-clause-stands : goal.returns-clause-stands
unfolding stepped
returns-clause-stands c = λ d t h.
    let s = c.args.self.now.spec in
    let views = c.append_laws.ensures.views s c.args.self.now.admission d h in
    rw c.set_ready.ensures (c.append_laws.ensures.append s _ d t (row.Ready c.args.p) (rw (← c.self.view_is) at h) (rw views.starting c.requires))

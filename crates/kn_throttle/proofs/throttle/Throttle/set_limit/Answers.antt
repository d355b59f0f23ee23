use Rattle.std.proofs.Common.{◌∙◌, refl}
use Rattle.kn_event.specs.declared.entry.Row.TheVariants as row
use Rattle.kn_record.specs.Admission.{stepped}
use Rattle.kn_throttle.proofs.Parts.{cands_ascend}
use Rattle.kn_throttle.proofs.Ended.{pod_there}
use Rattle.kn_throttle.proofs.Living.{kept_limited}
use Rattle.kn_throttle.proofs.throttle.Throttle.set_limit.Goals as goal

pub set_limit-requires-2-clause-there : goal.set_limit-requires-2-clause-there
set_limit-requires-2-clause-there c = pod_there _ _ _ _ _ _ _ _ c.args.p c.self.invariant (rw (← c.self.view_is) at c.requires.there)

pub set_limit-requires-3 : goal.set_limit-requires-3
set_limit-requires-3 c =
    let k = c.self.invariant in
    rw k.candidates (cands_ascend c.self.inside.table c.self.inside.pods k.sound.order.pods)

pub invariant_of-self : goal.invariant_of-self
unfolding stepped
invariant_of-self c =
    let k = c.self.invariant in
    let there = rw (← c.self.view_is) at c.requires.there in
    rw (c.set_limit.ensures, c.with-self-inside.ensures)
    (kept_limited _ _ _ _ _ _ _ _ _ _ _ c.args.p c.args.n c.capacity-capacity.result k (c.order_laws.ensures.step _ 0 (row.Limit c.args.p c.args.n) k.sound.order tt) there c.set_limit-2.ensures.changed c.set_limit-2.ensures.counted c.set_limit-3.ensures (c.capacity-capacity.ensures.value ∙ rw c.most_running.ensures refl) c.set_capacity.ensures)

pub returns-clause-stands : goal.returns-clause-stands
unfolding stepped
returns-clause-stands c = λ d t h.
    let s = c.args.self.now.spec in
    let views = c.append_laws.ensures.views s c.args.self.now.admission d h in
    rw c.set_limit.ensures (c.append_laws.ensures.append s _ d t (row.Limit c.args.p c.args.n) (rw (← c.self.view_is) at h) (rw views.pods c.requires.there))

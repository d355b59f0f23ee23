use Rattle.kn_event.specs.declared.entry.Row.TheVariants as row
use Rattle.kn_record.specs.Admission.{stepped}
use Rattle.kn_throttle.proofs.Ended.{after_free, before_free}
use Rattle.kn_throttle.proofs.throttle.Throttle.end.Goals as goal

pub free-requires : goal.free-requires
unfolding stepped
free-requires c =
    let k = c.self.invariant in
    before_free _ _ _ _ _ _ _ _ c.args.r c.take_out-request.result c.take_out-request.new.table k
    (rw c.take_out-request.ensures.removed (c.order_laws.ensures.step _ 0 (row.Expire c.args.r) k.sound.order tt)) c.take_out-request.ensures.len c.take_out-request.ensures.leaves c.take_out-request.ensures.request

pub invariant_of-self : goal.invariant_of-self
unfolding stepped
invariant_of-self c =
    let k = c.self.invariant in
    after_free _ _ _ _ _ _ _ _ c.args.r c.take_out-request.result c.take_out-request.new.table k
    (rw c.take_out-request.ensures.removed (c.order_laws.ensures.step _ 0 (row.Expire c.args.r) k.sound.order tt)) c.take_out-request.ensures.len c.take_out-request.ensures.leaves c.take_out-request.ensures.request _ _ _ _ _ c.free.ensures

use Rattle.kn_event.specs.declared.entry.Row.TheVariants as row
use Rattle.kn_record.specs.Admission.{stepped}
use Rattle.kn_throttle.proofs.Ended.{after_free, before_free}
use Rattle.kn_throttle.proofs.Answering.{assigned-place, stand-place}
use Rattle.kn_throttle.proofs.throttle.Throttle.end_where.Goals as goal

pub free-requires : goal.free-requires
unfolding stepped
free-requires c =
    let left = c.in_ok-request.ensures in
    before_free _ _ _ _ _ _ _ _ c.args.r c.in_ok-request.request c.remove_where.new.self c.self.invariant
    (rw left.removed (c.order_laws.ensures.step _ 0 (row.Expire c.args.r) c.self.invariant.sound.order tt)) left.len left.leaves left.request

pub invariant_of-self-2 : goal.invariant_of-self-2
unfolding stepped
invariant_of-self-2 c =
    let left = c.in_ok-request.ensures in
    after_free _ _ _ _ _ _ _ _ c.args.r c.in_ok-request.request c.remove_where.new.self c.self.invariant
    (rw left.removed (c.order_laws.ensures.step _ 0 (row.Expire c.args.r) c.self.invariant.sound.order tt)) left.len left.leaves left.request _ _ _ _ _ c.free.ensures

pub returns-clause-stand : goal.returns-clause-stand
returns-clause-stand c =
    let left = c.in_ok-request.ensures in
    rw (← c.self.view_is) (stand-place _ c.args.r c.in_ok-request.request c.self.invariant.sound.order left.request)

pub returns-clause-proxied : goal.returns-clause-proxied
returns-clause-proxied c =
    let left = c.in_ok-request.ensures in
    rw (← c.self.view_is) (assigned-place _ c.args.r c.in_ok-request.request c.self.invariant.sound.order left.request)

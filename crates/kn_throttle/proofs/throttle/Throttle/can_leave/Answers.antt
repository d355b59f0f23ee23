use Rattle.std.proofs.Common.{◌≡◌, ◌∙◌}
use Rattle.kn_trace.specs.Trace.{is_empty}
use Rattle.kn_record.specs.Admission.{is_at, placed_in}
use Rattle.kn_throttle.proofs.Ended.{pod_there}
use Rattle.kn_throttle.proofs.Walking.{idle-seat, leave-seat, nobody_there}
use Rattle.kn_throttle.proofs.throttle.Throttle.can_leave.Goals as goal

pub running-requires : goal.running-requires
running-requires c = pod_there _ _ _ _ _ _ _ _ c.args.p c.self.invariant (rw (← c.self.view_is) at c.requires)

pub queued-requires : goal.queued-requires
queued-requires c = pod_there _ _ _ _ _ _ _ _ c.args.p c.self.invariant (rw (← c.self.view_is) at c.requires)

pub returns : goal.returns
returns c =
    let there = rw (← c.self.view_is) at c.requires in
    let idle : c.is_idle.result ≡ is_empty (placed_in (is_at c.args.p) c.self.inside.table) =
    c.is_idle.ensures ∙ rw (c.running.ensures, c.queued.ensures) (nobody_there _ _ (placed_in (is_at c.args.p) c.self.inside.table) (idle-seat _ _ _ _ _ _ _ _ c.args.p c.self.invariant there)) in
    rw (← c.self.view_is, leave-seat _ _ _ _ _ _ _ _ c.args.p c.self.invariant there, ← c.is_draining.ensures, c.if-not-is_draining.false) idle

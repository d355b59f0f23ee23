use Rattle.std.proofs.Common.{◌∙◌, sym}
use Rattle.kn_throttle.proofs.Answering.{lost-placed}
use Rattle.kn_throttle.proofs.Ended.{pod_there}
use Rattle.kn_throttle.proofs.Walking.{none_at}
use Rattle.kn_throttle.proofs.throttle.Throttle.first_at.Goals as goal

pub running-requires : goal.running-requires
running-requires c = pod_there _ _ _ _ _ _ _ _ c.args.p c.self.invariant (rw (← c.self.view_is) at c.requires)

pub queued-requires : goal.queued-requires
queued-requires c = pod_there _ _ _ _ _ _ _ _ c.args.p c.self.invariant (rw (← c.self.view_is) at c.requires)

pub returns-then-is_idle-clause-value : goal.returns-then-is_idle-clause-value
returns-then-is_idle-clause-value c =
    rw (← c.self.view_is) (none_at _ _ _ _ _ _ _ _ c.args.p c.self.invariant (rw (← c.self.view_is) at c.requires) (rw (c.running.ensures, c.queued.ensures) at (sym c.is_idle.ensures ∙ c.if-is_idle.true)))

pub returns-then-is_idle-clause-first : goal.returns-then-is_idle-clause-first
returns-then-is_idle-clause-first c = λ d h.
    let views = c.append_laws.ensures.views c.self.inside.spec _ d (rw (← c.self.view_is) at h) in
    rw (lost-placed d c.args.p c.self.inside.table c.self.invariant.sound.order.live views.live (λ r. views.is_at_pod c.args.p r))
    (none_at _ _ _ _ _ _ _ _ c.args.p c.self.invariant (rw (← c.self.view_is) at c.requires) (rw (c.running.ensures, c.queued.ensures) at (sym c.is_idle.ensures ∙ c.if-is_idle.true)))

pub returns-clause-first : goal.returns-clause-first
returns-clause-first c = λ d h.
    let views = c.append_laws.ensures.views c.self.inside.spec _ d (rw (← c.self.view_is) at h) in
    rw (lost-placed d c.args.p c.self.inside.table c.self.invariant.sound.order.live views.live (λ r. views.is_at_pod c.args.p r)) c.first_at.ensures.first

use Rattle.std.proofs.Common.{Some}
use Rattle.kn_waiters.specs.declared.waiters.Waiter.{Waiter}
use Rattle.kn_waiters.proofs.Waits.{takes_out}
use Rattle.kn_waiters.proofs.waiters.Waiters.remove.Goals as goal

pub returns-in-Some-clause-out : goal.returns-in-Some-clause-out
returns-in-Some-clause-out c =
    let w : Waiter = record { request = c.args.request; pass = c.args.pass } in
    rw (← c.self.view_is) (takes_out w c.self.inside.waiting.items c.remove.new.self.items (Some c.in-Some.place) (rw (← c.deref.ensures.value) c.in-Some.ensures) c.remove.ensures.items)

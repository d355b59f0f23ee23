use Rattle.std.proofs.Common.{◌≢◌, ◌<◌, length, get_or, ap, ◌∙◌}
use Rattle.std.proofs.lemmas.List.{get_or_default}
use Rattle.kn_waiters.specs.declared.waiters.Waiter.{Waiter}
use Rattle.kn_waiters.proofs.Waits.{absent}
use Rattle.kn_waiters.proofs.waiters.find.Goals as goal

pub returns-then-waiting-place : goal.returns-then-waiting-place
returns-then-waiting-place c =
    let ws = c.args.waiting.now in
    let zero : Waiter = record { request = 0; pass = 0 } in
    let other : c.loop-place.place < length ws → (d : Waiter) → (get_or ws c.loop-place.place d).request ≢ c.args.request =
    λ lt d e. c.if-waiting-place.true (ap (λ (w : Waiter). w.request) (get_or_default ws c.loop-place.place zero d lt) ∙ e) in
    absent c.args.request c.args.pass ws c.place_of-first.result c.loop-place.place c.requires c.place_of-first.ensures c.loop-place.invariant.low c.loop-place.invariant.passed other

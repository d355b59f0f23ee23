use Rattle.std.proofs.Common.{◌≡◌, ◌∷◌, arith, subst, sym}
use Rattle.std.specs.Prelude.{if◌then◌else◌}
use Rattle.std.specs.List.{insert}
use Rattle.std.specs.List.Sorted.{IsPermutation}
use Rattle.std.proofs.lemmas.List.Sorted.{IsPermutation-insert}
use Rattle.kn_waiters.specs.declared.waiters.Waiter.{Waiter}
use Rattle.kn_waiters.proofs.waiters.Waiters.put.Goals as goal

pub returns-then-count-self-clause-put : goal.returns-then-count-self-clause-put
returns-then-count-self-clause-put c room =
    let ws = c.self.inside.waiting.items in
    let w : Waiter = record { request = c.args.request; pass = c.args.pass } in
    let at = c.place_of-place.result in
    let wide = c.self.invariant.1 in
    let few = c.if-count-self.true in
    let ok = c.insert.ensures.succeeds (omega arith) in
    let is = subst (λ b. c.insert.new.self.items ≡ (if b then insert ws at w else ws)) ok c.insert.ensures.items in
    rw (← c.self.view_is) (subst (IsPermutation (w ∷ ws)) (sym is) (IsPermutation-insert ws at w))

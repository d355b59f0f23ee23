use Rattle.std.proofs.Common.{◌≡◌, [], sym, ◌∙◌, arith, eqb-true}
use Rattle.std.proofs.lemmas.List.{nil_from_length}
use Rattle.kn_waiters.specs.Waiting.{WaitersState}
use Rattle.kn_waiters.proofs.Waits.{calls_nobody}
use Rattle.kn_waiters.proofs.waiters.Waiters.call_all.Goals as goal

pub returns-then-is_empty : goal.returns-then-is_empty
returns-then-is_empty c =
    let old : WaitersState = record { room = c.self.inside.room; waiting = c.self.inside.waiting.items; called = c.self.inside.called.items } in
    let zero : c.self.inside.waiting.len ≡ 0 = eqb-true c.self.inside.waiting.len 0 (sym c.is_empty.ensures ∙ c.if-is_empty.true) in
    let none : c.self.inside.waiting.items ≡ [] = nil_from_length c.self.inside.waiting.items (grind (arith, zero)) in
    rw (← c.self.view_is) (calls_nobody c.args.entries.now old none)

use Rattle.std.proofs.Common.{◌≡◌, ◌+◌, ◌++◌, ◌∷◌, [], take, sym, ap, ◌∙◌, subst}
use Rattle.kn_event.specs.declared.entry.Entry.{Entry}
use Rattle.std.proofs.lemmas.List.{take_more, take_all}
use Rattle.kn_waiters.specs.Waiting.{WaitersState, rouses, Calls}
use Rattle.kn_waiters.proofs.Waits.{calls_none, calls_quiet, calls_more}
use Rattle.kn_waiters.proofs.waiters.Waiters.call_each.Goals as goal
use Rattle.kn_waiters.proofs.waiters.Waiters.call_each.Goals.{in-Some, in_default}

pub loop-entry-init : goal.loop-entry-init
loop-entry-init c = calls_none c.args.self.now

pub loop-entry-preserved : goal.loop-entry-preserved
loop-entry-preserved c =
    let es = c.args.entries.now in
    let k = c.loop-entry.entry-index in
    let e : Entry = c.entry-item.result in
    let start : WaitersState = c.args.self.now in
    let more : take (k + 1) es ≡ take k es ++ e ∷ [] = take_more es k e c.loop-entry-test.true ∙ ap (λ (x : Entry). take k es ++ x ∷ []) (sym c.entry-item.is) in
    rw more (elim c.match-woken_by.branch [
      | in-Some w ↦ rw w.self-is (calls_more (take k es) e w.in-Some.request start c.loop-entry.self w.call.new.self (sym c.woken_by.ensures ∙ w.in-Some.is) c.loop-entry.invariant w.call.ensures)
      | in_default w ↦ rw w.self-is (calls_quiet (take k es) e start c.loop-entry.self (sym c.woken_by.ensures ∙ w.in_default.is) c.loop-entry.invariant)
    ])

pub returns : goal.returns
returns c = subst (λ es. Calls (rouses es) c.args.self.now c.loop-entry.self) (take_all c.loop-entry.entry-index c.args.entries.now c.loop-entry-test.false) c.loop-entry.invariant

use Rattle.std.specs.Prelude.{take}
use Rattle.kn_waiters.specs.Waiting.{rouses, Calls}
use Rattle.kn_waiters.proofs.waiters.Waiters.call_each.Given as goal

abbrev pub invariant-loop-entry : goal.invariant-loop-entry
invariant-loop-entry l = Calls (rouses (take l.entry-index l.entries)) l.initial.self l.self

use Rattle.std.proofs.Common.{◌+◌, ◌-◌, ◌<◌, ◌^◌, length, min, subst, sym, arith, get_or}
use Rattle.kn_waits.specs.Waits.{AreWaits, WaitsState}
use Rattle.kn_waits.proofs.Counting.{fits, waits_more}
use Rattle.kn_waits.proofs.waits.Waits.add.Goals as goal

pub returns-clause-waits : goal.returns-clause-waits
returns-clause-waits c ws are few =
    let x : WaitsState = record { counters = c.self.inside.counters; ran = c.self.inside.ran; sum = c.self.inside.sum; longest = c.self.inside.longest } in
    let held : AreWaits x ws = subst (λ (v : WaitsState). AreWaits v ws) (sym c.self.view_is) are in
    let inside : c.args.wait < length x.counters = subst (λ (v : WaitsState). c.args.wait < length v.counters) (sym c.self.view_is) c.requires in
    let small = fits x ws c.args.wait held few inside (omega arith) (omega arith) in
    waits_more x _ ws c.args.wait (min (get_or x.counters c.args.wait 0 + 1) (2 ^ 64 - 1)) held few inside
    (omega (arith, small.0)) c.raise.ensures (omega (arith, held.ran, c.saturating_add-self-inside.ensures)) (omega (arith, small.1, c.from.ensures, c.saturating_add-self-inside-2.ensures)) c.max-self-inside.ensures

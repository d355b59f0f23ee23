use Rattle.std.proofs.Common.{◌*◌, ◌≤◌, arith}
use Rattle.kn_table.proofs.slot.sixteenth.Goals as goal

pub returns-clause-fewer : goal.returns-clause-fewer
returns-clause-fewer c n le =
    let eighth : c.half-part.result.len ≤ 8 * n = c.half-part.ensures.fewer (8 * n) (omega (arith, le)) in
    let fourth : c.half-part-2.result.len ≤ 4 * n = c.half-part-2.ensures.fewer (4 * n) (omega (arith, eighth)) in
    let second : c.half-part-3.result.len ≤ 2 * n = c.half-part-3.ensures.fewer (2 * n) (omega (arith, fourth)) in
    c.half.ensures.fewer n second

use Rattle.std.proofs.Common.{◌≤◌, arith}
use Rattle.kn_table.proofs.Search.{none_within}
use Rattle.kn_table.proofs.slot.search.Goals as goal

pub returns-else-slots-one : goal.returns-else-slots-one
returns-else-slots-one c =
    let most = c.requires.few in
    let first : c.sixteenth-part.result.len ≤ 4096 = c.sixteenth-part.ensures.fewer 4096 (omega (arith, most)) in
    let second : c.sixteenth-part-2.result.len ≤ 256 = c.sixteenth-part-2.ensures.fewer 256 (omega (arith, first)) in
    let third : c.sixteenth-part-3.result.len ≤ 16 = c.sixteenth-part-3.ensures.fewer 16 (omega (arith, second)) in
    let one : c.sixteenth-one.result.len ≤ 1 = c.sixteenth-one.ensures.fewer 1 (omega (arith, third)) in
    none_within c.args.r c.args.slots.now c.sixteenth-one.result.from c.sixteenth-one.result.len _ c.sixteenth-one.ensures.within one c.if-slots-one.false

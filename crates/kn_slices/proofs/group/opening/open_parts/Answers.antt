-- One activator more.
use Rattle.std.proofs.Common.{arith}
use Rattle.kn_slices.proofs.Begin.{fresh_count, fresh_more}
use Rattle.kn_slices.proofs.group.opening.open_parts.Goals as goal

pub loop-i-preserved : goal.loop-i-preserved
loop-i-preserved c =
    let inv = c.loop-i.invariant in
    let part = rw c.slice.ensures at c.in_ok-part.ensures in
    let room = inv.room in
    let grown = c.push_reserved.ensures.capacity in
    record {
      count = fresh_count c.loop-i.i c.loop-i.parts.items c.push_reserved.new.self.items _ inv.count c.push_reserved.ensures.items;
      room = omega (arith, room, grown);
      each = fresh_more c.args.n c.args.limit c.args.pods c.args.timeout_s c.args.slots c.args.start c.loop-i.i c.loop-i.parts.items c.push_reserved.new.self.items _ inv.count c.push_reserved.ensures.items inv.each part;
    }

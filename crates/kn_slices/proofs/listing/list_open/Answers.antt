use Rattle.std.proofs.Common.{arith}
use Rattle.kn_slices.specs.Activators.{IsClosed}
use Rattle.kn_slices.proofs.Listed.{count, listed_more, listed_up, others_more, others_up}
use Rattle.kn_slices.proofs.listing.list_open.Goals as goal
use Rattle.kn_slices.proofs.listing.list_open.Goals.{then-marks-p-ne0, else-marks-p-ne0+else-force-p}

pub loop-p-preserved : goal.loop-p-preserved
loop-p-preserved c =
    let p = c.loop-p.p in
    let inv = c.loop-p.invariant in
    let few = inv.count in
    let room = inv.room in
    let old = c.loop-p.listed.items in
    let P = IsClosed c.args.wanted.now c.args.force.now c.args.marks.now in
    elim c.if-marks-p-ne0.branch [
      | then-marks-p-ne0 w ↦
          let more = w.push_reserved.ensures.items in
          let n = count p old w.push_reserved.new.self.items more in
          let grown = w.push_reserved.ensures.capacity in
          rw w.listed-is (record {
            count = omega (arith, few, n);
            room = omega (arith, room, grown);
            listed = listed_more p old w.push_reserved.new.self.items more inv.listed;
            others = others_more p old w.push_reserved.new.self.items more P inv.others;
          })
      | else-marks-p-ne0+else-force-p w ↦
          rw w.listed-is (record {
            count = omega (arith, few);
            room = room;
            listed = listed_up p old inv.listed;
            others = others_up P p old (w.if-marks-p-ne0.false, w.if-force-p.false) inv.others;
          })
    ]

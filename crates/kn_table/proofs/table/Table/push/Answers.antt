use Rattle.std.proofs.Common.{◌≡◌, ◌<◌, arith, length, refl, subst, sym, false}
use Rattle.kn_trace.specs.Events.{live_most}
use Rattle.kn_table.specs.Links.{Comes}
use Rattle.kn_table.proofs.Chains.{comes_pushed}
use Rattle.kn_table.proofs.Writes.{kept-push}
use Rattle.kn_table.proofs.table.Table.push.Goals as goal

pub invariant_of-self : goal.invariant_of-self
invariant_of-self c =
    let few = subst (λ l. length l < live_most) (sym c.self.view_is) c.requires.room in
    let size = c.push_reserved.ensures.capacity in
    let stays = c.make_room.ensures.capacity in
    let room = c.self.invariant.room in
    let end = c.len-end.ensures in
    let here : length c.make_room.new.slots.items ≡ c.len-end.result = omega (arith, end) in
    record {
      kept = kept-push c.self.inside.slots.items c.make_room.new.slots.items c.push_reserved.new.self.items c.self.inside.live c.len-end.result (record { request = c.args.request; has_ended = false })
          c.self.inside.cursors c.make_room.new.cursors c.pass.new.self c.self.invariant.kept few c.make_room.ensures.live c.make_room.ensures.next c.make_room.ensures.first refl c.push_reserved.ensures.items
          (let end = c.len-end.ensures in omega (arith, end)) c.pass.ensures;
      linked = c.link_at.ensures _ _ c.make_room.ensures.linked (subst (λ n. Comes c.args.request.place n c.make_room.new.slots.items c.push_reserved.new.self.items) here
          (subst (λ l. Comes c.args.request.place (length c.make_room.new.slots.items) c.make_room.new.slots.items l) (sym c.push_reserved.ensures.items) (comes_pushed c.make_room.new.slots.items (record { request = c.args.request; has_ended = false }))));
      room = omega (arith, size, stays, room);
    }

use Rattle.std.proofs.Common.{◌∙◌, ◌++◌, ◌∷◌, [], List, ℕ, ap, arith, false, length, refl, subst, sym}
use Rattle.std.proofs.lemmas.List.{length_push}
use Rattle.kn_lives.specs.declared.lives.Life.{Life}
use Rattle.kn_lives.specs.declared.slots.Slot.{Slot}
use Rattle.kn_lives.specs.Slots.{AreAscending, live_of}
use Rattle.kn_lives.proofs.Marks.{live_of-push, order-push}
use Rattle.kn_lives.proofs.lives.Lives.take_in.Goals as goal

pub invariant_of-self : goal.invariant_of-self
invariant_of-self c =
    let made = c.if-make_room.ensures in
    let slots = c.make_room.new.slots.items in
    let y : Slot = record { number = c.args.r; life = c.args.life; has_ended = false } in
    let few = made.few refl in
    let long = ap (λ (l : List Slot). length l) c.push_reserved.ensures.items ∙ length_push slots y in
    let size = c.push_reserved.ensures.capacity in
    let stays = made.capacity in
    let room = c.self.invariant.room in
    record {
      order = subst AreAscending (sym {A = List Slot} c.push_reserved.ensures.items) (order-push slots y made.order (made.above refl));
      short = omega (arith, few, long);
      room = omega (arith, size, stays, room);
    }

pub returns-then-make_room : goal.returns-then-make_room
returns-then-make_room c below few =
    let slots = c.make_room.new.slots.items in
    let y : Slot = record { number = c.args.r; life = c.args.life; has_ended = false } in
    ap live_of c.push_reserved.ensures.items ∙ live_of-push slots y refl
    ∙ ap (λ (l : List (ℕ × Life)). l ++ (c.args.r, c.args.life) ∷ []) (c.if-make_room.ensures.live ∙ c.self.view_is)

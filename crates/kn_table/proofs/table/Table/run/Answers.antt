use Rattle.std.proofs.Common.{◌∙◌, ap, length, refl, false}
use Rattle.kn_record.specs.declared.admission.Place.TheVariants as place
use Rattle.kn_record.specs.Admission.{begins, begun, is_held_place, queues_at, waits}
use Rattle.kn_table.specs.declared.slot.Slot.{Slot}
use Rattle.kn_table.specs.Slots.{live_of}
use Rattle.kn_table.specs.Links.{is_chained}
use Rattle.kn_table.proofs.Chains.{begun_chained, linked_same, same_set}
use Rattle.kn_table.proofs.Requests.{changed_length, is_queued}
use Rattle.kn_table.proofs.Writes.{begun_fails, begun_low, few_live, kept-set, moved_count, moved_live, moved_moves, place_found, read_passes, stands, left_at}
use Rattle.kn_table.proofs.table.Table.run.Goals as goal

pub unwrap-place-requires : goal.unwrap-place-requires
unwrap-place-requires c =
    let kept = c.self.invariant.kept in
    place_found (queues_at c.requires.0) c.args.r c.self.inside.slots.items c.deref.result.now c.args.self.now _ kept.order (few_live _ _ _ kept) c.self.view_is c.deref.ensures.value c.requires.1 c.place_of.ensures

pub leave-requires-clause-held : goal.leave-requires-clause-held
leave-requires-clause-held c =
    let kept = c.self.invariant.kept in
    let there = stands c.args.r c.self.inside.slots.items c.deref.result.now c.unwrap-place.result c.place_of.result c.deref.ensures.value c.unwrap-place.ensures c.place_of.ensures in
    let queued = read_passes c.self.inside.slots.items kept.order (few_live _ _ _ kept) c.args.r c.unwrap-place.result there c.index_mut-slot.result.now c.index_mut-slot.ensures.value c.args.self.now c.self.view_is (queues_at c.requires.0) c.requires.1 in
    let x = c.index_mut-slot.result.now in
    let y : Slot = record { request = record x.request { place = c.begun-slot.result }; has_ended = x.has_ended } in
    left_at is_held_place c.self.inside.slots.items _ c.unwrap-place.result y _ there.inside kept.held c.deref-2.ensures.value
    (begun_fails is_held_place c.requires.0 y x.request.place refl (is_queued c.requires.0 c.index_mut-slot.result.now.request.place queued) c.begun-slot.ensures)

pub leave-requires-clause-waiting : goal.leave-requires-clause-waiting
leave-requires-clause-waiting c =
    let kept = c.self.invariant.kept in
    let there = stands c.args.r c.self.inside.slots.items c.deref.result.now c.unwrap-place.result c.place_of.result c.deref.ensures.value c.unwrap-place.ensures c.place_of.ensures in
    let queued = read_passes c.self.inside.slots.items kept.order (few_live _ _ _ kept) c.args.r c.unwrap-place.result there c.index_mut-slot.result.now c.index_mut-slot.ensures.value c.args.self.now c.self.view_is (queues_at c.requires.0) c.requires.1 in
    let x = c.index_mut-slot.result.now in
    let y : Slot = record { request = record x.request { place = c.begun-slot.result }; has_ended = x.has_ended } in
    left_at waits c.self.inside.slots.items _ c.unwrap-place.result y _ there.inside kept.waiting c.deref-2.ensures.value
    (begun_fails waits c.requires.0 y x.request.place refl (is_queued c.requires.0 c.index_mut-slot.result.now.request.place queued) c.begun-slot.ensures)

pub invariant_of-self : goal.invariant_of-self
invariant_of-self c =
    let kept = c.self.invariant.kept in
    let there = stands c.args.r c.self.inside.slots.items c.deref.result.now c.unwrap-place.result c.place_of.result c.deref.ensures.value c.unwrap-place.ensures c.place_of.ensures in
    record {
      kept = kept-set c.self.inside.slots.items c.deref-2.result.now c.self.inside.live c.self.inside.live c.unwrap-place.result c.index_mut-slot.result.now _ c.self.inside.cursors c.leave.new.self c.self.inside.cursors.pod c.self.inside.cursors.from kept
          there.inside c.index_mut-slot.ensures.value refl refl c.deref-2.ensures.value c.leave.ensures
          (begun_low c.self.inside.slots.items c.unwrap-place.result c.index_mut-slot.result.now _ c.self.inside.cursors.pod c.self.inside.cursors.from c.index_mut-slot.ensures.value refl c.begun-slot.ensures kept.at_pod)
          (moved_count c.self.inside.slots.items kept.order c.args.r c.unwrap-place.result there c.index_mut-slot.result.now c.index_mut-slot.ensures.value (λ s. record s { place = begun s.place }) _ c.self.inside.live kept.counted refl (ap (λ w. record c.index_mut-slot.result.now.request { place = w }) c.begun-slot.ensures))
          kept.few;
      linked = linked_same _ _ _ (same_set c.self.inside.slots.items c.unwrap-place.result c.index_mut-slot.result.now _ there.inside c.index_mut-slot.ensures.value
          (λ k. ap (is_chained k) c.begun-slot.ensures ∙ begun_chained k c.index_mut-slot.result.now.request.place)) c.self.invariant.linked;
      room = c.self.invariant.room;
    }

pub returns-clause-begun : goal.returns-clause-begun
returns-clause-begun c =
    let kept = c.self.invariant.kept in
    let there = stands c.args.r c.self.inside.slots.items c.deref.result.now c.unwrap-place.result c.place_of.result c.deref.ensures.value c.unwrap-place.ensures c.place_of.ensures in
    moved_live c.self.inside.slots.items kept.order c.args.r c.unwrap-place.result there c.index_mut-slot.result.now c.index_mut-slot.ensures.value (λ s. record s { place = begun s.place }) _ refl (ap (λ w. record c.index_mut-slot.result.now.request { place = w }) c.begun-slot.ensures)
    ∙ ap (begins c.args.r) c.self.view_is

pub returns-clause-moves : goal.returns-clause-moves
returns-clause-moves c p member =
    let kept = c.self.invariant.kept in
    let there = stands c.args.r c.self.inside.slots.items c.deref.result.now c.unwrap-place.result c.place_of.result c.deref.ensures.value c.unwrap-place.ensures c.place_of.ensures in
    moved_moves c.self.inside.slots.items kept.order (few_live _ _ _ kept) c.args.r c.unwrap-place.result there c.index_mut-slot.result.now c.index_mut-slot.ensures.value c.args.self.now c.self.view_is
    (λ s. record s { place = begun s.place }) (λ _. refl) (queues_at p) (place.Queued p) (place.Running p false) _ refl (ap (λ w. record c.index_mut-slot.result.now.request { place = w }) c.begun-slot.ensures) member
    (λ s h. (is_queued p s.place h, ap begun (is_queued p s.place h)))

pub returns-clause-len : goal.returns-clause-len
returns-clause-len c =
    let kept = c.self.invariant.kept in
    let there = stands c.args.r c.self.inside.slots.items c.deref.result.now c.unwrap-place.result c.place_of.result c.deref.ensures.value c.unwrap-place.ensures c.place_of.ensures in
    ap length (moved_live c.self.inside.slots.items kept.order c.args.r c.unwrap-place.result there c.index_mut-slot.result.now c.index_mut-slot.ensures.value (λ s. record s { place = begun s.place }) _ refl (ap (λ w. record c.index_mut-slot.result.now.request { place = w }) c.begun-slot.ensures))
    ∙ changed_length (λ s. record s { place = begun s.place }) c.args.r (live_of c.self.inside.slots.items) ∙ ap length c.self.view_is

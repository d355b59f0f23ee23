use Rattle.std.proofs.Common.{◌-◌, arith, refl, true}
use Rattle.kn_record.specs.Admission.{is_at, is_held_place, waits}
use Rattle.kn_table.specs.declared.slot.Slot.{Slot}
use Rattle.kn_table.specs.Slots.{is_placed, live_of}
use Rattle.kn_table.proofs.Chains.{same_set}
use Rattle.kn_table.proofs.Firsts.{first-set}
use Rattle.kn_table.proofs.Writes.{few_live, kept-set, ended_count, ended_leaves, ended_live, left_at, read_found}
use Rattle.kn_table.proofs.table.remove_at.Goals as goal

pub overflow_sub-live : goal.overflow_sub-live
overflow_sub-live c =
    let kept = c.requires.kept in
    let x = c.index_mut-slot.result.now in
    let less = ended_count c.args.slots.now.items kept.order c.requires.there.0 c.args.at c.requires.there.1 x c.index_mut-slot.ensures.value (record x { has_ended = true }) refl (few_live _ _ _ kept) in
    let counted = kept.counted in
    omega (arith, less, counted)

pub leave-requires-clause-held : goal.leave-requires-clause-held
leave-requires-clause-held c =
    left_at is_held_place c.args.slots.now.items _ c.args.at _ _ c.requires.there.1.inside c.requires.kept.held c.deref.ensures.value refl

pub leave-requires-clause-waiting : goal.leave-requires-clause-waiting
leave-requires-clause-waiting c =
    left_at waits c.args.slots.now.items _ c.args.at _ _ c.requires.there.1.inside c.requires.kept.waiting c.deref.ensures.value refl

pub returns-clause-kept : goal.returns-clause-kept
returns-clause-kept c =
    let kept = c.requires.kept in
    let there = c.requires.there.1 in
    let xs = c.args.slots.now.items in
    let at = c.args.cursors.now in
    let y : Slot = record { request = c.index_mut-slot.result.now.request; has_ended = true } in
    let less = ended_count xs kept.order c.requires.there.0 c.args.at there c.index_mut-slot.result.now c.index_mut-slot.ensures.value y refl (few_live _ _ _ kept) in
    let no_nearer = first-set (is_placed (is_at at.pod)) xs c.args.at y refl in
    let counted = kept.counted in
    let most = kept.few in
    let before = kept.at_pod in
    kept-set xs c.deref.result.now c.args.live.now (c.args.live.now - 1) c.args.at c.index_mut-slot.result.now y at c.leave.new.self at.pod at.from kept
    there.inside c.index_mut-slot.ensures.value refl refl c.deref.ensures.value c.leave.ensures
    (omega (arith, no_nearer, before)) (omega (arith, less, counted)) (omega (arith, most))

pub returns-clause-removed : goal.returns-clause-removed
returns-clause-removed c = λ r there.
    let kept = c.requires.kept in
    let few = few_live _ _ _ kept in
    let xs = c.args.slots.now.items in
    let x = c.index_mut-slot.result.now in
    let read = c.index_mut-slot.ensures.value in
    record {
      request = read_found xs kept.order r c.args.at there x read;
      removed = ended_live xs kept.order r c.args.at there x read _ refl;
      leaves = ended_leaves xs kept.order few r c.args.at there x read (live_of xs) refl _ refl;
      len = ended_count xs kept.order r c.args.at there x read _ refl few;
    }

pub returns-clause-same : goal.returns-clause-same
returns-clause-same c =
    same_set c.args.slots.now.items c.args.at c.index_mut-slot.result.now (record { request = c.index_mut-slot.result.now.request; has_ended = true }) c.requires.there.1.inside c.index_mut-slot.ensures.value (λ k. refl)

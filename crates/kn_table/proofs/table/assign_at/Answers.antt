use Rattle.std.proofs.Common.{◌∙◌, ap, arith, List, length, refl, true}
use Rattle.kn_record.specs.declared.admission.Place.TheVariants as place
use Rattle.kn_record.specs.declared.admission.Request.{Request}
use Rattle.kn_record.specs.Admission.{is_held_place, waits}
use Rattle.kn_table.specs.Slots.{live_of}
use Rattle.kn_table.proofs.Chains.{puts_set}
use Rattle.kn_table.proofs.Firsts.{and-false}
use Rattle.kn_table.proofs.Requests.{changed_length, is_held}
use Rattle.kn_table.proofs.Writes.{few_live, kept-set, moved_count, moved_live, moved_moves, left_at, read_passes}
use Rattle.kn_table.proofs.table.assign_at.Goals as goal

pub leave-requires-clause-held : goal.leave-requires-clause-held
leave-requires-clause-held c =
    left_at is_held_place c.args.slots.now.items _ c.args.at _ _ c.requires.held.1.there.inside c.requires.kept.1.held c.deref.ensures.value (and-false _)

pub leave-requires-clause-waiting : goal.leave-requires-clause-waiting
leave-requires-clause-waiting c =
    left_at waits c.args.slots.now.items _ c.args.at _ _ c.requires.held.1.there.inside c.requires.kept.1.waiting c.deref.ensures.value (and-false _)

pub returns-clause-kept : goal.returns-clause-kept
returns-clause-kept c = λ live kept.
    let xs = c.args.slots.now.items in
    let there = c.requires.held.1.there in
    let x = c.index_mut.result.now in
    let read = c.index_mut.ensures.value in
    kept-set xs c.deref.result.now live live c.args.at x _ c.args.cursors.now c.leave.new.self _ 0 kept
    there.inside read refl refl c.deref.ensures.value c.leave.ensures (omega arith)
    (moved_count xs kept.order c.requires.held.0 c.args.at there x read (λ s. record s { place = place.Running c.args.p true }) _ live kept.counted refl refl)
    kept.few

pub returns-clause-assigned : goal.returns-clause-assigned
returns-clause-assigned c = λ r held.
    let kept = c.requires.kept.1 in
    let xs = c.args.slots.now.items in
    let x = c.index_mut.result.now in
    let read = c.index_mut.ensures.value in
    let by : Request → Request = λ s. record s { place = place.Running c.args.p true } in
    let moves = moved_live xs kept.order r c.args.at held.there x read by _ refl refl in
    record {
      moved = moves;
      moves = moved_moves xs kept.order (few_live _ _ _ kept) r c.args.at held.there x read (live_of xs) refl by (λ _. refl) is_held_place _ _ _ refl refl held.held (λ s h. (is_held s.place h, refl));
      len = ap (λ (l : List Request). length l) moves ∙ changed_length by r (live_of xs);
    }

pub returns-clause-linked : goal.returns-clause-linked
returns-clause-linked c =
    let kept = c.requires.kept.1 in
    let held = c.requires.held.1 in
    let xs = c.args.slots.now.items in
    let x = c.index_mut.result.now in
    let read = c.index_mut.ensures.value in
    c.link.ensures xs _ c.requires.linked (puts_set xs c.args.at c.args.p x _ held.there.inside read
    (is_held x.request.place (read_passes xs kept.order (few_live _ _ _ kept) c.requires.held.0 c.args.at held.there x read (live_of xs) refl is_held_place held.held)) (grind arith))

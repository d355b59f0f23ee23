use Rattle.std.proofs.Common.{◌≡◌, ◌∙◌, ℕ, false, ap, get_or, length, refl, subst, sym, List}
use Rattle.kn_record.specs.declared.admission.Request.{Request}
use Rattle.kn_table.specs.Moves.{waits_or_runs}
use Rattle.kn_table.specs.declared.slot.Slot.{Slot}
use Rattle.kn_table.specs.Slots.{IsPlaceOf, IsSlotOf}
use Rattle.kn_table.proofs.Requests.{found, not_placed, waits_as, waits_else}
use Rattle.kn_table.proofs.Search.{ended_is_none, live_is_placed, none_is_found}
use Rattle.kn_table.proofs.Chains.{linked_same}
use Rattle.kn_table.proofs.Writes.{few_live, got_none, got_placed}
use Rattle.kn_table.proofs.table.Table.remove_where.Goals as goal

pub returns-in-None-clause-there : goal.returns-in-None-clause-there
returns-in-None-clause-there c =
    sym (not_placed c.args.r (waits_or_runs c.args.waiting) c.args.self.now
    (got_none c.args.r c.self.inside.slots.items c.deref.result.now c.args.self.now c.self.view_is c.deref.ensures.value (none_is_found c.args.r c.deref.result.now c.in-None.ensures)))

pub returns-then-slot-clause-there : goal.returns-then-slot-clause-there
returns-then-slot-clause-there c =
    let slot = c.index-slot.result.now in
    let there : IsSlotOf c.args.r c.self.inside.slots.items c.in-Some.place = rw (← c.deref.ensures.value) c.in-Some.ensures in
    let none = ended_is_none c.args.r c.self.inside.slots.items c.in-Some.place slot c.self.invariant.kept.order.numbers there (ap (λ (s : Slot). s.has_ended) (sym c.index-slot.ensures) ∙ c.if-slot.true) in
    sym (not_placed c.args.r (waits_or_runs c.args.waiting) c.args.self.now (got_none c.args.r c.self.inside.slots.items c.self.inside.slots.items c.args.self.now c.self.view_is refl none))

-- a slot whose request is live
alive : (r : ℕ) (xs ys : List Slot) (i : ℕ) (slot : Slot) → ys ≡ xs → IsSlotOf r ys i → slot ≡ get_or xs i slot → slot.has_ended ≡ false → IsPlaceOf r xs i
alive r xs ys i slot same there read live = live_is_placed r xs i slot (subst (λ (zs : List Slot). IsSlotOf r zs i) same there) (ap (λ (s : Slot). s.has_ended) (sym read) ∙ live)

pub returns-then-includes-waiting-clause-there : goal.returns-then-includes-waiting-clause-there
returns-then-includes-waiting-clause-there c =
    let kept = c.self.invariant.kept in
    let slot = c.index-slot.result.now in
    let there = alive c.args.r c.self.inside.slots.items c.deref.result.now c.in-Some.place slot c.deref.ensures.value c.in-Some.ensures c.index-slot.ensures c.if-slot.false in
    let at = got_placed c.args.r c.self.inside.slots.items c.self.inside.slots.items c.in-Some.place slot c.args.self.now c.self.view_is refl kept.order (few_live _ _ _ kept) there c.index-slot.ensures (waits_or_runs c.args.waiting) in
    sym (at ∙ waits_else slot.request.place c.args.waiting c.includes.result c.includes.ensures c.if-includes-waiting.true)

pub remove_at-requires-clause-there : goal.remove_at-requires-clause-there
remove_at-requires-clause-there c =
    (c.args.r, alive c.args.r c.self.inside.slots.items c.deref.result.now c.in-Some.place c.index-slot.result.now c.deref.ensures.value c.in-Some.ensures c.index-slot.ensures c.if-slot.false)

pub returns-clause-there : goal.returns-clause-there
returns-clause-there c =
    let kept = c.self.invariant.kept in
    let slot = c.index-slot.result.now in
    let there = alive c.args.r c.self.inside.slots.items c.deref.result.now c.in-Some.place slot c.deref.ensures.value c.in-Some.ensures c.index-slot.ensures c.if-slot.false in
    let at = got_placed c.args.r c.self.inside.slots.items c.self.inside.slots.items c.in-Some.place slot c.args.self.now c.self.view_is refl kept.order (few_live _ _ _ kept) there c.index-slot.ensures (waits_or_runs c.args.waiting) in
    sym (at ∙ waits_as slot.request.place c.args.waiting c.includes.result c.includes.ensures c.if-includes-waiting.false)

pub returns-clause-request : goal.returns-clause-request
returns-clause-request c =
    let there = alive c.args.r c.self.inside.slots.items c.deref.result.now c.in-Some.place c.index-slot.result.now c.deref.ensures.value c.in-Some.ensures c.index-slot.ensures c.if-slot.false in
    ap (found c.args.r) (sym c.self.view_is) ∙ (c.remove_at.ensures.removed c.args.r there).request

pub returns-clause-len : goal.returns-clause-len
returns-clause-len c =
    let there = alive c.args.r c.self.inside.slots.items c.deref.result.now c.in-Some.place c.index-slot.result.now c.deref.ensures.value c.in-Some.ensures c.index-slot.ensures c.if-slot.false in
    (c.remove_at.ensures.removed c.args.r there).len ∙ ap (λ (l : List Request). length l) c.self.view_is

pub invariant_of-self : goal.invariant_of-self
invariant_of-self c = record {
  kept = c.remove_at.ensures.kept;
  linked = linked_same _ _ _ c.remove_at.ensures.same c.self.invariant.linked;
  room = rw c.remove_at.ensures.capacity c.self.invariant.room;
}

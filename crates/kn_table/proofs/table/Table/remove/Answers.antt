use Rattle.std.proofs.Common.{◌∙◌, ap, sym, length, List}
use Rattle.kn_record.specs.declared.admission.Request.{Request}
use Rattle.kn_table.proofs.Requests.{found}
use Rattle.kn_table.proofs.Chains.{linked_same}
use Rattle.kn_table.proofs.Writes.{listed_found, stands}
use Rattle.kn_table.proofs.table.Table.remove.Goals as goal

pub unwrap-place-requires : goal.unwrap-place-requires
unwrap-place-requires c = listed_found c.args.r c.self.inside.slots.items c.deref.result.now c.args.self.now _ c.self.view_is c.deref.ensures.value c.requires c.place_of.ensures

pub returns-clause-request : goal.returns-clause-request
returns-clause-request c =
    let there = stands c.args.r c.self.inside.slots.items c.deref.result.now c.unwrap-place.result c.place_of.result c.deref.ensures.value c.unwrap-place.ensures c.place_of.ensures in
    let removed = c.remove_at.ensures.removed c.args.r there in
    ap (found c.args.r) (sym c.self.view_is) ∙ removed.request

pub returns-clause-len : goal.returns-clause-len
returns-clause-len c =
    let there = stands c.args.r c.self.inside.slots.items c.deref.result.now c.unwrap-place.result c.place_of.result c.deref.ensures.value c.unwrap-place.ensures c.place_of.ensures in
    let removed = c.remove_at.ensures.removed c.args.r there in
    removed.len ∙ ap (λ (l : List Request). length l) c.self.view_is

pub invariant_of-self : goal.invariant_of-self
invariant_of-self c = record {
  kept = c.remove_at.ensures.kept;
  linked = linked_same _ _ _ c.remove_at.ensures.same c.self.invariant.linked;
  room = rw c.remove_at.ensures.capacity c.self.invariant.room;
}

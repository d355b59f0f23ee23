use Rattle.std.proofs.Common.{sym}
use Rattle.kn_table.proofs.Writes.{few_live, got, got_listed, got_none, got_placed}
use Rattle.kn_table.proofs.table.Table.get.Goals as goal

pub returns-in-Some-clause-found : goal.returns-in-Some-clause-found
returns-in-Some-clause-found c =
    let kept = c.self.invariant.kept in
    sym (got c.args.r c.self.inside.slots.items c.deref.result.now c.in-Some.place c.index.result.now c.args.self.now c.self.view_is c.deref.ensures.value kept.order (few_live _ _ _ kept) c.in-Some.ensures c.index.ensures)

pub returns-in-Some-clause-live : goal.returns-in-Some-clause-live
returns-in-Some-clause-live c =
    let kept = c.self.invariant.kept in
    got_listed c.args.r c.self.inside.slots.items c.deref.result.now c.in-Some.place c.index.result.now c.args.self.now c.self.view_is c.deref.ensures.value kept.order (few_live _ _ _ kept) c.in-Some.ensures c.index.ensures

pub returns-in-Some-clause-place : goal.returns-in-Some-clause-place
returns-in-Some-clause-place c =
    let kept = c.self.invariant.kept in
    got_placed c.args.r c.self.inside.slots.items c.deref.result.now c.in-Some.place c.index.result.now c.args.self.now c.self.view_is c.deref.ensures.value kept.order (few_live _ _ _ kept) c.in-Some.ensures c.index.ensures

pub returns-in-None-clause-live : goal.returns-in-None-clause-live
returns-in-None-clause-live c = got_none c.args.r c.self.inside.slots.items c.deref.result.now c.args.self.now c.self.view_is c.deref.ensures.value c.in-None.ensures

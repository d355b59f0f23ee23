use Rattle.std.proofs.Common.{◌≡◌, ◌<◌, get_or, length, ap, sym, ◌∙◌, rules}
use Rattle.std.proofs.lemmas.List.{get_or_default}
use Rattle.kn_seats.proofs.Sought.{has_cell, first_inside, sought-begin, sought-place, sought-next, sought-found, sought-more, sought-end}
use Rattle.kn_seats.proofs.cells.leading_to.Goals as goal

pub index-requires : goal.index-requires
index-requires c =
    let lt : c.args.queue.first < length c.args.cells.now.request.items =
    first_inside c.args.cells.now.next.items c.args.queue.first c.args.queue.count _ (has_cell c.args.cells.now.request.items c.args.cells.now.next.items c.args.queue.first c.args.queue.count c.args.r c.requires.queued) c.requires.inside.request in
    search rules

pub returns-then-index-r : goal.returns-then-index-r
returns-then-index-r c =
    let lt : c.args.queue.first < length c.args.cells.now.request.items =
    first_inside c.args.cells.now.next.items c.args.queue.first c.args.queue.count _ (has_cell c.args.cells.now.request.items c.args.cells.now.next.items c.args.queue.first c.args.queue.count c.args.r c.requires.queued) c.requires.inside.request in
    get_or_default c.args.cells.now.request.items c.args.queue.first 0 c.index.result.now lt ∙ sym c.index.ensures ∙ c.if-index-r.true

pub loop-init : goal.loop-init
loop-init c =
    let some = has_cell c.args.cells.now.request.items c.args.cells.now.next.items c.args.queue.first c.args.queue.count c.args.r c.requires.queued in
    let lt : c.args.queue.first < length c.args.cells.now.request.items = first_inside c.args.cells.now.next.items c.args.queue.first c.args.queue.count _ some c.requires.inside.request in
    sought-begin c.args.r c.args.queue c.args.cells.now c.requires.inside some
    (λ e. c.if-index-r.false (c.index.ensures ∙ get_or_default c.args.cells.now.request.items c.args.queue.first c.index.result.now 0 lt ∙ e))

pub index-behind-requires : goal.index-behind-requires
index-behind-requires c =
    let lt : c.loop.place < length c.args.cells.now.next.items = sought-place c.args.r c.args.queue c.args.cells.now c.requires.inside _ _ c.loop.invariant in
    search rules

pub index-requires-in-loop : goal.index-requires-in-loop
index-requires-in-loop c =
    let lt : c.loop.place < length c.args.cells.now.next.items = sought-place c.args.r c.args.queue c.args.cells.now c.requires.inside _ _ c.loop.invariant in
    let behind_is : c.index-behind.result.now ≡ get_or c.args.cells.now.next.items c.loop.place 0 =
    c.index-behind.ensures ∙ get_or_default c.args.cells.now.next.items c.loop.place c.index-behind.result.now 0 lt in
    let next : get_or c.args.cells.now.next.items c.loop.place 0 < length c.args.cells.now.request.items =
    sought-next c.args.r c.args.queue c.args.cells.now c.requires.inside _ _ c.loop.invariant c.loop-test.true in
    let within : c.index-behind.result.now < length c.args.cells.now.request.items = rw behind_is next in
    search rules

pub returns-then-index-r-2 : goal.returns-then-index-r-2
returns-then-index-r-2 c =
    let lt : c.loop.place < length c.args.cells.now.next.items = sought-place c.args.r c.args.queue c.args.cells.now c.requires.inside _ _ c.loop.invariant in
    let behind_is : c.index-behind.result.now ≡ get_or c.args.cells.now.next.items c.loop.place 0 =
    c.index-behind.ensures ∙ get_or_default c.args.cells.now.next.items c.loop.place c.index-behind.result.now 0 lt in
    let next : get_or c.args.cells.now.next.items c.loop.place 0 < length c.args.cells.now.request.items =
    sought-next c.args.r c.args.queue c.args.cells.now c.requires.inside _ _ c.loop.invariant c.loop-test.true in
    let within : c.index-behind.result.now < length c.args.cells.now.request.items = rw behind_is next in
    let value : c.index-in-loop.result.now ≡ get_or c.args.cells.now.request.items (get_or c.args.cells.now.next.items c.loop.place 0) 0 =
    c.index-in-loop.ensures ∙ get_or_default c.args.cells.now.request.items c.index-behind.result.now c.index-in-loop.result.now 0 within
    ∙ ap (λ p. get_or c.args.cells.now.request.items p 0) behind_is in
    sought-found c.args.r c.args.queue c.args.cells.now c.requires.inside _ _ c.loop.invariant c.loop-test.true (sym value ∙ c.if-index-r-2.true)

pub loop-preserved : goal.loop-preserved
loop-preserved c =
    let lt : c.loop.place < length c.args.cells.now.next.items = sought-place c.args.r c.args.queue c.args.cells.now c.requires.inside _ _ c.loop.invariant in
    let behind_is : c.index-behind.result.now ≡ get_or c.args.cells.now.next.items c.loop.place 0 =
    c.index-behind.ensures ∙ get_or_default c.args.cells.now.next.items c.loop.place c.index-behind.result.now 0 lt in
    let next : get_or c.args.cells.now.next.items c.loop.place 0 < length c.args.cells.now.request.items =
    sought-next c.args.r c.args.queue c.args.cells.now c.requires.inside _ _ c.loop.invariant c.loop-test.true in
    let within : c.index-behind.result.now < length c.args.cells.now.request.items = rw behind_is next in
    let value : c.index-in-loop.result.now ≡ get_or c.args.cells.now.request.items (get_or c.args.cells.now.next.items c.loop.place 0) 0 =
    c.index-in-loop.ensures ∙ get_or_default c.args.cells.now.request.items c.index-behind.result.now c.index-in-loop.result.now 0 within
    ∙ ap (λ p. get_or c.args.cells.now.request.items p 0) behind_is in
    rw behind_is (sought-more c.args.r c.args.queue c.args.cells.now c.requires.inside _ _ c.loop.invariant c.loop-test.true (λ e. c.if-index-r-2.false (value ∙ e)))

pub unreachable-requires : goal.unreachable-requires
unreachable-requires c = sought-end c.args.r c.args.queue c.args.cells.now c.requires.inside _ _ c.loop.invariant c.loop-test.false c.requires.queued

-- An LF, or a CR and an LF, from there on.
use Rattle.std.proofs.Common.{◌≡◌, ◌∙◌, drop, length, length-drop, slice_range, sym, arith}
use Rattle.std.proofs.lemmas.List.{take_all}
use Rattle.kn_event.proofs.Spots.{lf_behind_cr, lf_here}
use Rattle.kn_event.proofs.ahead.lf_from.Goals as goal

pub returns-then-starts_with : goal.returns-then-starts_with
returns-then-starts_with c =
    let bs = c.args.text.now in
    let from = c.args.from in
    let all : slice_range bs from (length bs) ≡ drop from bs = take_all _ _ (omega (arith, length-drop from bs)) in
    let is = c.if-starts_with.true in
    let room = rw all at (c.starts_with.ensures.bound is) in
    lf_here bs from (rw all at (sym c.starts_with.ensures.value ∙ is)) (omega (arith, room, length-drop from bs))

pub returns-then-starts_with-2 : goal.returns-then-starts_with-2
returns-then-starts_with-2 c =
    let bs = c.args.text.now in
    let from = c.args.from in
    let all : slice_range bs from (length bs) ≡ drop from bs = take_all _ _ (omega (arith, length-drop from bs)) in
    let is = c.if-starts_with-2.true in
    let room = rw all at (c.starts_with-2.ensures.bound is) in
    lf_behind_cr bs from (rw all at (sym c.starts_with-2.ensures.value ∙ is)) (omega (arith, room, length-drop from bs))

use Rattle.std.proofs.Common.{◌+◌, ◌∙◌, ◌≤◌, ap, sym, arith, rules, length, length-drop}
use Rattle.kn_trace.specs.Choice.{has_seat}
use Rattle.kn_policy.proofs.Marking.{drop-marks, length-marks, marked_none, marked_some, position-drop, position_most, rest_all}
use Rattle.kn_policy.proofs.marks.first_free.Goals as goal

pub slice_bounds-memchr-count : goal.slice_bounds-memchr-count
slice_bounds-memchr-count c =
    let most = position_most has_seat c.args.ready.now in
    let from = c.requires.from in
    rw c.requires.marks (omega (arith, most, from, length-marks c.args.ready.now))

pub slice_bounds-memchr-start : goal.slice_bounds-memchr-start
slice_bounds-memchr-start c =
    let most = position_most has_seat c.args.ready.now in
    let from = c.requires.from in
    let inside : c.args.from ≤ length c.args.marks.now = rw c.requires.marks (omega (arith, most, from, length-marks c.args.ready.now)) in
    search rules

pub returns-in-Some : goal.returns-in-Some
returns-in-Some c =
    let n = c.args.from in
    let ready = c.args.ready.now in
    let here = marked_some _ c.in-Some.i (rw (rest_all n c.args.marks.now, c.requires.marks, drop-marks n ready) at c.in-Some.ensures) in
    sym (position-drop has_seat ready n c.requires.from ∙ ap (λ k. n + k) here.1)

pub returns-in-None : goal.returns-in-None
returns-in-None c =
    let n = c.args.from in
    let ready = c.args.ready.now in
    let rest = position-drop has_seat ready n c.requires.from in
    let none = marked_none _ (rw (rest_all n c.args.marks.now, c.requires.marks, drop-marks n ready) at c.in-None.ensures) in
    let most = position_most has_seat ready in
    omega (arith, rest, none, most, c.requires.from, length-drop n ready)

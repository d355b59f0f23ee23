-- The word, and the number where one is due, are the whole text.
use Rattle.std.proofs.Common.{◌≡◌, ◌∙◌, drop, length, length-drop, slice_range, sym, arith}
use Rattle.std.proofs.lemmas.List.{take_all}
use Rattle.std.specs.Prelude.{codes}
use Rattle.kn_event.proofs.Spots.{arrival, begins, cancellation, finish, limitation, pass, readiness, tick}
use Rattle.kn_event.proofs.ahead.other_ahead.Goals as goal

pub returns-then-starts_with : goal.returns-then-starts_with
returns-then-starts_with c =
    let number = c.in_ok-n.ensures in
    arrival c.args.text.now c.in_ok-n.n number.crs c.in_ok-n.end (begins c.args.text.now (codes " arrive ") (sym c.starts_with.ensures.value ∙ c.if-starts_with.true))
    number.within number.text number.small

pub returns-then-starts_with-2 : goal.returns-then-starts_with-2
returns-then-starts_with-2 c =
    let bs = c.args.text.now in
    let end = c.in_ok-n-2.end in
    let all : slice_range bs end (length bs) ≡ drop end bs = take_all _ _ (omega (arith, length-drop end bs)) in
    finish c.args.text.now c.in_ok-n-2.n c.in_ok-n-2.end c.in_ok-ok.len c.in_ok-ok.ok
    (begins c.args.text.now (codes " finish ") (sym c.starts_with-2.ensures.value ∙ c.if-starts_with-2.true)) c.in_ok-n-2.ensures (rw all at c.in_ok-ok.ensures)

pub returns-then-starts_with-3 : goal.returns-then-starts_with-3
returns-then-starts_with-3 c = tick c.args.text.now c.in_ok-end.end (sym c.starts_with-3.ensures.value ∙ c.if-starts_with-3.true) c.in_ok-end.ensures

pub returns-then-starts_with-4 : goal.returns-then-starts_with-4
returns-then-starts_with-4 c = pass c.args.text.now c.in_ok-end-2.end (sym c.starts_with-4.ensures.value ∙ c.if-starts_with-4.true) c.in_ok-end-2.ensures

pub returns-then-starts_with-5 : goal.returns-then-starts_with-5
returns-then-starts_with-5 c = readiness c.args.text.now c.in_ok-pod.pod c.in_ok-pod.end (sym c.starts_with-5.ensures.value ∙ c.if-starts_with-5.true) c.in_ok-pod.ensures

pub returns-then-starts_with-6 : goal.returns-then-starts_with-6
returns-then-starts_with-6 c = cancellation c.args.text.now c.in_ok-request.request c.in_ok-request.end (sym c.starts_with-6.ensures.value ∙ c.if-starts_with-6.true) c.in_ok-request.ensures

pub returns-then-starts_with-7 : goal.returns-then-starts_with-7
returns-then-starts_with-7 c =
    let bs = c.args.text.now in
    let end = c.in_ok-pod-2.end in
    let all : slice_range bs end (length bs) ≡ drop end bs = take_all _ _ (omega (arith, length-drop end bs)) in
    limitation c.args.text.now c.in_ok-pod-2.pod c.in_ok-limit.limit c.in_ok-pod-2.end c.in_ok-limit.len
    (sym c.starts_with-7.ensures.value ∙ c.if-starts_with-7.true) c.in_ok-pod-2.ensures c.in_ok-limit.ensures.most (rw all at c.in_ok-limit.ensures.space) (rw all at c.in_ok-limit.ensures.number)

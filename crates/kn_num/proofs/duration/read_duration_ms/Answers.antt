use Rattle.std.proofs.Common.{rules, ◌≡◌, ◌-◌, List, ℕ, length, take, drop, sym, ap, ◌∙◌, arith, length-drop}
use Rattle.std.proofs.lemmas.List.{take_all, length-take}
use Rattle.std.proofs.lemmas.Result.{err_from_is_err_and}
use Rattle.kn_num.specs.Duration.{part_at}
use Rattle.kn_num.proofs.Durations.{judged_after, duration_is, judged_more, parts_ms-fault}
use Rattle.kn_num.proofs.duration.read_duration_ms.Goals as goal

-- the bytes from a place on, as the code slices them
rest_is : (text : List ℕ) (place : ℕ) → take (length text - place) (drop place text) ≡ drop place text
rest_is text place = take_all _ _ (omega (arith, length-drop place text))

pub returns-in_err-part : goal.returns-in_err-part
returns-in_err-part c =
    let p = err_from_is_err_and c.from_residual.result c.from_residual.ensures.1 in
    let is = sym (ap (part_at c.loop-place.place) (rest_is c.args.text.now c.loop-place.place)) ∙ sym c.part_at.ensures.value ∙ c.in_err-part.was in
    let fault = parts_ms-fault c.loop-place.place (drop c.loop-place.place c.args.text.now) _ (omega (arith, length-drop {A = ℕ})) is in
    let some = duration_is c.args.text.now (search rules) (search rules) in
    rw (p.1, p.2) (sym (some ∙ sym c.loop-place.invariant.judged ∙ ap (judged_after c.loop-place.total) fault))

pub loop-place-preserved : goal.loop-place-preserved
loop-place-preserved c =
    let is = sym (ap (part_at c.loop-place.place) (rest_is c.args.text.now c.loop-place.place)) ∙ sym c.part_at.ensures.value ∙ c.in_ok-part.was in
    record {
      within = omega (arith, length-drop {A = ℕ}, length-take {A = ℕ}, c.in_ok-part.ensures.within);
      total = omega arith;
      judged = rw c.min-total.ensures (judged_more c.args.text.now c.loop-place.place c.loop-place.total c.in_ok-part.part c.loop-place-test.true is c.in_ok-part.ensures.some ∙ c.loop-place.invariant.judged);
    }

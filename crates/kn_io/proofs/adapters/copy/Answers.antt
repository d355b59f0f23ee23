use Rattle.std.proofs.Common.{◌≡◌, ◌∙◌, ℕ, List, ◌++◌, ◌-◌, ◌≤◌, length, take, drop, ap, arith, sym, take-append-drop}
use Rattle.std.specs.List.{between}
use Rattle.std.proofs.lemmas.Grind.{common_steps}
use Rattle.std.proofs.lemmas.List.{take-take}
use Rattle.std.proofs.lemmas.List.Edits.{length-between}
use Rattle.std.proofs.lemmas.Slice.{take-put_mid, between_is}
use borrow.Rule.Slice.PartMut.{put_mid}
use Rattle.kn_io.proofs.adapters.copy.Goals as goal

-- what was copied as far as `at`, and then a piece up to `end`
copied : (at end : ℕ) (from to piece : List ℕ) → at ≤ end → end ≤ length from → length to ≡ length from → take at to ≡ take at from
    → piece ≡ between at end from → take end (put_mid at (end - at) to piece) ≡ take end from
copied at end from to piece up inside len before is =
    let long : length piece ≡ end - at = ap length is ∙ length-between from at end inside in
    let front : take at to ≡ take at (take end from) = before ∙ sym (take-take at end from up) in
    take-put_mid at (end - at) to piece end (omega (arith, long)) (omega (arith, len))
    ∙ ap (λ x. x ++ piece) front ∙ ap (λ x. take at (take end from) ++ x) (is ∙ between_is from at end) ∙ take-append-drop at (take end from)

pub loop-at-preserved : goal.loop-at-preserved
loop-at-preserved c = record {
  inside = omega arith;
  len = grind (arith, common_steps);
  copied = copied c.loop-at.at c.min-end.result c.args.from.now c.loop-at.to c.copy_from_slice.new.self (omega arith) (omega arith) c.loop-at.invariant.len c.loop-at.invariant.copied c.copy_from_slice.ensures.after;
}

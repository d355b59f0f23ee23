-- The tick's bytes are those that the word begins with.
use Rattle.std.proofs.Common.{◌*◌, ◌%◌, ◌^◌, ◌∙◌, ◌∷◌, ◌++◌, [], ℕ, drop, take, refl, sym, ap, arith}
use Rattle.std.specs.Prelude.{codes}
use Rattle.core.proofs.dec2flt.Eight.{eight_at, word_at}
use lib.Seq.{take-take}
use Rattle.core.specs.Dec2flt.Digits.{IsEightBytes}
use Rattle.kn_event.proofs.Spots.{tick_first}
use Rattle.kn_event.proofs.ahead.act_ahead.Goals as goal

pub returns-then-begins : goal.returns-then-begins
returns-then-begins c =
    let bs = c.args.text.now in
    let eight = eight_at bs 0 (λ (k : ℕ). (c.type_inv.text k).fits) (omega arith) in
    let word = c.word_at-word.ensures.value ∙ word_at bs 0 (omega arith) in
    let bytes : IsEightBytes (codes " tick\n" ++ 0 ∷ 0 ∷ []) = (refl, (omega arith, (omega arith, (omega arith, (omega arith, (omega arith, (omega arith, (omega arith, (omega arith, tt))))))))) in
    let same = c.of.ensures (take 8 (drop 0 bs)) (codes " tick\n" ++ 0 ∷ 0 ∷ []) eight bytes refl
    (ap (λ (w : ℕ). w * c.of.result.scale % 2 ^ 64) (sym word) ∙ c.begins.ensures.0 c.if-begins.true) in
    tick_first bs (sym (take-take 6 8 bs (omega arith)) ∙ same) (omega arith)

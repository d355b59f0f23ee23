-- The word, the request and the LF are the whole text.
use Rattle.std.proofs.Common.{◌≡◌, ◌∷◌, ◌++◌, ◌+◌, ◌∙◌, drop, refl, ap, arith}
use Rattle.std.specs.Int.{w64, to_le_bytes}
use Rattle.std.specs.Fmt.{decimal}
use Rattle.std.proofs.lemmas.Grind.{common_steps}
use Rattle.kn_event.proofs.Spots.{arrival, word_first}
use Rattle.kn_event.proofs.ahead.arrival_ahead.Goals as goal

pub returns-then-text-end-eq10 : goal.returns-then-text-end-eq10
returns-then-text-end-eq10 c =
    let bs = c.args.text.now in
    let n = c.in-Some.n in
    let end = c.in-Some.end in
    let number = c.in-Some.ensures.number in
    let behind : drop end bs ≡ 10 ∷ drop (end + 1) bs = grind (arith, common_steps) in
    arrival bs n 0 end (word_first bs 8 (to_le_bytes w64 0x2065_7669_7272_6120) (drop 8 bs) c.requires.word refl) (omega (arith, c.in-Some.ensures.end))
    (number.text ∙ ap (λ m. decimal n ++ m) behind) number.small

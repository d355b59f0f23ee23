-- The word, the request and the outcome are the whole text.
use Rattle.std.proofs.Common.{◌≡◌, ◌+◌, ◌<◌, ◌∷◌, ◌++◌, true, drop, length, refl, arith}
use Rattle.std.specs.Int.{w64, to_le_bytes}
use Rattle.std.proofs.lemmas.Grind.{common_steps}
use Rattle.kn_event.specs.EntryLine.{outcome_word}
use Rattle.kn_event.proofs.Spots.{finish, word_first}
use Rattle.kn_event.proofs.ahead.finish_ahead.Goals as goal

pub returns-then-half_at-eq-OK : goal.returns-then-half_at-eq-OK
returns-then-half_at-eq-OK c =
    let bs = c.args.text.now in
    let end = c.in-Some.end in
    let rest = drop end bs in
    let inside : 3 < length rest = grind (arith, common_steps, c.in-Some.ensures.end) in
    let said : rest ≡ outcome_word true ++ 10 ∷ drop (3 + 1) rest = grind (arith, common_steps) in
    finish bs c.in-Some.n end 3 true (word_first bs 8 (to_le_bytes w64 0x2068_7369_6e69_6620) (drop 8 bs) c.requires.word refl) c.in-Some.ensures.number (record { crs = 0; within = inside; text = said })

use Rattle.std.proofs.Common.{◌+◌, List, ℕ, drop, refl, Bor}
use Rattle.std.specs.List.{flat_map}
use Rattle.kn_reply.proofs.Puts.{pieces_from, stopped_in}
use Rattle.kn_reply.proofs.plain.put_pieces.Goals as goal

pub returns-in-Err-clause-puts : goal.returns-in-Err-clause-puts
returns-in-Err-clause-puts g c =
    let text : Bor (List ℕ) → List ℕ = λ p. p.now in
    let xs = c.args.pieces.now in
    let i = c.loop-piece.piece-index in
    let err = c.in-Err.ensures.err in
    stopped_in _ _ _ _ _ _ _ (flat_map text (drop (i + 1) xs)) (pieces_from text xs i _ c.loop-piece-test.true) refl
    c.loop-piece.invariant.held err

-- What was put piece by piece is the text.
use Rattle.std.proofs.Common.{List, ℕ, ◌++◌, ◌∙◌, ap}
use Rattle.kn_event.specs.EntryLine.{labelled}
use Rattle.kn_reason.proofs.Pieces.{two_pieces}
use Rattle.kn_reason.proofs.words.put_lever.Goals as goal

pub returns-clause-value : goal.returns-clause-value
unfolding labelled
returns-clause-value c = two_pieces _ _ _ _ _ c.put.ensures (c.put-2.ensures ∙ ap (λ (m : List ℕ). c.put.new.self ++ m) c.lever_word.ensures.value)

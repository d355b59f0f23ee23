-- The time, the decision and the LF are the text of the entry.
use Rattle.std.proofs.Common.{◌++◌, ◌∷◌, [], ◌∙◌, List, ℕ, take, sym, ap}
use Rattle.std.specs.Fmt.{decimal}
use Rattle.kn_event.specs.declared.entry.Row.{Row}
use Rattle.kn_event.specs.EntryLine.{decision_text, entry_text, row_text}
use Rattle.kn_report.proofs.Pieces.{three_pieces}
use Rattle.kn_report.proofs.waiting.Waiting.add_decision.Goals as goal

pub returns-clause-added : goal.returns-clause-added
unfolding entry_text row_text
returns-clause-added c _ =
    let time = c.args.e.now.time in
    three_pieces c.args.self.now (decimal time) (decision_text c.in-Decided.decision) (10 ∷ []) (take c.put-at.result c.put-at.new.room)
    (take c.put_decision-at.result c.put_decision-at.new.room) (take c.put_word-self-inside.result c.put_word-self-inside.new.room)
    (c.put-at.ensures.text ∙ ap (λ (m : List ℕ). m ++ decimal time) c.self.view_is) c.put_decision-at.ensures.text c.put_word-self-inside.ensures.text
    ∙ ap (λ (r : Row). c.args.self.now ++ ((decimal time ++ row_text r) ++ 10 ∷ [])) (sym c.in-Decided.is)

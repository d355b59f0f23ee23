use Rattle.std.proofs.Common.{◌++◌, ◌∷◌, [], ◌∙◌, List, ℕ, take, append_assoc, append-nil, sym, ap}
use Rattle.std.specs.Prelude.{codes}
use Rattle.std.specs.Fmt.{decimal}
use Rattle.kn_event.specs.EntryLine.{labelled, row_text, with_number}
use Rattle.kn_report.proofs.InPlace.{two_in_a_row}
use Rattle.kn_report.proofs.rows.put_finish.Goals as goal

pub returns-then-ok-clause-text : goal.returns-then-ok-clause-text
unfolding row_text labelled with_number
returns-then-ok-clause-text c =
    let said = codes " finish " ++ decimal c.args.request in
    rw c.if-ok.true (two_in_a_row (take c.args.at c.args.room.now) (said ++ []) (codes " ok" ++ 10 ∷ []) _ _ ((said ++ codes " ok") ++ 10 ∷ []) c.put_one-at.ensures.text c.put_word.ensures.text
    (append_assoc said (codes " ok") (10 ∷ []) ∙ ap (λ (m : List ℕ). m ++ (codes " ok" ++ 10 ∷ [])) (sym (append-nil said))))

pub returns-clause-text : goal.returns-clause-text
unfolding row_text labelled with_number
returns-clause-text c =
    let said = codes " finish " ++ decimal c.args.request in
    rw c.if-ok.false (two_in_a_row (take c.args.at c.args.room.now) (said ++ []) (codes " fail" ++ 10 ∷ []) _ _ ((said ++ codes " fail") ++ 10 ∷ []) c.put_one-at.ensures.text c.put_word-2.ensures.text
    (append_assoc said (codes " fail") (10 ∷ []) ∙ ap (λ (m : List ℕ). m ++ (codes " fail" ++ 10 ∷ [])) (sym (append-nil said))))

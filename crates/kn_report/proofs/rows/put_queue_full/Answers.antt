use Rattle.std.proofs.Common.{◌++◌, ◌∷◌, [], append_assoc, sym, ◌∙◌, ap, take, List, ℕ}
use Rattle.std.specs.Prelude.{codes}
use Rattle.std.specs.Fmt.{decimal}
use Rattle.kn_event.specs.EntryLine.{labelled, row_text, with_number, with_numbers}
use Rattle.kn_report.proofs.rows.put_queue_full.Goals as goal

pub returns-in-Some-clause-text : goal.returns-in-Some-clause-text
unfolding row_text labelled with_number with_numbers
returns-in-Some-clause-text c = rw c.in-Some.is c.put_two.ensures.text

pub returns-in-None-clause-text : goal.returns-in-None-clause-text
unfolding row_text labelled with_number with_numbers
returns-in-None-clause-text c =
    rw c.in-None.is (c.put_one.ensures.text ∙ ap (λ (m : List ℕ). take c.args.at c.args.room.now ++ m) (sym (append_assoc (codes " queue-full " ++ decimal c.args.request) (codes " -") (10 ∷ []))))

use Rattle.std.proofs.Common.{◌∙◌, ap, ◌++◌, ◌∷◌, []}
use Rattle.kn_page.proofs.Thousandths.{milli_pieces}
use Rattle.kn_page.proofs.lines.put_milli.Goals as goal

pub returns-clause-value : goal.returns-clause-value
returns-clause-value c =
    milli_pieces c.args.sheet.now c.put_number.new.self c.put-2.new.self c.args.value.now c.thousandths-part.result c.thousandths-part.ensures.value c.thousandths-part.ensures.below
    c.put_number.ensures.value (c.put-2.ensures.value ∙ ap (λ l. l ++ c.three_digits.result) c.put.ensures.value ∙ ap (λ d. (c.put_number.new.self ++ 46 ∷ []) ++ d) c.three_digits.ensures)

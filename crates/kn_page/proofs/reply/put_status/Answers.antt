use Rattle.std.proofs.Common.{◌++◌, ◌∙◌, ap}
use Rattle.http.specs.StatusCode.{code_digits}
use Rattle.kn_page.specs.Answers.{status_line}
use Rattle.kn_page.proofs.Pieces.{line_pieces}
use Rattle.kn_page.proofs.reply.put_status.Goals as goal

pub returns-clause-value : goal.returns-clause-value
unfolding status_line
returns-clause-value c =
    let digits = c.as_bytes.ensures.value ∙ (c.as_str.ensures ∙ ap code_digits c.status.ensures) in
    line_pieces _ _ _ _ _ _ _ _ _ _ _ c.put.ensures.value (c.put-2.ensures.value ∙ ap (λ t. c.put.new.self ++ t) digits) c.put-3.ensures.value
    (c.put-4.ensures.value ∙ ap (λ t. c.put-3.new.self ++ t) c.as_bytes-2.ensures.value) c.put-5.ensures.value c.phrase.ensures.value

use Rattle.std.proofs.Common.{ap, codes, ◌++◌, ◌∙◌}
use Rattle.kn_page.specs.Answers.{answer_head, field_text}
use Rattle.kn_page.proofs.Pieces.{six_pieces}
use Rattle.kn_page.proofs.reply.put_head.Goals as goal

pub returns-clause-value : goal.returns-clause-value
unfolding answer_head
returns-clause-value c =
    let typed = c.put_field.ensures.value ∙ ap (λ t. c.put_status.new.sheet ++ field_text (codes "Content-Type") t) c.content_type.ensures.value in
    six_pieces _ _ _ _ _ _ _ _ _ _ _ _ _ c.put_status.ensures.value typed c.put_length.ensures.value c.put_allow.ensures.value c.put_field-2.ensures.value c.put.ensures.value

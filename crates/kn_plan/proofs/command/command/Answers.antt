use Rattle.std.proofs.Common.{ap₂, ◌∙◌}
use Rattle.std.proofs.lemmas.Result.{IfOk-weaker}
use Rattle.clap.specs.Words.{with_rule}
use Rattle.kn_plan.proofs.command.command.Goals as goal

pub returns : goal.returns
returns c =
    let one = c.in_ok-arg.ensures.shape c.required.ensures.local ∙ ap₂ with_rule c.plain.ensures c.required.ensures.rule in
    let two = c.in_ok-arg-2.ensures.shape c.required-2.ensures.local ∙ ap₂ with_rule one c.required-2.ensures.rule in
    let three = c.in_ok-arg-3.ensures.shape c.with_default.ensures.local ∙ ap₂ with_rule two c.with_default.ensures.rule in
    let four = c.in_ok-arg-4.ensures.shape c.with_default-2.ensures.local ∙ ap₂ with_rule three c.with_default-2.ensures.rule in
    IfOk-weaker c.arg-5.result _ _
    (λ r added. added.shape c.with_default-3.ensures.local ∙ ap₂ with_rule four c.with_default-3.ensures.rule) c.arg-5.ensures

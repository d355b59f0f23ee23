use Rattle.std.proofs.Common.{ap₂, ◌∙◌}
use Rattle.std.proofs.lemmas.Result.{IfOk-weaker}
use Rattle.clap.specs.Words.{with_rule}
use Rattle.kn_plan.proofs.stay_command.command.Goals as goal

pub returns : goal.returns
returns c =
    let one = c.in_ok-arg.ensures.shape c.option.ensures.local ∙ ap₂ with_rule c.plain.ensures c.option.ensures.rule in
    let two = c.in_ok-arg-2.ensures.shape c.option-2.ensures.local ∙ ap₂ with_rule one c.option-2.ensures.rule in
    let three = c.in_ok-arg-3.ensures.shape c.with_default.ensures.local ∙ ap₂ with_rule two c.with_default.ensures.rule in
    let four = c.in_ok-arg-4.ensures.shape c.with_default-2.ensures.local ∙ ap₂ with_rule three c.with_default-2.ensures.rule in
    let five = c.in_ok-arg-5.ensures.shape c.with_default-3.ensures.local ∙ ap₂ with_rule four c.with_default-3.ensures.rule in
    let six = c.in_ok-arg-6.ensures.shape c.with_default-4.ensures.local ∙ ap₂ with_rule five c.with_default-4.ensures.rule in
    IfOk-weaker c.arg-7.result _ _
    (λ r added. added.shape c.option-3.ensures.local ∙ ap₂ with_rule six c.option-3.ensures.rule) c.arg-7.ensures

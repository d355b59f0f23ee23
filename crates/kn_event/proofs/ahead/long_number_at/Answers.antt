-- The digits from there on.
use Rattle.std.proofs.Common.{◌≡◌, ◌-◌, ◌<◌, false, get_or, arith}
use Rattle.std.specs.Prelude.{◌==◌}
use Rattle.std.proofs.lemmas.Grind.{common_steps}
use Rattle.kn_event.proofs.Spots.{number_here}
use Rattle.kn_event.proofs.ahead.long_number_at.Goals as goal
use Rattle.kn_event.proofs.ahead.long_number_at.Goals.{else-len-gt1-via-then-len-gt1+else-line-from-eq48, else-len-gt1-via-else-len-gt1}

pub returns-clause-number : goal.returns-clause-number
returns-clause-number c =
    let end = c.digits_at-end.result.0 in
    let lead : 1 < end - c.args.from → (get_or c.args.line.now c.args.from 0 == 48) ≡ false =
    elim c.else-len-gt1.branch [
      | else-len-gt1-via-then-len-gt1+else-line-from-eq48 w ↦ λ l. grind (arith, common_steps)
      | else-len-gt1-via-else-len-gt1 w ↦ λ l. grind (arith, common_steps)
    ] in
    number_here c.args.line.now c.args.from c.digits_at-end.result.1 end c.digits_at-end.ensures.end c.digits_at-end.ensures.within
    (λ small. grind (arith, common_steps, c.digits_at-end.ensures.value, small)) (grind (arith, common_steps)) (grind (arith, common_steps)) lead

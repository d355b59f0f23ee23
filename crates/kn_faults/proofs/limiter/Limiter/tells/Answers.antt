use Rattle.std.proofs.Common.{arith}
use Rattle.std.proofs.lemmas.Grind.{common_steps}
use Rattle.kn_faults.proofs.Counting.{told_alone, told_later}
use Rattle.kn_faults.proofs.limiter.Limiter.tells.Goals as goal

pub returns-then-self-lt-MOST_A_SECOND-clause-stands : goal.returns-then-self-lt-MOST_A_SECOND-clause-stands
returns-then-self-lt-MOST_A_SECOND-clause-stands c = told_alone c.args.self.now c.if-self-lt-MOST_A_SECOND.true

pub returns-clause-stands : goal.returns-clause-stands
returns-clause-stands c = told_later c.args.self.now c.saturating_add-self.result c.if-self-lt-MOST_A_SECOND.false (λ few. grind (arith, common_steps))

-- A line that is no first line.
use Rattle.std.proofs.Common.{◌≡◌, true, false, arith}
use Rattle.std.specs.Prelude.{nat_eq}
use Rattle.std.proofs.lemmas.Grind.{common_steps}
use Rattle.kn_journal.proofs.Bundles.{no_first-later, no_first-one}
use Rattle.kn_journal.proofs.bundle.judge_first_of.Goals as goal

pub returns-then-number-eq1-clause-judges : goal.returns-then-number-eq1-clause-judges
returns-then-number-eq1-clause-judges c =
    let one : nat_eq c.args.number 1 ≡ true = grind (arith, common_steps) in
    no_first-one c.args.number c.args.line.now c.in-None.ensures.value one

pub returns-else-number-eq1-clause-judges : goal.returns-else-number-eq1-clause-judges
returns-else-number-eq1-clause-judges c =
    let later : nat_eq c.args.number 1 ≡ false = grind (arith, common_steps) in
    no_first-later c.args.number c.args.line.now c.in-None.ensures.value later

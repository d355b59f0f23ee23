use Rattle.std.proofs.Common.{◌≡◌, ◌++◌, ◌%◌, ◌-◌, ◌*◌, ◌/◌, take, arith}
use Rattle.std.specs.Fmt.{decimal}
use Rattle.kn_report.specs.Digits.{three}
use Rattle.kn_report.proofs.InPlace.{two_in_a_row}
use Rattle.kn_report.proofs.Threes.{decimal_six}
use Rattle.kn_report.proofs.digits.put_millions.Goals as goal

pub returns-clause-text : goal.returns-clause-text
returns-clause-text c =
    let n = c.args.n in
    let low : n - n / 1000000 * 1000000 ≡ n % 1000000 = omega arith in
    two_in_a_row (take c.args.at c.args.room.now) (decimal (n / 1000000)) (three (n % 1000000 / 1000) ++ three (n % 1000000 % 1000))
    (take c.put_least-at.result c.put_least-at.new.room) (take c.put_six.result c.put_six.new.room) (decimal n)
    (rw c.millions-high.ensures.value at c.put_least-at.ensures.text) (rw (c.millions-high.ensures.value, low) at c.put_six.ensures.text)
    (decimal_six n c.requires.0 (omega arith))

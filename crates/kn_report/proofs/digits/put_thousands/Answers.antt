use Rattle.std.proofs.Common.{◌≡◌, ◌%◌, ◌-◌, ◌*◌, ◌/◌, take, arith}
use Rattle.std.specs.Fmt.{decimal}
use Rattle.kn_report.specs.Digits.{three}
use Rattle.kn_report.proofs.InPlace.{two_in_a_row}
use Rattle.kn_report.proofs.Threes.{decimal_three}
use Rattle.kn_report.proofs.digits.put_thousands.Goals as goal

pub returns-clause-text : goal.returns-clause-text
returns-clause-text c =
    let n = c.args.n in
    let low : n - n / 1000 * 1000 ≡ n % 1000 = omega arith in
    two_in_a_row (take c.args.at c.args.room.now) (decimal (n / 1000)) (three (n % 1000))
    (take c.put_least-at.result c.put_least-at.new.room) (take c.put_three.result c.put_three.new.room) (decimal n)
    (rw c.thousands-high.ensures.value at c.put_least-at.ensures.text) (rw (c.thousands-high.ensures.value, low) at c.put_three.ensures.text)
    (decimal_three n c.requires.0 (omega arith))

use Rattle.std.proofs.Common.{◌≡◌, ◌++◌, ◌%◌, ◌-◌, ◌*◌, ◌/◌, take, arith}
use Rattle.std.specs.Fmt.{decimal}
use Rattle.kn_report.specs.Digits.{three}
use Rattle.kn_report.proofs.InPlace.{two_in_a_row}
use Rattle.kn_report.proofs.Threes.{decimal_nine}
use Rattle.kn_report.proofs.digits.put_long.Goals as goal
use Rattle.kn_report.proofs.digits.put_long.Goals.{then-high-lt1000, else-high-lt1000}

pub returns-clause-text : goal.returns-clause-text
returns-clause-text c =
    let n = c.args.n in
    let low : n - n / 1000000000 * 1000000000 ≡ n % 1000000000 = omega arith in
    let high : take c.if-high-lt1000.at c.if-high-lt1000.room ≡ take c.args.at c.args.room.now ++ decimal (n / 1000000000) =
    elim c.if-high-lt1000.branch [
      | then-high-lt1000 w ↦ rw (w.room-is, w.at-is) w.put_least-at.ensures.text
      | else-high-lt1000 w ↦ rw (w.room-is, w.at-is) w.put_thousands-at.ensures.text
    ]
    in
    two_in_a_row (take c.args.at c.args.room.now) (decimal (n / 1000000000))
    (three (n % 1000000000 / 1000000) ++ (three (n % 1000000000 / 1000 % 1000) ++ three (n % 1000000000 % 1000)))
    (take c.if-high-lt1000.at c.if-high-lt1000.room) (take c.put_nine.result c.put_nine.new.room) (decimal n)
    high (rw low at c.put_nine.ensures.text) (decimal_nine n c.requires.0 (omega arith))

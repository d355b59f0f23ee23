use Rattle.std.proofs.Common.{refl, sym, arith}
use Rattle.kn_report.proofs.Threes.{decimal_1000}
use Rattle.kn_report.proofs.stamp.Stamp.new.Goals as goal

pub invariant_of-result : goal.invariant_of-result
invariant_of-result c = record { late = omega arith; begin = refl; short = omega arith; text = sym decimal_1000 }

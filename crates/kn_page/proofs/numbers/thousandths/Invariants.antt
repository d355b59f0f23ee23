use Rattle.std.proofs.Common.{◌≡◌, ◌≤◌, ◌<◌, ◌+◌, ◌*◌}
use Rattle.kn_page.proofs.numbers.thousandths.Given as goal

abbrev pub invariant-loop-k : goal.invariant-loop-k
invariant-loop-k l = record {
  added : l.whole * l.den + l.rest ≡ l._k * l.num;
  below : l.rest < l.den;
  few : l.whole ≤ l._k;
}

use Rattle.std.proofs.Common.{◌≡◌, ◌+◌, ◌++◌, length, take}
use Rattle.kn_report.proofs.digits.put_word.Given as goal

abbrev pub invariant-loop-i : goal.invariant-loop-i
invariant-loop-i l = record {
  len : length l.room ≡ length l.fn.room;
  text : take (l.at + l.i) l.room ≡ take l.at l.fn.room ++ take l.i l.word;
}

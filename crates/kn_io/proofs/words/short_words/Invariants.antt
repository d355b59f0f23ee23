use Rattle.std.proofs.Common.{◌≤◌, length}
use Rattle.kn_io.proofs.words.short_words.Given as goal

abbrev pub invariant-loop-i : goal.invariant-loop-i
invariant-loop-i g l = length l.words.items ≤ l.i

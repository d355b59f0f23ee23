use Rattle.std.proofs.Common.{◌≡◌, ◌+◌, ◌++◌, ◌≤◌, replicate, vec_len, vec_capacity}
use Rattle.kn_journal.specs.Lines.{line_most}
use Rattle.kn_journal.proofs.lines.add_crs.Given as goal

-- as many CRs as turns were added
abbrev pub invariant-loop : goal.invariant-loop
invariant-loop l = record {
  added : l.line.items ≡ l.initial.line.items ++ replicate l.counter 13;
  count : vec_len l.line ≡ vec_len l.initial.line + l.counter;
  room : line_most ≤ vec_capacity l.line;
}

use Rattle.std.proofs.Common.{◌≡◌, ◌+◌, ◌<◌, ◌≤◌, None, vec_len, vec_capacity}
use Rattle.std.specs.Prelude.{Contains}
use Rattle.kn_journal.specs.Drawing.{Draws}
use Rattle.kn_journal.specs.Lines.{line_most}
use Rattle.kn_journal.specs.Reading.{Counts, TakesPart, most_taken, unread}
use Rattle.kn_journal.proofs.Fronts.{TakesFront}
use Rattle.kn_journal.proofs.lines.read_by_bytes.Given as goal

-- the line and the CRs after it are what was taken of the input
abbrev pub invariant-loop : goal.invariant-loop
invariant-loop g l = record {
  taken : TakesFront (unread l.fn.input (g.S.Source.left l.fn.source)) (unread l.input (g.S.Source.left l.source)) l.line.items l.crs;
  part : TakesPart (unread l.fn.input (g.S.Source.left l.fn.source)) (unread l.input (g.S.Source.left l.source));
  exact : Counts (unread l.fn.input (g.S.Source.left l.fn.source)) (unread l.input (g.S.Source.left l.source)) l.fn.input.taken l.input.taken;
  turns : l.fn.input.taken + l.counter ≡ l.input.taken;
  bytes : vec_len l.line + l.crs ≡ l.counter;
  most : 0 < l.counter → l.input.taken ≤ most_taken;
  ready : Contains l.fn.input.ahead 10 → Contains l.input.ahead 10 × (l.source ≡ l.fn.source);
  source : Draws TakesPart None l.fn.input l.input g.S.Source g.S.Faulty l.fn.source l.source;
  no_lf : ¬ Contains l.line.items 10;
  short : vec_len l.line ≤ line_most;
  room : line_most ≤ vec_capacity l.line;
}

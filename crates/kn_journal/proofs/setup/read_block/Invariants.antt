-- The lines so far are the block's text.
use Rattle.std.proofs.Common.{◌≤◌, None, vec_len}
use Rattle.kn_journal.specs.Drawing.{Draws}
use Rattle.kn_journal.specs.Reading.{TakesPart, unread}
use Rattle.kn_journal.proofs.Blocks.{IsBlock}
use Rattle.kn_journal.proofs.ReadBack.{KeepsBlock}
use Rattle.kn_journal.proofs.setup.read_block.Given as goal

abbrev pub invariant-loop : goal.invariant-loop
invariant-loop g l = record {
  block : IsBlock l.fn.lines.number l.text.items l.lines.number (unread l.fn.lines.input (g.S.Source.left l.fn.source)) (unread l.lines.input (g.S.Source.left l.source));
  kept : KeepsBlock l.text.items;
  turns : l.counter ≤ vec_len l.text;
  short : vec_len l.text ≤ 1048576;
  source : Draws TakesPart None l.fn.lines.input l.lines.input g.S.Source g.S.Faulty l.fn.source l.source;
}

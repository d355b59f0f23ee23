-- The setups so far.
use Rattle.std.proofs.Common.{◌≡◌, None, length}
use Rattle.kn_journal.specs.Bundle.{AreSetups, setups_behind}
use Rattle.kn_journal.specs.Drawing.{Draws}
use Rattle.kn_journal.specs.Reading.{unread}
use Rattle.kn_journal.specs.Telling.{Gives}
use Rattle.kn_journal.specs.LineCalls.{Anywhere}
use Rattle.kn_journal.proofs.listed.read_all.Given as goal

abbrev pub invariant-loop : goal.invariant-loop
invariant-loop g l = record {
  read : Gives (setups_behind l.fn.lines.number l.counter) l.setups.items l.lines.number (unread l.fn.lines.input (g.S.Source.left l.fn.source)) (unread l.lines.input (g.S.Source.left l.source));
  kept : AreSetups l.setups.items;
  count : length l.setups.items ≡ l.counter;
  source : Draws Anywhere None l.fn.lines.input l.lines.input g.S.Source g.S.Faulty l.fn.source l.source;
}

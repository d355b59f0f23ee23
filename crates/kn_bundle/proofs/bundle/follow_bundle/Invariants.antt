use Rattle.std.proofs.Common.{◌≡◌, ◌≤◌, false}
use Rattle.std.specs.Prelude.{None}
use Rattle.kn_journal.specs.Reading.{most_taken, unread}
use Rattle.kn_follow.specs.Account.{account_of}
use Rattle.kn_follow.specs.Calls.{Draws}
use Rattle.kn_bundle.proofs.Alongs.{IsAlong}
use Rattle.kn_bundle.proofs.Wholes.{SoFar}
use Rattle.kn_bundle.proofs.bundle.follow_bundle.Given as goal

abbrev pub invariant-loop-count : goal.invariant-loop-count
invariant-loop-count g l = record {
  on : SoFar (account_of (g.F.Form.writes l.fn.form)) l.fn.k l.count (g.S.Source.left l.fn.source) l.reader.number (unread l.reader.input (g.S.Source.left l.source)) (g.O.Sink.held l.fn.out) (g.O.Sink.held l.out);
  along : IsAlong false l.reader.cut (g.S.Source.left l.fn.source) (unread l.reader.input (g.S.Source.left l.source));
  good : l.reader.failed ≡ None;
  few : l.reader.input.taken ≤ most_taken;
  taken : l.count ≤ l.reader.input.taken;
  draws : Draws l.initial.reader.input l.reader.input (g.S.Source.given l.fn.source) (g.S.Source.given l.source) (g.S.Faulty.faults l.fn.source) (g.S.Faulty.faults l.source);
  write : g.O.Faulty.faults l.fn.out ≤ g.O.Faulty.faults l.out;
}

-- What follows a journal row by row writes its report.
use Rattle.std.proofs.Common.{◌-◌}
use Rattle.kn_follow.specs.Account.{account_of}
use Rattle.kn_replay.specs.Report.{report, row_by_row}
use Rattle.kn_replay.proofs.Replays.{report_told}
use Rattle.kn_replay.proofs.journal.replay_journal.Goals as goal

pub returns-clause-report : goal.returns-clause-report
returns-clause-report g c =
    c.account_laws.ensures.laws.input (account_of row_by_row) report (g.S.Source.left c.args.source.now) (g.S.Source.left c.follow_journal.new.source)
    (g.S.Source.given c.follow_journal.new.source - g.S.Source.given c.args.source.now) (g.O.Sink.held c.args.out.now) (g.O.Sink.held c.follow_journal.new.out) c.follow_journal.result
    report_told c.follow_journal.ensures.report

pub returns-clause-cut : goal.returns-clause-cut
returns-clause-cut g c is =
    c.account_laws.ensures.laws.cut (account_of row_by_row) report (g.S.Source.left c.args.source.now) (g.S.Source.left c.follow_journal.new.source) (g.O.Sink.held c.args.out.now) (g.O.Sink.held c.follow_journal.new.out)
    report_told (c.follow_journal.ensures.cut is)

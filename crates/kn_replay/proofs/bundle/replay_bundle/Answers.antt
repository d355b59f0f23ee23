-- What follows a bundle row by row writes the report of a journal.
use Rattle.std.proofs.Common.{◌-◌}
use Rattle.kn_follow.specs.Account.{account_of}
use Rattle.kn_replay.specs.Report.{report, row_by_row}
use Rattle.kn_replay.proofs.Replays.{report_told}
use Rattle.kn_replay.proofs.bundle.replay_bundle.Goals as goal

pub returns-clause-report : goal.returns-clause-report
returns-clause-report g c =
    c.accounts_are_same.ensures.same (account_of row_by_row) report c.args.k (g.S.Source.left c.args.source.now) (g.S.Source.left c.follow_bundle.new.source)
    (g.S.Source.given c.follow_bundle.new.source - g.S.Source.given c.args.source.now) (g.O.Sink.held c.args.out.now) (g.O.Sink.held c.follow_bundle.new.out) c.follow_bundle.result
    report_told c.follow_bundle.ensures.bundle

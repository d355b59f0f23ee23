-- Why an event's line is refused.
use Rattle.std.proofs.Common.{◌<◌, ◌≤◌, arith}
use Rattle.std.proofs.lemmas.Grind.{common_steps}
use Rattle.kn_journal.specs.Journal.{time_most}
use Rattle.kn_activators.specs.Reading.{group_event_of}
use Rattle.kn_activators.specs.Sharing.{time_of}
use Rattle.kn_activators.proofs.Parts.{event-back, event-bad, event-late}
use Rattle.kn_activators.proofs.read.judge_event.Goals as goal

pub returns-then-time-gt-TIME_MOST-clause-err : goal.returns-then-time-gt-TIME_MOST-clause-err
returns-then-time-gt-TIME_MOST-clause-err c =
    let late : time_most < time_of c.in-Ok.e = grind (arith, common_steps) in
    event-late c.args.last c.args.number c.in-Ok.e (group_event_of c.args.setup.now.activators c.args.setup.now.pods c.args.line.now) c.in-Ok.ensures.value late

pub returns-then-time-last-clause-err : goal.returns-then-time-last-clause-err
returns-then-time-last-clause-err c =
    let soon : time_of c.in-Ok.e ≤ time_most = grind (arith, common_steps) in
    let back : time_of c.in-Ok.e < c.args.last = grind (arith, common_steps) in
    rw c.time-then-time-last.ensures (event-back c.args.last c.args.number c.in-Ok.e (group_event_of c.args.setup.now.activators c.args.setup.now.pods c.args.line.now) c.in-Ok.ensures.value soon back)

pub returns-in-Err-clause-err : goal.returns-in-Err-clause-err
returns-in-Err-clause-err c = event-bad c.args.last c.args.number c.in-Err.why (group_event_of c.args.setup.now.activators c.args.setup.now.pods c.args.line.now) c.in-Err.ensures.value

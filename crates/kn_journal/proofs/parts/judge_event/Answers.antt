-- Why an event's line is refused, and how long a good one is.
use Rattle.std.proofs.Common.{arith}
use Rattle.std.proofs.lemmas.Grind.{common_steps}
use Rattle.kn_event.specs.EventLine.{event_of}
use Rattle.kn_journal.proofs.Tellings.{event-back, event-bad, event-late}
use Rattle.kn_journal.proofs.parts.judge_event.Goals as goal

pub returns-then-e-gt-TIME_MOST-clause-err : goal.returns-then-e-gt-TIME_MOST-clause-err
returns-then-e-gt-TIME_MOST-clause-err c =
    event-late c.args.number c.args.last c.in-Ok.e (event_of c.args.version c.args.line.now) c.in-Ok.ensures.value (grind (arith, common_steps))

pub returns-then-e-last-clause-err : goal.returns-then-e-last-clause-err
returns-then-e-last-clause-err c =
    event-back c.args.number c.args.last c.in-Ok.e (event_of c.args.version c.args.line.now) c.in-Ok.ensures.value (grind (arith, common_steps)) (grind (arith, common_steps))

pub returns-else-e-last-clause-bytes : goal.returns-else-e-last-clause-bytes
returns-else-e-last-clause-bytes c = c.spellings_are_read.ensures.least c.args.version c.args.line.now c.in-Ok.e c.in-Ok.ensures.spelled

pub returns-in-Err-clause-err : goal.returns-in-Err-clause-err
returns-in-Err-clause-err c = event-bad c.args.number c.args.last c.in-Err.why (event_of c.args.version c.args.line.now) c.in-Err.ensures.value

-- The time and the act are the line's text.
use Rattle.std.proofs.Common.{arith}
use Rattle.std.proofs.lemmas.Grind.{common_steps}
use Rattle.kn_event.proofs.Spots.{event_here, line_here}
use Rattle.kn_event.proofs.ahead.LastTime.event_ahead.Goals as goal

pub returns-clause-line : goal.returns-clause-line
returns-clause-line c =
    line_here c.args.bytes.now c.in_ok-time.time c.in_ok-time.at c.in_ok-act.len c.in_ok-act.act c.in_ok-time.ensures.number (grind (arith, common_steps))

pub returns-clause-spells : goal.returns-clause-spells
returns-clause-spells c =
    event_here c.args.bytes.now c.in_ok-time.time c.in_ok-time.at c.in_ok-act.len c.in_ok-act.act c.in_ok-time.ensures.number (grind (arith, common_steps))

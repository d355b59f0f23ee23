use Rattle.kn_trace.specs.Events.{react}
use Rattle.kn_past.specs.Seconds.{end_of_second}
use Rattle.std.specs.Prelude.{◌*◌}
use Rattle.kn_past.proofs.EventTimes.{react_from}
use Rattle.kn_past.proofs.Later.{average-later, count-later, load-later, samples-later}
use Rattle.kn_past.proofs.events.event_laws.Goals as goal

pub returns : goal.returns
returns c = record {
  load = λ s d e second h. load-later d (react s d e) second (react_from c.part_laws.ensures s d e (end_of_second second) h);
  count = λ s d e second h. count-later d (react s d e) second (react_from c.part_laws.ensures s d e (end_of_second second) h);
  sample = λ s m d e second h. samples-later m d (react s d e) second (react_from c.part_laws.ensures s d e (end_of_second second) h);
  average = λ s m d e n end h. average-later m d (react s d e) n end (react_from c.part_laws.ensures s d e (1000 * end) h);
}

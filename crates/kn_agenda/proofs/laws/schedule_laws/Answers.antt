use Rattle.std.proofs.Common.{[]}
use Rattle.kn_trace.specs.Events.{opening}
use Rattle.kn_agenda.proofs.Ending.{few_events, runs_on}
use Rattle.kn_agenda.proofs.Opening.{opens}
use Rattle.kn_agenda.proofs.Unique.{goes_on, one_schedule}
use Rattle.kn_agenda.proofs.laws.schedule_laws.Goals as goal

pub returns : goal.returns
returns c = record {
  front = λ w es all steps schedule. goes_on w [] es all steps schedule;
  one = λ w es all a b. one_schedule w es all a b;
  many = λ w es good steps.
      let runs = runs_on w (λ fs clock x. c.next_laws.ensures.step w fs clock x good) [] es steps (w.start, opens c.fact_laws.ensures c.part_laws.ensures w good (c.history_laws.ensures.times w.spec w.start w.start 0 (opening w.spec w.start) (c.history_laws.ensures.opening w.spec w.start)) (c.size_laws.ensures.standing w.spec)) in
      few_events w es runs.0 good runs.1;
}

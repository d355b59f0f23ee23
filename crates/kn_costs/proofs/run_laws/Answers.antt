use Rattle.kn_costs.proofs.Timing.{clock-later, clock-none, cold-none, cold_next, costs_first, costs_next, peaks_first, peaks_next}
use Rattle.kn_costs.proofs.run_laws.Goals as goal

pub returns : goal.returns
returns c = record {
  clock_first = clock-none;
  clock_next = clock-later;
  peaks_first = peaks_first;
  peaks_next = peaks_next;
  costs_first = costs_first;
  costs_next = costs_next;
  cold_first = cold-none;
  cold_next = cold_next;
}

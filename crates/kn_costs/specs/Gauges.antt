-- How many there are of each after an event, the most of them so far, and what they came to over time.
use Rattle.std.specs.Prelude.{ℕ, ◌+◌, ◌-◌, ◌*◌, ◌≤◌, ◌^◌, ◌==◌, max, length, if◌then◌else◌}
use Rattle.kn_throttle.specs.Gauges.{count_running}
use Rattle.kn_trace.specs.Scale.{count_ready}
use Rattle.kn_trace.specs.Trace.{Trace, arrivals, held, live, live_pods}
use Rattle.kn_core.specs.Gauges.{count_live}
use Rattle.kn_teller.specs.Run.{Run, now_of}
use Rattle.kn_costs.specs.declared.gauges.Costs.{Costs}
use Rattle.kn_costs.specs.declared.gauges.Now.{Now}
use Rattle.kn_costs.specs.declared.gauges.Peaks.{Peaks}
use Rattle.kn_costs.specs.Steps.{area, peak}

abbrev pub count_pods : Trace → ℕ
count_pods c = length (live_pods c)

abbrev pub count_held : Trace → ℕ
count_held c = length (held c)

-- 1 while no pod lives
abbrev pub count_none : Trace → ℕ
count_none c = if count_pods c == 0 then 1 else 0

unfoldable pub gauges : Trace → Now
gauges c = record {
  arrivals = arrivals c;
  live = count_live c;
  held = count_held c;
  pods = count_pods c;
  ready = count_ready c;
  running = count_running c;
}

unfoldable pub peaks : Run → Peaks
peaks r = record { pods = peak count_pods r; ready = peak count_ready r; held = peak count_held r; live = peak count_live r }

unfoldable pub costs : Run → Costs
costs r = record { at_zero = area count_none r; pods = area count_pods r; ready = area count_ready r; running = area count_running r }

-- what is kept of them, with the time up to which the costs are counted
pub record GaugesState : Type 0 where
  pub clock : ℕ
  pub present : Now
  pub peaks : Peaks
  pub costs : Costs

-- before the first event of a run from this time
abbrev pub nothing_at : ℕ → GaugesState
nothing_at start = record {
  clock = start;
  present = record { arrivals = 0; live = 0; held = 0; pods = 0; ready = 0; running = 0 };
  peaks = record { pods = 0; ready = 0; held = 0; live = 0 };
  costs = record { at_zero = 0; pods = 0; ready = 0; running = 0 };
}

abbrev pub with_now : Now → Peaks → Peaks
with_now n p = record { pods = max p.pods n.pods; ready = max p.ready n.ready; held = max p.held n.held; live = max p.live n.live }

abbrev pub with_time : ℕ → Now → Costs → Costs
with_time ms n t = record {
  at_zero = t.at_zero + (if n.pods == 0 then ms else 0);
  pods = t.pods + n.pods * ms;
  ready = t.ready + n.ready * ms;
  running = t.running + n.running * ms;
}

-- each is at most what the greatest count would come to
pub record AreFew (clock : ℕ) (t : Costs) : Type 0 where
  pub at_zero : t.at_zero ≤ clock
  pub pods : t.pods ≤ (2 ^ 64 - 1) * clock
  pub ready : t.ready ≤ (2 ^ 64 - 1) * clock
  pub running : t.running ≤ (2 ^ 64 - 1) * clock

-- up to the last event at most 20,500 pods lived all the time, and 20,000 requests ran
pub record AreBounded (r : Run) : Type 0 where
  pub at_zero : (costs r).at_zero ≤ now_of r - r.start
  pub pods : (costs r).pods ≤ 20500 * (now_of r - r.start)
  pub ready : (costs r).ready ≤ 20500 * (now_of r - r.start)
  pub running : (costs r).running ≤ 20000 * (now_of r - r.start)

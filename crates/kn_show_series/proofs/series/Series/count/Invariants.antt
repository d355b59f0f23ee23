use Rattle.std.proofs.Common.{◌≡◌, ◌≤◌, ◌+◌, ◌*◌, take}
use Rattle.kn_trace.specs.Events.{react}
use Rattle.kn_lives.specs.Lives.{AreLives}
use Rattle.kn_teller.specs.Run.{Run, trace}
use Rattle.kn_show_series.specs.Counting.{size_of}
use Rattle.kn_show_series.specs.State.{CountsEvent}
use Rattle.kn_show_series.proofs.series.Series.count.Given as goal

abbrev pub invariant-loop-entry : goal.invariant-loop-entry
invariant-loop-entry l = record {
  counts : (r : Run) → AreLives l.fn.self.lives r.events (trace r) → l.entry-items ≡ react r.spec (trace r) l.fn.e
      → CountsEvent r l.fn.e (take l.entry-index l.entry-items) l.fn.self (record { step = l.self-inside.step; pods = l.self-inside.pods; lives = l.self-inside.lives; current = l.self-inside.current });
  few : size_of l.self-inside.current.counts ≤ size_of l.fn.self.current.counts + 2 * l.entry-index;
  step : l.self-inside.step ≡ l.fn.self.step;
  pods : l.self-inside.pods ≡ l.fn.self.pods;
}

use Rattle.std.proofs.Common.{◌≡◌, ◌≤◌, ◌<◌, ◌+◌, ℕ, length, min}
use Rattle.kn_window.specs.Stands.{Holds}
use Rattle.kn_window.proofs.totals.Totals.push_all.Given as goal

abbrev pub invariant-loop : goal.invariant-loop
invariant-loop l = record {
  holds : (before : ℕ → ℕ) → Holds l.fn.self.ring.items l.fn.self.total before l.fn.self.end
      → ((s : ℕ) → l.fn.self.end ≤ s → s < l.fn.self.end + l.count → before (s + 1) ≡ before s + l.load)
      → Holds l.self.ring.items l.self.total before (l.fn.self.end + l.counter);
  length : length l.self.ring.items ≡ min l.fn.self.ring.capacity (length l.fn.self.ring.items + l.counter);
  end : l.self.end ≡ l.fn.self.end + l.counter;
  capacity : l.self.ring.capacity ≡ l.fn.self.ring.capacity;
}

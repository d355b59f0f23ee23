-- The counts of the last line while a report is written.
use Rattle.std.specs.Prelude.{◌≡◌, ℕ, ◌+◌, true, false}
use Rattle.kn_event.specs.declared.entry.Row.{Row}
use Rattle.kn_event.specs.declared.entry.Row.TheVariants as row
use Rattle.kn_trace.specs.Report.{Totals}

-- how many entries there were in all, and of each kind
pub record Counted : Type 0 where
  pub rows : ℕ
  pub totals : Totals

-- one more entry
abbrev pub with_row : Row → Totals → Totals
with_row (row.Admit r tag) t = record t { admitted = t.admitted + 1 }
with_row (row.Direct r p) t = record t { direct = t.direct + 1 }
with_row (row.Assign r p) t = record t { assigned = t.assigned + 1 }
with_row (row.Finish r true) t = record t { finished = t.finished + 1 }
with_row (row.Finish r false) t = record t { failed = t.failed + 1 }
with_row (row.Expire r) t = record t { expired = t.expired + 1 }
with_row (row.Cancel r) t = record t { cancelled = t.cancelled + 1 }
with_row (row.QueueFull r p) t = record t { queue_full = t.queue_full + 1 }
with_row (row.Overload r) t = record t { overload = t.overload + 1 }
with_row (row.LostRequest r) t = record t { lost = t.lost + 1 }
with_row (row.Decided d) t = record t { decisions = t.decisions + 1 }
with_row _ t = t

-- the counts with one more entry
pub record CountsRow (row : Row) (old new : Counted) : Type 0 where
  pub rows : new.rows ≡ old.rows + 1
  pub totals : new.totals ≡ with_row row old.totals

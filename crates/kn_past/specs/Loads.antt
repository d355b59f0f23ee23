-- The load of a second by the entries that take requests in and those that end them.
use Rattle.std.specs.Prelude.{◌≡◌, ℕ, true, ◌+◌, ◌-◌, ◌*◌, max, Option, Some, is_some, if◌then◌else◌}
use Rattle.std.specs.List.{sum_by}
use Rattle.kn_event.specs.declared.entry.Entry.{Entry}
use Rattle.kn_event.specs.declared.entry.Row.{Row}
use Rattle.kn_event.specs.Lists.{contains}
use Rattle.kn_trace.specs.Rows.{ended_by}
use Rattle.kn_trace.specs.Trace.{Trace, live}

-- the milliseconds of second s that lie after this time
abbrev pub after_in : ℕ → ℕ → ℕ
after_in s t = 1000 * (s + 1) - max (1000 * s) t

abbrev pub after_by : (Row → Option ℕ) → ℕ → Entry → ℕ
after_by said s e = if is_some (said e.row) then after_in s e.time else 0

-- the sum of the milliseconds of the second that lie after each entry whose row says something of this kind
unfoldable pub after_sum : (Row → Option ℕ) → ℕ → Trace → ℕ
after_sum said s c = sum_by (after_by said s) c

-- who ends with this row is live before it
abbrev pub EndsLive : Trace → Row → Type 0
EndsLive c x = (r : ℕ) → ended_by x ≡ Some r → contains r (live c) ≡ true

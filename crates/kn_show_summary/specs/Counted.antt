-- The rows of a trace by kind, and its decisions.
use Rattle.std.specs.Prelude.{◌≡◌, ℕ, ◌+◌, Bool, true, false, not, ◌&&◌, ◌==◌, nat_lt, List, [], length}
use Rattle.std.specs.List.{cons_option, filter}
use Rattle.kn_event.specs.declared.entry.Decision.{Decision}
use Rattle.kn_event.specs.declared.entry.Entry.{Entry}
use Rattle.kn_event.specs.declared.entry.Row.{Row}
use Rattle.kn_event.specs.declared.entry.Row.TheVariants as row
use Rattle.kn_event.specs.declared.revision.Spec.{Spec}
use Rattle.kn_trace.specs.Report.{is_admit, is_cancel, is_decision, is_direct, is_expire, is_failure, is_finish, is_loss, is_overload, is_queue_full, rows_with, totals}
use Rattle.kn_trace.specs.Rows.{decision_by}
use Rattle.kn_trace.specs.Scale.{wanted}
use Rattle.kn_trace.specs.Trace.{Trace}
use Rattle.kn_lives.specs.Lives.{by_row}

abbrev pub is_no_data : Row → Bool
is_no_data row.NoData = true
is_no_data _ = false

abbrev pub is_in_panic : Row → Bool
is_in_panic (row.Decided d) = d.panicking
is_in_panic _ = false

abbrev pub is_create : Row → Bool
is_create (row.Create p n) = true
is_create _ = false

-- ---- decisions, by how many pods were wanted before

-- pods are wanted where none were
abbrev pub is_wake : ℕ → Decision → Bool
is_wake before d = nat_lt 0 d.want && (before == 0)

abbrev pub is_change : ℕ → Decision → Bool
is_change before d = not (d.want == before)

-- the decision of an entry, where it passes the test
abbrev pub decisions_where : (ℕ → Decision → Bool) → Spec → Trace → Entry → List Decision
decisions_where test s before x = filter (test (wanted s before)) (cons_option (decision_by x.row) [])

unfoldable pub wakes : Spec → Trace → ℕ
wakes s c = length (by_row (decisions_where is_wake s) [] c)

unfoldable pub wanted_changes : Spec → Trace → ℕ
wanted_changes s c = length (by_row (decisions_where is_change s) [] c)

-- ---- all of a trace

pub record Counted : Type 0 where
  pub admitted : ℕ
  pub direct : ℕ
  pub queue_full : ℕ
  pub overload : ℕ
  pub ok : ℕ
  pub failed : ℕ
  pub expired : ℕ
  pub cancelled : ℕ
  pub lost : ℕ
  pub no_data : ℕ
  pub pods : ℕ
  pub decisions : ℕ
  pub panicking : ℕ
  pub wakes : ℕ
  pub changes : ℕ
  pub wanted : ℕ

unfoldable pub counted : Spec → Trace → Counted
counted s c = record {
  admitted = rows_with is_admit c;
  direct = rows_with is_direct c;
  queue_full = rows_with is_queue_full c;
  overload = rows_with is_overload c;
  ok = rows_with is_finish c;
  failed = rows_with is_failure c;
  expired = rows_with is_expire c;
  cancelled = rows_with is_cancel c;
  lost = rows_with is_loss c;
  no_data = rows_with is_no_data c;
  pods = rows_with is_create c;
  decisions = rows_with is_decision c;
  panicking = rows_with is_in_panic c;
  wakes = wakes s c;
  changes = wanted_changes s c;
  wanted = wanted s c;
}

-- what the last line of a report counts too is the same there
pub record AgreesWithReport (s : Spec) (c : Trace) : Type 0 where
  pub admitted : (counted s c).admitted ≡ (totals c).admitted
  pub direct : (counted s c).direct ≡ (totals c).direct
  pub queue_full : (counted s c).queue_full ≡ (totals c).queue_full
  pub overload : (counted s c).overload ≡ (totals c).overload
  pub ok : (counted s c).ok ≡ (totals c).finished
  pub failed : (counted s c).failed ≡ (totals c).failed
  pub expired : (counted s c).expired ≡ (totals c).expired
  pub cancelled : (counted s c).cancelled ≡ (totals c).cancelled
  pub lost : (counted s c).lost ≡ (totals c).lost
  pub decisions : (counted s c).decisions ≡ (totals c).decisions

-- ---- by one more row

abbrev pub more_where : Bool → ℕ → ℕ
more_where true n = n + 1
more_where false n = n

abbrev pub with_decision : Decision → Counted → Counted
with_decision d t = record t {
  decisions = t.decisions + 1;
  panicking = more_where d.panicking t.panicking;
  wakes = more_where (is_wake t.wanted d) t.wakes;
  changes = more_where (is_change t.wanted d) t.changes;
  wanted = d.want;
}

abbrev pub with_row : Row → Counted → Counted
with_row (row.Admit r tag) t = record t { admitted = t.admitted + 1 }
with_row (row.Direct r p) t = record t { direct = t.direct + 1 }
with_row (row.QueueFull r pod) t = record t { queue_full = t.queue_full + 1 }
with_row (row.Overload r) t = record t { overload = t.overload + 1 }
with_row (row.Finish r true) t = record t { ok = t.ok + 1 }
with_row (row.Finish r false) t = record t { failed = t.failed + 1 }
with_row (row.Expire r) t = record t { expired = t.expired + 1 }
with_row (row.Cancel r) t = record t { cancelled = t.cancelled + 1 }
with_row (row.LostRequest r) t = record t { lost = t.lost + 1 }
with_row row.NoData t = record t { no_data = t.no_data + 1 }
with_row (row.Create p n) t = record t { pods = t.pods + 1 }
with_row (row.Decided d) t = with_decision d t
with_row _ t = t

-- what is kept: how many rows there were, and of which kind
pub record CountsState : Type 0 where
  pub rows : ℕ
  pub counted : Counted

pub record CountsRow (row : Row) (old new : CountsState) : Type 0 where
  pub rows : new.rows ≡ old.rows + 1
  pub counted : new.counted ≡ with_row row old.counted

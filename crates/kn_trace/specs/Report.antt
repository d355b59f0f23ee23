-- The report of a journal: a line for each entry of its trace, and the last line, which counts them.
use Rattle.std.specs.Prelude.{ℕ, Bool, true, false, not, ◌==◌, ◌++◌, List, [], ◌∷◌, codes, if◌then◌else◌}
use Rattle.std.specs.Fmt.{decimal}
use Rattle.std.specs.List.{flat_map, count_by}
use Rattle.kn_event.specs.declared.entry.Row.{Row}
use Rattle.kn_event.specs.declared.entry.Row.TheVariants as row
use Rattle.kn_event.specs.EntryLine.{entry_text}
use Rattle.kn_trace.specs.Trace.{Trace}

unfoldable pub rows_text : Trace → List ℕ
rows_text c = flat_map entry_text c

-- ---- the last line

abbrev pub is_admit : Row → Bool
is_admit (row.Admit r tag) = true
is_admit _ = false

abbrev pub is_direct : Row → Bool
is_direct (row.Direct r p) = true
is_direct _ = false

abbrev pub is_assign : Row → Bool
is_assign (row.Assign r p) = true
is_assign _ = false

-- a request that finished well, or one that failed
abbrev pub is_finish : Row → Bool
is_finish (row.Finish r ok) = ok
is_finish _ = false

abbrev pub is_failure : Row → Bool
is_failure (row.Finish r ok) = not ok
is_failure _ = false

abbrev pub is_expire : Row → Bool
is_expire (row.Expire r) = true
is_expire _ = false

abbrev pub is_cancel : Row → Bool
is_cancel (row.Cancel r) = true
is_cancel _ = false

abbrev pub is_queue_full : Row → Bool
is_queue_full (row.QueueFull r pod) = true
is_queue_full _ = false

abbrev pub is_overload : Row → Bool
is_overload (row.Overload r) = true
is_overload _ = false

abbrev pub is_loss : Row → Bool
is_loss (row.LostRequest r) = true
is_loss _ = false

abbrev pub is_decision : Row → Bool
is_decision (row.Decided d) = true
is_decision _ = false

abbrev pub rows_with : (Row → Bool) → Trace → ℕ
rows_with test c = count_by (λ e. test e.row) c

-- how many entries of each kind a trace has
pub record Totals : Type 0 where
  pub admitted : ℕ
  pub direct : ℕ
  pub assigned : ℕ
  pub finished : ℕ
  pub failed : ℕ
  pub expired : ℕ
  pub cancelled : ℕ
  pub queue_full : ℕ
  pub overload : ℕ
  pub decisions : ℕ
  pub lost : ℕ

unfoldable pub totals : Trace → Totals
totals c = record {
  admitted = rows_with is_admit c;
  direct = rows_with is_direct c;
  assigned = rows_with is_assign c;
  finished = rows_with is_finish c;
  failed = rows_with is_failure c;
  expired = rows_with is_expire c;
  cancelled = rows_with is_cancel c;
  queue_full = rows_with is_queue_full c;
  overload = rows_with is_overload c;
  decisions = rows_with is_decision c;
  lost = rows_with is_loss c;
}

-- a word and the number that it names
abbrev pub named : List ℕ → ℕ → List ℕ
named word n = word ++ decimal n

-- the first half of the last line
unfoldable pub taken_text : ℕ → Totals → List ℕ
taken_text events t =
    named (codes "end events=") events ++ named (codes " admitted=") t.admitted ++ named (codes " direct=") t.direct
    ++ named (codes " assigned=") t.assigned

-- and the second
unfoldable pub ended_text : Totals → List ℕ
ended_text t =
    named (codes " finished=") t.finished ++ named (codes " failed=") t.failed ++ named (codes " expired=") t.expired
    ++ named (codes " cancelled=") t.cancelled

unfoldable pub refused_text : Totals → List ℕ
refused_text t =
    named (codes " queue-full=") t.queue_full ++ named (codes " overload=") t.overload ++ named (codes " decisions=") t.decisions

-- requests that were lost with their pod: a journal of version 2 alone can lose any
abbrev pub lost_text : ℕ → Totals → List ℕ
lost_text version t = if version == 2 then named (codes " lost=") t.lost else []

-- over so many events, of a journal of this version
unfoldable pub last_line : ℕ → ℕ → Totals → List ℕ
last_line version events t = taken_text events t ++ ended_text t ++ refused_text t ++ lost_text version t ++ 10 ∷ []

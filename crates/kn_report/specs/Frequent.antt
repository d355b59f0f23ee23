-- A row that comes behind what waits, and is counted.
use Rattle.std.specs.Prelude.{◌≡◌, ◌+◌, ◌≤◌, ◌++◌, ◌∷◌, [], ℕ, List, length}
use Rattle.kn_event.specs.declared.entry.Entry.{Entry}
use Rattle.kn_event.specs.declared.entry.Row.{Row}
use Rattle.kn_event.specs.EntryLine.{entry_text}
use Rattle.kn_trace.specs.Report.{totals}
use Rattle.kn_trace.specs.Trace.{Trace, entry}
use Rattle.kn_report.specs.Tally.{Counted}

-- the counts with one more entry: where they were those of a trace, they are those of the trace with it
pub record CountsEntry (e : Entry) (old new : Counted) : Type 0 where
  pub rows : new.rows ≡ old.rows + 1
  pub totals : (c : Trace) → old.totals ≡ totals c → new.totals ≡ totals (c ++ e ∷ [])

-- a row of at most 128 bytes came behind what waited, and was counted
pub record PutsRow (time : ℕ) (row : Row) (old new : Counted) (before after : List ℕ) : Type 0 where
  pub text : after ≡ before ++ entry_text (entry time row)
  pub short : length after ≤ length before + 128
  pub counted : CountsEntry (entry time row) old new

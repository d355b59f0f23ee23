-- What is counted of a list of entries.
use Rattle.std.specs.Prelude.{ℕ, ◌≡◌, ◌-◌, ◌^◌, min, length, slice_index, Option}
use Rattle.std.specs.List.{filter}
use Rattle.kn_event.specs.declared.entry.Decision.{Decision}
use Rattle.kn_trace.specs.Rows.{decision_by}
use Rattle.kn_trace.specs.Trace.{Trace, each_row, last_of}
use Rattle.kn_figures.specs.declared.kind.Kind.{Kind}
use Rattle.kn_figures.specs.declared.tally.Tally.{Tally}
use Rattle.kn_figures.specs.Kinds.{is_of, place_of}

-- how many rows of the kind there are
unfoldable pub count_of : Kind → Trace → ℕ
count_of k c = length (filter (λ e. is_of k e.row) c)

unfoldable pub last_decision : Trace → Option Decision
last_decision c = last_of (each_row decision_by c)

-- what is kept of the kind's count
abbrev pub count_in : Tally → Kind → ℕ
count_in t k = slice_index t.counts (place_of k)

-- of each kind as many as there are, or 2^64 - 1 where there are more; and the last decision
pub record IsTallyOf (t : Tally) (c : Trace) : Type 0 where
  pub counts : (k : Kind) → count_in t k ≡ min (count_of k c) (2 ^ 64 - 1)
  pub decision : t.decision ≡ last_decision c

-- An open step: how it opens, what a row and an event change of it, and its text.
use Rattle.std.specs.Prelude.{ℕ, Bool, true, false, ◌||◌, max, List, []}
use Rattle.kn_event.specs.declared.entry.Row.{Row}
use Rattle.kn_trace.specs.Rows.{begun_by}
use Rattle.kn_show_series.specs.declared.gauges.Gauges.{Gauges}
use Rattle.kn_show_series.specs.declared.current.OpenStep.{OpenStep}
use Rattle.kn_show_series.specs.Counting.{waits_by, with_row}
use Rattle.kn_show_series.specs.Fields.{line_text}
use Rattle.kn_show_series.specs.Steps.{counts_of, is_shown}

-- nothing has come in it
abbrev pub begun_at : ℕ → Bool → Gauges → OpenStep
begun_at from follows g = record { from = from; gauges = g; counts = counts_of [] []; held_peak = g.held; filled = false; follows_filled = follows }

-- with one more row, and the wait of the request that begins to run with it
abbrev pub with_entry : Row → ℕ → OpenStep → OpenStep
with_entry x wait o = record o { counts = with_row x (waits_by (begun_by x) wait) o.counts; filled = o.filled || is_shown x }

-- with what is counted after an event
abbrev pub measured : Gauges → OpenStep → OpenStep
measured g o = record o { gauges = g; held_peak = max o.held_peak g.held }

abbrev pub open_text : OpenStep → List ℕ
open_text o = line_text o.from o.gauges o.counts o.held_peak

abbrev pub text_where : Bool → List ℕ → List ℕ
text_where false text = []
text_where true text = text

-- its line, where it has one
abbrev pub told_text : OpenStep → List ℕ
told_text o = text_where (o.filled || o.follows_filled) (open_text o)

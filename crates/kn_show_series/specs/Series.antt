-- A line for each step of a run that is told.
use Rattle.std.specs.Prelude.{ℕ, ◌+◌, ◌-◌, ◌*◌, List}
use Rattle.std.specs.List.{filter, flat_map, range_with_len}
use Rattle.kn_teller.specs.Manner.{Manner}
use Rattle.kn_teller.specs.Run.{Run, now_of, trace}
use Rattle.kn_show_series.specs.Fields.{header, line_text}
use Rattle.kn_show_series.specs.Steps.{counts_in, gauges_of, held_peak, is_told, step_of}

-- the line of step k, of a run with no event behind that step
unfoldable pub step_line : ℕ → Run → ℕ → List ℕ
step_line step r k = line_text (r.start + k * step) (gauges_of r.spec (trace r)) (counts_in step r k) (held_peak step r k)

-- the step that is open
abbrev pub open_step : ℕ → Run → ℕ
open_step step r = step_of step r.start (now_of r)

-- the lines of the steps that are over at this time
unfoldable pub over_lines : ℕ → Run → ℕ → List ℕ
over_lines step r t =
    let from = open_step step r in
    flat_map (step_line step r) (filter (is_told step r) (range_with_len from (step_of step r.start t - from)))

abbrev pub series : ℕ → Manner
series step = record {
  opens = λ r. header;
  tells = λ r e. over_lines step r e.time;
  ends = λ version r. step_line step r (open_step step r);
}

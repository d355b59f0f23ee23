-- The run of 20,001 arrivals in serve mode.
use Rattle.std.proofs.Common.{◌≡◌, ◌<◌, ◌++◌, refl, sym, ap, ◌∙◌, arith, ℕ, List}
use Rattle.kn_event.specs.FixedSpec.{fixed_spec}
use Rattle.kn_event.specs.declared.event.Event.{Event}
use Rattle.kn_event.specs.declared.revision.Spec.{Spec}
use Rattle.kn_trace.specs.Rows.{arrived_by}
use Rattle.kn_trace.specs.Trace.{Trace, each_row}
use Rattle.kn_trace.specs.Events.{trace_of}
use Rattle.kn_trace.specs.Worked.{whole_run}
use Rattle.kn_laws.specs.History.{GoesOn}
use Rattle.kn_rows_runs.specs.Long.{OverloadAt20000, arrivals_from, serving, to_serve_mode}
use Rattle.kn_rows_runs.proofs.Lists.{upto, upto-none}
use Rattle.kn_rows_runs.proofs.Serving.{IsServing, all-served}

switched : IsServing (trace_of serving 0 to_serve_mode) 0 0
unfolding whole_run
switched = record {
  mode = refl;
  phase = refl;
  created = refl;
  readied = refl;
  drained = refl;
  removed = refl;
  limit = refl;
  admitted = refl;
  assigned = refl;
  ended = refl;
  taken = sym upto-none;
  turned = sym upto-none;
  brought = sym upto-none;
  run = sym upto-none;
}

nobody_came : each_row arrived_by (trace_of serving 0 to_serve_mode) ≡ upto 0
unfolding whole_run
nobody_came = sym upto-none

in_time : 1100 < serving.timeout_ms
unfolding fixed_spec
in_time = omega arith

module _ (append : (s : Spec) (start : ℕ) (es later : List Event) → GoesOn s start es later) where
  pub overload-run : OverloadAt20000
  overload-run =
      let before = trace_of serving 0 to_serve_mode in
      append serving 0 to_serve_mode (arrivals_from 1100 0 20001)
      ∙ ap (λ (es : Trace). before ++ es) (all-served serving 1100 before 20000 0 20000 in_time switched nobody_came refl refl)

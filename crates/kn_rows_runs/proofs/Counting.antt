-- The runs of 290 requests: the arrivals by induction, the decision by computation.
use Rattle.std.proofs.Common.{◌≡◌, ℕ, List, [], ◌∷◌, ◌++◌, map, refl, sym, ap, ◌∙◌, arith}
use Rattle.kn_event.specs.FixedSpec.{fixed_spec}
use Rattle.kn_event.specs.EntryLine.{entry_text}
use Rattle.kn_event.specs.declared.event.Act.TheVariants as act
use Rattle.kn_event.specs.declared.event.Event.{Event}
use Rattle.kn_event.specs.declared.revision.Spec.{Spec}
use Rattle.kn_scaling.specs.Worked.{scaled}
use Rattle.kn_trace.specs.Trace.{Trace}
use Rattle.kn_trace.specs.Events.{added, trace_of}
use Rattle.kn_trace.specs.Worked.{Reports, at, whole_run}
use Rattle.kn_laws.specs.History.{GoesOn}
use Rattle.kn_rows_runs.specs.Long.{arrivals_from, assigned_from}
use Rattle.kn_rows_runs.specs.Counts.{RpsCounts, SameLoadByConcurrency, RpsOfFinishedRequests, ConcurrencyOfFinishedRequests, brief_requests_from, by_requests, finished_from}
use Rattle.kn_rows_runs.proofs.Assigning.{HasRoom, IsAssigning, all-assigned, all-finished}
use Rattle.kn_rows_runs.proofs.Lists.{upto-none}

room_by_requests : HasRoom by_requests 0
unfolding fixed_spec
room_by_requests = record { scaled = refl; cc = refl; opening = refl; most = refl; slots = refl; early = omega arith }

room_by_concurrency : HasRoom (scaled 0) 0
unfolding fixed_spec
room_by_concurrency = record { scaled = refl; cc = refl; opening = refl; most = refl; slots = refl; early = omega arith }

-- after the pod is Ready
begun : Spec → Trace
begun s = trace_of s 0 (at 0 (act.Ready 0) ∷ [])

nobody_by_requests : IsAssigning (begun by_requests) 0 0 0
unfolding whole_run begun
nobody_by_requests = record {
  mode = refl;
  phase = refl;
  decided = refl;
  created = refl;
  readied = refl;
  drained = refl;
  removed = refl;
  limit = refl;
  run = refl;
  arrived = sym upto-none;
  admitted = sym upto-none;
  taken = sym upto-none;
  assigned = sym upto-none;
  brought = sym upto-none;
  ended = sym upto-none;
}

nobody_by_concurrency : IsAssigning (begun (scaled 0)) 0 0 0
unfolding whole_run begun
nobody_by_concurrency = record {
  mode = refl;
  phase = refl;
  decided = refl;
  created = refl;
  readied = refl;
  drained = refl;
  removed = refl;
  limit = refl;
  run = refl;
  arrived = sym upto-none;
  admitted = sym upto-none;
  taken = sym upto-none;
  assigned = sym upto-none;
  brought = sym upto-none;
  ended = sym upto-none;
}

-- the entries after so many events, and those of a tick
with_tick : Spec → Trace → Trace
with_tick s more =
    let c = begun s ++ more in
    c ++ added s c (at 1000 act.Tick ∷ [])

module _ (append : (s : Spec) (start : ℕ) (es later : List Event) → GoesOn s start es later) where
  -- the events after the pod is Ready make these entries, so the run with the tick has these lines
  by_lines : (s : Spec) (es : List Event) (more : Trace) (lines : List (List ℕ)) → added s (begun s) es ≡ more → map entry_text (with_tick s more) ≡ lines
      → Reports s 0 (at 0 (act.Ready 0) ∷ (es ++ at 1000 act.Tick ∷ [])) lines
  unfolding begun with_tick
  by_lines s es more lines made text =
      let tick = at 1000 act.Tick ∷ [] in
      let first = at 0 (act.Ready 0) ∷ [] in
      let come : trace_of s 0 (first ++ es) ≡ begun s ++ more = append s 0 first es ∙ ap (λ (new : Trace). begun s ++ new) made in
      ap (λ (c : Trace). map entry_text c) (append s 0 (first ++ es) tick ∙ ap (λ (c : Trace). c ++ added s c tick) come) ∙ text

  pub rps-run : RpsCounts
  unfolding whole_run begun with_tick assigned_from
  rps-run = by_lines by_requests (arrivals_from 0 0 290) (assigned_from 0 0 290) _ (all-assigned by_requests 0 (begun by_requests) 290 0 room_by_requests nobody_by_requests (omega arith)) refl

  pub same-load-run : SameLoadByConcurrency
  unfolding whole_run begun with_tick assigned_from
  same-load-run = by_lines (scaled 0) (arrivals_from 0 0 290) (assigned_from 0 0 290) _ (all-assigned (scaled 0) 0 (begun (scaled 0)) 290 0 room_by_concurrency nobody_by_concurrency (omega arith)) refl

  pub rps-finished-run : RpsOfFinishedRequests
  unfolding whole_run begun with_tick finished_from
  rps-finished-run = by_lines by_requests (brief_requests_from 0 0 290) (finished_from 0 0 290) _ (all-finished by_requests 0 (begun by_requests) 290 0 room_by_requests nobody_by_requests (omega arith)) refl

  pub concurrency-finished-run : ConcurrencyOfFinishedRequests
  unfolding whole_run begun with_tick finished_from
  concurrency-finished-run = by_lines (scaled 0) (brief_requests_from 0 0 290) (finished_from 0 0 290) _ (all-finished (scaled 0) 0 (begun (scaled 0)) 290 0 room_by_concurrency nobody_by_concurrency (omega arith)) refl

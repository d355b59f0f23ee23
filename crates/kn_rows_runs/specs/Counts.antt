-- Runs of 290 requests that come at once, by both metrics.
use Rattle.std.specs.Prelude.{ℕ, zero, suc, true, List, [], ◌∷◌, ◌++◌, map, codes}
use Rattle.kn_event.specs.declared.entry.Row.TheVariants as row
use Rattle.kn_event.specs.declared.event.Act.TheVariants as act
use Rattle.kn_event.specs.declared.event.Event.{Event}
use Rattle.kn_event.specs.declared.revision.Metric.TheVariants.{Rps}
use Rattle.kn_event.specs.declared.revision.Spec.{Spec}
use Rattle.kn_event.specs.Defaults.{milli, scaling_target}
use Rattle.kn_event.specs.EntryLine.{entry_text}
use Rattle.kn_scaling.specs.Worked.{scaled}
use Rattle.kn_trace.specs.Trace.{Trace, entry}
use Rattle.kn_trace.specs.Worked.{Reports, at}
use Rattle.kn_rows_runs.specs.Long.{arrivals_from, assigned_from}

-- by requests per second: at most 200 a pod, of which 70 per cent are aimed at, whatever the configured percentage of concurrency
abbrev pub by_requests : Spec
by_requests = record (scaled 0) { metric = Rps; total = milli 200000; target = scaling_target 200000 70000 }

-- so many requests, numbered from i on, arrive at this time, each with its number as its tag, and end at once
unfoldable pub brief_requests_from : ℕ → ℕ → ℕ → List Event
brief_requests_from t i zero = []
brief_requests_from t i (suc n) = at t (act.Arrive i) ∷ at t (act.Finish i true) ∷ brief_requests_from t (suc i) n

-- so many requests, numbered from i on, are admitted, assigned to pod 0, and finish
unfoldable pub finished_from : ℕ → ℕ → ℕ → Trace
finished_from t i zero = []
finished_from t i (suc n) = entry t (row.Admit i i) ∷ entry t (row.Assign i 0) ∷ entry t (row.Finish i true) ∷ finished_from t (suc i) n

-- 290 requests count 290 in their second, at a target of 140
abbrev pub RpsCounts : Type 0
RpsCounts =
    Reports by_requests 0
    (at 0 (act.Ready 0) ∷ (arrivals_from 0 0 290 ++ at 1000 act.Tick ∷ []))
    (codes "0 phase activating\n"
    ∷ codes "0 create 0 0\n"
    ∷ codes "0 ready 0\n"
    ∷ codes "0 phase active\n"
    ∷ (map entry_text (assigned_from 0 0 290)
    ++ codes "1000 decision stable=290000/1000 panic=290000/1000 ready=1 dspc=3 dppc=3 over=yes panicking=yes undelayed=3 delayed=3 excess=-301 bounded=3 want=3 applied=yes mode=proxy\n"
    ∷ codes "1000 create 1 0\n"
    ∷ codes "1000 create 2 0\n"
    ∷ []))

-- the same load by concurrency, at a target of 70
abbrev pub SameLoadByConcurrency : Type 0
SameLoadByConcurrency =
    Reports (scaled 0) 0
    (at 0 (act.Ready 0) ∷ (arrivals_from 0 0 290 ++ at 1000 act.Tick ∷ []))
    (codes "0 phase activating\n"
    ∷ codes "0 create 0 0\n"
    ∷ codes "0 ready 0\n"
    ∷ codes "0 phase active\n"
    ∷ (map entry_text (assigned_from 0 0 290)
    ++ codes "1000 decision stable=290000/1000 panic=290000/1000 ready=1 dspc=5 dppc=5 over=yes panicking=yes undelayed=5 delayed=5 excess=-401 bounded=5 want=5 applied=yes mode=proxy\n"
    ∷ codes "1000 create 1 0\n"
    ∷ codes "1000 create 2 0\n"
    ∷ codes "1000 create 3 0\n"
    ∷ codes "1000 create 4 0\n"
    ∷ []))

-- requests that end at once count all the same
abbrev pub RpsOfFinishedRequests : Type 0
RpsOfFinishedRequests =
    Reports by_requests 0
    (at 0 (act.Ready 0) ∷ (brief_requests_from 0 0 290 ++ at 1000 act.Tick ∷ []))
    (codes "0 phase activating\n"
    ∷ codes "0 create 0 0\n"
    ∷ codes "0 ready 0\n"
    ∷ codes "0 phase active\n"
    ∷ (map entry_text (finished_from 0 0 290)
    ++ codes "1000 decision stable=290000/1000 panic=290000/1000 ready=1 dspc=3 dppc=3 over=yes panicking=yes undelayed=3 delayed=3 excess=-301 bounded=3 want=3 applied=yes mode=proxy\n"
    ∷ codes "1000 create 1 0\n"
    ∷ codes "1000 create 2 0\n"
    ∷ []))

-- by concurrency they are no load
abbrev pub ConcurrencyOfFinishedRequests : Type 0
ConcurrencyOfFinishedRequests =
    Reports (scaled 0) 0
    (at 0 (act.Ready 0) ∷ (brief_requests_from 0 0 290 ++ at 1000 act.Tick ∷ []))
    (codes "0 phase activating\n"
    ∷ codes "0 create 0 0\n"
    ∷ codes "0 ready 0\n"
    ∷ codes "0 phase active\n"
    ∷ (map entry_text (finished_from 0 0 290)
    ++ codes "1000 decision stable=0/1000 panic=0/1000 ready=1 dspc=0 dppc=0 over=no panicking=no undelayed=0 delayed=0 excess=-111 bounded=0 want=1 applied=yes mode=proxy\n"
    ∷ []))

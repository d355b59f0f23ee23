-- Runs of many events. 75 compute; what 20,001 add is proved by induction.
use Rattle.std.specs.Prelude.{◌≡◌, ℕ, zero, suc, List, [], ◌∷◌, ◌++◌, map, None, codes}
use Rattle.kn_event.specs.declared.entry.Row.TheVariants as row
use Rattle.kn_event.specs.declared.event.Act.TheVariants as act
use Rattle.kn_event.specs.declared.event.Event.{Event}
use Rattle.kn_event.specs.declared.revision.Burst.TheVariants.{Capacity}
use Rattle.kn_event.specs.declared.revision.Spec.{Spec}
use Rattle.kn_event.specs.Defaults.{milli}
use Rattle.kn_event.specs.EntryLine.{entry_text}
use Rattle.kn_event.specs.FixedSpec.{fixed_spec}
use Rattle.kn_scaling.specs.Worked.{scaled}
use Rattle.kn_trace.specs.Trace.{Trace, entry}
use Rattle.kn_trace.specs.Events.{trace_of}
use Rattle.kn_trace.specs.Worked.{Reports, at, slots}

-- so many requests arrive at this time, numbered from i on, each with its number as its tag
unfoldable pub arrivals_from : ℕ → ℕ → ℕ → List Event
arrivals_from t i zero = []
arrivals_from t i (suc n) = at t (act.Arrive i) ∷ arrivals_from t (suc i) n

-- ---- a decision over 75 requests

-- so many requests, numbered from i on, are admitted and assigned to pod 0
unfoldable pub assigned_from : ℕ → ℕ → ℕ → Trace
assigned_from t i zero = []
assigned_from t i (suc n) = entry t (row.Admit i i) ∷ entry t (row.Assign i 0) ∷ assigned_from t (suc i) n

-- 75 requests at one pod without a limit ask for a second one
abbrev pub ScaleUpAsKubectlPrints : Type 0
ScaleUpAsKubectlPrints =
    Reports (scaled 0) 0
    (at 0 (act.Ready 0) ∷ (arrivals_from 0 0 75 ++ at 6000 act.Tick ∷ []))
    (codes "0 phase activating\n"
    ∷ codes "0 create 0 0\n"
    ∷ codes "0 ready 0\n"
    ∷ codes "0 phase active\n"
    ∷ (map entry_text (assigned_from 0 0 75)
    ++ codes "6000 decision stable=450000/6000 panic=450000/6000 ready=1 dspc=2 dppc=2 over=yes panicking=yes undelayed=2 delayed=2 excess=-186 bounded=2 want=2 applied=yes mode=proxy\n"
    ∷ codes "6000 create 1 0\n"
    ∷ []))

-- ---- overload in serve mode

-- so many requests, numbered from i on, go straight to pod 0 and run there
unfoldable pub served_from : ℕ → ℕ → ℕ → Trace
served_from t i zero = []
served_from t i (suc n) = entry t (row.Direct i 0) ∷ entry t (row.Run i) ∷ served_from t (suc i) n

-- pods without a limit and no target burst capacity
abbrev pub serving : Spec
serving = record (scaled 0) { burst = Capacity (milli 0) }

-- in serve mode after its first decision
abbrev pub to_serve_mode : List Event
to_serve_mode = at 0 (act.Ready 0) ∷ at 1000 act.Tick ∷ []

abbrev pub SwitchesToServeMode : Type 0
SwitchesToServeMode =
    Reports serving 0 to_serve_mode
    (codes "0 phase activating\n"
    ∷ codes "0 create 0 0\n"
    ∷ codes "0 ready 0\n"
    ∷ codes "0 phase active\n"
    ∷ codes "1000 decision stable=0/1000 panic=0/1000 ready=1 dspc=0 dppc=0 over=no panicking=no undelayed=0 delayed=0 excess=0 bounded=0 want=1 applied=yes mode=serve\n"
    ∷ codes "1000 mode serve\n"
    ∷ [])

-- of 20,001 requests that arrive then the first 20,000 run, and the last is refused
abbrev pub OverloadAt20000 : Type 0
OverloadAt20000 =
    trace_of serving 0 (to_serve_mode ++ arrivals_from 1100 0 20001)
    ≡ trace_of serving 0 to_serve_mode ++ (served_from 1100 0 20000 ++ entry 1100 (row.Overload 20000) ∷ [])

-- ---- a full breaker

-- so many requests, numbered from i on, are admitted
unfoldable pub admitted_from : ℕ → ℕ → ℕ → Trace
admitted_from t i zero = []
admitted_from t i (suc n) = entry t (row.Admit i i) ∷ admitted_from t (suc i) n

-- so many requests, numbered from i on, find the breaker full
unfoldable pub refused_from : ℕ → ℕ → ℕ → Trace
refused_from t i zero = []
refused_from t i (suc n) = entry t (row.QueueFull i None) ∷ refused_from t (suc i) n

-- no pod, and 10,000 that wait beside 1,000 that may run
abbrev pub without_pods : Spec
without_pods = fixed_spec 0 0 300 (slots 10000 1000)

-- of 20,001 requests the first 11,000 are admitted, and the last 9,001 refused
abbrev pub BreakerRefuses9001 : Type 0
BreakerRefuses9001 = trace_of without_pods 0 (arrivals_from 1 0 20001) ≡ admitted_from 1 0 11000 ++ refused_from 1 11000 9001

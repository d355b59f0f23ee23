-- The events of a run, each with what was before it: what was the most at any moment, and what was how much for how long.
use Rattle.std.specs.Prelude.{ℕ, ◌*◌, ◌-◌, ◌==◌, List, [], ◌∷◌, ◌++◌, map, if◌then◌else◌}
use Rattle.std.specs.List.{sum_by}
use Rattle.kn_event.specs.declared.event.Event.{Event}
use Rattle.kn_event.specs.declared.revision.Spec.{Spec}
use Rattle.kn_event.specs.Lists.{greatest}
use Rattle.kn_trace.specs.Events.{opening, react}
use Rattle.kn_trace.specs.Report.{is_admit, rows_with}
use Rattle.kn_trace.specs.Scale.{count_ready}
use Rattle.kn_trace.specs.Trace.{Trace}
use Rattle.kn_teller.specs.Run.{Run, trace}

-- an event, with the trace and the time before it
pub record Step : Type 0 where
  pub before : Trace
  pub since : ℕ
  pub event : Event

unfoldable pub steps_from : Spec → Trace → ℕ → List Event → List Step
steps_from s c t [] = []
steps_from s c t (e ∷ es) = record { before = c; since = t; event = e } ∷ steps_from s (c ++ react s c e) e.time es

unfoldable pub steps : Run → List Step
steps r = steps_from r.spec (opening r.spec r.start) r.start r.events

-- the traces after the opening and after each event
unfoldable pub moments : Run → List Trace
moments r = map (λ (x : Step). x.before) (steps r) ++ trace r ∷ []

-- the most that there were at any of them
unfoldable pub peak : (Trace → ℕ) → Run → ℕ
peak f r = greatest (map f (moments r))

abbrev pub lasting : (Trace → ℕ) → Step → ℕ
lasting f x = f x.before * (x.event.time - x.since)

-- how many there were, each for how long: in all, up to the last event
unfoldable pub area : (Trace → ℕ) → Run → ℕ
area f r = sum_by (lasting f) (steps r)

-- how many are admitted at an event while no pod is Ready
abbrev pub cold_at : Spec → Trace → Event → ℕ
cold_at s c e = if count_ready c == 0 then rows_with is_admit (react s c e) else 0

unfoldable pub cold : Run → ℕ
cold r = sum_by (λ (x : Step). cold_at r.spec x.before x.event) (steps r)

-- How long requests waited until they began to run.
use Rattle.std.specs.Prelude.{◌≡◌, ℕ, ◌+◌, ◌-◌, ◌<◌, List, [], ◌∷◌, ◌++◌, Option, None, Some}
use Rattle.kn_event.specs.declared.entry.Entry.{Entry}
use Rattle.kn_event.specs.declared.event.Event.{Event}
use Rattle.kn_event.specs.declared.revision.Spec.{Spec}
use Rattle.kn_trace.specs.Events.{react}
use Rattle.kn_trace.specs.Rows.{begun_by}
use Rattle.kn_trace.specs.Trace.{Trace}
use Rattle.kn_lives.specs.Lives.{arrived_at, by_row}

abbrev pub wait_of : Option ℕ → Trace → ℕ → List ℕ
wait_of None c t = []
wait_of (Some r) c t = (t - arrived_at c r) ∷ []

-- how long a request had waited that begins to run with the entry
abbrev pub wait_by : Trace → Entry → List ℕ
wait_by c x = wait_of (begun_by x.row) c x.time

-- how long those had waited that have begun to run, in the order in which they did
unfoldable pub waits : Trace → List ℕ
waits c = by_row wait_by [] c

-- who begins to run at an event had waited less than the timeout
abbrev pub BeginInTime : Spec → Trace → Event → Type 0
BeginInTime s c e = (before rest : Trace) (x : Entry) (r : ℕ) → react s c e ≡ before ++ x ∷ rest → begun_by x.row ≡ Some r
    → x.time < arrived_at (c ++ before) r + s.timeout_ms

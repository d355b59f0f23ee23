-- What the events of a workload keep so far, over their trace alone.
use Rattle.std.specs.Prelude.{◌≡◌, ◌⊎◌, ℕ, ◌+◌, ◌*◌, ◌<◌, ◌≤◌, ◌++◌, false, List, length, slice_get, Some}
use Rattle.kn_event.specs.declared.event.Event.{Event}
use Rattle.kn_event.specs.declared.revision.Spec.{Spec}
use Rattle.kn_event.specs.Lists.{contains}
use Rattle.kn_trace.specs.Trace.{Trace, arrivals, live, starting_pods, waiting}
use Rattle.kn_trace.specs.Events.{react, trace_of}
use Rattle.kn_laws.specs.ByAct.{IsArrival}
use Rattle.kn_agenda.specs.declared.item.Item.{Item}
use Rattle.kn_agenda.specs.declared.item.Kind.{Kind}
use Rattle.kn_agenda.specs.declared.item.Kind.TheVariants.{Arrives, Ticks}
use Rattle.kn_agenda.specs.declared.job.Job.{Job}
use Rattle.kn_agenda.specs.Workload.{Workload}
use Rattle.kn_agenda.specs.Due.{AreNext, IsDueAt, event_of, taken_at, ticks_of}

abbrev pub so_far : Workload → List Event → Trace
so_far w es = trace_of w.spec w.start es

-- each request that was taken in came at its job's time
abbrev pub ComeByJobs : List Job → Trace → Type 0
ComeByJobs jobs c = (r b : ℕ) → taken_at c r ≡ Some b → (j : Job) × (slice_get jobs r ≡ Some j) × (b ≡ j.time)

-- no request below this number waits
abbrev pub NobodyWaitsBelow : Trace → ℕ → Type 0
NobodyWaitsBelow c n = (r : ℕ) → r < n → contains r (waiting c) ≡ false

-- each event came next, each request at its job's time, and nothing is due before the clock
pub record Runs (w : Workload) (es : List Event) (clock : ℕ) : Type 0 where
  pub steps : AreNext w es
  pub come : ComeByJobs w.jobs (so_far w es)
  pub few : arrivals (so_far w es) ≤ length w.jobs
  pub late : (k : Kind) (n t : ℕ) → IsDueAt w (so_far w es) (ticks_of es) k n t → clock ≤ t
  -- ticks end with the workload
  pub ticks : ticks_of es ≤ 43200
  -- what is still to do by itself grows with arrivals and ticks alone
  pub many : length es + length (live (so_far w es)) + length (starting_pods (so_far w es)) ≤ 500 + 502 * (arrivals (so_far w es) + ticks_of es)

-- the event is no arrival, or it is that of the next job, which is counted
abbrev pub IsByNextJob : Spec → List Job → Trace → Event → Type 0
IsByNextJob s jobs c e = (IsArrival e.act → ⊥) ⊎ ((j : Job) × (slice_get jobs (arrivals c) ≡ Some j) × (e.time ≡ j.time) × (arrivals (c ++ react s c e) ≡ arrivals c + 1))

-- by how much an item's event may let what is still to do by itself grow: by a request and 500 pods where it is an arrival, by 500
-- pods where it is a tick; else it becomes less
abbrev pub cost_of : Kind → ℕ
cost_of Arrives = 502
cost_of Ticks = 502
cost_of _ = 0

abbrev pub Shrinks : Workload → Trace → Item → Type 0
Shrinks w c x = length (live (c ++ react w.spec c (event_of w x))) + length (starting_pods (c ++ react w.spec c (event_of w x))) + 1 ≤ length (live c) + length (starting_pods c) + cost_of x.kind

-- What a workload has still to do after a trace: the items that are due, which of them comes next, and the schedule of all events.
use Rattle.std.specs.Prelude.{◌≡◌, ℕ, ◌+◌, ◌*◌, ◌<◌, ◌≤◌, ◌++◌, ◌&&◌, ◌||◌, ◌==◌, Bool, true, false, nat_lt, List, ◌∷◌, length, slice_get, Option, None, Some}
use Rattle.std.specs.List.{filter, filter_map}
use Rattle.kn_event.specs.declared.entry.Entry.{Entry}
use Rattle.kn_event.specs.declared.entry.Row.{Row}
use Rattle.kn_event.specs.declared.event.Act.{Act}
use Rattle.kn_event.specs.declared.event.Act.TheVariants as act
use Rattle.kn_event.specs.declared.event.Event.{Event}
use Rattle.kn_event.specs.Lists.{contains}
use Rattle.kn_trace.specs.Rows.{begun_by, created_by, taken_by}
use Rattle.kn_trace.specs.Trace.{Trace, arrivals, first_of, is_running, starting_pods, waiting}
use Rattle.kn_trace.specs.Events.{trace_of}
use Rattle.kn_record.specs.Rows.{says}
use Rattle.kn_agenda.specs.declared.item.Item.{Item}
use Rattle.kn_agenda.specs.declared.item.Kind.{Kind}
use Rattle.kn_agenda.specs.declared.item.Kind.TheVariants.{Arrives, Finishes, Passes, Readies, Ticks}
use Rattle.kn_agenda.specs.declared.job.Job.{Job}
use Rattle.kn_agenda.specs.Workload.{Workload}

-- ---- when something happened

abbrev pub time_where : Bool → Entry → Option ℕ
time_where true e = Some e.time
time_where false e = None

-- the time of the first entry whose row says this of the number
unfoldable pub first_time : (Row → Option ℕ) → Trace → ℕ → Option ℕ
first_time said c n = first_of (filter_map (λ e. time_where (says (said e.row) n) e) c)

abbrev pub begun_at : Trace → ℕ → Option ℕ
begun_at c r = first_time begun_by c r

abbrev pub created_at : Trace → ℕ → Option ℕ
created_at c p = first_time created_by c p

abbrev pub taken_at : Trace → ℕ → Option ℕ
taken_at c r = first_time taken_by c r

-- ---- what is due

-- how far ticks are apart
abbrev pub tick_ms : ℕ
tick_ms = 2000

-- this time after when it happened
abbrev pub IsAfter : ℕ → Option ℕ → ℕ → Type 0
IsAfter more since t = (b : ℕ) × (since ≡ Some b) × (t ≡ b + more)

-- the request of this number has this job, which is over at the time
abbrev pub IsDone : List Job → Trace → ℕ → ℕ → Type 0
IsDone jobs c r t = (j : Job) × (slice_get jobs r ≡ Some j) × IsAfter j.service (begun_at c r) t

-- after a trace that the events so far made, with so many ticks among them
abbrev pub IsDueAt : Workload → Trace → ℕ → Kind → ℕ → ℕ → Type 0
-- each running request finishes when its job's service is over
IsDueAt w c ticks Finishes r t = (is_running c r ≡ true) × IsDone w.jobs c r t
-- each pod that starts is ready when it has booted
IsDueAt w c ticks Readies p t = (contains p (starting_pods c) ≡ true) × IsAfter w.boot (created_at c p) t
-- each waiting request expires when its timeout is over
IsDueAt w c ticks Passes r t = (contains r (waiting c) ≡ true) × IsAfter w.spec.timeout_ms (taken_at c r) t
-- the next job arrives
IsDueAt w c ticks Arrives r t = (r ≡ arrivals c) × (j : Job) × (slice_get w.jobs r ≡ Some j) × (t ≡ j.time)
-- ticks go on
IsDueAt w c ticks Ticks k t = (k ≡ ticks) × (t ≡ w.start + tick_ms * (k + 1))

abbrev pub IsDue : Workload → Trace → ℕ → Item → Type 0
IsDue w c ticks x = IsDueAt w c ticks x.kind x.number x.time

-- ---- what comes next

abbrev pub rank : Kind → ℕ
rank Finishes = 0
rank Readies = 1
rank Passes = 2
rank Arrives = 3
rank Ticks = 4

abbrev pub is_before : ℕ → ℕ → Bool → Bool
is_before x y further = nat_lt x y || (x == y && further)

-- of less time; at one time of an earlier kind; of one kind the lesser number
abbrev pub is_sooner : Item → Item → Bool
is_sooner x y = is_before x.time y.time (is_before (rank x.kind) (rank y.kind) (nat_lt x.number y.number))

-- it is due, and nothing is due sooner
pub record IsNext (w : Workload) (c : Trace) (ticks : ℕ) (x : Item) : Type 0 where
  pub due : IsDue w c ticks x
  pub first : (y : Item) → IsDue w c ticks y → is_sooner y x ≡ false

abbrev pub tag_of : Option Job → ℕ
tag_of None = 0
tag_of (Some j) = j.tag

abbrev pub act_of : Workload → Kind → ℕ → Act
act_of w Finishes r = act.Finish r true
act_of w Readies p = act.Ready p
act_of w Passes r = act.Pass
act_of w Arrives r = act.Arrive (tag_of (slice_get w.jobs r))
act_of w Ticks k = act.Tick

abbrev pub event_of : Workload → Item → Event
event_of w x = record { time = x.time; act = act_of w x.kind x.number }

-- ---- the schedule

abbrev pub is_tick : Event → Bool
is_tick e = is_tick_act e.act
  where
    is_tick_act : Act → Bool
    is_tick_act act.Tick = true
    is_tick_act _ = false

abbrev pub ticks_of : List Event → ℕ
ticks_of es = length (filter is_tick es)

-- after these events this one comes next, and not too late
abbrev pub ComesNext : Workload → List Event → Event → Type 0
ComesNext w es e = (x : Item) × IsNext w (trace_of w.spec w.start es) (ticks_of es) x × (x.time ≤ w.until) × (e ≡ event_of w x)

-- after these events all that is due comes too late
abbrev pub LeavesNothingDue : Workload → List Event → Type 0
LeavesNothingDue w es = (x : Item) → IsDue w (trace_of w.spec w.start es) (ticks_of es) x → w.until < x.time

-- each event came next when it came
abbrev pub AreNext : Workload → List Event → Type 0
AreNext w es = (before : List Event) (e : Event) (rest : List Event) → es ≡ before ++ e ∷ rest → ComesNext w before e

-- all events of a workload
pub record IsSchedule (w : Workload) (es : List Event) : Type 0 where
  pub steps : AreNext w es
  pub over : LeavesNothingDue w es

-- the first events of these
abbrev pub IsFront : List Event → List Event → Type 0
IsFront es fs = (rest : List Event) × (fs ≡ es ++ rest)

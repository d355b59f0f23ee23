-- What one event adds to a trace, what it is told, and the trace of a whole journal.
use Rattle.std.specs.Prelude.{ℕ, Bool, true, false, not, ◌+◌, ◌%◌, ◌&&◌, ◌==◌, ◌++◌, nat_le, List, [], ◌∷◌, map, length, Option, None, Some, slice_index, if◌then◌else◌}
use Rattle.std.specs.List.{filter, filter_map}
use Rattle.kn_event.specs.declared.entry.Entry.{Entry}
use Rattle.kn_event.specs.declared.entry.Row.{Row}
use Rattle.kn_event.specs.declared.entry.Row.TheVariants as row
use Rattle.kn_event.specs.declared.entry.Phase.TheVariants as phase
use Rattle.kn_event.specs.declared.entry.Mode.{Mode}
use Rattle.kn_event.specs.declared.entry.Mode.TheVariants as mode
use Rattle.kn_event.specs.declared.event.Act.{Act}
use Rattle.kn_event.specs.declared.event.Act.TheVariants as act
use Rattle.kn_event.specs.declared.event.Event.{Event}
use Rattle.kn_event.specs.declared.event.Told.{Told}
use Rattle.kn_event.specs.declared.event.Told.TheVariants as told
use Rattle.kn_event.specs.declared.event.Stand.{Stand}
use Rattle.kn_event.specs.declared.event.Stand.TheVariants as stand
use Rattle.kn_event.specs.declared.revision.Spec.{Spec}
use Rattle.kn_event.specs.declared.revision.Kind.{Kind}
use Rattle.kn_event.specs.declared.revision.Kind.TheVariants as kind
use Rattle.kn_event.specs.Lists.{contains}
use Rattle.kn_scaling.specs.Zero.{opening_phase}
use Rattle.kn_trace.specs.Rows.{taken_by}
use Rattle.kn_trace.specs.Trace.{Trace, entry, arrivals, first_of, has_not_begun, is_empty, is_running, is_starting, at_pod, live, live_pods, ready_pods, direct_turn, stand_of, waiting}
use Rattle.kn_trace.specs.Capacity.{breaker_full, pod_full}
use Rattle.kn_trace.specs.Scale.{creations, is_in_phase, mode_of, opening_scale, phase_of, tick_rows, wake_rows, wanted, where_true}
use Rattle.kn_trace.specs.Settling.{settling}

-- ---- first, who waited too long

-- the request was taken in by this entry, and its timeout is over
abbrev pub due_by : ℕ → ℕ → Entry → Option ℕ
due_by timeout t e = if nat_le (e.time + timeout) t then taken_by e.row else None

-- the waiting requests whose time of arrival and timeout come to this time or less
unfoldable pub due : Spec → ℕ → Trace → List ℕ
due s t c = filter (has_not_begun c) (filter_map (due_by s.timeout_ms t) c)

unfoldable pub expiries : Spec → ℕ → Trace → List Entry
expiries s t c = map (λ r. entry t (row.Expire r)) (due s t c)

-- ---- then, where a pod is lost, its requests

-- the live requests at pod p, in the order of their numbers
unfoldable pub lost_with : Trace → ℕ → List ℕ
lost_with c p = filter (λ r. contains r (at_pod c p)) (live c)

abbrev pub losses_at : Bool → ℕ → Trace → ℕ → List Entry
losses_at false t c p = []
losses_at true t c p = map (λ r. entry t (row.LostRequest r)) (lost_with c p)

-- who ends with a live pod that is lost; no other act ends a request before its own row
unfoldable pub losses : ℕ → Trace → Act → List Entry
losses t c (act.Lost p) = losses_at (contains p (live_pods c)) t c p
losses t c _ = []

-- all who end before the act's own row
unfoldable pub departures : Spec → Trace → Event → List Entry
departures s c e =
    let gone = expiries s e.time c in
    gone ++ losses e.time (c ++ gone) e.act

-- ---- then the act

-- how many requests may be live
abbrev pub live_most : ℕ
live_most = 20000

-- a request that goes past the activator, to the pod in turn of these Ready ones; no other is tried
abbrev pub direct_row : Trace → List ℕ → Row
direct_row c ready =
    let p = slice_index ready (direct_turn c % length ready) in
    if pod_full c p then row.QueueFull (arrivals c) (Some p) else row.Direct (arrivals c) p

-- a request that comes to the activator
abbrev pub admission_row : Spec → Trace → ℕ → Row
admission_row s c tag = if breaker_full s c then row.QueueFull (arrivals c) None else row.Admit (arrivals c) tag

abbrev pub arrival_row : Mode → Spec → Trace → List ℕ → ℕ → Row
arrival_row mode.Serve s c (p ∷ ps) tag = direct_row c (p ∷ ps)
arrival_row _ s c ready tag = admission_row s c tag

-- the row of the act itself; a pass and a tick have none
unfoldable pub act_row : Spec → Trace → Act → Option Row
act_row s c (act.Arrive tag) =
    Some (if nat_le live_most (length (live c)) then row.Overload (arrivals c) else arrival_row (mode_of c) s c (ready_pods c) tag)
act_row s c (act.Finish r ok) = Some (if is_running c r then row.Finish r ok else row.NotRunning r)
act_row s c (act.Cancel r) = Some (if contains r (waiting c) then row.Cancel r else row.NotWaiting r)
act_row s c act.Pass = None
act_row s c (act.Ready p) =
    Some (if contains p (live_pods c) then (if is_starting c p then row.Ready p else row.NotStarting p) else row.NoPod p)
act_row s c (act.Limit p n) = Some (if contains p (live_pods c) then row.Limit p n else row.NoPod p)
act_row s c (act.Lost p) = Some (if contains p (live_pods c) then row.LostPod p else row.NoPod p)
act_row s c act.Tick = None

abbrev pub entries_of : ℕ → Option Row → List Entry
entries_of t None = []
entries_of t (Some x) = entry t x ∷ []

abbrev pub wake_where : Bool → Spec → ℕ → Trace → List Entry
wake_where false s t c = []
wake_where true s t c = wake_rows s t c

-- what the autoscaler adds to the act's row: a decision at a tick, and one where a request was admitted while no pod is
-- wanted. A fixed revision makes none
abbrev pub scaler_rows : Kind → Spec → ℕ → Trace → Act → Option Row → List Entry
scaler_rows kind.Kpa s t c act.Tick did = tick_rows s t c
scaler_rows kind.Kpa s t c (act.Arrive tag) (Some (row.Admit r g)) = wake_where (wanted s c == 0) s t c
scaler_rows _ s t c _ did = []

unfoldable pub act_rows : Spec → ℕ → Trace → Act → List Entry
act_rows s t c a =
    let did = act_row s c a in
    entries_of t did ++ scaler_rows s.kind s t (c ++ entries_of t did) a did

-- ---- then the phase

-- a revision that waits for its first Ready pod is active from then on
unfoldable pub activation : ℕ → Trace → List Entry
activation t c = where_true (is_in_phase phase.Activating (phase_of c) && not (is_empty (ready_pods c))) (entry t (row.Phase phase.Active) ∷ [])

-- ---- an event

-- the rows before settling
unfoldable pub before_settling : Spec → Trace → Event → List Entry
before_settling s c e =
    let gone = departures s c e in
    let did = act_rows s e.time (c ++ gone) e.act in
    (gone ++ did) ++ activation e.time ((c ++ gone) ++ did)

-- what the event adds to the trace
unfoldable pub react : Spec → Trace → Event → List Entry
react s c e =
    let first = before_settling s c e in
    first ++ settling s e.time (c ++ first)

-- ---- what an event is told

-- an arrival that was taken in never stands unknown or ended after its event
abbrev pub told_stand : ℕ → Stand → Told
told_stand r (stand.Queued p) = told.AtPod r p
told_stand r (stand.Running p) = told.Run r p
told_stand r _ = told.Held r

-- by the act's first row, and for an arrival by where it stands in the trace after the event
abbrev pub told_row : Trace → Option Row → Told
told_row after (Some (row.Admit r tag)) = told_stand r (stand_of after r)
told_row after (Some (row.Direct r p)) = told_stand r (stand_of after r)
told_row after (Some (row.QueueFull r pod)) = told.QueueFull r
told_row after (Some (row.Overload r)) = told.Overload r
told_row after (Some (row.Finish r ok)) = told.Done r
told_row after (Some (row.Cancel r)) = told.Done r
told_row after (Some (row.NotRunning r)) = told.NotRunning r
told_row after (Some (row.NotWaiting r)) = told.NotWaiting r
told_row after (Some (row.NotStarting p)) = told.NotStarting p
told_row after (Some (row.NoPod p)) = told.NoPod p
told_row after (Some (row.Decided d)) = told.Decided d
told_row after (Some row.NoData) = told.NoData
told_row after _ = told.Passed

abbrev pub row_of : Option Entry → Option Row
row_of None = None
row_of (Some e) = Some e.row

unfoldable pub told_of : Spec → Trace → Event → Told
told_of s c e = told_row (c ++ react s c e) (row_of (first_of (act_rows s e.time (c ++ departures s c e) e.act)))

-- ---- a whole run

abbrev pub opening_of : Kind → Spec → ℕ → List Entry
opening_of (kind.Fixed pods) s start = creations s start 0 pods
opening_of kind.Kpa s start = entry start (row.Phase (opening_phase (opening_scale s))) ∷ creations s start 0 (opening_scale s)

-- the trace that a revision starts with: its pods, and the phase of a scaled one
unfoldable pub opening : Spec → ℕ → List Entry
opening s start = opening_of s.kind s start

-- what further events add, one after the other
unfoldable pub added : Spec → Trace → List Event → List Entry
added s c [] = []
added s c (e ∷ es) = react s c e ++ added s (c ++ react s c e) es

-- the trace of a journal's events
unfoldable pub trace_of : Spec → ℕ → List Event → Trace
trace_of s start es = opening s start ++ added s (opening s start) es

-- what the events are told, in order
unfoldable pub tolds : Spec → Trace → List Event → List Told
tolds s c [] = []
tolds s c (e ∷ es) = told_of s c e ∷ tolds s (c ++ react s c e) es

-- ---- what a recorded event may cost

-- how much room an act needs in a bounded history: an arrival a row and, later, its end; the end of a request that lives
-- gives its room back
unfoldable pub need_of : Trace → Act → ℕ
need_of c (act.Arrive tag) = 2
need_of c (act.Finish r ok) = if is_running c r then 0 else 1
need_of c (act.Cancel r) = if contains r (waiting c) then 0 else 1
need_of c _ = 1

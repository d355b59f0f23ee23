-- What no report shows: how much room an act needs, which rows take a turn past the activator, and which the last line counts.
use Rattle.std.specs.Prelude.{◌≡◌, ℕ, [], ◌∷◌, ◌++◌, map, true, false, None, Some, codes}
use Rattle.std.specs.List.{range_with_len}
use Rattle.kn_event.specs.declared.entry.Mode.TheVariants as mode
use Rattle.kn_event.specs.declared.entry.Phase.TheVariants as phase
use Rattle.kn_event.specs.declared.entry.Row.{Row}
use Rattle.kn_event.specs.declared.entry.Row.TheVariants as row
use Rattle.kn_event.specs.declared.event.Act.TheVariants as act
use Rattle.kn_event.specs.declared.revision.Burst.TheVariants.{Capacity}
use Rattle.kn_event.specs.Defaults.{milli}
use Rattle.kn_event.specs.FixedSpec.{fixed_spec}
use Rattle.kn_scaling.specs.Decide.{no_load}
use Rattle.kn_scaling.specs.Worked.{decided_at, scaled}
use Rattle.kn_trace.specs.Trace.{Trace, entry, direct_turn}
use Rattle.kn_trace.specs.Events.{need_of, trace_of}
use Rattle.kn_trace.specs.Report.{last_line, totals}
use Rattle.kn_trace.specs.Worked.{at, slots}

-- ---- room

-- at a pod of one seat request 0 runs; 1 is held, and the breaker is full
abbrev pub one_held : Trace
one_held = trace_of (fixed_spec 1 1 300 (slots 1 1)) 0 (at 0 (act.Ready 0) ∷ at 1 (act.Arrive 10) ∷ at 2 (act.Arrive 11) ∷ [])

-- in serve mode request 0 runs at a pod of one seat; 1 is queued there
abbrev pub one_queued : Trace
one_queued =
    trace_of (record (scaled 1) { burst = Capacity (milli 0) }) 0
    (at 0 (act.Ready 0) ∷ at 1000 act.Tick ∷ at 1100 (act.Arrive 10) ∷ at 1100 (act.Arrive 11) ∷ [])

-- an arrival needs a row and a later end, whether it is refused or taken in
abbrev pub RoomOfArrivals : Type 0
RoomOfArrivals = map (λ (c : Trace). need_of c (act.Arrive 12)) (one_held ∷ one_queued ∷ [] ∷ []) ≡ 2 ∷ 2 ∷ 2 ∷ []

-- the end of a request that lives needs none: a running one that finishes, a waiting one that is given up
abbrev pub RoomOfEnds : Type 0
RoomOfEnds =
    map (need_of one_held) (act.Finish 0 true ∷ act.Finish 0 false ∷ act.Cancel 1 ∷ []) ≡ 0 ∷ 0 ∷ 0 ∷ []

abbrev pub RoomOfQueuedEnds : Type 0
RoomOfQueuedEnds =
    map (need_of one_queued) (act.Finish 0 true ∷ act.Finish 0 false ∷ act.Cancel 1 ∷ []) ≡ 0 ∷ 0 ∷ 0 ∷ []

-- each other act needs its row: also a finish of who waits or isn't there, and a cancel of who runs or isn't there
abbrev pub RoomOfOthers : Type 0
RoomOfOthers =
    map (need_of one_held)
    (act.Finish 1 true ∷ act.Finish 2 true ∷ act.Cancel 0 ∷ act.Cancel 2 ∷ act.Pass ∷ act.Tick ∷ act.Ready 0 ∷ act.Ready 9
    ∷ act.Limit 0 1 ∷ act.Limit 9 1 ∷ act.Lost 0 ∷ act.Lost 9 ∷ [])
    ≡ 1 ∷ 1 ∷ 1 ∷ 1 ∷ 1 ∷ 1 ∷ 1 ∷ 1 ∷ 1 ∷ 1 ∷ 1 ∷ 1 ∷ []

abbrev pub RoomOfQueuedOthers : Type 0
RoomOfQueuedOthers = map (need_of one_queued) (act.Finish 1 true ∷ act.Cancel 0 ∷ []) ≡ 1 ∷ 1 ∷ []

-- ---- turns

-- of single rows only those take a turn that send a request to a pod, or refuse it there; an overload takes none
abbrev pub TurnsOfRows : Type 0
TurnsOfRows =
    map (λ x. direct_turn (entry 0 x ∷ []))
    (row.Overload 0 ∷ row.QueueFull 0 None ∷ row.Admit 0 4 ∷ row.Assign 0 4 ∷ row.Run 0 ∷ row.Direct 0 4 ∷ row.QueueFull 0 (Some 4) ∷ [])
    ≡ 0 ∷ 0 ∷ 0 ∷ 0 ∷ 0 ∷ 1 ∷ 1 ∷ []

-- ---- the last line

-- so many entries with this row
abbrev pub times : ℕ → Row → Trace
times n x = map (λ i. entry 0 x) (range_with_len 0 n)

abbrev pub some_decision : Row
some_decision = row.Decided (decided_at 0 0 no_load no_load 0).decision

-- one admitted request, two direct ones, and so on in the order of the last line
abbrev pub each_kind : Trace
each_kind =
    times 1 (row.Admit 0 0) ++ times 2 (row.Direct 0 0) ++ times 3 (row.Assign 0 0) ++ times 4 (row.Finish 0 true)
    ++ times 5 (row.Finish 0 false) ++ times 6 (row.Expire 0) ++ times 7 (row.Cancel 0) ++ times 4 (row.QueueFull 0 None)
    ++ times 4 (row.QueueFull 0 (Some 0)) ++ times 9 (row.Overload 0) ++ times 10 some_decision ++ times 11 (row.LostRequest 0)

-- rows that the last line doesn't count
abbrev pub no_kind : Trace
no_kind =
    entry 0 (row.Run 0) ∷ entry 0 (row.Create 0 0) ∷ entry 0 (row.Ready 0) ∷ entry 0 (row.Limit 0 0) ∷ entry 0 (row.Drain 0)
    ∷ entry 0 (row.Remove 0) ∷ entry 0 (row.LostPod 0) ∷ entry 0 row.NoData ∷ entry 0 (row.Phase phase.Active)
    ∷ entry 0 (row.Mode mode.Serve) ∷ entry 0 (row.NotRunning 0) ∷ entry 0 (row.NotWaiting 0) ∷ entry 0 (row.NotStarting 0)
    ∷ entry 0 (row.NoPod 0) ∷ []

abbrev pub CountsEachKind : Type 0
CountsEachKind =
    map (λ (c : Trace). last_line 2 99 (totals c)) (each_kind ∷ no_kind ∷ [])
    ≡ codes "end events=99 admitted=1 direct=2 assigned=3 finished=4 failed=5 expired=6 cancelled=7 queue-full=8 overload=9 decisions=10 lost=11\n"
    ∷ codes "end events=99 admitted=0 direct=0 assigned=0 finished=0 failed=0 expired=0 cancelled=0 queue-full=0 overload=0 decisions=0 lost=0\n"
    ∷ []

-- the lost requests stand there in a journal of version 2 alone
abbrev pub CountsNoLost : Type 0
CountsNoLost =
    last_line 1 99 (totals each_kind)
    ≡ codes "end events=99 admitted=1 direct=2 assigned=3 finished=4 failed=5 expired=6 cancelled=7 queue-full=8 overload=9 decisions=10\n"

-- What some entries say: views of two short traces, which are given entry by entry.
use Rattle.std.specs.Prelude.{◌≡◌, ℕ, [], ◌∷◌, ◌++◌, map, length, true, false, None, Some}
use Rattle.kn_event.specs.declared.entry.Row.TheVariants as row
use Rattle.kn_event.specs.declared.event.Stand.TheVariants as stand
use Rattle.kn_event.specs.declared.revision.Spec.{Spec}
use Rattle.kn_event.specs.FixedSpec.{fixed_spec}
use Rattle.kn_event.specs.Lists.{contains}
use Rattle.kn_trace.specs.Trace.{Trace, entry, arrivals, at_pod, created, has_free_seat, held, in_breaker, is_draining, is_starting, limit_of, live, pod_of, queued_at, ready_pods, running_at, stand_of, waiting}
use Rattle.kn_trace.specs.Capacity.{breaker_full, capacity, in_use, pod_full}
use Rattle.kn_trace.specs.Load.{end_of, load_in}
use Rattle.kn_trace.specs.Worked.{slots}

-- ---- one seat: the first request runs, and the second waits; then the third is refused, the first ends, and the second runs

abbrev pub one_seat : Spec
one_seat = fixed_spec 1 1 300 (slots 1 1)

abbrev pub one_waits : Trace
one_waits =
    entry 0 (row.Create 0 1) ∷ entry 0 (row.Ready 0) ∷ entry 1 (row.Admit 0 10) ∷ entry 1 (row.Assign 0 0)
    ∷ entry 2 (row.Admit 1 11) ∷ []

abbrev pub none_waits : Trace
none_waits = one_waits ++ entry 3 (row.QueueFull 2 None) ∷ entry 4 (row.Finish 0 true) ∷ entry 4 (row.Assign 1 0) ∷ []

abbrev pub FullWhileOneWaits : Type 0
FullWhileOneWaits = map (breaker_full one_seat) (one_waits ∷ none_waits ∷ []) ≡ true ∷ false ∷ []

abbrev pub OneSeatInUse : Type 0
OneSeatInUse = capacity one_seat one_waits ∷ in_use one_waits ∷ [] ≡ 1 ∷ 1 ∷ []

abbrev pub TwoLiveOneHeld : Type 0
TwoLiveOneHeld = map length (live one_waits ∷ held one_waits ∷ in_breaker one_waits ∷ []) ≡ 2 ∷ 1 ∷ 2 ∷ []

abbrev pub StandsWhileOneWaits : Type 0
StandsWhileOneWaits = map (stand_of one_waits) (0 ∷ 1 ∷ 2 ∷ []) ≡ stand.Running 0 ∷ stand.Held ∷ stand.Unknown ∷ []

abbrev pub RefusedStandsEnded : Type 0
RefusedStandsEnded = stand_of none_waits 2 ≡ stand.Ended

abbrev pub ThreeArrived : Type 0
ThreeArrived = arrivals none_waits ≡ 3

abbrev pub SecondAtItsPod : Type 0
SecondAtItsPod = pod_of none_waits 1 ≡ Some 0

abbrev pub FirstEndedAt4 : Type 0
FirstEndedAt4 = end_of none_waits 0 ≡ Some 4

-- 3 ms of the first request, and 998 of the second
abbrev pub LoadOfBoth : Type 0
LoadOfBoth = load_in none_waits 0 ≡ 1001

-- ---- a pod of limit 1 runs one of two requests that were sent to it, and then drains; another pod is starting

abbrev pub one_queues : Trace
one_queues =
    entry 0 (row.Create 0 1) ∷ entry 0 (row.Create 1 2) ∷ entry 0 (row.Ready 0) ∷ entry 1100 (row.Direct 0 0)
    ∷ entry 1100 (row.Run 0) ∷ entry 1100 (row.Direct 1 0) ∷ []

abbrev pub one_drains : Trace
one_drains = one_queues ++ entry 2000 (row.Drain 0) ∷ []

abbrev pub TwoAtPodOneRuns : Type 0
TwoAtPodOneRuns = map length (at_pod one_queues 0 ∷ running_at one_queues 0 ∷ queued_at one_queues 0 ∷ []) ≡ 2 ∷ 1 ∷ 1 ∷ []

abbrev pub ReadyUntilDrained : Type 0
ReadyUntilDrained = map (λ (c : Trace). length (ready_pods c)) (one_queues ∷ one_drains ∷ []) ≡ 1 ∷ 0 ∷ []

abbrev pub LimitsOfTwoPods : Type 0
LimitsOfTwoPods = map (limit_of one_queues) (0 ∷ 1 ∷ []) ≡ 1 ∷ 2 ∷ []

abbrev pub NoSeatAndNotFull : Type 0
NoSeatAndNotFull = has_free_seat one_queues 0 ∷ pod_full one_queues 0 ∷ [] ≡ false ∷ false ∷ []

abbrev pub QueuedOneWaits : Type 0
QueuedOneWaits = map (λ (r : ℕ). contains r (waiting one_queues)) (0 ∷ 1 ∷ []) ≡ false ∷ true ∷ []

abbrev pub OneDrainsOneStarts : Type 0
OneDrainsOneStarts = is_draining one_drains 0 ∷ is_starting one_drains 1 ∷ [] ≡ true ∷ true ∷ []

abbrev pub TwoCreated : Type 0
TwoCreated = created one_drains ≡ 2

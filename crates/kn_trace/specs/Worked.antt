-- Worked runs: a setup, its events, and the lines of the report that they make.
use Rattle.std.specs.Prelude.{◌≡◌, ◌≤◌, ℕ, List, [], ◌∷◌, length, map, Some, true, false, codes, ⊤}
use Rattle.std.specs.Fmt.{digits}
use Rattle.rand_core.specs.Steps.{u32_at, word_bytes}
use Rattle.rand_core.specs.Pcg32Seed.{pcg32_seed}
use Rattle.kn_event.specs.declared.entry.Mode.TheVariants as mode
use Rattle.kn_event.specs.declared.entry.Row.TheVariants as row
use Rattle.kn_event.specs.declared.event.Act.{Act}
use Rattle.kn_event.specs.declared.event.Act.TheVariants as act
use Rattle.kn_event.specs.declared.event.Event.{Event}
use Rattle.kn_event.specs.declared.revision.Burst.TheVariants.{Capacity}
use Rattle.kn_event.specs.declared.revision.Slots.{Slots}
use Rattle.kn_event.specs.declared.revision.Spec.{Spec}
use Rattle.kn_event.specs.Defaults.{milli}
use Rattle.kn_event.specs.EntryLine.{labelled, with_number, with_numbers, averages_text, demand_text, scale_text, effect_text, decision_text, row_text, entry_text}
use Rattle.kn_event.specs.FixedSpec.{fixed_spec}
use Rattle.kn_event.specs.EventLine.{event_at}
use Rattle.kn_scaling.specs.Average.{is_any_sample, is_spell_start, first_write, window_sum, last_sample, window_average}
use Rattle.kn_scaling.specs.Demand.{pods_for, max_scale_up, max_scale_down, count_for, is_over, desired_counts}
use Rattle.kn_scaling.specs.Panic.{is_panicking, panicking_run, greatest_of_run, undelayed_count}
use Rattle.kn_scaling.specs.Delay.{recent_count, delayed_count}
use Rattle.kn_scaling.specs.Burst.{spare_seats, excess_burst, serving_mode}
use Rattle.kn_scaling.specs.Zero.{lower_bound, bounded_count, may_go, zero_rule}
use Rattle.kn_scaling.specs.Decide as scaling
use Rattle.kn_scaling.specs.Decide.{ruling}
use Rattle.kn_scaling.specs.Worked.{scaled}
use Rattle.kn_trace.specs.Trace.{Trace, arrivals, ended, assigned, has_run, live, in_breaker, is_held, held, at_pod, has_begun, is_running, running_at, has_not_begun, queued_at, waiting, direct_turn, pod_of, stand_of, created, is_live_pod, live_pods, is_starting, starting_pods, is_ready, ready_pods, is_draining, draining, limit_of, has_free_seat}
use Rattle.kn_trace.specs.Capacity.{capacity, in_use, breaker_full, pod_full}
use Rattle.kn_trace.specs.Choice.{first_available, round_robin, choice_of_two, generator_at, random_word, random_choice, chosen_pod, candidates, round_robin_place, assignment_count, choice}
use Rattle.kn_trace.specs.Settling.{promotions_at, promotions, next_choice, assignments_of, held_assignments, removals, settling}
use Rattle.kn_trace.specs.Load.{count_in, end_of, spans, load_in, samples}
use Rattle.kn_trace.specs.Scale.{phase_of, phase_since, mode_of, mode_since, wanted, count_ready, initial_reached, standing_of, past_of, drain_order, scale_rows, decision_rows, decision_at, wake_decision_at, tick_rows, wake_rows}
use Rattle.kn_trace.specs.Report.{totals, taken_text, ended_text, refused_text, last_line}
use Rattle.kn_trace.specs.Events.{due, expiries, lost_with, losses, departures, act_row, act_rows, activation, before_settling, react, told_of, opening, added, trace_of, tolds}

abbrev pub slots : ℕ → ℕ → Slots
slots depth most = record { depth = depth; max = most; seed = 0 }

-- in rows: an event at a time
abbrev pub at : ℕ → Act → Event
at time a = event_at time a

-- the trace of these events makes just these lines
abbrev pub Reports : Spec → ℕ → List Event → List (List ℕ) → Type 0
Reports s start events lines = map entry_text (trace_of s start events) ≡ lines

-- a proof that names this on its `unfolding` line computes a whole run
unfoldable pub whole_run : Type 0
unfolding digits u32_at word_bytes pcg32_seed labelled with_number with_numbers averages_text demand_text scale_text effect_text decision_text row_text entry_text fixed_spec is_any_sample is_spell_start first_write window_sum last_sample window_average pods_for max_scale_up max_scale_down count_for is_over desired_counts is_panicking panicking_run greatest_of_run undelayed_count recent_count delayed_count spare_seats excess_burst serving_mode lower_bound bounded_count may_go zero_rule ruling scaling.decision_at scaling.wake_decision_at arrivals ended assigned has_run live in_breaker is_held held at_pod has_begun is_running running_at has_not_begun queued_at waiting direct_turn pod_of stand_of created is_live_pod live_pods is_starting starting_pods is_ready ready_pods is_draining draining limit_of has_free_seat capacity in_use breaker_full pod_full first_available round_robin choice_of_two generator_at random_choice chosen_pod candidates round_robin_place assignment_count choice promotions_at promotions next_choice assignments_of held_assignments removals settling end_of spans load_in count_in samples phase_of phase_since mode_of mode_since wanted count_ready initial_reached standing_of past_of drain_order scale_rows decision_rows decision_at wake_decision_at tick_rows wake_rows due expiries lost_with losses departures act_row act_rows activation before_settling react told_of opening added trace_of tolds totals taken_text ended_text refused_text last_line
whole_run = ⊤

-- no pod and no event
abbrev pub EmptyJournal : Type 0
EmptyJournal =
    Reports (fixed_spec 1 0 300 (slots 1 1)) 0
    ([])
    ([])

-- one seat: the second request waits for it, the third is refused
abbrev pub OneSeatOneWaits : Type 0
OneSeatOneWaits =
    Reports (fixed_spec 1 1 300 (slots 1 1)) 0
    (at 0 (act.Ready 0) ∷ at 1 (act.Arrive 10) ∷ at 2 (act.Arrive 11) ∷ at 3 (act.Arrive 12)
    ∷ at 4 (act.Finish 0 true) ∷ [])
    (codes "0 create 0 1\n"
    ∷ codes "0 ready 0\n"
    ∷ codes "1 admit 0 10\n"
    ∷ codes "1 assign 0 0\n"
    ∷ codes "2 admit 1 11\n"
    ∷ codes "3 queue-full 2 -\n"
    ∷ codes "4 finish 0 ok\n"
    ∷ codes "4 assign 1 0\n"
    ∷ [])

-- a request that has ended is not running
abbrev pub FinishTwice : Type 0
FinishTwice =
    Reports (fixed_spec 1 1 300 (slots 1 1)) 0
    (at 0 (act.Ready 0) ∷ at 1 (act.Arrive 10) ∷ at 2 (act.Arrive 11) ∷ at 3 (act.Arrive 12)
    ∷ at 4 (act.Finish 0 true) ∷ at 5 (act.Finish 0 true) ∷ [])
    (codes "0 create 0 1\n"
    ∷ codes "0 ready 0\n"
    ∷ codes "1 admit 0 10\n"
    ∷ codes "1 assign 0 0\n"
    ∷ codes "2 admit 1 11\n"
    ∷ codes "3 queue-full 2 -\n"
    ∷ codes "4 finish 0 ok\n"
    ∷ codes "4 assign 1 0\n"
    ∷ codes "5 not-running 0\n"
    ∷ [])

-- a held request is given up, and cannot finish then
abbrev pub CancelThenFinish : Type 0
CancelThenFinish =
    Reports (fixed_spec 1 1 300 (slots 1 1)) 0
    (at 0 (act.Ready 0) ∷ at 1 (act.Arrive 10) ∷ at 2 (act.Arrive 11) ∷ at 3 (act.Arrive 12) ∷ at 4 (act.Cancel 1)
    ∷ at 5 (act.Finish 1 true) ∷ [])
    (codes "0 create 0 1\n"
    ∷ codes "0 ready 0\n"
    ∷ codes "1 admit 0 10\n"
    ∷ codes "1 assign 0 0\n"
    ∷ codes "2 admit 1 11\n"
    ∷ codes "3 queue-full 2 -\n"
    ∷ codes "4 cancel 1\n"
    ∷ codes "5 not-running 1\n"
    ∷ [])

-- a reduced limit stops nobody, and the next request waits until it leaves room
abbrev pub LimitCutWhileBusy : Type 0
LimitCutWhileBusy =
    Reports (fixed_spec 3 1 300 (slots 1 3)) 0
    (at 0 (act.Ready 0) ∷ at 1 (act.Arrive 0) ∷ at 1 (act.Arrive 1) ∷ at 1 (act.Arrive 2) ∷ at 1 (act.Arrive 3)
    ∷ at 2 (act.Limit 0 1) ∷ at 3 (act.Finish 0 true) ∷ at 4 (act.Finish 1 true) ∷ at 5 (act.Finish 2 true) ∷ [])
    (codes "0 create 0 3\n"
    ∷ codes "0 ready 0\n"
    ∷ codes "1 admit 0 0\n"
    ∷ codes "1 assign 0 0\n"
    ∷ codes "1 admit 1 1\n"
    ∷ codes "1 assign 1 0\n"
    ∷ codes "1 admit 2 2\n"
    ∷ codes "1 assign 2 0\n"
    ∷ codes "1 admit 3 3\n"
    ∷ codes "2 limit 0 1\n"
    ∷ codes "3 finish 0 ok\n"
    ∷ codes "4 finish 1 ok\n"
    ∷ codes "5 finish 2 ok\n"
    ∷ codes "5 assign 3 0\n"
    ∷ [])

-- who waited too long goes before a seat is freed
abbrev pub ExpiryBeforeFinish : Type 0
ExpiryBeforeFinish =
    Reports (fixed_spec 1 1 1 (slots 2 1)) 0
    (at 0 (act.Ready 0) ∷ at 0 (act.Arrive 1) ∷ at 100 (act.Arrive 2) ∷ at 200 (act.Arrive 3)
    ∷ at 1100 (act.Finish 0 true) ∷ [])
    (codes "0 create 0 1\n"
    ∷ codes "0 ready 0\n"
    ∷ codes "0 admit 0 1\n"
    ∷ codes "0 assign 0 0\n"
    ∷ codes "100 admit 1 2\n"
    ∷ codes "200 admit 2 3\n"
    ∷ codes "1100 expire 1\n"
    ∷ codes "1100 finish 0 ok\n"
    ∷ codes "1100 assign 2 0\n"
    ∷ [])

-- round robin goes on from its place when a pod comes
abbrev pub RoundRobinPodComesLate : Type 0
RoundRobinPodComesLate =
    Reports (fixed_spec 4 2 300 (slots 5 9)) 0
    (at 0 (act.Ready 0) ∷ at 1 (act.Arrive 0) ∷ at 2 (act.Ready 1) ∷ at 3 (act.Arrive 1) ∷ at 3 (act.Arrive 2) ∷ [])
    (codes "0 create 0 4\n"
    ∷ codes "0 create 1 4\n"
    ∷ codes "0 ready 0\n"
    ∷ codes "1 admit 0 0\n"
    ∷ codes "1 assign 0 0\n"
    ∷ codes "2 ready 1\n"
    ∷ codes "3 admit 1 1\n"
    ∷ codes "3 assign 1 1\n"
    ∷ codes "3 admit 2 2\n"
    ∷ codes "3 assign 2 0\n"
    ∷ [])

-- a pod takes eleven requests for its one seat, past the activator
abbrev pub PodQueueFull : Type 0
PodQueueFull =
    Reports (record (scaled 1) { burst = Capacity (milli 0) }) 0
    (at 0 (act.Ready 0) ∷ at 1000 act.Tick ∷ at 1100 (act.Arrive 1) ∷ at 1100 (act.Arrive 2) ∷ at 1100 (act.Arrive 3)
    ∷ at 1100 (act.Arrive 4) ∷ at 1100 (act.Arrive 5) ∷ at 1100 (act.Arrive 6) ∷ at 1100 (act.Arrive 7)
    ∷ at 1100 (act.Arrive 8) ∷ at 1100 (act.Arrive 9) ∷ at 1100 (act.Arrive 10) ∷ at 1100 (act.Arrive 11)
    ∷ at 1100 (act.Arrive 12) ∷ [])
    (codes "0 phase activating\n"
    ∷ codes "0 create 0 1\n"
    ∷ codes "0 ready 0\n"
    ∷ codes "0 phase active\n"
    ∷ codes "1000 decision stable=0/1000 panic=0/1000 ready=1 dspc=0 dppc=0 over=no panicking=no undelayed=0 delayed=0 excess=0 bounded=0 want=1 applied=yes mode=serve\n"
    ∷ codes "1000 mode serve\n"
    ∷ codes "1100 direct 0 0\n"
    ∷ codes "1100 run 0\n"
    ∷ codes "1100 direct 1 0\n"
    ∷ codes "1100 direct 2 0\n"
    ∷ codes "1100 direct 3 0\n"
    ∷ codes "1100 direct 4 0\n"
    ∷ codes "1100 direct 5 0\n"
    ∷ codes "1100 direct 6 0\n"
    ∷ codes "1100 direct 7 0\n"
    ∷ codes "1100 direct 8 0\n"
    ∷ codes "1100 direct 9 0\n"
    ∷ codes "1100 direct 10 0\n"
    ∷ codes "1100 queue-full 11 0\n"
    ∷ [])

-- one that is held doesn't run; both that find a seat when the pod is ready are assigned at once, in the order of arrival
abbrev pub HeldUntilReady : Type 0
HeldUntilReady =
    Reports (fixed_spec 2 1 300 (slots 2 2)) 0
    (at 0 (act.Arrive 1) ∷ at 0 (act.Arrive 2) ∷ at 0 (act.Arrive 3) ∷ at 1 (act.Finish 0 true) ∷ at 2 (act.Ready 0)
    ∷ at 3 (act.Finish 2 true) ∷ [])
    (codes "0 create 0 2\n"
    ∷ codes "0 admit 0 1\n"
    ∷ codes "0 admit 1 2\n"
    ∷ codes "0 admit 2 3\n"
    ∷ codes "1 not-running 0\n"
    ∷ codes "2 ready 0\n"
    ∷ codes "2 assign 0 0\n"
    ∷ codes "2 assign 1 0\n"
    ∷ codes "3 not-running 2\n"
    ∷ [])

-- one that is queued at a pod doesn't run; a greater limit lets two of them run at once, in order
abbrev pub QueuedUntilFree : Type 0
QueuedUntilFree =
    Reports (record (scaled 1) { burst = Capacity (milli 0) }) 0
    (at 0 (act.Ready 0) ∷ at 1000 act.Tick ∷ at 1100 (act.Arrive 1) ∷ at 1100 (act.Arrive 2) ∷ at 1100 (act.Arrive 3)
    ∷ at 1100 (act.Arrive 4) ∷ at 1200 (act.Finish 2 true) ∷ at 1300 (act.Limit 0 3) ∷ at 1400 (act.Cancel 2)
    ∷ at 1500 (act.Cancel 3) ∷ at 1600 (act.Finish 2 false) ∷ [])
    (codes "0 phase activating\n"
    ∷ codes "0 create 0 1\n"
    ∷ codes "0 ready 0\n"
    ∷ codes "0 phase active\n"
    ∷ codes "1000 decision stable=0/1000 panic=0/1000 ready=1 dspc=0 dppc=0 over=no panicking=no undelayed=0 delayed=0 excess=0 bounded=0 want=1 applied=yes mode=serve\n"
    ∷ codes "1000 mode serve\n"
    ∷ codes "1100 direct 0 0\n"
    ∷ codes "1100 run 0\n"
    ∷ codes "1100 direct 1 0\n"
    ∷ codes "1100 direct 2 0\n"
    ∷ codes "1100 direct 3 0\n"
    ∷ codes "1200 not-running 2\n"
    ∷ codes "1300 limit 0 3\n"
    ∷ codes "1300 run 1\n"
    ∷ codes "1300 run 2\n"
    ∷ codes "1400 not-waiting 2\n"
    ∷ codes "1500 cancel 3\n"
    ∷ codes "1600 finish 2 fail\n"
    ∷ [])

-- a busy pod drains first, and goes when it is empty; an assignment comes before that
abbrev pub ScaleDownWhileBusy : Type 0
ScaleDownWhileBusy =
    Reports (record (scaled 1) { initial = 2; max = 1 }) 0
    (at 0 (act.Ready 0) ∷ at 0 (act.Ready 1) ∷ at 100 (act.Arrive 1) ∷ at 100 (act.Arrive 2) ∷ at 100 (act.Arrive 3)
    ∷ at 1000 act.Tick ∷ at 1100 (act.Finish 0 true) ∷ at 1200 (act.Finish 1 true) ∷ [])
    (codes "0 phase activating\n"
    ∷ codes "0 create 0 1\n"
    ∷ codes "0 create 1 1\n"
    ∷ codes "0 ready 0\n"
    ∷ codes "0 phase active\n"
    ∷ codes "0 ready 1\n"
    ∷ codes "100 admit 0 1\n"
    ∷ codes "100 assign 0 0\n"
    ∷ codes "100 admit 1 2\n"
    ∷ codes "100 assign 1 1\n"
    ∷ codes "100 admit 2 3\n"
    ∷ codes "1000 decision stable=2700/1000 panic=2700/1000 ready=2 dspc=4 dppc=4 over=yes panicking=yes undelayed=4 delayed=4 excess=-212 bounded=1 want=1 applied=yes mode=proxy\n"
    ∷ codes "1000 drain 1\n"
    ∷ codes "1100 finish 0 ok\n"
    ∷ codes "1200 finish 1 ok\n"
    ∷ codes "1200 assign 2 0\n"
    ∷ codes "1200 remove 1\n"
    ∷ [])

-- a revision without load is inactive after its window, and its pod goes after the grace period
abbrev pub ScaleToZeroAfterGrace : Type 0
ScaleToZeroAfterGrace =
    Reports (record (scaled 1) { burst = Capacity (milli 0); stable_s = 6; panic_s = 1 }) 0
    (at 1000 (act.Ready 0) ∷ at 2000 act.Tick ∷ at 8000 act.Tick ∷ at 37999 act.Tick ∷ at 38000 act.Tick ∷ [])
    (codes "0 phase activating\n"
    ∷ codes "0 create 0 1\n"
    ∷ codes "1000 ready 0\n"
    ∷ codes "1000 phase active\n"
    ∷ codes "2000 decision stable=0/1000 panic=0/1000 ready=1 dspc=0 dppc=0 over=no panicking=no undelayed=0 delayed=0 excess=0 bounded=0 want=1 applied=yes mode=serve\n"
    ∷ codes "2000 mode serve\n"
    ∷ codes "8000 decision stable=0/6000 panic=0/1000 ready=1 dspc=0 dppc=0 over=no panicking=no undelayed=0 delayed=0 excess=0 bounded=0 want=0 applied=no mode=proxy\n"
    ∷ codes "8000 phase inactive\n"
    ∷ codes "8000 mode proxy\n"
    ∷ codes "37999 decision stable=0/6000 panic=0/1000 ready=1 dspc=0 dppc=0 over=no panicking=no undelayed=0 delayed=0 excess=0 bounded=0 want=0 applied=no mode=proxy\n"
    ∷ codes "38000 decision stable=0/6000 panic=0/1000 ready=1 dspc=0 dppc=0 over=no panicking=no undelayed=0 delayed=0 excess=0 bounded=0 want=0 applied=yes mode=proxy\n"
    ∷ codes "38000 drain 0\n"
    ∷ codes "38000 remove 0\n"
    ∷ [])

-- an arrival wakes a revision without pods
abbrev pub ScaleFromZero : Type 0
ScaleFromZero =
    Reports (record (scaled 1) { initial = 0 }) 0
    (at 500 (act.Arrive 9) ∷ [])
    (codes "0 phase inactive\n"
    ∷ codes "500 admit 0 9\n"
    ∷ codes "500 decision stable=1/1 panic=1/1 ready=0 dspc=2 dppc=2 over=yes panicking=yes undelayed=2 delayed=2 excess=-212 bounded=2 want=2 applied=yes mode=proxy\n"
    ∷ codes "500 phase activating\n"
    ∷ codes "500 create 0 1\n"
    ∷ codes "500 create 1 1\n"
    ∷ [])

-- and gets no more pods than max-scale
abbrev pub ScaleFromZeroMax1 : Type 0
ScaleFromZeroMax1 =
    Reports (record (scaled 1) { initial = 0; max = 1 }) 0
    (at 500 (act.Arrive 9) ∷ [])
    (codes "0 phase inactive\n"
    ∷ codes "500 admit 0 9\n"
    ∷ codes "500 decision stable=1/1 panic=1/1 ready=0 dspc=2 dppc=2 over=yes panicking=yes undelayed=2 delayed=2 excess=-212 bounded=1 want=1 applied=yes mode=proxy\n"
    ∷ codes "500 phase activating\n"
    ∷ codes "500 create 0 1\n"
    ∷ [])

-- an average over a window in a pause of 10^9 seconds
abbrev pub VeryLongPause : Type 0
VeryLongPause =
    Reports (scaled 0) 0
    (at 0 (act.Ready 0) ∷ at 5000 (act.Arrive 1) ∷ at 1000000000000 act.Tick ∷ [])
    (codes "0 phase activating\n"
    ∷ codes "0 create 0 0\n"
    ∷ codes "0 ready 0\n"
    ∷ codes "0 phase active\n"
    ∷ codes "5000 admit 0 1\n"
    ∷ codes "5000 assign 0 0\n"
    ∷ codes "1000000000000 decision stable=60000/60000 panic=6000/6000 ready=1 dspc=1 dppc=1 over=no panicking=no undelayed=1 delayed=1 excess=-112 bounded=1 want=1 applied=yes mode=proxy\n"
    ∷ [])

-- a draining pod runs what is queued at it, and an expiry empties none
abbrev pub DrainingPodRunsItsQueue : Type 0
DrainingPodRunsItsQueue =
    Reports (record (scaled 1) { burst = Capacity (milli 0); initial = 4; timeout_ms = 3000 }) 0
    (at 0 (act.Ready 0) ∷ at 0 (act.Ready 1) ∷ at 0 (act.Ready 2) ∷ at 1000 act.Tick ∷ at 59990 (act.Arrive 0)
    ∷ at 59990 (act.Arrive 1) ∷ at 59990 (act.Arrive 2) ∷ at 59990 (act.Arrive 3) ∷ at 59990 (act.Arrive 4)
    ∷ at 59990 (act.Arrive 5) ∷ at 59995 (act.Ready 3) ∷ at 60000 act.Tick ∷ at 60001 (act.Ready 2)
    ∷ at 60100 (act.Finish 2 true) ∷ at 60200 (act.Limit 2 0) ∷ at 60300 (act.Finish 5 true) ∷ at 63000 act.Pass
    ∷ at 63010 (act.Finish 0 true) ∷ [])
    (codes "0 phase activating\n"
    ∷ codes "0 create 0 1\n"
    ∷ codes "0 create 1 1\n"
    ∷ codes "0 create 2 1\n"
    ∷ codes "0 create 3 1\n"
    ∷ codes "0 ready 0\n"
    ∷ codes "0 phase active\n"
    ∷ codes "0 ready 1\n"
    ∷ codes "0 ready 2\n"
    ∷ codes "1000 decision stable=0/1000 panic=0/1000 ready=3 dspc=0 dppc=0 over=no panicking=no undelayed=1 delayed=1 excess=0 bounded=4 want=4 applied=yes mode=serve\n"
    ∷ codes "1000 mode serve\n"
    ∷ codes "59990 direct 0 0\n"
    ∷ codes "59990 run 0\n"
    ∷ codes "59990 direct 1 1\n"
    ∷ codes "59990 run 1\n"
    ∷ codes "59990 direct 2 2\n"
    ∷ codes "59990 run 2\n"
    ∷ codes "59990 direct 3 0\n"
    ∷ codes "59990 direct 4 1\n"
    ∷ codes "59990 direct 5 2\n"
    ∷ codes "59995 ready 3\n"
    ∷ codes "60000 decision stable=60/60000 panic=60/6000 ready=4 dspc=1 dppc=1 over=no panicking=no undelayed=2 delayed=2 excess=0 bounded=2 want=2 applied=yes mode=serve\n"
    ∷ codes "60000 drain 3\n"
    ∷ codes "60000 drain 2\n"
    ∷ codes "60000 remove 3\n"
    ∷ codes "60001 not-starting 2\n"
    ∷ codes "60100 finish 2 ok\n"
    ∷ codes "60100 run 5\n"
    ∷ codes "60200 limit 2 0\n"
    ∷ codes "60300 finish 5 ok\n"
    ∷ codes "60300 remove 2\n"
    ∷ codes "63000 expire 3\n"
    ∷ codes "63000 expire 4\n"
    ∷ codes "63010 finish 0 ok\n"
    ∷ [])

-- a decision on arrival is a whole decision: it drains pods that still stand
abbrev pub WakeDecisionDrains : Type 0
WakeDecisionDrains =
    Reports (record (scaled 1) { stable_s = 6; panic_s = 1 }) 0
    (at 0 (act.Ready 0) ∷ at 100 (act.Arrive 1) ∷ at 100 (act.Arrive 2) ∷ at 100 (act.Arrive 3) ∷ at 1000 act.Tick
    ∷ at 1100 (act.Finish 0 true) ∷ at 1100 (act.Finish 1 true) ∷ at 1100 (act.Finish 2 true) ∷ at 20000 act.Tick
    ∷ at 21000 (act.Arrive 7) ∷ at 21000 act.Tick ∷ [])
    (codes "0 phase activating\n"
    ∷ codes "0 create 0 1\n"
    ∷ codes "0 ready 0\n"
    ∷ codes "0 phase active\n"
    ∷ codes "100 admit 0 1\n"
    ∷ codes "100 assign 0 0\n"
    ∷ codes "100 admit 1 2\n"
    ∷ codes "100 admit 2 3\n"
    ∷ codes "1000 decision stable=2700/1000 panic=2700/1000 ready=1 dspc=4 dppc=4 over=yes panicking=yes undelayed=4 delayed=4 excess=-213 bounded=4 want=4 applied=yes mode=proxy\n"
    ∷ codes "1000 create 1 1\n"
    ∷ codes "1000 create 2 1\n"
    ∷ codes "1000 create 3 1\n"
    ∷ codes "1100 finish 0 ok\n"
    ∷ codes "1100 assign 1 0\n"
    ∷ codes "1100 finish 1 ok\n"
    ∷ codes "1100 assign 2 0\n"
    ∷ codes "1100 finish 2 ok\n"
    ∷ codes "20000 decision stable=0/6000 panic=0/1000 ready=1 dspc=0 dppc=0 over=no panicking=no undelayed=0 delayed=0 excess=-210 bounded=0 want=0 applied=no mode=proxy\n"
    ∷ codes "20000 phase inactive\n"
    ∷ codes "21000 admit 3 7\n"
    ∷ codes "21000 decision stable=1/1 panic=1/1 ready=1 dspc=2 dppc=2 over=yes panicking=yes undelayed=2 delayed=2 excess=-211 bounded=2 want=2 applied=yes mode=proxy\n"
    ∷ codes "21000 phase active\n"
    ∷ codes "21000 drain 3\n"
    ∷ codes "21000 drain 2\n"
    ∷ codes "21000 assign 3 0\n"
    ∷ codes "21000 remove 2\n"
    ∷ codes "21000 remove 3\n"
    ∷ codes "21000 decision stable=0/6000 panic=0/1000 ready=1 dspc=0 dppc=0 over=no panicking=yes undelayed=2 delayed=2 excess=-210 bounded=2 want=2 applied=yes mode=proxy\n"
    ∷ [])

-- the initial scale rules over max-scale until it was reached
abbrev pub InitialScaleAboveMax : Type 0
InitialScaleAboveMax =
    Reports (record (scaled 1) { initial = 2; max = 1 }) 0
    (at 0 (act.Ready 0) ∷ at 1000 act.Tick ∷ [])
    (codes "0 phase activating\n"
    ∷ codes "0 create 0 1\n"
    ∷ codes "0 create 1 1\n"
    ∷ codes "0 ready 0\n"
    ∷ codes "0 phase active\n"
    ∷ codes "1000 decision stable=0/1000 panic=0/1000 ready=1 dspc=0 dppc=0 over=no panicking=no undelayed=0 delayed=0 excess=-210 bounded=2 want=2 applied=yes mode=proxy\n"
    ∷ [])

-- a revision that waits for its first pod is reached through the activator, whatever its excess
abbrev pub WakesInProxyMode : Type 0
WakesInProxyMode =
    Reports (record (scaled 1) { initial = 0; burst = Capacity (milli 0) }) 0
    (at 500 (act.Arrive 9) ∷ [])
    (codes "0 phase inactive\n"
    ∷ codes "500 admit 0 9\n"
    ∷ codes "500 decision stable=1/1 panic=1/1 ready=0 dspc=2 dppc=2 over=yes panicking=yes undelayed=2 delayed=2 excess=0 bounded=2 want=2 applied=yes mode=proxy\n"
    ∷ codes "500 phase activating\n"
    ∷ codes "500 create 0 1\n"
    ∷ codes "500 create 1 1\n"
    ∷ [])

-- in proxy mode the grace period counts from the mode, which is as old as the revision
abbrev pub GraceCountsFromTheMode : Type 0
GraceCountsFromTheMode =
    Reports (record (scaled 1) { stable_s = 6; panic_s = 1 }) 0
    (at 1000 (act.Ready 0) ∷ at 8000 act.Tick ∷ at 29999 act.Tick ∷ at 30000 act.Tick ∷ [])
    (codes "0 phase activating\n"
    ∷ codes "0 create 0 1\n"
    ∷ codes "1000 ready 0\n"
    ∷ codes "1000 phase active\n"
    ∷ codes "8000 decision stable=0/6000 panic=0/1000 ready=1 dspc=0 dppc=0 over=no panicking=no undelayed=0 delayed=0 excess=-210 bounded=0 want=0 applied=no mode=proxy\n"
    ∷ codes "8000 phase inactive\n"
    ∷ codes "29999 decision stable=0/6000 panic=0/1000 ready=1 dspc=0 dppc=0 over=no panicking=no undelayed=0 delayed=0 excess=-210 bounded=0 want=0 applied=no mode=proxy\n"
    ∷ codes "30000 decision stable=0/6000 panic=0/1000 ready=1 dspc=0 dppc=0 over=no panicking=no undelayed=0 delayed=0 excess=-210 bounded=0 want=0 applied=yes mode=proxy\n"
    ∷ codes "30000 drain 0\n"
    ∷ codes "30000 remove 0\n"
    ∷ [])

-- while it is activating a revision wants what it wanted; the initial scale was reached once for all
abbrev pub ActivatingKeepsItsScale : Type 0
ActivatingKeepsItsScale =
    Reports (record (scaled 1) { grace_ms = 0; stable_s = 6; panic_s = 1; panic_threshold = milli 1000000 }) 0
    (at 0 (act.Ready 0) ∷ at 6000 act.Tick ∷ at 6001 act.Tick ∷ at 6500 (act.Arrive 1) ∷ at 6500 (act.Cancel 0)
    ∷ at 7000 act.Tick ∷ [])
    (codes "0 phase activating\n"
    ∷ codes "0 create 0 1\n"
    ∷ codes "0 ready 0\n"
    ∷ codes "0 phase active\n"
    ∷ codes "6000 decision stable=0/6000 panic=0/1000 ready=1 dspc=0 dppc=0 over=no panicking=no undelayed=0 delayed=0 excess=-210 bounded=0 want=0 applied=no mode=proxy\n"
    ∷ codes "6000 phase inactive\n"
    ∷ codes "6001 decision stable=0/6000 panic=0/1000 ready=1 dspc=0 dppc=0 over=no panicking=no undelayed=0 delayed=0 excess=-210 bounded=0 want=0 applied=yes mode=proxy\n"
    ∷ codes "6001 drain 0\n"
    ∷ codes "6001 remove 0\n"
    ∷ codes "6500 admit 0 1\n"
    ∷ codes "6500 decision stable=1/1 panic=1/1 ready=0 dspc=2 dppc=2 over=no panicking=no undelayed=2 delayed=2 excess=-212 bounded=2 want=2 applied=yes mode=proxy\n"
    ∷ codes "6500 phase activating\n"
    ∷ codes "6500 create 1 1\n"
    ∷ codes "6500 create 2 1\n"
    ∷ codes "6500 cancel 0\n"
    ∷ codes "7000 decision stable=0/5000 panic=0/1 ready=0 dspc=0 dppc=0 over=no panicking=no undelayed=0 delayed=0 excess=-211 bounded=0 want=2 applied=no mode=proxy\n"
    ∷ [])

-- a pod that gets ready within a second counts at its end
abbrev pub ReadyWithinTheSecond : Type 0
ReadyWithinTheSecond =
    Reports (record (scaled 1) { burst = Capacity (milli 0) }) 0
    (at 500 act.Tick ∷ at 600 (act.Ready 0) ∷ at 1000 act.Tick ∷ [])
    (codes "0 phase activating\n"
    ∷ codes "0 create 0 1\n"
    ∷ codes "500 no-data\n"
    ∷ codes "600 ready 0\n"
    ∷ codes "600 phase active\n"
    ∷ codes "1000 decision stable=0/1000 panic=0/1000 ready=1 dspc=0 dppc=0 over=no panicking=no undelayed=0 delayed=0 excess=0 bounded=0 want=1 applied=yes mode=serve\n"
    ∷ codes "1000 mode serve\n"
    ∷ [])

-- a second with a load is a sample without a ready pod
abbrev pub LoadWithoutAReadyPod : Type 0
LoadWithoutAReadyPod =
    Reports (scaled 1) 0
    (at 100 (act.Arrive 1) ∷ at 1000 act.Tick ∷ [])
    (codes "0 phase activating\n"
    ∷ codes "0 create 0 1\n"
    ∷ codes "100 admit 0 1\n"
    ∷ codes "1000 decision stable=900/1000 panic=900/1000 ready=0 dspc=2 dppc=2 over=yes panicking=yes undelayed=2 delayed=2 excess=-212 bounded=2 want=2 applied=yes mode=proxy\n"
    ∷ codes "1000 create 1 1\n"
    ∷ [])

-- a request that its pod refuses takes a turn; the next goes to the next pod
abbrev pub RefusedTurnsCount : Type 0
RefusedTurnsCount =
    Reports (record (scaled 1) { burst = Capacity (milli 0); min = 2 }) 0
    (at 0 (act.Ready 0) ∷ at 0 (act.Ready 1) ∷ at 1000 act.Tick ∷ at 1100 (act.Arrive 0) ∷ at 1100 (act.Arrive 1)
    ∷ at 1100 (act.Arrive 2) ∷ at 1100 (act.Arrive 3) ∷ at 1100 (act.Arrive 4) ∷ at 1100 (act.Arrive 5)
    ∷ at 1100 (act.Arrive 6) ∷ at 1100 (act.Arrive 7) ∷ at 1100 (act.Arrive 8) ∷ at 1100 (act.Arrive 9)
    ∷ at 1100 (act.Arrive 10) ∷ at 1100 (act.Arrive 11) ∷ at 1100 (act.Arrive 12) ∷ at 1100 (act.Arrive 13)
    ∷ at 1100 (act.Arrive 14) ∷ at 1100 (act.Arrive 15) ∷ at 1100 (act.Arrive 16) ∷ at 1100 (act.Arrive 17)
    ∷ at 1100 (act.Arrive 18) ∷ at 1100 (act.Arrive 19) ∷ at 1100 (act.Arrive 20) ∷ at 1100 (act.Arrive 21)
    ∷ at 1100 (act.Arrive 22) ∷ at 1100 (act.Arrive 23) ∷ [])
    (codes "0 phase activating\n"
    ∷ codes "0 create 0 1\n"
    ∷ codes "0 create 1 1\n"
    ∷ codes "0 ready 0\n"
    ∷ codes "0 phase active\n"
    ∷ codes "0 ready 1\n"
    ∷ codes "1000 decision stable=0/1000 panic=0/1000 ready=2 dspc=0 dppc=0 over=no panicking=no undelayed=1 delayed=1 excess=0 bounded=2 want=2 applied=yes mode=serve\n"
    ∷ codes "1000 mode serve\n"
    ∷ codes "1100 direct 0 0\n"
    ∷ codes "1100 run 0\n"
    ∷ codes "1100 direct 1 1\n"
    ∷ codes "1100 run 1\n"
    ∷ codes "1100 direct 2 0\n"
    ∷ codes "1100 direct 3 1\n"
    ∷ codes "1100 direct 4 0\n"
    ∷ codes "1100 direct 5 1\n"
    ∷ codes "1100 direct 6 0\n"
    ∷ codes "1100 direct 7 1\n"
    ∷ codes "1100 direct 8 0\n"
    ∷ codes "1100 direct 9 1\n"
    ∷ codes "1100 direct 10 0\n"
    ∷ codes "1100 direct 11 1\n"
    ∷ codes "1100 direct 12 0\n"
    ∷ codes "1100 direct 13 1\n"
    ∷ codes "1100 direct 14 0\n"
    ∷ codes "1100 direct 15 1\n"
    ∷ codes "1100 direct 16 0\n"
    ∷ codes "1100 direct 17 1\n"
    ∷ codes "1100 direct 18 0\n"
    ∷ codes "1100 direct 19 1\n"
    ∷ codes "1100 direct 20 0\n"
    ∷ codes "1100 direct 21 1\n"
    ∷ codes "1100 queue-full 22 0\n"
    ∷ codes "1100 queue-full 23 1\n"
    ∷ [])

-- a count above 0 is raised to the activation scale: one request asks for three pods
abbrev pub ActivationScale : Type 0
ActivationScale =
    Reports (record (scaled 1) { activation = 3 }) 0
    (at 0 (act.Ready 0) ∷ at 100 (act.Arrive 1) ∷ at 1000 act.Tick ∷ [])
    (codes "0 phase activating\n"
    ∷ codes "0 create 0 1\n"
    ∷ codes "0 ready 0\n"
    ∷ codes "0 phase active\n"
    ∷ codes "100 admit 0 1\n"
    ∷ codes "100 assign 0 0\n"
    ∷ codes "1000 decision stable=900/1000 panic=900/1000 ready=1 dspc=2 dppc=2 over=yes panicking=yes undelayed=3 delayed=3 excess=-211 bounded=3 want=3 applied=yes mode=proxy\n"
    ∷ codes "1000 create 1 1\n"
    ∷ codes "1000 create 2 1\n"
    ∷ [])

-- without scale to zero one pod stays, and the revision stays active
abbrev pub NoScaleToZero : Type 0
NoScaleToZero =
    Reports (record (scaled 1) { to_zero = false; stable_s = 6; panic_s = 1 }) 0
    (at 0 (act.Ready 0) ∷ at 8000 act.Tick ∷ [])
    (codes "0 phase activating\n"
    ∷ codes "0 create 0 1\n"
    ∷ codes "0 ready 0\n"
    ∷ codes "0 phase active\n"
    ∷ codes "8000 decision stable=0/6000 panic=0/1000 ready=1 dspc=0 dppc=0 over=no panicking=no undelayed=0 delayed=0 excess=-210 bounded=0 want=1 applied=yes mode=proxy\n"
    ∷ [])

-- within the delay the greatest count of before counts, and at its end no more
abbrev pub DelayKeepsPods : Type 0
DelayKeepsPods =
    Reports (record (scaled 1) { delay_s = 10; stable_s = 6; panic_s = 1; panic_threshold = milli 10000000 }) 0
    (at 0 (act.Ready 0) ∷ at 0 (act.Arrive 1) ∷ at 1000 act.Tick ∷ at 1000 (act.Finish 0 true) ∷ at 10999 act.Tick
    ∷ at 11000 act.Tick ∷ [])
    (codes "0 phase activating\n"
    ∷ codes "0 create 0 1\n"
    ∷ codes "0 ready 0\n"
    ∷ codes "0 phase active\n"
    ∷ codes "0 admit 0 1\n"
    ∷ codes "0 assign 0 0\n"
    ∷ codes "1000 decision stable=1000/1000 panic=1000/1000 ready=1 dspc=2 dppc=2 over=no panicking=no undelayed=2 delayed=2 excess=-211 bounded=2 want=2 applied=yes mode=proxy\n"
    ∷ codes "1000 create 1 1\n"
    ∷ codes "1000 finish 0 ok\n"
    ∷ codes "10999 decision stable=0/6000 panic=0/1000 ready=1 dspc=0 dppc=0 over=no panicking=no undelayed=0 delayed=2 excess=-210 bounded=2 want=2 applied=yes mode=proxy\n"
    ∷ codes "11000 decision stable=0/6000 panic=0/1000 ready=1 dspc=0 dppc=0 over=no panicking=no undelayed=0 delayed=0 excess=-210 bounded=0 want=0 applied=no mode=proxy\n"
    ∷ codes "11000 phase inactive\n"
    ∷ [])

-- the first words of two seeds
abbrev pub FirstWords : Type 0
FirstWords = map (random_word 7) (0 ∷ 1 ∷ 2 ∷ 3 ∷ 4 ∷ []) ≡ 2442223337 ∷ 414063806 ∷ 2743600285 ∷ 3524868804 ∷ 2371632060 ∷ []

abbrev pub FirstWordsOfZero : Type 0
FirstWordsOfZero = map (random_word 0) (0 ∷ 1 ∷ []) ≡ 298703107 ∷ 4236525527 ∷ []

-- ---- overload where requests go past the activator: 20,000 live ones are too many to compute a run, so these are its last
-- two steps, of every trace. The crate kn_rows_runs proves the whole run

-- with 20,000 live requests an arrival is refused, in serve mode too and whichever pods are Ready
abbrev pub OverloadComesFirst : Type 0
OverloadComesFirst = (s : Spec) (c : Trace) (tag : ℕ) → 20000 ≤ length (live c) → act_row s c (act.Arrive tag) ≡ Some (row.Overload (arrivals c))

-- with 19,999 it goes in serve mode to the pod in turn, here the only one, which has no limit
abbrev pub OneLessIsServed : Type 0
OneLessIsServed =
    (s : Spec) (c : Trace) (tag p : ℕ) → length (live c) ≡ 19999 → mode_of c ≡ mode.Serve → ready_pods c ≡ p ∷ [] → limit_of c p ≡ 0
    → act_row s c (act.Arrive tag) ≡ Some (row.Direct (arrivals c) p)

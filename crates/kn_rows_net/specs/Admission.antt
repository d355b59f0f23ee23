-- Runs of admission: who is taken in, where, and who waits.
use Rattle.std.specs.Prelude.{[], ◌∷◌, true, false, codes}
use Rattle.kn_event.specs.declared.event.Act.TheVariants as act
use Rattle.kn_event.specs.declared.event.Told.TheVariants as told
use Rattle.kn_event.specs.declared.event.Stand.TheVariants as stand
use Rattle.kn_event.specs.declared.revision.Burst.TheVariants.{Capacity}
use Rattle.kn_event.specs.Defaults.{milli}
use Rattle.kn_event.specs.FixedSpec.{fixed_spec}
use Rattle.kn_scaling.specs.Worked.{scaled}
use Rattle.kn_trace.specs.Worked.{at, slots}
use Rattle.kn_rows_net.specs.Run.{Run, Prints, Ends, Tells, Leaves, decided}

-- held requests whose timeout is just reached end before the act
abbrev pub waits_end_first : Run
waits_end_first = record {
  spec = fixed_spec 3 2 1 (slots 2 9);
  start = 0;
  events = at 0 (act.Limit 1 1) ∷ at 0 (act.Ready 1) ∷ at 0 (act.Arrive 10) ∷ at 0 (act.Arrive 11) ∷ at 1 (act.Arrive 12)
      ∷ at 999 (act.Arrive 13) ∷ at 1000 (act.Finish 9 true) ∷ at 1001 (act.Arrive 14) ∷ at 1001 act.Pass
      ∷ at 1001 (act.Limit 1 3) ∷ at 1001 (act.Cancel 0) ∷ at 1001 (act.Cancel 9) ∷ [];
}

abbrev pub WaitsEndFirstReport : Type 0
WaitsEndFirstReport =
    Prints waits_end_first
    (codes "0 create 0 3\n"
    ∷ codes "0 create 1 3\n"
    ∷ codes "0 limit 1 1\n"
    ∷ codes "0 ready 1\n"
    ∷ codes "0 admit 0 10\n"
    ∷ codes "0 assign 0 1\n"
    ∷ codes "0 admit 1 11\n"
    ∷ codes "1 admit 2 12\n"
    ∷ codes "999 admit 3 13\n"
    ∷ codes "1000 expire 1\n"
    ∷ codes "1000 not-running 9\n"
    ∷ codes "1001 expire 2\n"
    ∷ codes "1001 admit 4 14\n"
    ∷ codes "1001 limit 1 3\n"
    ∷ codes "1001 assign 3 1\n"
    ∷ codes "1001 assign 4 1\n"
    ∷ codes "1001 not-waiting 0\n"
    ∷ codes "1001 not-waiting 9\n" ∷ [])

abbrev pub WaitsEndFirstLastLine : Type 0
WaitsEndFirstLastLine = Ends waits_end_first 1 (codes "end events=12 admitted=5 direct=0 assigned=3 finished=0 failed=0 expired=2 cancelled=0 queue-full=0 overload=0 decisions=0\n")

abbrev pub WaitsEndFirstTold : Type 0
WaitsEndFirstTold =
    Tells waits_end_first
    (told.Passed ∷ told.Passed ∷ told.Run 0 1 ∷ told.Held 1 ∷ told.Held 2 ∷ told.Held 3 ∷ told.NotRunning 9 ∷ told.Held 4
    ∷ told.Passed ∷ told.Passed ∷ told.NotWaiting 0 ∷ told.NotWaiting 9 ∷ [])

abbrev pub WaitsEndFirstStand : Type 0
WaitsEndFirstStand =
    Leaves waits_end_first
    (stand.Running 1 ∷ stand.Ended ∷ stand.Ended ∷ stand.Running 1 ∷ stand.Running 1 ∷ stand.Unknown ∷ [])

-- two words for each assignment, among the pods with a free seat
abbrev pub random_choice_of_three : Run
random_choice_of_three = record {
  spec = fixed_spec 0 3 300 (record { depth = 2; max = 6; seed = 3 });
  start = 0;
  events = at 0 (act.Ready 2) ∷ at 1 (act.Arrive 10) ∷ at 1 (act.Ready 0) ∷ at 1 (act.Ready 1) ∷ at 2 (act.Arrive 11)
      ∷ at 2 (act.Arrive 12) ∷ at 2 (act.Arrive 13) ∷ at 3 (act.Finish 0 true) ∷ at 3 (act.Limit 0 1) ∷ at 3 (act.Arrive 14)
      ∷ at 3 (act.Arrive 15) ∷ at 3 (act.Arrive 16) ∷ at 3 (act.Limit 0 1) ∷ [];
}

abbrev pub RandomChoiceOfThreeReport : Type 0
RandomChoiceOfThreeReport =
    Prints random_choice_of_three
    (codes "0 create 0 0\n"
    ∷ codes "0 create 1 0\n"
    ∷ codes "0 create 2 0\n"
    ∷ codes "0 ready 2\n"
    ∷ codes "1 admit 0 10\n"
    ∷ codes "1 assign 0 2\n"
    ∷ codes "1 ready 0\n"
    ∷ codes "1 ready 1\n"
    ∷ codes "2 admit 1 11\n"
    ∷ codes "2 assign 1 1\n"
    ∷ codes "2 admit 2 12\n"
    ∷ codes "2 assign 2 2\n"
    ∷ codes "2 admit 3 13\n"
    ∷ codes "2 assign 3 1\n"
    ∷ codes "3 finish 0 ok\n"
    ∷ codes "3 limit 0 1\n"
    ∷ codes "3 admit 4 14\n"
    ∷ codes "3 assign 4 0\n"
    ∷ codes "3 admit 5 15\n"
    ∷ codes "3 assign 5 2\n"
    ∷ codes "3 admit 6 16\n"
    ∷ codes "3 assign 6 2\n"
    ∷ codes "3 limit 0 1\n" ∷ [])

abbrev pub RandomChoiceOfThreeLastLine : Type 0
RandomChoiceOfThreeLastLine = Ends random_choice_of_three 1 (codes "end events=13 admitted=7 direct=0 assigned=7 finished=1 failed=0 expired=0 cancelled=0 queue-full=0 overload=0 decisions=0\n")

abbrev pub RandomChoiceOfThreeTold : Type 0
RandomChoiceOfThreeTold =
    Tells random_choice_of_three
    (told.Passed ∷ told.Run 0 2 ∷ told.Passed ∷ told.Passed ∷ told.Run 1 1 ∷ told.Run 2 2 ∷ told.Run 3 1 ∷ told.Done 0
    ∷ told.Passed ∷ told.Run 4 0 ∷ told.Run 5 2 ∷ told.Run 6 2 ∷ told.Passed ∷ [])

abbrev pub RandomChoiceOfThreeStand : Type 0
RandomChoiceOfThreeStand =
    Leaves random_choice_of_three
    (stand.Ended ∷ stand.Running 1 ∷ stand.Running 2 ∷ stand.Running 1 ∷ stand.Running 0 ∷ stand.Running 2 ∷ stand.Running 2
    ∷ stand.Unknown ∷ [])

-- the place is one past the position just before the assignment
abbrev pub round_robin_of_three : Run
round_robin_of_three = record {
  spec = fixed_spec 4 3 300 (slots 5 5);
  start = 0;
  events = at 0 (act.Ready 2) ∷ at 0 (act.Ready 1) ∷ at 1 (act.Arrive 10) ∷ at 1 (act.Arrive 11) ∷ at 1 (act.Ready 0)
      ∷ at 1 (act.Limit 1 1) ∷ at 2 (act.Arrive 12) ∷ at 3 act.Tick ∷ at 3 (act.Ready 7) ∷ at 3 (act.Ready 0) ∷ [];
}

abbrev pub RoundRobinOfThreeReport : Type 0
RoundRobinOfThreeReport =
    Prints round_robin_of_three
    (codes "0 create 0 4\n"
    ∷ codes "0 create 1 4\n"
    ∷ codes "0 create 2 4\n"
    ∷ codes "0 ready 2\n"
    ∷ codes "0 ready 1\n"
    ∷ codes "1 admit 0 10\n"
    ∷ codes "1 assign 0 1\n"
    ∷ codes "1 admit 1 11\n"
    ∷ codes "1 assign 1 2\n"
    ∷ codes "1 ready 0\n"
    ∷ codes "1 limit 1 1\n"
    ∷ codes "2 admit 2 12\n"
    ∷ codes "2 assign 2 2\n"
    ∷ codes "3 no-pod 7\n"
    ∷ codes "3 not-starting 0\n" ∷ [])

abbrev pub RoundRobinOfThreeLastLine : Type 0
RoundRobinOfThreeLastLine = Ends round_robin_of_three 1 (codes "end events=10 admitted=3 direct=0 assigned=3 finished=0 failed=0 expired=0 cancelled=0 queue-full=0 overload=0 decisions=0\n")

abbrev pub RoundRobinOfThreeTold : Type 0
RoundRobinOfThreeTold =
    Tells round_robin_of_three
    (told.Passed ∷ told.Passed ∷ told.Run 0 1 ∷ told.Run 1 2 ∷ told.Passed ∷ told.Passed ∷ told.Run 2 2 ∷ told.Passed
    ∷ told.NoPod 7 ∷ told.NotStarting 0 ∷ [])

abbrev pub RoundRobinOfThreeStand : Type 0
RoundRobinOfThreeStand =
    Leaves round_robin_of_three (stand.Running 1 ∷ stand.Running 2 ∷ stand.Running 2 ∷ stand.Unknown ∷ [])

-- full at eleven for each of the present limit
abbrev pub pod_full_by_limit : Run
pod_full_by_limit = record {
  spec = record (scaled 1) { stable_s = 6; panic_s = 1; burst = Capacity (milli 0); slots = slots 9 9 };
  start = 0;
  events = at 0 (act.Ready 0) ∷ at 1000 act.Tick ∷ at 1000 (act.Limit 0 2) ∷ at 1100 (act.Arrive 10) ∷ at 1100 (act.Arrive 11)
      ∷ at 1100 (act.Arrive 12) ∷ at 1100 (act.Arrive 13) ∷ at 1100 (act.Arrive 14) ∷ at 1100 (act.Arrive 15)
      ∷ at 1100 (act.Arrive 16) ∷ at 1100 (act.Arrive 17) ∷ at 1100 (act.Arrive 18) ∷ at 1100 (act.Arrive 19)
      ∷ at 1100 (act.Arrive 20) ∷ at 1200 (act.Limit 0 1) ∷ at 1200 (act.Arrive 21) ∷ at 1300 (act.Limit 0 2)
      ∷ at 1300 (act.Arrive 22) ∷ at 1300 (act.Arrive 23) ∷ [];
}

abbrev pub PodFullByLimitReport : Type 0
PodFullByLimitReport =
    Prints pod_full_by_limit
    (codes "0 phase activating\n"
    ∷ codes "0 create 0 1\n"
    ∷ codes "0 ready 0\n"
    ∷ codes "0 phase active\n"
    ∷ codes "1000 decision stable=0/1000 panic=0/1000 ready=1 dspc=0 dppc=0 over=no panicking=no undelayed=0 delayed=0 excess=0 bounded=0 want=1 applied=yes mode=serve\n"
    ∷ codes "1000 mode serve\n"
    ∷ codes "1000 limit 0 2\n"
    ∷ codes "1100 direct 0 0\n"
    ∷ codes "1100 run 0\n"
    ∷ codes "1100 direct 1 0\n"
    ∷ codes "1100 run 1\n"
    ∷ codes "1100 direct 2 0\n"
    ∷ codes "1100 direct 3 0\n"
    ∷ codes "1100 direct 4 0\n"
    ∷ codes "1100 direct 5 0\n"
    ∷ codes "1100 direct 6 0\n"
    ∷ codes "1100 direct 7 0\n"
    ∷ codes "1100 direct 8 0\n"
    ∷ codes "1100 direct 9 0\n"
    ∷ codes "1100 direct 10 0\n"
    ∷ codes "1200 limit 0 1\n"
    ∷ codes "1200 queue-full 11 0\n"
    ∷ codes "1300 limit 0 2\n"
    ∷ codes "1300 direct 12 0\n"
    ∷ codes "1300 direct 13 0\n" ∷ [])

abbrev pub PodFullByLimitLastLine : Type 0
PodFullByLimitLastLine = Ends pod_full_by_limit 1 (codes "end events=19 admitted=0 direct=13 assigned=0 finished=0 failed=0 expired=0 cancelled=0 queue-full=1 overload=0 decisions=1\n")

abbrev pub PodFullByLimitTold : Type 0
PodFullByLimitTold =
    Tells pod_full_by_limit
    (told.Passed ∷ decided ∷ told.Passed ∷ told.Run 0 0 ∷ told.Run 1 0 ∷ told.AtPod 2 0 ∷ told.AtPod 3 0 ∷ told.AtPod 4 0
    ∷ told.AtPod 5 0 ∷ told.AtPod 6 0 ∷ told.AtPod 7 0 ∷ told.AtPod 8 0 ∷ told.AtPod 9 0 ∷ told.AtPod 10 0 ∷ told.Passed
    ∷ told.QueueFull 11 ∷ told.Passed ∷ told.AtPod 12 0 ∷ told.AtPod 13 0 ∷ [])

abbrev pub PodFullByLimitStand : Type 0
PodFullByLimitStand =
    Leaves pod_full_by_limit
    (stand.Running 0 ∷ stand.Running 0 ∷ stand.Queued 0 ∷ stand.Queued 0 ∷ stand.Queued 0 ∷ stand.Queued 0 ∷ stand.Queued 0
    ∷ stand.Queued 0 ∷ stand.Queued 0 ∷ stand.Queued 0 ∷ stand.Queued 0 ∷ stand.Ended ∷ stand.Queued 0 ∷ stand.Queued 0
    ∷ stand.Unknown ∷ [])

-- the turn falls on the full pod, and no other is tried
abbrev pub full_pod_keeps_its_turn : Run
full_pod_keeps_its_turn = record {
  spec = record (scaled 1) { stable_s = 6; panic_s = 1; burst = Capacity (milli 0); max = 2; initial = 2; slots = slots 9 9 };
  start = 0;
  events = at 0 (act.Ready 0) ∷ at 0 (act.Arrive 10) ∷ at 1000 act.Tick ∷ at 1100 (act.Arrive 11) ∷ at 1100 (act.Arrive 12)
      ∷ at 1100 (act.Arrive 13) ∷ at 1100 (act.Arrive 14) ∷ at 1100 (act.Arrive 15) ∷ at 1100 (act.Arrive 16)
      ∷ at 1100 (act.Arrive 17) ∷ at 1100 (act.Arrive 18) ∷ at 1100 (act.Arrive 19) ∷ at 1100 (act.Arrive 20)
      ∷ at 1100 (act.Ready 1) ∷ at 1200 (act.Arrive 21) ∷ at 1200 (act.Arrive 22) ∷ at 1300 (act.Limit 0 0)
      ∷ at 1300 (act.Arrive 23) ∷ [];
}

abbrev pub FullPodKeepsItsTurnReport : Type 0
FullPodKeepsItsTurnReport =
    Prints full_pod_keeps_its_turn
    (codes "0 phase activating\n"
    ∷ codes "0 create 0 1\n"
    ∷ codes "0 create 1 1\n"
    ∷ codes "0 ready 0\n"
    ∷ codes "0 phase active\n"
    ∷ codes "0 admit 0 10\n"
    ∷ codes "0 assign 0 0\n"
    ∷ codes "1000 decision stable=1000/1000 panic=1000/1000 ready=1 dspc=2 dppc=2 over=yes panicking=yes undelayed=2 delayed=2 excess=0 bounded=2 want=2 applied=yes mode=serve\n"
    ∷ codes "1000 mode serve\n"
    ∷ codes "1100 direct 1 0\n"
    ∷ codes "1100 direct 2 0\n"
    ∷ codes "1100 direct 3 0\n"
    ∷ codes "1100 direct 4 0\n"
    ∷ codes "1100 direct 5 0\n"
    ∷ codes "1100 direct 6 0\n"
    ∷ codes "1100 direct 7 0\n"
    ∷ codes "1100 direct 8 0\n"
    ∷ codes "1100 direct 9 0\n"
    ∷ codes "1100 direct 10 0\n"
    ∷ codes "1100 ready 1\n"
    ∷ codes "1200 queue-full 11 0\n"
    ∷ codes "1200 direct 12 1\n"
    ∷ codes "1200 run 12\n"
    ∷ codes "1300 limit 0 0\n"
    ∷ codes "1300 run 1\n"
    ∷ codes "1300 run 2\n"
    ∷ codes "1300 run 3\n"
    ∷ codes "1300 run 4\n"
    ∷ codes "1300 run 5\n"
    ∷ codes "1300 run 6\n"
    ∷ codes "1300 run 7\n"
    ∷ codes "1300 run 8\n"
    ∷ codes "1300 run 9\n"
    ∷ codes "1300 run 10\n"
    ∷ codes "1300 direct 13 0\n"
    ∷ codes "1300 run 13\n" ∷ [])

abbrev pub FullPodKeepsItsTurnLastLine : Type 0
FullPodKeepsItsTurnLastLine = Ends full_pod_keeps_its_turn 1 (codes "end events=18 admitted=1 direct=12 assigned=1 finished=0 failed=0 expired=0 cancelled=0 queue-full=1 overload=0 decisions=1\n")

abbrev pub FullPodKeepsItsTurnTold : Type 0
FullPodKeepsItsTurnTold =
    Tells full_pod_keeps_its_turn
    (told.Passed ∷ told.Run 0 0 ∷ decided ∷ told.AtPod 1 0 ∷ told.AtPod 2 0 ∷ told.AtPod 3 0 ∷ told.AtPod 4 0 ∷ told.AtPod 5 0
    ∷ told.AtPod 6 0 ∷ told.AtPod 7 0 ∷ told.AtPod 8 0 ∷ told.AtPod 9 0 ∷ told.AtPod 10 0 ∷ told.Passed ∷ told.QueueFull 11
    ∷ told.Run 12 1 ∷ told.Passed ∷ told.Run 13 0 ∷ [])

abbrev pub FullPodKeepsItsTurnStand : Type 0
FullPodKeepsItsTurnStand =
    Leaves full_pod_keeps_its_turn
    (stand.Running 0 ∷ stand.Running 0 ∷ stand.Running 0 ∷ stand.Running 0 ∷ stand.Running 0 ∷ stand.Running 0 ∷ stand.Running 0
    ∷ stand.Running 0 ∷ stand.Running 0 ∷ stand.Running 0 ∷ stand.Running 0 ∷ stand.Ended ∷ stand.Running 1 ∷ stand.Running 0
    ∷ stand.Unknown ∷ [])

-- a refusal of the breaker takes no turn
abbrev pub breaker_refuses_then_turns : Run
breaker_refuses_then_turns = record {
  spec = record (scaled 1) { stable_s = 6; panic_s = 1; burst = Capacity (milli 0); min = 2; max = 2; initial = 2; slots = slots 1 1 };
  start = 0;
  events = at 0 (act.Ready 1) ∷ at 0 (act.Ready 0) ∷ at 100 (act.Arrive 10) ∷ at 100 (act.Arrive 11) ∷ at 100 (act.Arrive 12)
      ∷ at 1000 act.Tick ∷ at 1100 (act.Arrive 13) ∷ at 1200 (act.Finish 3 true) ∷ [];
}

abbrev pub BreakerRefusesThenTurnsReport : Type 0
BreakerRefusesThenTurnsReport =
    Prints breaker_refuses_then_turns
    (codes "0 phase activating\n"
    ∷ codes "0 create 0 1\n"
    ∷ codes "0 create 1 1\n"
    ∷ codes "0 ready 1\n"
    ∷ codes "0 phase active\n"
    ∷ codes "0 ready 0\n"
    ∷ codes "100 admit 0 10\n"
    ∷ codes "100 assign 0 0\n"
    ∷ codes "100 admit 1 11\n"
    ∷ codes "100 queue-full 2 -\n"
    ∷ codes "1000 decision stable=1800/1000 panic=1800/1000 ready=2 dspc=3 dppc=3 over=no panicking=no undelayed=3 delayed=3 excess=0 bounded=2 want=2 applied=yes mode=serve\n"
    ∷ codes "1000 mode serve\n"
    ∷ codes "1100 direct 3 0\n"
    ∷ codes "1200 not-running 3\n" ∷ [])

abbrev pub BreakerRefusesThenTurnsLastLine : Type 0
BreakerRefusesThenTurnsLastLine = Ends breaker_refuses_then_turns 1 (codes "end events=8 admitted=2 direct=1 assigned=1 finished=0 failed=0 expired=0 cancelled=0 queue-full=1 overload=0 decisions=1\n")

abbrev pub BreakerRefusesThenTurnsTold : Type 0
BreakerRefusesThenTurnsTold =
    Tells breaker_refuses_then_turns
    (told.Passed ∷ told.Passed ∷ told.Run 0 0 ∷ told.Held 1 ∷ told.QueueFull 2 ∷ decided ∷ told.AtPod 3 0 ∷ told.NotRunning 3
    ∷ [])

abbrev pub BreakerRefusesThenTurnsStand : Type 0
BreakerRefusesThenTurnsStand =
    Leaves breaker_refuses_then_turns (stand.Running 0 ∷ stand.Held ∷ stand.Ended ∷ stand.Queued 0 ∷ stand.Unknown ∷ [])

-- in use are assigned requests alone
abbrev pub in_use_and_seats : Run
in_use_and_seats = record {
  spec = record (scaled 1) { stable_s = 6; panic_s = 1; burst = Capacity (milli 1500); min = 2; initial = 2; slots = slots 1 1 };
  start = 0;
  events = at 0 (act.Ready 1) ∷ at 0 (act.Ready 0) ∷ at 1000 act.Tick ∷ at 1200 (act.Arrive 10) ∷ at 1200 (act.Arrive 11)
      ∷ at 1200 (act.Arrive 12) ∷ at 2000 act.Tick ∷ at 2000 (act.Finish 1 false) ∷ at 2000 (act.Arrive 13)
      ∷ at 2000 (act.Finish 0 true) ∷ at 2000 (act.Finish 2 true) ∷ at 2000 (act.Finish 3 true) ∷ at 3000 act.Tick
      ∷ at 3000 (act.Arrive 14) ∷ [];
}

abbrev pub InUseAndSeatsReport : Type 0
InUseAndSeatsReport =
    Prints in_use_and_seats
    (codes "0 phase activating\n"
    ∷ codes "0 create 0 1\n"
    ∷ codes "0 create 1 1\n"
    ∷ codes "0 ready 1\n"
    ∷ codes "0 phase active\n"
    ∷ codes "0 ready 0\n"
    ∷ codes "1000 decision stable=0/1000 panic=0/1000 ready=2 dspc=0 dppc=0 over=no panicking=no undelayed=1 delayed=1 excess=0 bounded=2 want=2 applied=yes mode=serve\n"
    ∷ codes "1000 mode serve\n"
    ∷ codes "1200 direct 0 0\n"
    ∷ codes "1200 run 0\n"
    ∷ codes "1200 direct 1 1\n"
    ∷ codes "1200 run 1\n"
    ∷ codes "1200 direct 2 0\n"
    ∷ codes "2000 decision stable=2400/2000 panic=2400/1000 ready=2 dspc=2 dppc=4 over=yes panicking=yes undelayed=4 delayed=4 excess=-2 bounded=4 want=4 applied=yes mode=proxy\n"
    ∷ codes "2000 mode proxy\n"
    ∷ codes "2000 create 2 1\n"
    ∷ codes "2000 create 3 1\n"
    ∷ codes "2000 finish 1 fail\n"
    ∷ codes "2000 admit 3 13\n"
    ∷ codes "2000 assign 3 1\n"
    ∷ codes "2000 finish 0 ok\n"
    ∷ codes "2000 run 2\n"
    ∷ codes "2000 finish 2 ok\n"
    ∷ codes "2000 finish 3 ok\n"
    ∷ codes "3000 decision stable=2400/3000 panic=0/1000 ready=2 dspc=2 dppc=0 over=no panicking=yes undelayed=4 delayed=4 excess=0 bounded=4 want=4 applied=yes mode=serve\n"
    ∷ codes "3000 mode serve\n"
    ∷ codes "3000 direct 4 1\n"
    ∷ codes "3000 run 4\n" ∷ [])

abbrev pub InUseAndSeatsLastLine : Type 0
InUseAndSeatsLastLine = Ends in_use_and_seats 1 (codes "end events=14 admitted=1 direct=4 assigned=1 finished=3 failed=1 expired=0 cancelled=0 queue-full=0 overload=0 decisions=3\n")

abbrev pub InUseAndSeatsTold : Type 0
InUseAndSeatsTold =
    Tells in_use_and_seats
    (told.Passed ∷ told.Passed ∷ decided ∷ told.Run 0 0 ∷ told.Run 1 1 ∷ told.AtPod 2 0 ∷ decided ∷ told.Done 1 ∷ told.Run 3 1
    ∷ told.Done 0 ∷ told.Done 2 ∷ told.Done 3 ∷ decided ∷ told.Run 4 1 ∷ [])

abbrev pub InUseAndSeatsStand : Type 0
InUseAndSeatsStand =
    Leaves in_use_and_seats (stand.Ended ∷ stand.Ended ∷ stand.Ended ∷ stand.Ended ∷ stand.Running 1 ∷ stand.Unknown ∷ [])

-- from serve mode to proxy mode
abbrev pub serve_then_proxy : Run
serve_then_proxy = record {
  spec = record (scaled 1) { stable_s = 6; panic_s = 1; panic_threshold = milli 300000; up = milli 1500; burst = Capacity (milli 1000); min = 3; initial = 2; timeout_ms = 1000; slots = slots 1 1 };
  start = 0;
  events = at 0 (act.Ready 1) ∷ at 1000 act.Tick ∷ at 1100 (act.Arrive 10) ∷ at 1100 (act.Arrive 11) ∷ at 1100 (act.Arrive 12)
      ∷ at 2000 act.Tick ∷ at 2000 (act.Arrive 13) ∷ at 2050 (act.Finish 0 true) ∷ at 3000 (act.Finish 1 false) ∷ [];
}

abbrev pub ServeThenProxyReport : Type 0
ServeThenProxyReport =
    Prints serve_then_proxy
    (codes "0 phase activating\n"
    ∷ codes "0 create 0 1\n"
    ∷ codes "0 create 1 1\n"
    ∷ codes "0 create 2 1\n"
    ∷ codes "0 ready 1\n"
    ∷ codes "0 phase active\n"
    ∷ codes "1000 decision stable=0/1000 panic=0/1000 ready=1 dspc=0 dppc=0 over=no panicking=no undelayed=0 delayed=0 excess=0 bounded=3 want=3 applied=yes mode=serve\n"
    ∷ codes "1000 mode serve\n"
    ∷ codes "1100 direct 0 1\n"
    ∷ codes "1100 run 0\n"
    ∷ codes "1100 direct 1 1\n"
    ∷ codes "1100 direct 2 1\n"
    ∷ codes "2000 decision stable=2700/2000 panic=2700/1000 ready=1 dspc=2 dppc=4 over=yes panicking=yes undelayed=2 delayed=2 excess=-3 bounded=3 want=3 applied=yes mode=proxy\n"
    ∷ codes "2000 mode proxy\n"
    ∷ codes "2000 admit 3 13\n"
    ∷ codes "2050 finish 0 ok\n"
    ∷ codes "2050 run 1\n"
    ∷ codes "3000 expire 2\n"
    ∷ codes "3000 expire 3\n"
    ∷ codes "3000 finish 1 fail\n" ∷ [])

abbrev pub ServeThenProxyLastLine : Type 0
ServeThenProxyLastLine = Ends serve_then_proxy 1 (codes "end events=9 admitted=1 direct=3 assigned=0 finished=1 failed=1 expired=2 cancelled=0 queue-full=0 overload=0 decisions=2\n")

abbrev pub ServeThenProxyTold : Type 0
ServeThenProxyTold =
    Tells serve_then_proxy
    (told.Passed ∷ decided ∷ told.Run 0 1 ∷ told.AtPod 1 1 ∷ told.AtPod 2 1 ∷ decided ∷ told.Held 3 ∷ told.Done 0 ∷ told.Done 1
    ∷ [])

abbrev pub ServeThenProxyStand : Type 0
ServeThenProxyStand =
    Leaves serve_then_proxy (stand.Ended ∷ stand.Ended ∷ stand.Ended ∷ stand.Ended ∷ stand.Unknown ∷ [])

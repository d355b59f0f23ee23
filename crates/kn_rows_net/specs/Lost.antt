-- Runs in which pods are lost.
use Rattle.std.specs.Prelude.{[], ◌∷◌, true, false, codes}
use Rattle.kn_event.specs.declared.event.Act.TheVariants as act
use Rattle.kn_event.specs.declared.event.Told.TheVariants as told
use Rattle.kn_event.specs.declared.event.Stand.TheVariants as stand
use Rattle.kn_event.specs.declared.revision.Burst.TheVariants.{Capacity}
use Rattle.kn_event.specs.Defaults.{milli}
use Rattle.kn_event.specs.FixedSpec.{fixed_spec}
use Rattle.kn_scaling.specs.Worked.{scaled}
use Rattle.kn_trace.specs.Worked.{at, slots}
use Rattle.kn_rows_net.specs.Run.{Run, Prints, Ends, Tells, Leaves, decided}

-- a lost pod ends its request, and its seat is not given again
abbrev pub lost_pod : Run
lost_pod = record {
  spec = fixed_spec 1 1 300 (slots 1 1);
  start = 0;
  events = at 0 (act.Ready 0) ∷ at 1 (act.Arrive 10) ∷ at 2 (act.Arrive 11) ∷ at 3 (act.Lost 0) ∷ at 4 (act.Finish 0 true)
      ∷ at 5 (act.Lost 0) ∷ [];
}

abbrev pub LostPodReport : Type 0
LostPodReport =
    Prints lost_pod
    (codes "0 create 0 1\n"
    ∷ codes "0 ready 0\n"
    ∷ codes "1 admit 0 10\n"
    ∷ codes "1 assign 0 0\n"
    ∷ codes "2 admit 1 11\n"
    ∷ codes "3 lost-request 0\n"
    ∷ codes "3 lost-pod 0\n"
    ∷ codes "4 not-running 0\n"
    ∷ codes "5 no-pod 0\n" ∷ [])

abbrev pub LostPodLastLine : Type 0
LostPodLastLine = Ends lost_pod 2 (codes "end events=6 admitted=2 direct=0 assigned=1 finished=0 failed=0 expired=0 cancelled=0 queue-full=0 overload=0 decisions=0 lost=1\n")

-- expiries, then the requests at the pod, then the pod, then settling
abbrev pub lost_before_settling : Run
lost_before_settling = record {
  spec = fixed_spec 2 2 1 (slots 2 3);
  start = 0;
  events = at 0 (act.Ready 0) ∷ at 0 (act.Ready 1) ∷ at 1 (act.Arrive 10) ∷ at 1 (act.Arrive 11) ∷ at 1 (act.Arrive 12)
      ∷ at 1 (act.Arrive 13) ∷ at 1 (act.Arrive 14) ∷ at 2 (act.Lost 0) ∷ at 3 (act.Arrive 15) ∷ at 4 (act.Lost 0)
      ∷ at 4 (act.Lost 7) ∷ at 1001 (act.Lost 1) ∷ [];
}

abbrev pub LostBeforeSettlingReport : Type 0
LostBeforeSettlingReport =
    Prints lost_before_settling
    (codes "0 create 0 2\n"
    ∷ codes "0 create 1 2\n"
    ∷ codes "0 ready 0\n"
    ∷ codes "0 ready 1\n"
    ∷ codes "1 admit 0 10\n"
    ∷ codes "1 assign 0 0\n"
    ∷ codes "1 admit 1 11\n"
    ∷ codes "1 assign 1 0\n"
    ∷ codes "1 admit 2 12\n"
    ∷ codes "1 assign 2 1\n"
    ∷ codes "1 admit 3 13\n"
    ∷ codes "1 admit 4 14\n"
    ∷ codes "2 lost-request 0\n"
    ∷ codes "2 lost-request 1\n"
    ∷ codes "2 lost-pod 0\n"
    ∷ codes "2 assign 3 1\n"
    ∷ codes "3 admit 5 15\n"
    ∷ codes "4 no-pod 0\n"
    ∷ codes "4 no-pod 7\n"
    ∷ codes "1001 expire 4\n"
    ∷ codes "1001 lost-request 2\n"
    ∷ codes "1001 lost-request 3\n"
    ∷ codes "1001 lost-pod 1\n" ∷ [])

abbrev pub LostBeforeSettlingLastLine : Type 0
LostBeforeSettlingLastLine = Ends lost_before_settling 2 (codes "end events=12 admitted=6 direct=0 assigned=4 finished=0 failed=0 expired=1 cancelled=0 queue-full=0 overload=0 decisions=0 lost=4\n")

abbrev pub LostBeforeSettlingTold : Type 0
LostBeforeSettlingTold =
    Tells lost_before_settling
    (told.Passed ∷ told.Passed ∷ told.Run 0 0 ∷ told.Run 1 0 ∷ told.Run 2 1 ∷ told.Held 3 ∷ told.Held 4 ∷ told.Passed
    ∷ told.Held 5 ∷ told.NoPod 0 ∷ told.NoPod 7 ∷ told.Passed ∷ [])

abbrev pub LostBeforeSettlingStand : Type 0
LostBeforeSettlingStand =
    Leaves lost_before_settling
    (stand.Ended ∷ stand.Ended ∷ stand.Ended ∷ stand.Ended ∷ stand.Ended ∷ stand.Held ∷ stand.Unknown ∷ [])

-- queued requests are lost too; a starting pod can be lost
abbrev pub lost_while_serving : Run
lost_while_serving = record {
  spec = record (scaled 1) { stable_s = 6; panic_s = 1; burst = Capacity (milli 0); max = 2; initial = 2; slots = slots 9 9 };
  start = 0;
  events = at 0 (act.Ready 0) ∷ at 0 (act.Arrive 10) ∷ at 0 (act.Arrive 11) ∷ at 1000 act.Tick ∷ at 1100 (act.Arrive 12)
      ∷ at 1200 (act.Limit 0 3) ∷ at 1200 (act.Arrive 13) ∷ at 1300 (act.Lost 0) ∷ at 1300 (act.Lost 1) ∷ at 1400 (act.Arrive 14)
      ∷ at 2000 act.Tick ∷ [];
}

abbrev pub LostWhileServingReport : Type 0
LostWhileServingReport =
    Prints lost_while_serving
    (codes "0 phase activating\n"
    ∷ codes "0 create 0 1\n"
    ∷ codes "0 create 1 1\n"
    ∷ codes "0 ready 0\n"
    ∷ codes "0 phase active\n"
    ∷ codes "0 admit 0 10\n"
    ∷ codes "0 assign 0 0\n"
    ∷ codes "0 admit 1 11\n"
    ∷ codes "1000 decision stable=2000/1000 panic=2000/1000 ready=1 dspc=3 dppc=3 over=yes panicking=yes undelayed=3 delayed=3 excess=0 bounded=2 want=2 applied=yes mode=serve\n"
    ∷ codes "1000 mode serve\n"
    ∷ codes "1100 direct 2 0\n"
    ∷ codes "1200 limit 0 3\n"
    ∷ codes "1200 run 2\n"
    ∷ codes "1200 assign 1 0\n"
    ∷ codes "1200 direct 3 0\n"
    ∷ codes "1300 lost-request 0\n"
    ∷ codes "1300 lost-request 1\n"
    ∷ codes "1300 lost-request 2\n"
    ∷ codes "1300 lost-request 3\n"
    ∷ codes "1300 lost-pod 0\n"
    ∷ codes "1300 lost-pod 1\n"
    ∷ codes "1400 admit 4 14\n"
    ∷ codes "2000 decision stable=3500/2000 panic=1500/1000 ready=0 dspc=3 dppc=3 over=yes panicking=yes undelayed=3 delayed=3 excess=0 bounded=2 want=2 applied=yes mode=proxy\n"
    ∷ codes "2000 phase activating\n"
    ∷ codes "2000 mode proxy\n"
    ∷ codes "2000 create 2 1\n"
    ∷ codes "2000 create 3 1\n" ∷ [])

abbrev pub LostWhileServingLastLine : Type 0
LostWhileServingLastLine = Ends lost_while_serving 2 (codes "end events=11 admitted=3 direct=2 assigned=2 finished=0 failed=0 expired=0 cancelled=0 queue-full=0 overload=0 decisions=2 lost=4\n")

abbrev pub LostWhileServingTold : Type 0
LostWhileServingTold =
    Tells lost_while_serving
    (told.Passed ∷ told.Run 0 0 ∷ told.Held 1 ∷ decided ∷ told.AtPod 2 0 ∷ told.Passed ∷ told.AtPod 3 0 ∷ told.Passed
    ∷ told.Passed ∷ told.Held 4 ∷ decided ∷ [])

abbrev pub LostWhileServingStand : Type 0
LostWhileServingStand =
    Leaves lost_while_serving (stand.Ended ∷ stand.Ended ∷ stand.Ended ∷ stand.Ended ∷ stand.Held ∷ stand.Unknown ∷ [])

-- a lost pod is not Ready at the end of its second
abbrev pub lost_and_created_again : Run
lost_and_created_again = record {
  spec = record (scaled 1) { stable_s = 6; panic_s = 1; initial = 2; to_zero = false; slots = slots 9 9 };
  start = 0;
  events = at 0 (act.Ready 0) ∷ at 500 (act.Lost 0) ∷ at 1000 (act.Ready 1) ∷ at 2000 act.Tick ∷ at 2000 (act.Ready 2)
      ∷ at 2000 (act.Lost 1) ∷ at 2000 (act.Lost 2) ∷ at 3000 act.Tick ∷ [];
}

abbrev pub LostAndCreatedAgainReport : Type 0
LostAndCreatedAgainReport =
    Prints lost_and_created_again
    (codes "0 phase activating\n"
    ∷ codes "0 create 0 1\n"
    ∷ codes "0 create 1 1\n"
    ∷ codes "0 ready 0\n"
    ∷ codes "0 phase active\n"
    ∷ codes "500 lost-pod 0\n"
    ∷ codes "1000 ready 1\n"
    ∷ codes "2000 decision stable=0/1000 panic=0/1000 ready=1 dspc=0 dppc=0 over=no panicking=no undelayed=0 delayed=0 excess=-210 bounded=2 want=2 applied=yes mode=proxy\n"
    ∷ codes "2000 create 2 1\n"
    ∷ codes "2000 ready 2\n"
    ∷ codes "2000 lost-pod 1\n"
    ∷ codes "2000 lost-pod 2\n"
    ∷ codes "3000 decision stable=0/1000 panic=0/1 ready=0 dspc=0 dppc=0 over=no panicking=no undelayed=0 delayed=0 excess=-211 bounded=0 want=1 applied=yes mode=proxy\n"
    ∷ codes "3000 phase activating\n"
    ∷ codes "3000 create 3 1\n" ∷ [])

abbrev pub LostAndCreatedAgainLastLine : Type 0
LostAndCreatedAgainLastLine = Ends lost_and_created_again 2 (codes "end events=8 admitted=0 direct=0 assigned=0 finished=0 failed=0 expired=0 cancelled=0 queue-full=0 overload=0 decisions=2 lost=0\n")

abbrev pub LostAndCreatedAgainTold : Type 0
LostAndCreatedAgainTold =
    Tells lost_and_created_again
    (told.Passed ∷ told.Passed ∷ told.Passed ∷ decided ∷ told.Passed ∷ told.Passed ∷ told.Passed ∷ decided ∷ [])

abbrev pub LostAndCreatedAgainStand : Type 0
LostAndCreatedAgainStand =
    Leaves lost_and_created_again (stand.Unknown ∷ [])

-- a draining pod can be lost
abbrev pub lost_while_draining : Run
lost_while_draining = record {
  spec = record (scaled 1) { stable_s = 6; panic_s = 1; max = 1; initial = 2; slots = slots 9 9 };
  start = 0;
  events = at 0 (act.Ready 0) ∷ at 0 (act.Ready 1) ∷ at 0 (act.Arrive 10) ∷ at 0 (act.Arrive 11) ∷ at 1000 act.Tick
      ∷ at 1100 (act.Lost 1) ∷ [];
}

abbrev pub LostWhileDrainingReport : Type 0
LostWhileDrainingReport =
    Prints lost_while_draining
    (codes "0 phase activating\n"
    ∷ codes "0 create 0 1\n"
    ∷ codes "0 create 1 1\n"
    ∷ codes "0 ready 0\n"
    ∷ codes "0 phase active\n"
    ∷ codes "0 ready 1\n"
    ∷ codes "0 admit 0 10\n"
    ∷ codes "0 assign 0 0\n"
    ∷ codes "0 admit 1 11\n"
    ∷ codes "0 assign 1 1\n"
    ∷ codes "1000 decision stable=2000/1000 panic=2000/1000 ready=2 dspc=3 dppc=3 over=no panicking=no undelayed=3 delayed=3 excess=-211 bounded=1 want=1 applied=yes mode=proxy\n"
    ∷ codes "1000 drain 1\n"
    ∷ codes "1100 lost-request 1\n"
    ∷ codes "1100 lost-pod 1\n" ∷ [])

abbrev pub LostWhileDrainingLastLine : Type 0
LostWhileDrainingLastLine = Ends lost_while_draining 2 (codes "end events=6 admitted=2 direct=0 assigned=2 finished=0 failed=0 expired=0 cancelled=0 queue-full=0 overload=0 decisions=1 lost=1\n")

abbrev pub LostWhileDrainingTold : Type 0
LostWhileDrainingTold =
    Tells lost_while_draining (told.Passed ∷ told.Passed ∷ told.Run 0 0 ∷ told.Run 1 1 ∷ decided ∷ told.Passed ∷ [])

abbrev pub LostWhileDrainingStand : Type 0
LostWhileDrainingStand =
    Leaves lost_while_draining (stand.Running 0 ∷ stand.Ended ∷ stand.Unknown ∷ [])

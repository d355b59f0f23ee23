-- Runs of revisions that scale by requests per second.
use Rattle.std.specs.Prelude.{[], ◌∷◌, codes}
use Rattle.kn_event.specs.declared.event.Act.TheVariants as act
use Rattle.kn_event.specs.declared.event.Told.TheVariants as told
use Rattle.kn_event.specs.declared.event.Stand.TheVariants as stand
use Rattle.kn_event.specs.declared.revision.Burst.TheVariants.{Capacity}
use Rattle.kn_event.specs.declared.revision.Metric.TheVariants.{Rps}
use Rattle.kn_event.specs.Defaults.{milli, scaling_target}
use Rattle.kn_scaling.specs.Worked.{scaled}
use Rattle.kn_trace.specs.Worked.{at, slots}
use Rattle.kn_rows_net.specs.Run.{Run, Prints, Ends, Tells, Leaves, decided}

-- what is taken in in a second counts, also what ended at once
abbrev pub rps_counts_taken_in : Run
rps_counts_taken_in = record {
  spec = record (scaled 1) { metric = Rps; total = milli 2000; target = scaling_target 2000 40000; stable_s = 6; panic_s = 1; slots = slots 1 1 };
  start = 0;
  events = at 0 (act.Arrive 10) ∷ at 0 (act.Cancel 0) ∷ at 1000 (act.Arrive 11) ∷ at 1000 (act.Arrive 12)
      ∷ at 1000 (act.Arrive 13) ∷ at 2000 act.Tick ∷ at 8500 act.Tick ∷ [];
}

abbrev pub RpsCountsTakenInReport : Type 0
RpsCountsTakenInReport =
    Prints rps_counts_taken_in
    (codes "0 phase activating\n"
    ∷ codes "0 create 0 1\n"
    ∷ codes "0 admit 0 10\n"
    ∷ codes "0 cancel 0\n"
    ∷ codes "1000 admit 1 11\n"
    ∷ codes "1000 admit 2 12\n"
    ∷ codes "1000 queue-full 3 -\n"
    ∷ codes "2000 decision stable=3000/2000 panic=2000/1000 ready=0 dspc=2 dppc=3 over=yes panicking=yes undelayed=3 delayed=3 excess=-213 bounded=3 want=3 applied=yes mode=proxy\n"
    ∷ codes "2000 create 1 1\n"
    ∷ codes "2000 create 2 1\n"
    ∷ codes "8500 decision stable=0/6000 panic=0/1000 ready=0 dspc=0 dppc=0 over=no panicking=no undelayed=0 delayed=0 excess=-211 bounded=1 want=1 applied=yes mode=proxy\n"
    ∷ codes "8500 drain 2\n"
    ∷ codes "8500 drain 1\n"
    ∷ codes "8500 remove 1\n"
    ∷ codes "8500 remove 2\n" ∷ [])

abbrev pub RpsCountsTakenInLastLine : Type 0
RpsCountsTakenInLastLine = Ends rps_counts_taken_in 1 (codes "end events=7 admitted=3 direct=0 assigned=0 finished=0 failed=0 expired=0 cancelled=1 queue-full=1 overload=0 decisions=2\n")

abbrev pub RpsCountsTakenInTold : Type 0
RpsCountsTakenInTold =
    Tells rps_counts_taken_in
    (told.Held 0 ∷ told.Done 0 ∷ told.Held 1 ∷ told.Held 2 ∷ told.QueueFull 3 ∷ decided ∷ decided ∷ [])

abbrev pub RpsCountsTakenInStand : Type 0
RpsCountsTakenInStand =
    Leaves rps_counts_taken_in (stand.Ended ∷ stand.Held ∷ stand.Held ∷ stand.Ended ∷ stand.Unknown ∷ [])

-- requests past the activator count
abbrev pub rps_past_the_activator : Run
rps_past_the_activator = record {
  spec = record (scaled 1) { metric = Rps; total = milli 4000; target = scaling_target 4000 70000; stable_s = 6; panic_s = 1; burst = Capacity (milli 2000); slots = slots 1 1 };
  start = 0;
  events = at 0 (act.Ready 0) ∷ at 1000 act.Tick ∷ at 1100 (act.Arrive 10) ∷ at 1100 (act.Arrive 11) ∷ at 1100 (act.Arrive 12)
      ∷ at 2000 act.Tick ∷ [];
}

abbrev pub RpsPastTheActivatorReport : Type 0
RpsPastTheActivatorReport =
    Prints rps_past_the_activator
    (codes "0 phase activating\n"
    ∷ codes "0 create 0 1\n"
    ∷ codes "0 ready 0\n"
    ∷ codes "0 phase active\n"
    ∷ codes "1000 decision stable=0/1000 panic=0/1000 ready=1 dspc=0 dppc=0 over=no panicking=no undelayed=0 delayed=0 excess=2 bounded=0 want=1 applied=yes mode=serve\n"
    ∷ codes "1000 mode serve\n"
    ∷ codes "1100 direct 0 0\n"
    ∷ codes "1100 run 0\n"
    ∷ codes "1100 direct 1 0\n"
    ∷ codes "1100 direct 2 0\n"
    ∷ codes "2000 decision stable=3000/2000 panic=3000/1000 ready=1 dspc=1 dppc=2 over=yes panicking=yes undelayed=2 delayed=2 excess=-1 bounded=2 want=2 applied=yes mode=proxy\n"
    ∷ codes "2000 mode proxy\n"
    ∷ codes "2000 create 1 1\n" ∷ [])

abbrev pub RpsPastTheActivatorLastLine : Type 0
RpsPastTheActivatorLastLine = Ends rps_past_the_activator 1 (codes "end events=6 admitted=0 direct=3 assigned=0 finished=0 failed=0 expired=0 cancelled=0 queue-full=0 overload=0 decisions=2\n")

abbrev pub RpsPastTheActivatorTold : Type 0
RpsPastTheActivatorTold =
    Tells rps_past_the_activator (told.Passed ∷ decided ∷ told.Run 0 0 ∷ told.AtPod 1 0 ∷ told.AtPod 2 0 ∷ decided ∷ [])

abbrev pub RpsPastTheActivatorStand : Type 0
RpsPastTheActivatorStand =
    Leaves rps_past_the_activator (stand.Running 0 ∷ stand.Queued 0 ∷ stand.Queued 0 ∷ stand.Unknown ∷ [])

-- a wake takes one request
abbrev pub rps_wakes : Run
rps_wakes = record {
  spec = record (scaled 1) { metric = Rps; target = scaling_target 1000 100000; stable_s = 6; panic_s = 1; slots = slots 9 9 };
  start = 0;
  events = at 0 (act.Ready 0) ∷ at 6000 (act.Arrive 10) ∷ at 6000 (act.Arrive 11) ∷ at 6000 act.Tick ∷ at 6000 (act.Arrive 12)
      ∷ [];
}

abbrev pub RpsWakesReport : Type 0
RpsWakesReport =
    Prints rps_wakes
    (codes "0 phase activating\n"
    ∷ codes "0 create 0 1\n"
    ∷ codes "0 ready 0\n"
    ∷ codes "0 phase active\n"
    ∷ codes "6000 admit 0 10\n"
    ∷ codes "6000 assign 0 0\n"
    ∷ codes "6000 admit 1 11\n"
    ∷ codes "6000 decision stable=0/6000 panic=0/1000 ready=1 dspc=0 dppc=0 over=no panicking=no undelayed=0 delayed=0 excess=-210 bounded=0 want=0 applied=no mode=proxy\n"
    ∷ codes "6000 phase inactive\n"
    ∷ codes "6000 admit 2 12\n"
    ∷ codes "6000 decision stable=1/1 panic=1/1 ready=1 dspc=1 dppc=1 over=no panicking=no undelayed=1 delayed=1 excess=-211 bounded=1 want=1 applied=yes mode=proxy\n"
    ∷ codes "6000 phase active\n" ∷ [])

abbrev pub RpsWakesLastLine : Type 0
RpsWakesLastLine = Ends rps_wakes 1 (codes "end events=5 admitted=3 direct=0 assigned=1 finished=0 failed=0 expired=0 cancelled=0 queue-full=0 overload=0 decisions=2\n")

abbrev pub RpsWakesTold : Type 0
RpsWakesTold =
    Tells rps_wakes (told.Passed ∷ told.Run 0 0 ∷ told.Held 1 ∷ decided ∷ told.Held 2 ∷ [])

abbrev pub RpsWakesStand : Type 0
RpsWakesStand =
    Leaves rps_wakes (stand.Running 0 ∷ stand.Held ∷ stand.Held ∷ stand.Unknown ∷ [])

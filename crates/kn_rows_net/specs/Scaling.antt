-- Runs of scaled revisions: phases, waking, averages, panic, delay and bounds.
use Rattle.std.specs.Prelude.{[], ◌∷◌, true, codes}
use Rattle.kn_event.specs.declared.event.Act.TheVariants as act
use Rattle.kn_event.specs.declared.event.Told.TheVariants as told
use Rattle.kn_event.specs.declared.event.Stand.TheVariants as stand
use Rattle.kn_event.specs.declared.revision.Burst.TheVariants.{Capacity, Unlimited}
use Rattle.kn_event.specs.Defaults.{milli, scaling_target}
use Rattle.kn_scaling.specs.Worked.{scaled}
use Rattle.kn_trace.specs.Worked.{at, slots}
use Rattle.kn_rows_net.specs.Run.{Run, Prints, Ends, Tells, Leaves, decided}

-- an opening at a start that is not 0
abbrev pub start_times : Run
start_times = record {
  spec = record (scaled 1) { stable_s = 6; panic_s = 1; down = milli 3000; initial = 2; grace_ms = 8000; retention_ms = 1000; slots = slots 9 9 };
  start = 2500;
  events = at 2500 (act.Ready 0) ∷ at 2500 (act.Ready 1) ∷ at 3000 (act.Arrive 10) ∷ at 3000 (act.Finish 0 true)
      ∷ at 8500 act.Tick ∷ at 10499 act.Tick ∷ at 10500 act.Tick ∷ [];
}

abbrev pub StartTimesReport : Type 0
StartTimesReport =
    Prints start_times
    (codes "2500 phase activating\n"
    ∷ codes "2500 create 0 1\n"
    ∷ codes "2500 create 1 1\n"
    ∷ codes "2500 ready 0\n"
    ∷ codes "2500 phase active\n"
    ∷ codes "2500 ready 1\n"
    ∷ codes "3000 admit 0 10\n"
    ∷ codes "3000 assign 0 0\n"
    ∷ codes "3000 finish 0 ok\n"
    ∷ codes "8500 decision stable=0/6000 panic=0/1000 ready=2 dspc=0 dppc=0 over=no panicking=no undelayed=0 delayed=0 excess=-209 bounded=0 want=0 applied=no mode=proxy\n"
    ∷ codes "8500 phase inactive\n"
    ∷ codes "10499 decision stable=0/6000 panic=0/1000 ready=2 dspc=0 dppc=0 over=no panicking=no undelayed=0 delayed=0 excess=-209 bounded=0 want=0 applied=no mode=proxy\n"
    ∷ codes "10500 decision stable=0/6000 panic=0/1000 ready=2 dspc=0 dppc=0 over=no panicking=no undelayed=0 delayed=0 excess=-209 bounded=0 want=0 applied=yes mode=proxy\n"
    ∷ codes "10500 drain 1\n"
    ∷ codes "10500 drain 0\n"
    ∷ codes "10500 remove 0\n"
    ∷ codes "10500 remove 1\n" ∷ [])

abbrev pub StartTimesLastLine : Type 0
StartTimesLastLine = Ends start_times 1 (codes "end events=7 admitted=1 direct=0 assigned=1 finished=1 failed=0 expired=0 cancelled=0 queue-full=0 overload=0 decisions=3\n")

abbrev pub StartTimesTold : Type 0
StartTimesTold =
    Tells start_times (told.Passed ∷ told.Passed ∷ told.Run 0 0 ∷ told.Done 0 ∷ decided ∷ decided ∷ decided ∷ [])

abbrev pub StartTimesStand : Type 0
StartTimesStand =
    Leaves start_times (stand.Ended ∷ stand.Unknown ∷ [])

-- panic lasts one window; scale to zero out of serve mode
abbrev pub serve_to_zero : Run
serve_to_zero = record {
  spec = record (scaled 1) { stable_s = 6; panic_s = 1; burst = Capacity (milli 0); grace_ms = 1000; retention_ms = 2000; slots = slots 9 9 };
  start = 0;
  events = at 0 (act.Ready 0) ∷ at 0 (act.Arrive 10) ∷ at 900 (act.Finish 0 true) ∷ at 1000 act.Tick ∷ at 7000 act.Tick
      ∷ at 7500 act.Tick ∷ at 9500 act.Tick ∷ [];
}

abbrev pub ServeToZeroReport : Type 0
ServeToZeroReport =
    Prints serve_to_zero
    (codes "0 phase activating\n"
    ∷ codes "0 create 0 1\n"
    ∷ codes "0 ready 0\n"
    ∷ codes "0 phase active\n"
    ∷ codes "0 admit 0 10\n"
    ∷ codes "0 assign 0 0\n"
    ∷ codes "900 finish 0 ok\n"
    ∷ codes "1000 decision stable=900/1000 panic=900/1000 ready=1 dspc=2 dppc=2 over=yes panicking=yes undelayed=2 delayed=2 excess=0 bounded=2 want=2 applied=yes mode=serve\n"
    ∷ codes "1000 mode serve\n"
    ∷ codes "1000 create 1 1\n"
    ∷ codes "7000 decision stable=0/6000 panic=0/1000 ready=1 dspc=0 dppc=0 over=no panicking=yes undelayed=2 delayed=2 excess=0 bounded=2 want=2 applied=yes mode=serve\n"
    ∷ codes "7500 decision stable=0/6000 panic=0/1000 ready=1 dspc=0 dppc=0 over=no panicking=no undelayed=0 delayed=0 excess=0 bounded=0 want=0 applied=no mode=proxy\n"
    ∷ codes "7500 phase inactive\n"
    ∷ codes "7500 mode proxy\n"
    ∷ codes "9500 decision stable=0/6000 panic=0/1000 ready=1 dspc=0 dppc=0 over=no panicking=no undelayed=0 delayed=0 excess=0 bounded=0 want=0 applied=yes mode=proxy\n"
    ∷ codes "9500 drain 1\n"
    ∷ codes "9500 drain 0\n"
    ∷ codes "9500 remove 0\n"
    ∷ codes "9500 remove 1\n" ∷ [])

abbrev pub ServeToZeroLastLine : Type 0
ServeToZeroLastLine = Ends serve_to_zero 1 (codes "end events=7 admitted=1 direct=0 assigned=1 finished=1 failed=0 expired=0 cancelled=0 queue-full=0 overload=0 decisions=4\n")

abbrev pub ServeToZeroTold : Type 0
ServeToZeroTold =
    Tells serve_to_zero (told.Passed ∷ told.Run 0 0 ∷ told.Done 0 ∷ decided ∷ decided ∷ decided ∷ decided ∷ [])

abbrev pub ServeToZeroStand : Type 0
ServeToZeroStand =
    Leaves serve_to_zero (stand.Ended ∷ stand.Unknown ∷ [])

-- phase and mode count from their last entry
abbrev pub active_twice : Run
active_twice = record {
  spec = record (scaled 2) { stable_s = 6; panic_s = 1; burst = Capacity (milli 0); grace_ms = 3000; slots = slots 9 9 };
  start = 0;
  events = at 0 (act.Ready 0) ∷ at 1000 act.Tick ∷ at 6000 act.Tick ∷ at 6500 (act.Arrive 10) ∷ at 6500 (act.Finish 0 true)
      ∷ at 12000 act.Tick ∷ at 12500 act.Tick ∷ at 13000 act.Tick ∷ [];
}

abbrev pub ActiveTwiceReport : Type 0
ActiveTwiceReport =
    Prints active_twice
    (codes "0 phase activating\n"
    ∷ codes "0 create 0 2\n"
    ∷ codes "0 ready 0\n"
    ∷ codes "0 phase active\n"
    ∷ codes "1000 decision stable=0/1000 panic=0/1000 ready=1 dspc=0 dppc=0 over=no panicking=no undelayed=0 delayed=0 excess=0 bounded=0 want=1 applied=yes mode=serve\n"
    ∷ codes "1000 mode serve\n"
    ∷ codes "6000 decision stable=0/6000 panic=0/1000 ready=1 dspc=0 dppc=0 over=no panicking=no undelayed=0 delayed=0 excess=0 bounded=0 want=0 applied=no mode=proxy\n"
    ∷ codes "6000 phase inactive\n"
    ∷ codes "6000 mode proxy\n"
    ∷ codes "6500 admit 0 10\n"
    ∷ codes "6500 decision stable=1/1 panic=1/1 ready=1 dspc=1 dppc=1 over=no panicking=no undelayed=1 delayed=1 excess=0 bounded=1 want=1 applied=yes mode=serve\n"
    ∷ codes "6500 phase active\n"
    ∷ codes "6500 mode serve\n"
    ∷ codes "6500 assign 0 0\n"
    ∷ codes "6500 finish 0 ok\n"
    ∷ codes "12000 decision stable=0/6000 panic=0/1000 ready=1 dspc=0 dppc=0 over=no panicking=no undelayed=0 delayed=0 excess=0 bounded=0 want=1 applied=yes mode=serve\n"
    ∷ codes "12500 decision stable=0/6000 panic=0/1000 ready=1 dspc=0 dppc=0 over=no panicking=no undelayed=0 delayed=0 excess=0 bounded=0 want=0 applied=no mode=proxy\n"
    ∷ codes "12500 phase inactive\n"
    ∷ codes "12500 mode proxy\n"
    ∷ codes "13000 decision stable=0/6000 panic=0/1000 ready=1 dspc=0 dppc=0 over=no panicking=no undelayed=0 delayed=0 excess=0 bounded=0 want=0 applied=no mode=proxy\n" ∷ [])

abbrev pub ActiveTwiceLastLine : Type 0
ActiveTwiceLastLine = Ends active_twice 1 (codes "end events=8 admitted=1 direct=0 assigned=1 finished=1 failed=0 expired=0 cancelled=0 queue-full=0 overload=0 decisions=6\n")

abbrev pub ActiveTwiceTold : Type 0
ActiveTwiceTold =
    Tells active_twice (told.Passed ∷ decided ∷ decided ∷ told.Run 0 0 ∷ told.Done 0 ∷ decided ∷ decided ∷ decided ∷ [])

abbrev pub ActiveTwiceStand : Type 0
ActiveTwiceStand =
    Leaves active_twice (stand.Ended ∷ stand.Unknown ∷ [])

-- a later arrival wakes a revision without pods
abbrev pub wake_at_zero : Run
wake_at_zero = record {
  spec = record (scaled 1) { stable_s = 6; panic_s = 1; grace_ms = 0; slots = slots 2 1 };
  start = 0;
  events = at 1000 (act.Ready 0) ∷ at 1000 act.Tick ∷ at 7000 (act.Arrive 10) ∷ at 7000 (act.Arrive 11)
      ∷ at 7000 (act.Arrive 12) ∷ at 7000 act.Tick ∷ at 7000 act.Tick ∷ at 7000 (act.Arrive 13) ∷ at 7000 (act.Cancel 2)
      ∷ at 7000 (act.Arrive 14) ∷ [];
}

abbrev pub WakeAtZeroReport : Type 0
WakeAtZeroReport =
    Prints wake_at_zero
    (codes "0 phase activating\n"
    ∷ codes "0 create 0 1\n"
    ∷ codes "1000 ready 0\n"
    ∷ codes "1000 phase active\n"
    ∷ codes "1000 no-data\n"
    ∷ codes "7000 admit 0 10\n"
    ∷ codes "7000 assign 0 0\n"
    ∷ codes "7000 admit 1 11\n"
    ∷ codes "7000 admit 2 12\n"
    ∷ codes "7000 decision stable=0/6000 panic=0/1000 ready=1 dspc=0 dppc=0 over=no panicking=no undelayed=0 delayed=0 excess=-210 bounded=0 want=0 applied=no mode=proxy\n"
    ∷ codes "7000 phase inactive\n"
    ∷ codes "7000 decision stable=0/6000 panic=0/1000 ready=1 dspc=0 dppc=0 over=no panicking=no undelayed=0 delayed=0 excess=-210 bounded=0 want=0 applied=yes mode=proxy\n"
    ∷ codes "7000 drain 0\n"
    ∷ codes "7000 queue-full 3 -\n"
    ∷ codes "7000 cancel 2\n"
    ∷ codes "7000 admit 4 14\n"
    ∷ codes "7000 decision stable=1/1 panic=1/1 ready=0 dspc=2 dppc=2 over=yes panicking=yes undelayed=2 delayed=2 excess=-212 bounded=2 want=2 applied=yes mode=proxy\n"
    ∷ codes "7000 phase activating\n"
    ∷ codes "7000 create 1 1\n"
    ∷ codes "7000 create 2 1\n" ∷ [])

abbrev pub WakeAtZeroLastLine : Type 0
WakeAtZeroLastLine = Ends wake_at_zero 1 (codes "end events=10 admitted=4 direct=0 assigned=1 finished=0 failed=0 expired=0 cancelled=1 queue-full=1 overload=0 decisions=3\n")

abbrev pub WakeAtZeroTold : Type 0
WakeAtZeroTold =
    Tells wake_at_zero
    (told.Passed ∷ told.NoData ∷ told.Run 0 0 ∷ told.Held 1 ∷ told.Held 2 ∷ decided ∷ decided ∷ told.QueueFull 3 ∷ told.Done 2
    ∷ told.Held 4 ∷ [])

abbrev pub WakeAtZeroStand : Type 0
WakeAtZeroStand =
    Leaves wake_at_zero (stand.Running 0 ∷ stand.Held ∷ stand.Ended ∷ stand.Ended ∷ stand.Held ∷ stand.Unknown ∷ [])

-- the last wanted scale stays while activating
abbrev pub activating_keeps_scale : Run
activating_keeps_scale = record {
  spec = record (scaled 2) { stable_s = 6; panic_s = 1; activation = 2; grace_ms = 0; retention_ms = 1000; slots = slots 9 9 };
  start = 0;
  events = at 0 (act.Ready 0) ∷ at 6000 act.Tick ∷ at 6500 act.Tick ∷ at 7000 act.Tick ∷ at 7500 (act.Arrive 10)
      ∷ at 7500 (act.Cancel 0) ∷ at 8000 act.Tick ∷ at 8000 (act.Arrive 11) ∷ [];
}

abbrev pub ActivatingKeepsScaleReport : Type 0
ActivatingKeepsScaleReport =
    Prints activating_keeps_scale
    (codes "0 phase activating\n"
    ∷ codes "0 create 0 2\n"
    ∷ codes "0 ready 0\n"
    ∷ codes "0 phase active\n"
    ∷ codes "6000 decision stable=0/6000 panic=0/1000 ready=1 dspc=0 dppc=0 over=no panicking=no undelayed=0 delayed=0 excess=-209 bounded=0 want=0 applied=no mode=proxy\n"
    ∷ codes "6000 phase inactive\n"
    ∷ codes "6500 decision stable=0/6000 panic=0/1000 ready=1 dspc=0 dppc=0 over=no panicking=no undelayed=0 delayed=0 excess=-209 bounded=0 want=0 applied=no mode=proxy\n"
    ∷ codes "7000 decision stable=0/6000 panic=0/1000 ready=1 dspc=0 dppc=0 over=no panicking=no undelayed=0 delayed=0 excess=-209 bounded=0 want=0 applied=yes mode=proxy\n"
    ∷ codes "7000 drain 0\n"
    ∷ codes "7000 remove 0\n"
    ∷ codes "7500 admit 0 10\n"
    ∷ codes "7500 decision stable=1/1 panic=1/1 ready=0 dspc=1 dppc=1 over=no panicking=no undelayed=2 delayed=2 excess=-212 bounded=2 want=2 applied=yes mode=proxy\n"
    ∷ codes "7500 phase activating\n"
    ∷ codes "7500 create 1 2\n"
    ∷ codes "7500 create 2 2\n"
    ∷ codes "7500 cancel 0\n"
    ∷ codes "8000 decision stable=0/5000 panic=0/1 ready=0 dspc=0 dppc=0 over=no panicking=no undelayed=0 delayed=0 excess=-211 bounded=0 want=2 applied=no mode=proxy\n"
    ∷ codes "8000 admit 1 11\n" ∷ [])

abbrev pub ActivatingKeepsScaleLastLine : Type 0
ActivatingKeepsScaleLastLine = Ends activating_keeps_scale 1 (codes "end events=8 admitted=2 direct=0 assigned=0 finished=0 failed=0 expired=0 cancelled=1 queue-full=0 overload=0 decisions=5\n")

abbrev pub ActivatingKeepsScaleTold : Type 0
ActivatingKeepsScaleTold =
    Tells activating_keeps_scale
    (told.Passed ∷ decided ∷ decided ∷ decided ∷ told.Held 0 ∷ told.Done 0 ∷ decided ∷ told.Held 1 ∷ [])

abbrev pub ActivatingKeepsScaleStand : Type 0
ActivatingKeepsScaleStand =
    Leaves activating_keeps_scale (stand.Ended ∷ stand.Held ∷ stand.Unknown ∷ [])

-- a wake is a decision for panic, a tick without data is none
abbrev pub wake_counts_in_panic : Run
wake_counts_in_panic = record {
  spec = record (scaled 1) { total = milli 10; target = scaling_target 10 50000; stable_s = 6; panic_s = 1; burst = Capacity (milli 0); max = 1; initial = 0; slots = slots 9 9 };
  start = 0;
  events = at 500 (act.Arrive 10) ∷ at 700 act.Tick ∷ at 1000 act.Tick ∷ [];
}

abbrev pub WakeCountsInPanicReport : Type 0
WakeCountsInPanicReport =
    Prints wake_counts_in_panic
    (codes "0 phase inactive\n"
    ∷ codes "500 admit 0 10\n"
    ∷ codes "500 decision stable=1/1 panic=1/1 ready=0 dspc=100 dppc=100 over=yes panicking=yes undelayed=100 delayed=100 excess=0 bounded=1 want=1 applied=yes mode=proxy\n"
    ∷ codes "500 phase activating\n"
    ∷ codes "500 create 0 1\n"
    ∷ codes "700 no-data\n"
    ∷ codes "1000 decision stable=500/1000 panic=500/1000 ready=0 dspc=50 dppc=50 over=yes panicking=yes undelayed=100 delayed=100 excess=0 bounded=1 want=1 applied=yes mode=proxy\n" ∷ [])

abbrev pub WakeCountsInPanicLastLine : Type 0
WakeCountsInPanicLastLine = Ends wake_counts_in_panic 1 (codes "end events=3 admitted=1 direct=0 assigned=0 finished=0 failed=0 expired=0 cancelled=0 queue-full=0 overload=0 decisions=2\n")

abbrev pub WakeCountsInPanicTold : Type 0
WakeCountsInPanicTold =
    Tells wake_counts_in_panic (told.Held 0 ∷ told.NoData ∷ decided ∷ [])

abbrev pub WakeCountsInPanicStand : Type 0
WakeCountsInPanicStand =
    Leaves wake_counts_in_panic (stand.Held ∷ stand.Unknown ∷ [])

-- the greatest count of a panic begins with it
abbrev pub panic_starts_anew : Run
panic_starts_anew = record {
  spec = record (scaled 1) { stable_s = 6; panic_s = 1; slots = slots 9 9 };
  start = 0;
  events = at 0 (act.Ready 0) ∷ at 0 (act.Arrive 10) ∷ at 0 (act.Arrive 11) ∷ at 0 (act.Arrive 12) ∷ at 1000 (act.Finish 0 true)
      ∷ at 1000 (act.Finish 1 true) ∷ at 1000 (act.Finish 2 true) ∷ at 2000 act.Tick ∷ at 2000 (act.Arrive 13) ∷ at 3000 act.Tick
      ∷ [];
}

abbrev pub PanicStartsAnewReport : Type 0
PanicStartsAnewReport =
    Prints panic_starts_anew
    (codes "0 phase activating\n"
    ∷ codes "0 create 0 1\n"
    ∷ codes "0 ready 0\n"
    ∷ codes "0 phase active\n"
    ∷ codes "0 admit 0 10\n"
    ∷ codes "0 assign 0 0\n"
    ∷ codes "0 admit 1 11\n"
    ∷ codes "0 admit 2 12\n"
    ∷ codes "1000 finish 0 ok\n"
    ∷ codes "1000 assign 1 0\n"
    ∷ codes "1000 finish 1 ok\n"
    ∷ codes "1000 assign 2 0\n"
    ∷ codes "1000 finish 2 ok\n"
    ∷ codes "2000 decision stable=3000/2000 panic=0/1000 ready=1 dspc=3 dppc=0 over=no panicking=no undelayed=3 delayed=3 excess=-210 bounded=3 want=3 applied=yes mode=proxy\n"
    ∷ codes "2000 create 1 1\n"
    ∷ codes "2000 create 2 1\n"
    ∷ codes "2000 admit 3 13\n"
    ∷ codes "2000 assign 3 0\n"
    ∷ codes "3000 decision stable=4000/3000 panic=1000/1000 ready=1 dspc=2 dppc=2 over=yes panicking=yes undelayed=2 delayed=2 excess=-211 bounded=2 want=2 applied=yes mode=proxy\n"
    ∷ codes "3000 drain 2\n"
    ∷ codes "3000 remove 2\n" ∷ [])

abbrev pub PanicStartsAnewLastLine : Type 0
PanicStartsAnewLastLine = Ends panic_starts_anew 1 (codes "end events=10 admitted=4 direct=0 assigned=4 finished=3 failed=0 expired=0 cancelled=0 queue-full=0 overload=0 decisions=2\n")

abbrev pub PanicStartsAnewTold : Type 0
PanicStartsAnewTold =
    Tells panic_starts_anew
    (told.Passed ∷ told.Run 0 0 ∷ told.Held 1 ∷ told.Held 2 ∷ told.Done 0 ∷ told.Done 1 ∷ told.Done 2 ∷ decided ∷ told.Run 3 0
    ∷ decided ∷ [])

abbrev pub PanicStartsAnewStand : Type 0
PanicStartsAnewStand =
    Leaves panic_starts_anew (stand.Ended ∷ stand.Ended ∷ stand.Ended ∷ stand.Running 0 ∷ stand.Unknown ∷ [])

-- seconds without load and without Ready pods are no samples
abbrev pub averages_over_gaps : Run
averages_over_gaps = record {
  spec = record (scaled 1) { target = scaling_target 1000 100000; stable_s = 6; panic_s = 1; initial = 0; timeout_ms = 1000; slots = slots 9 9 };
  start = 0;
  events = at 500 (act.Arrive 10) ∷ at 700 (act.Cancel 0) ∷ at 2000 (act.Arrive 11) ∷ at 3000 act.Pass ∷ at 7000 act.Tick
      ∷ at 8000 (act.Arrive 12) ∷ at 9000 act.Tick ∷ [];
}

abbrev pub AveragesOverGapsReport : Type 0
AveragesOverGapsReport =
    Prints averages_over_gaps
    (codes "0 phase inactive\n"
    ∷ codes "500 admit 0 10\n"
    ∷ codes "500 decision stable=1/1 panic=1/1 ready=0 dspc=1 dppc=1 over=no panicking=no undelayed=1 delayed=1 excess=-212 bounded=1 want=1 applied=yes mode=proxy\n"
    ∷ codes "500 phase activating\n"
    ∷ codes "500 create 0 1\n"
    ∷ codes "700 cancel 0\n"
    ∷ codes "2000 admit 1 11\n"
    ∷ codes "3000 expire 1\n"
    ∷ codes "7000 decision stable=1000/2000 panic=0/1 ready=0 dspc=1 dppc=0 over=no panicking=no undelayed=1 delayed=1 excess=-211 bounded=1 want=1 applied=yes mode=proxy\n"
    ∷ codes "8000 admit 2 12\n"
    ∷ codes "9000 expire 2\n"
    ∷ codes "9000 decision stable=1000/1000 panic=1000/1000 ready=0 dspc=1 dppc=1 over=no panicking=no undelayed=1 delayed=1 excess=-212 bounded=1 want=1 applied=yes mode=proxy\n" ∷ [])

abbrev pub AveragesOverGapsLastLine : Type 0
AveragesOverGapsLastLine = Ends averages_over_gaps 1 (codes "end events=7 admitted=3 direct=0 assigned=0 finished=0 failed=0 expired=2 cancelled=1 queue-full=0 overload=0 decisions=3\n")

abbrev pub AveragesOverGapsTold : Type 0
AveragesOverGapsTold =
    Tells averages_over_gaps (told.Held 0 ∷ told.Done 0 ∷ told.Held 1 ∷ told.Passed ∷ decided ∷ told.Held 2 ∷ decided ∷ [])

abbrev pub AveragesOverGapsStand : Type 0
AveragesOverGapsStand =
    Leaves averages_over_gaps (stand.Ended ∷ stand.Ended ∷ stand.Ended ∷ stand.Unknown ∷ [])

-- the delay keeps the greatest undelayed count
abbrev pub delay_of_two : Run
delay_of_two = record {
  spec = record (scaled 1) { stable_s = 6; panic_s = 1; panic_threshold = milli 10000000; delay_s = 2; burst = Unlimited; slots = slots 9 9 };
  start = 0;
  events = at 0 (act.Ready 0) ∷ at 0 (act.Arrive 10) ∷ at 0 (act.Arrive 11) ∷ at 0 (act.Arrive 12) ∷ at 1000 (act.Finish 0 true)
      ∷ at 1900 act.Tick ∷ at 2900 act.Tick ∷ at 3100 act.Tick ∷ [];
}

abbrev pub DelayOfTwoReport : Type 0
DelayOfTwoReport =
    Prints delay_of_two
    (codes "0 phase activating\n"
    ∷ codes "0 create 0 1\n"
    ∷ codes "0 ready 0\n"
    ∷ codes "0 phase active\n"
    ∷ codes "0 admit 0 10\n"
    ∷ codes "0 assign 0 0\n"
    ∷ codes "0 admit 1 11\n"
    ∷ codes "0 admit 2 12\n"
    ∷ codes "1000 finish 0 ok\n"
    ∷ codes "1000 assign 1 0\n"
    ∷ codes "1900 decision stable=3000/1000 panic=3000/1000 ready=1 dspc=5 dppc=5 over=no panicking=no undelayed=5 delayed=5 excess=-1 bounded=5 want=5 applied=yes mode=proxy\n"
    ∷ codes "1900 create 1 1\n"
    ∷ codes "1900 create 2 1\n"
    ∷ codes "1900 create 3 1\n"
    ∷ codes "1900 create 4 1\n"
    ∷ codes "2900 decision stable=5000/2000 panic=2000/1000 ready=1 dspc=4 dppc=3 over=no panicking=no undelayed=4 delayed=5 excess=-1 bounded=5 want=5 applied=yes mode=proxy\n"
    ∷ codes "3100 decision stable=7000/3000 panic=2000/1000 ready=1 dspc=4 dppc=3 over=no panicking=no undelayed=4 delayed=4 excess=-1 bounded=4 want=4 applied=yes mode=proxy\n"
    ∷ codes "3100 drain 4\n"
    ∷ codes "3100 remove 4\n" ∷ [])

abbrev pub DelayOfTwoLastLine : Type 0
DelayOfTwoLastLine = Ends delay_of_two 1 (codes "end events=8 admitted=3 direct=0 assigned=2 finished=1 failed=0 expired=0 cancelled=0 queue-full=0 overload=0 decisions=3\n")

abbrev pub DelayOfTwoTold : Type 0
DelayOfTwoTold =
    Tells delay_of_two (told.Passed ∷ told.Run 0 0 ∷ told.Held 1 ∷ told.Held 2 ∷ told.Done 0 ∷ decided ∷ decided ∷ decided ∷ [])

abbrev pub DelayOfTwoStand : Type 0
DelayOfTwoStand =
    Leaves delay_of_two (stand.Ended ∷ stand.Running 0 ∷ stand.Held ∷ stand.Unknown ∷ [])

-- the opening scale is the larger of initial and min-scale
abbrev pub min_above_initial : Run
min_above_initial = record {
  spec = record (scaled 1) { stable_s = 6; panic_s = 1; min = 2; initial = 0; slots = slots 9 9 };
  start = 0;
  events = at 100 (act.Arrive 10) ∷ at 200 (act.Ready 1) ∷ [];
}

abbrev pub MinAboveInitialReport : Type 0
MinAboveInitialReport =
    Prints min_above_initial
    (codes "0 phase activating\n"
    ∷ codes "0 create 0 1\n"
    ∷ codes "0 create 1 1\n"
    ∷ codes "100 admit 0 10\n"
    ∷ codes "200 ready 1\n"
    ∷ codes "200 phase active\n"
    ∷ codes "200 assign 0 1\n" ∷ [])

abbrev pub MinAboveInitialLastLine : Type 0
MinAboveInitialLastLine = Ends min_above_initial 1 (codes "end events=2 admitted=1 direct=0 assigned=1 finished=0 failed=0 expired=0 cancelled=0 queue-full=0 overload=0 decisions=0\n")

abbrev pub MinAboveInitialTold : Type 0
MinAboveInitialTold =
    Tells min_above_initial (told.Held 0 ∷ told.Passed ∷ [])

abbrev pub MinAboveInitialStand : Type 0
MinAboveInitialStand =
    Leaves min_above_initial (stand.Running 1 ∷ stand.Unknown ∷ [])

-- the initial scale rules until it was reached
abbrev pub initial_until_reached : Run
initial_until_reached = record {
  spec = record (scaled 3) { stable_s = 6; panic_s = 1; min = 1; max = 2; initial = 3; slots = slots 9 9 };
  start = 0;
  events = at 0 (act.Ready 0) ∷ at 0 (act.Ready 1) ∷ at 0 (act.Arrive 10) ∷ at 0 (act.Arrive 11) ∷ at 0 (act.Arrive 12)
      ∷ at 1000 act.Tick ∷ [];
}

abbrev pub InitialUntilReachedReport : Type 0
InitialUntilReachedReport =
    Prints initial_until_reached
    (codes "0 phase activating\n"
    ∷ codes "0 create 0 3\n"
    ∷ codes "0 create 1 3\n"
    ∷ codes "0 create 2 3\n"
    ∷ codes "0 ready 0\n"
    ∷ codes "0 phase active\n"
    ∷ codes "0 ready 1\n"
    ∷ codes "0 admit 0 10\n"
    ∷ codes "0 assign 0 0\n"
    ∷ codes "0 admit 1 11\n"
    ∷ codes "0 assign 1 0\n"
    ∷ codes "0 admit 2 12\n"
    ∷ codes "0 assign 2 0\n"
    ∷ codes "1000 decision stable=3000/1000 panic=3000/1000 ready=2 dspc=2 dppc=2 over=no panicking=no undelayed=2 delayed=2 excess=-208 bounded=3 want=3 applied=yes mode=proxy\n" ∷ [])

abbrev pub InitialUntilReachedLastLine : Type 0
InitialUntilReachedLastLine = Ends initial_until_reached 1 (codes "end events=6 admitted=3 direct=0 assigned=3 finished=0 failed=0 expired=0 cancelled=0 queue-full=0 overload=0 decisions=1\n")

abbrev pub InitialUntilReachedTold : Type 0
InitialUntilReachedTold =
    Tells initial_until_reached (told.Passed ∷ told.Passed ∷ told.Run 0 0 ∷ told.Run 1 0 ∷ told.Run 2 0 ∷ decided ∷ [])

abbrev pub InitialUntilReachedStand : Type 0
InitialUntilReachedStand =
    Leaves initial_until_reached (stand.Running 0 ∷ stand.Running 0 ∷ stand.Running 0 ∷ stand.Unknown ∷ [])

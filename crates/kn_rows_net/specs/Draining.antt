-- Runs in which pods drain, and what they leave as it was.
use Rattle.std.specs.Prelude.{[], ◌∷◌, ◌++◌, true, codes}
use Rattle.kn_event.specs.declared.event.Act.TheVariants as act
use Rattle.kn_event.specs.declared.event.Told.TheVariants as told
use Rattle.kn_event.specs.declared.event.Stand.TheVariants as stand
use Rattle.kn_event.specs.declared.revision.Burst.TheVariants.{Capacity}
use Rattle.kn_event.specs.Defaults.{milli}
use Rattle.kn_scaling.specs.Worked.{scaled}
use Rattle.kn_trace.specs.Worked.{at, slots}
use Rattle.kn_rows_net.specs.Run.{Run, Prints, Ends, Tells, Leaves, decided}

-- a place past the Ready pods is 0
abbrev pub place_after_drain : Run
place_after_drain = record {
  spec = record (scaled 4) { stable_s = 6; panic_s = 1; burst = Capacity (milli 9000); min = 2; initial = 3; slots = slots 9 9 };
  start = 0;
  events = at 0 (act.Ready 0) ∷ at 0 (act.Ready 1) ∷ at 0 (act.Ready 2) ∷ at 0 (act.Arrive 10) ∷ at 0 (act.Arrive 11)
      ∷ at 0 (act.Arrive 12) ∷ at 1000 act.Tick ∷ at 1100 (act.Arrive 13) ∷ at 2000 act.Tick ∷ at 2000 (act.Arrive 14)
      ∷ at 2000 (act.Limit 1 1) ∷ at 2000 (act.Arrive 15) ∷ [];
}

abbrev pub PlaceAfterDrainReport : Type 0
PlaceAfterDrainReport =
    Prints place_after_drain
    (codes "0 phase activating\n"
    ∷ codes "0 create 0 4\n"
    ∷ codes "0 create 1 4\n"
    ∷ codes "0 create 2 4\n"
    ∷ codes "0 ready 0\n"
    ∷ codes "0 phase active\n"
    ∷ codes "0 ready 1\n"
    ∷ codes "0 ready 2\n"
    ∷ codes "0 admit 0 10\n"
    ∷ codes "0 assign 0 0\n"
    ∷ codes "0 admit 1 11\n"
    ∷ codes "0 assign 1 1\n"
    ∷ codes "0 admit 2 12\n"
    ∷ codes "0 assign 2 2\n"
    ∷ codes "1000 decision stable=3000/1000 panic=3000/1000 ready=3 dspc=2 dppc=2 over=no panicking=no undelayed=2 delayed=2 excess=0 bounded=2 want=2 applied=yes mode=serve\n"
    ∷ codes "1000 mode serve\n"
    ∷ codes "1000 drain 2\n"
    ∷ codes "1100 direct 3 0\n"
    ∷ codes "1100 run 3\n"
    ∷ codes "2000 decision stable=6900/2000 panic=3900/1000 ready=2 dspc=2 dppc=2 over=no panicking=no undelayed=2 delayed=2 excess=-5 bounded=2 want=2 applied=yes mode=proxy\n"
    ∷ codes "2000 mode proxy\n"
    ∷ codes "2000 admit 4 14\n"
    ∷ codes "2000 assign 4 0\n"
    ∷ codes "2000 limit 1 1\n"
    ∷ codes "2000 admit 5 15\n"
    ∷ codes "2000 assign 5 0\n" ∷ [])

abbrev pub PlaceAfterDrainLastLine : Type 0
PlaceAfterDrainLastLine = Ends place_after_drain 1 (codes "end events=12 admitted=5 direct=1 assigned=5 finished=0 failed=0 expired=0 cancelled=0 queue-full=0 overload=0 decisions=2\n")

abbrev pub PlaceAfterDrainTold : Type 0
PlaceAfterDrainTold =
    Tells place_after_drain
    (told.Passed ∷ told.Passed ∷ told.Passed ∷ told.Run 0 0 ∷ told.Run 1 1 ∷ told.Run 2 2 ∷ decided ∷ told.Run 3 0 ∷ decided
    ∷ told.Run 4 0 ∷ told.Passed ∷ told.Run 5 0 ∷ [])

abbrev pub PlaceAfterDrainStand : Type 0
PlaceAfterDrainStand =
    Leaves place_after_drain
    (stand.Running 0 ∷ stand.Running 1 ∷ stand.Running 2 ∷ stand.Running 0 ∷ stand.Running 0 ∷ stand.Running 0 ∷ stand.Unknown
    ∷ [])

-- a drain does not reset the place
abbrev pub place_across_drain : Run
place_across_drain = record {
  spec = record (scaled 4) { stable_s = 6; panic_s = 1; min = 2; initial = 3; slots = slots 9 9 };
  start = 0;
  events = at 0 (act.Ready 0) ∷ at 0 (act.Ready 1) ∷ at 0 (act.Ready 2) ∷ at 0 (act.Arrive 10) ∷ at 1000 act.Tick
      ∷ at 1000 (act.Arrive 11) ∷ [];
}

abbrev pub PlaceAcrossDrainReport : Type 0
PlaceAcrossDrainReport =
    Prints place_across_drain
    (codes "0 phase activating\n"
    ∷ codes "0 create 0 4\n"
    ∷ codes "0 create 1 4\n"
    ∷ codes "0 create 2 4\n"
    ∷ codes "0 ready 0\n"
    ∷ codes "0 phase active\n"
    ∷ codes "0 ready 1\n"
    ∷ codes "0 ready 2\n"
    ∷ codes "0 admit 0 10\n"
    ∷ codes "0 assign 0 0\n"
    ∷ codes "1000 decision stable=1000/1000 panic=1000/1000 ready=3 dspc=1 dppc=1 over=no panicking=no undelayed=1 delayed=1 excess=-200 bounded=2 want=2 applied=yes mode=proxy\n"
    ∷ codes "1000 drain 2\n"
    ∷ codes "1000 remove 2\n"
    ∷ codes "1000 admit 1 11\n"
    ∷ codes "1000 assign 1 1\n" ∷ [])

abbrev pub PlaceAcrossDrainLastLine : Type 0
PlaceAcrossDrainLastLine = Ends place_across_drain 1 (codes "end events=6 admitted=2 direct=0 assigned=2 finished=0 failed=0 expired=0 cancelled=0 queue-full=0 overload=0 decisions=1\n")

abbrev pub PlaceAcrossDrainTold : Type 0
PlaceAcrossDrainTold =
    Tells place_across_drain (told.Passed ∷ told.Passed ∷ told.Passed ∷ told.Run 0 0 ∷ decided ∷ told.Run 1 1 ∷ [])

abbrev pub PlaceAcrossDrainStand : Type 0
PlaceAcrossDrainStand =
    Leaves place_across_drain (stand.Running 0 ∷ stand.Running 1 ∷ stand.Unknown ∷ [])

-- assignments alone draw words
abbrev pub words_after_directs : Run
words_after_directs = record {
  spec = record (scaled 0) { stable_s = 6; panic_s = 1; burst = Capacity (milli 299000); min = 3; initial = 3; slots = slots 9 9 };
  start = 0;
  events = at 0 (act.Ready 0) ∷ at 0 (act.Ready 1) ∷ at 0 (act.Ready 2) ∷ at 1000 act.Tick ∷ at 1100 (act.Arrive 10)
      ∷ at 1100 (act.Arrive 11) ∷ at 1100 (act.Arrive 12) ∷ at 2000 act.Tick ∷ at 2000 (act.Arrive 13) ∷ [];
}

abbrev pub WordsAfterDirectsReport : Type 0
WordsAfterDirectsReport =
    Prints words_after_directs
    (codes "0 phase activating\n"
    ∷ codes "0 create 0 0\n"
    ∷ codes "0 create 1 0\n"
    ∷ codes "0 create 2 0\n"
    ∷ codes "0 ready 0\n"
    ∷ codes "0 phase active\n"
    ∷ codes "0 ready 1\n"
    ∷ codes "0 ready 2\n"
    ∷ codes "1000 decision stable=0/1000 panic=0/1000 ready=3 dspc=0 dppc=0 over=no panicking=no undelayed=1 delayed=1 excess=1 bounded=3 want=3 applied=yes mode=serve\n"
    ∷ codes "1000 mode serve\n"
    ∷ codes "1100 direct 0 0\n"
    ∷ codes "1100 run 0\n"
    ∷ codes "1100 direct 1 1\n"
    ∷ codes "1100 run 1\n"
    ∷ codes "1100 direct 2 2\n"
    ∷ codes "1100 run 2\n"
    ∷ codes "2000 decision stable=2700/2000 panic=2700/1000 ready=3 dspc=1 dppc=1 over=no panicking=no undelayed=1 delayed=1 excess=-2 bounded=3 want=3 applied=yes mode=proxy\n"
    ∷ codes "2000 mode proxy\n"
    ∷ codes "2000 admit 3 13\n"
    ∷ codes "2000 assign 3 1\n" ∷ [])

abbrev pub WordsAfterDirectsLastLine : Type 0
WordsAfterDirectsLastLine = Ends words_after_directs 1 (codes "end events=9 admitted=1 direct=3 assigned=1 finished=0 failed=0 expired=0 cancelled=0 queue-full=0 overload=0 decisions=2\n")

abbrev pub WordsAfterDirectsTold : Type 0
WordsAfterDirectsTold =
    Tells words_after_directs
    (told.Passed ∷ told.Passed ∷ told.Passed ∷ decided ∷ told.Run 0 0 ∷ told.Run 1 1 ∷ told.Run 2 2 ∷ decided ∷ told.Run 3 1
    ∷ [])

abbrev pub WordsAfterDirectsStand : Type 0
WordsAfterDirectsStand =
    Leaves words_after_directs (stand.Running 0 ∷ stand.Running 1 ∷ stand.Running 2 ∷ stand.Running 1 ∷ stand.Unknown ∷ [])

-- Starting pods drain first, the greatest number first
abbrev pub drain_starting_first : Run
drain_starting_first = record {
  spec = record (scaled 1) { stable_s = 6; panic_s = 1; max = 1; initial = 4; slots = slots 1 2 };
  start = 0;
  events = at 0 (act.Ready 3) ∷ at 0 (act.Ready 1) ∷ at 0 (act.Arrive 10) ∷ at 0 (act.Arrive 11) ∷ at 0 (act.Arrive 12)
      ∷ at 1000 act.Tick ∷ at 1000 (act.Finish 0 true) ∷ at 1100 (act.Limit 3 2) ∷ at 1100 (act.Ready 3) ∷ at 1200 (act.Limit 0 1)
      ∷ at 1300 (act.Finish 1 true) ∷ [];
}

abbrev pub DrainStartingFirstReport : Type 0
DrainStartingFirstReport =
    Prints drain_starting_first
    (codes "0 phase activating\n"
    ∷ codes "0 create 0 1\n"
    ∷ codes "0 create 1 1\n"
    ∷ codes "0 create 2 1\n"
    ∷ codes "0 create 3 1\n"
    ∷ codes "0 ready 3\n"
    ∷ codes "0 phase active\n"
    ∷ codes "0 ready 1\n"
    ∷ codes "0 admit 0 10\n"
    ∷ codes "0 assign 0 1\n"
    ∷ codes "0 admit 1 11\n"
    ∷ codes "0 assign 1 3\n"
    ∷ codes "0 admit 2 12\n"
    ∷ codes "1000 decision stable=3000/1000 panic=3000/1000 ready=2 dspc=5 dppc=5 over=yes panicking=yes undelayed=5 delayed=5 excess=-212 bounded=1 want=1 applied=yes mode=proxy\n"
    ∷ codes "1000 drain 2\n"
    ∷ codes "1000 drain 0\n"
    ∷ codes "1000 drain 3\n"
    ∷ codes "1000 remove 0\n"
    ∷ codes "1000 remove 2\n"
    ∷ codes "1000 finish 0 ok\n"
    ∷ codes "1100 limit 3 2\n"
    ∷ codes "1100 not-starting 3\n"
    ∷ codes "1200 no-pod 0\n"
    ∷ codes "1300 finish 1 ok\n"
    ∷ codes "1300 assign 2 1\n"
    ∷ codes "1300 remove 3\n" ∷ [])

abbrev pub DrainStartingFirstLastLine : Type 0
DrainStartingFirstLastLine = Ends drain_starting_first 1 (codes "end events=11 admitted=3 direct=0 assigned=3 finished=2 failed=0 expired=0 cancelled=0 queue-full=0 overload=0 decisions=1\n")

abbrev pub DrainStartingFirstTold : Type 0
DrainStartingFirstTold =
    Tells drain_starting_first
    (told.Passed ∷ told.Passed ∷ told.Run 0 1 ∷ told.Run 1 3 ∷ told.Held 2 ∷ decided ∷ told.Done 0 ∷ told.Passed
    ∷ told.NotStarting 3 ∷ told.NoPod 0 ∷ told.Done 1 ∷ [])

abbrev pub DrainStartingFirstStand : Type 0
DrainStartingFirstStand =
    Leaves drain_starting_first (stand.Ended ∷ stand.Ended ∷ stand.Running 1 ∷ stand.Unknown ∷ [])

-- wanted pods are compared with those that do not drain
abbrev pub create_beside_draining : Run
create_beside_draining = record {
  spec = record (scaled 4) { stable_s = 6; panic_s = 1; max = 2; initial = 2; slots = slots 9 9 };
  start = 0;
  events = at 0 (act.Ready 0) ∷ at 0 (act.Ready 1) ∷ at 0 (act.Arrive 10) ∷ at 0 (act.Arrive 11) ∷ at 1000 act.Tick
      ∷ at 1000 (act.Limit 0 3) ∷ at 1000 (act.Arrive 12) ∷ at 1000 (act.Arrive 13) ∷ at 2000 act.Tick ∷ at 2000 (act.Ready 2)
      ∷ [];
}

abbrev pub CreateBesideDrainingReport : Type 0
CreateBesideDrainingReport =
    Prints create_beside_draining
    (codes "0 phase activating\n"
    ∷ codes "0 create 0 4\n"
    ∷ codes "0 create 1 4\n"
    ∷ codes "0 ready 0\n"
    ∷ codes "0 phase active\n"
    ∷ codes "0 ready 1\n"
    ∷ codes "0 admit 0 10\n"
    ∷ codes "0 assign 0 0\n"
    ∷ codes "0 admit 1 11\n"
    ∷ codes "0 assign 1 1\n"
    ∷ codes "1000 decision stable=2000/1000 panic=2000/1000 ready=2 dspc=1 dppc=1 over=no panicking=no undelayed=1 delayed=1 excess=-205 bounded=1 want=1 applied=yes mode=proxy\n"
    ∷ codes "1000 drain 1\n"
    ∷ codes "1000 limit 0 3\n"
    ∷ codes "1000 admit 2 12\n"
    ∷ codes "1000 assign 2 0\n"
    ∷ codes "1000 admit 3 13\n"
    ∷ codes "2000 decision stable=6000/2000 panic=4000/1000 ready=1 dspc=2 dppc=2 over=yes panicking=yes undelayed=2 delayed=2 excess=-211 bounded=2 want=2 applied=yes mode=proxy\n"
    ∷ codes "2000 create 2 4\n"
    ∷ codes "2000 ready 2\n"
    ∷ codes "2000 assign 3 2\n" ∷ [])

abbrev pub CreateBesideDrainingLastLine : Type 0
CreateBesideDrainingLastLine = Ends create_beside_draining 1 (codes "end events=10 admitted=4 direct=0 assigned=4 finished=0 failed=0 expired=0 cancelled=0 queue-full=0 overload=0 decisions=2\n")

abbrev pub CreateBesideDrainingTold : Type 0
CreateBesideDrainingTold =
    Tells create_beside_draining
    (told.Passed ∷ told.Passed ∷ told.Run 0 0 ∷ told.Run 1 1 ∷ decided ∷ told.Passed ∷ told.Run 2 0 ∷ told.Held 3 ∷ decided
    ∷ told.Passed ∷ [])

abbrev pub CreateBesideDrainingStand : Type 0
CreateBesideDrainingStand =
    Leaves create_beside_draining (stand.Running 0 ∷ stand.Running 1 ∷ stand.Running 0 ∷ stand.Running 2 ∷ stand.Unknown ∷ [])

-- a draining pod runs its queue
abbrev pub draining_runs_queue : Run
draining_runs_queue = record {
  spec = record (scaled 1) { stable_s = 6; panic_s = 1; burst = Capacity (milli 0); max = 1; initial = 2; timeout_ms = 1000; slots = slots 9 9 };
  start = 0;
  events = at 0 (act.Ready 1) ∷ at 1000 act.Tick ∷ at 1100 (act.Arrive 10) ∷ at 1100 (act.Arrive 11) ∷ at 1100 (act.Arrive 12)
      ∷ at 1100 (act.Arrive 13) ∷ at 1200 (act.Ready 0) ∷ at 2000 act.Tick ∷ at 2050 (act.Finish 0 true) ∷ at 2050 (act.Cancel 3)
      ∷ [];
}

abbrev pub DrainingRunsQueueReport : Type 0
DrainingRunsQueueReport =
    Prints draining_runs_queue
    (codes "0 phase activating\n"
    ∷ codes "0 create 0 1\n"
    ∷ codes "0 create 1 1\n"
    ∷ codes "0 ready 1\n"
    ∷ codes "0 phase active\n"
    ∷ codes "1000 decision stable=0/1000 panic=0/1000 ready=1 dspc=0 dppc=0 over=no panicking=no undelayed=0 delayed=0 excess=0 bounded=2 want=2 applied=yes mode=serve\n"
    ∷ codes "1000 mode serve\n"
    ∷ codes "1100 direct 0 1\n"
    ∷ codes "1100 run 0\n"
    ∷ codes "1100 direct 1 1\n"
    ∷ codes "1100 direct 2 1\n"
    ∷ codes "1100 direct 3 1\n"
    ∷ codes "1200 ready 0\n"
    ∷ codes "2000 decision stable=3600/2000 panic=3600/1000 ready=2 dspc=3 dppc=6 over=yes panicking=yes undelayed=6 delayed=6 excess=0 bounded=1 want=1 applied=yes mode=serve\n"
    ∷ codes "2000 drain 1\n"
    ∷ codes "2050 finish 0 ok\n"
    ∷ codes "2050 run 1\n"
    ∷ codes "2050 cancel 3\n" ∷ [])

abbrev pub DrainingRunsQueueLastLine : Type 0
DrainingRunsQueueLastLine = Ends draining_runs_queue 1 (codes "end events=10 admitted=0 direct=4 assigned=0 finished=1 failed=0 expired=0 cancelled=1 queue-full=0 overload=0 decisions=2\n")

abbrev pub DrainingRunsQueueTold : Type 0
DrainingRunsQueueTold =
    Tells draining_runs_queue
    (told.Passed ∷ decided ∷ told.Run 0 1 ∷ told.AtPod 1 1 ∷ told.AtPod 2 1 ∷ told.AtPod 3 1 ∷ told.Passed ∷ decided
    ∷ told.Done 0 ∷ told.Done 3 ∷ [])

abbrev pub DrainingRunsQueueStand : Type 0
DrainingRunsQueueStand =
    Leaves draining_runs_queue (stand.Ended ∷ stand.Running 1 ∷ stand.Queued 1 ∷ stand.Ended ∷ stand.Unknown ∷ [])

-- what is queued at a draining pod expires there
abbrev pub queue_expires_while_draining : Run
queue_expires_while_draining = record draining_runs_queue { events = draining_runs_queue.events ++ at 2100 act.Pass ∷ [] }

abbrev pub QueueExpiresWhileDrainingTold : Type 0
QueueExpiresWhileDrainingTold =
    Tells queue_expires_while_draining
    (told.Passed ∷ decided ∷ told.Run 0 1 ∷ told.AtPod 1 1 ∷ told.AtPod 2 1 ∷ told.AtPod 3 1 ∷ told.Passed ∷ decided
    ∷ told.Done 0 ∷ told.Done 3 ∷ told.Passed ∷ [])

abbrev pub QueueExpiresWhileDrainingStand : Type 0
QueueExpiresWhileDrainingStand =
    Leaves queue_expires_while_draining (stand.Ended ∷ stand.Running 1 ∷ stand.Ended ∷ stand.Ended ∷ stand.Unknown ∷ [])

-- neither a new pod nor a drain resets the turn
abbrev pub turns_across_drain : Run
turns_across_drain = record {
  spec = record (scaled 4) { stable_s = 6; panic_s = 1; burst = Capacity (milli 0); min = 2; initial = 3; slots = slots 9 9 };
  start = 0;
  events = at 0 (act.Ready 0) ∷ at 0 (act.Ready 1) ∷ at 1000 act.Tick ∷ at 1100 (act.Arrive 10) ∷ at 1200 (act.Ready 2)
      ∷ at 2000 act.Tick ∷ at 2000 (act.Arrive 11) ∷ [];
}

abbrev pub TurnsAcrossDrainReport : Type 0
TurnsAcrossDrainReport =
    Prints turns_across_drain
    (codes "0 phase activating\n"
    ∷ codes "0 create 0 4\n"
    ∷ codes "0 create 1 4\n"
    ∷ codes "0 create 2 4\n"
    ∷ codes "0 ready 0\n"
    ∷ codes "0 phase active\n"
    ∷ codes "0 ready 1\n"
    ∷ codes "1000 decision stable=0/1000 panic=0/1000 ready=2 dspc=0 dppc=0 over=no panicking=no undelayed=1 delayed=1 excess=0 bounded=3 want=3 applied=yes mode=serve\n"
    ∷ codes "1000 mode serve\n"
    ∷ codes "1100 direct 0 0\n"
    ∷ codes "1100 run 0\n"
    ∷ codes "1200 ready 2\n"
    ∷ codes "2000 decision stable=900/2000 panic=900/1000 ready=3 dspc=1 dppc=1 over=no panicking=no undelayed=1 delayed=1 excess=0 bounded=2 want=2 applied=yes mode=serve\n"
    ∷ codes "2000 drain 2\n"
    ∷ codes "2000 remove 2\n"
    ∷ codes "2000 direct 1 1\n"
    ∷ codes "2000 run 1\n" ∷ [])

abbrev pub TurnsAcrossDrainLastLine : Type 0
TurnsAcrossDrainLastLine = Ends turns_across_drain 1 (codes "end events=7 admitted=0 direct=2 assigned=0 finished=0 failed=0 expired=0 cancelled=0 queue-full=0 overload=0 decisions=2\n")

abbrev pub TurnsAcrossDrainTold : Type 0
TurnsAcrossDrainTold =
    Tells turns_across_drain (told.Passed ∷ told.Passed ∷ decided ∷ told.Run 0 0 ∷ told.Passed ∷ decided ∷ told.Run 1 1 ∷ [])

abbrev pub TurnsAcrossDrainStand : Type 0
TurnsAcrossDrainStand =
    Leaves turns_across_drain (stand.Running 0 ∷ stand.Running 1 ∷ stand.Unknown ∷ [])

-- Summaries of runs whose pods are scaled.
use Rattle.std.specs.Prelude.{[], ◌∷◌, ◌++◌, true, false, codes}
use Rattle.kn_event.specs.declared.event.Act.TheVariants as act
use Rattle.kn_event.specs.declared.revision.Burst.TheVariants.{Capacity}
use Rattle.kn_event.specs.Defaults.{milli, scaling_target}
use Rattle.kn_scaling.specs.Worked.{scaled}
use Rattle.kn_trace.specs.Worked.{at, slots}
use Rattle.kn_rows_show.specs.Sums.{Sums}

-- opens at zero and is woken, and again after three days
abbrev pub WokenTwice : Type 0
WokenTwice =
    Sums (record (scaled 1) { burst = Capacity (milli 0); timeout_ms = 2000; slots = slots 10 10; target = scaling_target 1000 100000; stable_s = 6; panic_s = 1; grace_ms = 1000; initial = 0 }) 0
    (at 100 (act.Arrive 1) ∷ at 100 (act.Arrive 2) ∷ at 600 (act.Ready 0) ∷ at 700 (act.Finish 0 true) ∷ at 800 (act.Finish 1 true)
    ∷ at 2000 act.Tick ∷ at 8000 act.Tick ∷ at 10000 act.Tick ∷ at 12000 act.Tick ∷ at 259212000 (act.Arrive 3)
    ∷ at 259212500 (act.Ready 1) ∷ at 259212600 (act.Finish 2 true) ∷ [])
    (codes "from 0\nto 259212600\nevents 12\n"
    ++ codes "requests 3\nadmitted 3\ndirect 0\nqueue-full 0\noverload 0\n"
    ++ codes "ok 3\nfailed 0\nexpired 0\ncancelled 0\nlost 0\nlive 0\n"
    ++ codes "ran 3\nwaited-p50 500\nwaited-p90 600\nwaited-p99 600\nwaited-p999 600\nwaited-max 600\nwaited-sum 1600\n"
    ++ codes "cold 3\nwakes 2\ndecisions 6\nno-data 0\npanicking 0\n"
    ++ codes "pods 2\npods-peak 1\nready-peak 1\nheld-peak 2\nlive-peak 2\n"
    ++ codes "at-zero-ms 259202100\npod-ms 10500\nready-ms 9500\nrunning-ms 300\n"
    ++ codes "wanted-changes 3\n")

-- no pod is wanted while one is still Ready: the next arrival wakes
abbrev pub WokenBesidePods : Type 0
WokenBesidePods =
    Sums (record (scaled 1) { burst = Capacity (milli 0); timeout_ms = 2000; slots = slots 10 10; target = scaling_target 1000 100000; stable_s = 6; panic_s = 1; grace_ms = 60000; initial = 0 }) 0
    (at 100 (act.Arrive 1) ∷ at 600 (act.Ready 0) ∷ at 700 (act.Finish 0 true) ∷ at 8000 act.Tick ∷ at 8100 (act.Arrive 2)
    ∷ at 8200 (act.Finish 1 true) ∷ [])
    (codes "from 0\nto 8200\nevents 6\n"
    ++ codes "requests 2\nadmitted 2\ndirect 0\nqueue-full 0\noverload 0\n"
    ++ codes "ok 2\nfailed 0\nexpired 0\ncancelled 0\nlost 0\nlive 0\n"
    ++ codes "ran 2\nwaited-p50 0\nwaited-p90 500\nwaited-p99 500\nwaited-p999 500\nwaited-max 500\nwaited-sum 500\n"
    ++ codes "cold 1\nwakes 2\ndecisions 3\nno-data 0\npanicking 0\n"
    ++ codes "pods 1\npods-peak 1\nready-peak 1\nheld-peak 1\nlive-peak 1\n"
    ++ codes "at-zero-ms 100\npod-ms 8100\nready-ms 7600\nrunning-ms 200\n"
    ++ codes "wanted-changes 3\n")

-- a tick wakes, without an arrival
abbrev pub WokenByTick : Type 0
WokenByTick =
    Sums (record (scaled 1) { burst = Capacity (milli 0); timeout_ms = 2000; slots = slots 10 10; target = scaling_target 1000 100000; stable_s = 6; panic_s = 1; grace_ms = 60000 }) 0
    (at 0 (act.Ready 0) ∷ at 8000 (act.Arrive 1) ∷ at 8500 act.Tick ∷ at 10500 act.Tick ∷ at 11000 (act.Finish 0 true) ∷ [])
    (codes "from 0\nto 11000\nevents 5\n"
    ++ codes "requests 1\nadmitted 1\ndirect 0\nqueue-full 0\noverload 0\n"
    ++ codes "ok 1\nfailed 0\nexpired 0\ncancelled 0\nlost 0\nlive 0\n"
    ++ codes "ran 1\nwaited-p50 0\nwaited-p90 0\nwaited-p99 0\nwaited-p999 0\nwaited-max 0\nwaited-sum 0\n"
    ++ codes "cold 0\nwakes 1\ndecisions 2\nno-data 0\npanicking 0\n"
    ++ codes "pods 1\npods-peak 1\nready-peak 1\nheld-peak 0\nlive-peak 1\n"
    ++ codes "at-zero-ms 0\npod-ms 11000\nready-ms 11000\nrunning-ms 3000\n"
    ++ codes "wanted-changes 2\n")

-- never a pod; a tick without a sample is no decision
abbrev pub ZeroForDays : Type 0
ZeroForDays =
    Sums (record (scaled 1) { burst = Capacity (milli 0); timeout_ms = 2000; slots = slots 10 10; target = scaling_target 1000 100000; stable_s = 6; panic_s = 1; grace_ms = 1000; initial = 0 }) 3
    (at 86400000 act.Tick ∷ at 172800000 act.Pass ∷ [])
    (codes "from 3\nto 172800000\nevents 2\n"
    ++ codes "requests 0\nadmitted 0\ndirect 0\nqueue-full 0\noverload 0\n"
    ++ codes "ok 0\nfailed 0\nexpired 0\ncancelled 0\nlost 0\nlive 0\n"
    ++ codes "ran 0\nwaited-p50 -\nwaited-p90 -\nwaited-p99 -\nwaited-p999 -\nwaited-max -\nwaited-sum 0\n"
    ++ codes "cold 0\nwakes 0\ndecisions 0\nno-data 1\npanicking 0\n"
    ++ codes "pods 0\npods-peak 0\nready-peak 0\nheld-peak 0\nlive-peak 0\n"
    ++ codes "at-zero-ms 172799997\npod-ms 0\nready-ms 0\nrunning-ms 0\n"
    ++ codes "wanted-changes 0\n")

-- pods that are lost, and one that drains and leaves
abbrev pub RemovedAndLost : Type 0
RemovedAndLost =
    Sums (record (scaled 1) { burst = Capacity (milli 0); timeout_ms = 2000; slots = slots 10 10; target = scaling_target 1000 100000; stable_s = 6; panic_s = 1; down = milli 10000; initial = 3 }) 0
    (at 10 (act.Ready 0) ∷ at 20 (act.Ready 1) ∷ at 30 (act.Arrive 1) ∷ at 40 (act.Arrive 2) ∷ at 45 (act.Arrive 3)
    ∷ at 50 (act.Ready 2) ∷ at 60 (act.Lost 1) ∷ at 300 (act.Finish 2 true) ∷ at 500 (act.Finish 0 true) ∷ at 1000 act.Tick
    ∷ at 1100 (act.Lost 0) ∷ at 1200 act.Pass ∷ [])
    (codes "from 0\nto 1200\nevents 12\n"
    ++ codes "requests 3\nadmitted 3\ndirect 0\nqueue-full 0\noverload 0\n"
    ++ codes "ok 2\nfailed 0\nexpired 0\ncancelled 0\nlost 1\nlive 0\n"
    ++ codes "ran 3\nwaited-p50 0\nwaited-p90 5\nwaited-p99 5\nwaited-p999 5\nwaited-max 5\nwaited-sum 5\n"
    ++ codes "cold 0\nwakes 0\ndecisions 1\nno-data 0\npanicking 0\n"
    ++ codes "pods 3\npods-peak 3\nready-peak 3\nheld-peak 1\nlive-peak 3\n"
    ++ codes "at-zero-ms 100\npod-ms 2160\nready-ms 2080\nrunning-ms 740\n"
    ++ codes "wanted-changes 1\n")

-- a pod that drains costs until it is removed
abbrev pub DrainingStillCosts : Type 0
DrainingStillCosts =
    Sums (record (scaled 1) { burst = Capacity (milli 0); timeout_ms = 2000; slots = slots 10 10; target = scaling_target 1000 100000; stable_s = 6; panic_s = 1; down = milli 10000; initial = 2 }) 0
    (at 0 (act.Ready 0) ∷ at 0 (act.Ready 1) ∷ at 900 (act.Arrive 1) ∷ at 900 (act.Arrive 2) ∷ at 1000 act.Tick
    ∷ at 1200 (act.Lost 0) ∷ at 1500 (act.Finish 1 true) ∷ at 1600 act.Pass ∷ [])
    (codes "from 0\nto 1600\nevents 8\n"
    ++ codes "requests 2\nadmitted 2\ndirect 0\nqueue-full 0\noverload 0\n"
    ++ codes "ok 1\nfailed 0\nexpired 0\ncancelled 0\nlost 1\nlive 0\n"
    ++ codes "ran 2\nwaited-p50 0\nwaited-p90 0\nwaited-p99 0\nwaited-p999 0\nwaited-max 0\nwaited-sum 0\n"
    ++ codes "cold 0\nwakes 0\ndecisions 1\nno-data 0\npanicking 0\n"
    ++ codes "pods 2\npods-peak 2\nready-peak 2\nheld-peak 0\nlive-peak 2\n"
    ++ codes "at-zero-ms 100\npod-ms 2700\nready-ms 2200\nrunning-ms 900\n"
    ++ codes "wanted-changes 1\n")

-- decisions in panic and out of it
abbrev pub Decisions : Type 0
Decisions =
    Sums (record (scaled 1) { burst = Capacity (milli 0); timeout_ms = 2000; slots = slots 10 10; stable_s = 6; panic_s = 3; up = milli 10000 }) 0
    (at 500 act.Tick ∷ at 1000 (act.Ready 0) ∷ at 1000 (act.Arrive 0) ∷ at 1000 (act.Arrive 1) ∷ at 1000 (act.Arrive 2)
    ∷ at 1000 (act.Arrive 3) ∷ at 2000 act.Tick ∷ at 2100 (act.Ready 1) ∷ at 2100 (act.Ready 2) ∷ at 2100 (act.Ready 3)
    ∷ at 2200 (act.Finish 0 true) ∷ at 2200 (act.Finish 1 true) ∷ at 2200 (act.Finish 2 true) ∷ at 2200 (act.Finish 3 true) ∷ at 4000 act.Tick
    ∷ at 9000 act.Tick ∷ at 16000 act.Tick ∷ [])
    (codes "from 0\nto 16000\nevents 17\n"
    ++ codes "requests 4\nadmitted 4\ndirect 0\nqueue-full 0\noverload 0\n"
    ++ codes "ok 4\nfailed 0\nexpired 0\ncancelled 0\nlost 0\nlive 0\n"
    ++ codes "ran 4\nwaited-p50 1100\nwaited-p90 1100\nwaited-p99 1100\nwaited-p999 1100\nwaited-max 1100\nwaited-sum 3300\n"
    ++ codes "cold 0\nwakes 0\ndecisions 4\nno-data 1\npanicking 2\n"
    ++ codes "pods 6\npods-peak 6\nready-peak 4\nheld-peak 3\nlive-peak 4\n"
    ++ codes "at-zero-ms 0\npod-ms 58000\nready-ms 42700\nrunning-ms 1500\n"
    ++ codes "wanted-changes 3\n")

-- requests past the activator wait too, in the queue of their pod
abbrev pub Direct : Type 0
Direct =
    Sums (record (scaled 1) { burst = Capacity (milli 0); timeout_ms = 2000; slots = slots 10 10 }) 0
    (at 0 (act.Ready 0) ∷ at 1000 act.Tick ∷ at 1001 (act.Arrive 9) ∷ at 1002 (act.Arrive 8) ∷ at 1003 (act.Arrive 7)
    ∷ at 1010 (act.Finish 0 true) ∷ at 1020 (act.Finish 1 false) ∷ at 1030 (act.Arrive 6) ∷ at 1031 (act.Cancel 3) ∷ [])
    (codes "from 0\nto 1031\nevents 9\n"
    ++ codes "requests 4\nadmitted 0\ndirect 4\nqueue-full 0\noverload 0\n"
    ++ codes "ok 1\nfailed 1\nexpired 0\ncancelled 1\nlost 0\nlive 1\n"
    ++ codes "ran 3\nwaited-p50 8\nwaited-p90 17\nwaited-p99 17\nwaited-p999 17\nwaited-max 17\nwaited-sum 25\n"
    ++ codes "cold 0\nwakes 0\ndecisions 1\nno-data 0\npanicking 0\n"
    ++ codes "pods 1\npods-peak 1\nready-peak 1\nheld-peak 0\nlive-peak 3\n"
    ++ codes "at-zero-ms 0\npod-ms 1031\nready-ms 1031\nrunning-ms 30\n"
    ++ codes "wanted-changes 0\n")

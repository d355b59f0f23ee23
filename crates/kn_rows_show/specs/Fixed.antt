-- Summaries of runs with pods that are given once.
use Rattle.std.specs.Prelude.{[], ◌∷◌, ◌++◌, true, false, codes}
use Rattle.kn_event.specs.declared.event.Act.TheVariants as act
use Rattle.kn_event.specs.FixedSpec.{fixed_spec}
use Rattle.kn_trace.specs.Worked.{at, slots}
use Rattle.kn_rows_show.specs.Sums.{Sums}

-- no event: it ends at its start, and nobody ran
abbrev pub NoEvents : Type 0
NoEvents =
    Sums (fixed_spec 1 0 1 (slots 5 5)) 77
    []
    (codes "from 77\nto 77\nevents 0\n"
    ++ codes "requests 0\nadmitted 0\ndirect 0\nqueue-full 0\noverload 0\n"
    ++ codes "ok 0\nfailed 0\nexpired 0\ncancelled 0\nlost 0\nlive 0\n"
    ++ codes "ran 0\nwaited-p50 -\nwaited-p90 -\nwaited-p99 -\nwaited-p999 -\nwaited-max -\nwaited-sum 0\n"
    ++ codes "cold 0\nwakes 0\ndecisions 0\nno-data 0\npanicking 0\n"
    ++ codes "pods 0\npods-peak 0\nready-peak 0\nheld-peak 0\nlive-peak 0\n"
    ++ codes "at-zero-ms 0\npod-ms 0\nready-ms 0\nrunning-ms 0\n"
    ++ codes "wanted-changes 0\n")

-- one request: each percentile is its wait
abbrev pub OneRequest : Type 0
OneRequest =
    Sums (fixed_spec 1 1 1 (slots 5 5)) 0
    (at 0 (act.Arrive 0) ∷ at 7 (act.Ready 0) ∷ at 19 (act.Finish 0 true) ∷ at 30 act.Pass ∷ [])
    (codes "from 0\nto 30\nevents 4\n"
    ++ codes "requests 1\nadmitted 1\ndirect 0\nqueue-full 0\noverload 0\n"
    ++ codes "ok 1\nfailed 0\nexpired 0\ncancelled 0\nlost 0\nlive 0\n"
    ++ codes "ran 1\nwaited-p50 7\nwaited-p90 7\nwaited-p99 7\nwaited-p999 7\nwaited-max 7\nwaited-sum 7\n"
    ++ codes "cold 1\nwakes 0\ndecisions 0\nno-data 0\npanicking 0\n"
    ++ codes "pods 1\npods-peak 1\nready-peak 1\nheld-peak 1\nlive-peak 1\n"
    ++ codes "at-zero-ms 0\npod-ms 30\nready-ms 23\nrunning-ms 12\n"
    ++ codes "wanted-changes 0\n")

-- who was cancelled or expired is in no figure of waiting
abbrev pub NoneRan : Type 0
NoneRan =
    Sums (fixed_spec 1 1 1 (slots 5 5)) 0
    (at 0 (act.Arrive 0) ∷ at 1 (act.Arrive 1) ∷ at 2 (act.Cancel 0) ∷ at 1001 act.Pass ∷ [])
    (codes "from 0\nto 1001\nevents 4\n"
    ++ codes "requests 2\nadmitted 2\ndirect 0\nqueue-full 0\noverload 0\n"
    ++ codes "ok 0\nfailed 0\nexpired 1\ncancelled 1\nlost 0\nlive 0\n"
    ++ codes "ran 0\nwaited-p50 -\nwaited-p90 -\nwaited-p99 -\nwaited-p999 -\nwaited-max -\nwaited-sum 0\n"
    ++ codes "cold 2\nwakes 0\ndecisions 0\nno-data 0\npanicking 0\n"
    ++ codes "pods 1\npods-peak 1\nready-peak 0\nheld-peak 2\nlive-peak 2\n"
    ++ codes "at-zero-ms 0\npod-ms 1001\nready-ms 0\nrunning-ms 0\n"
    ++ codes "wanted-changes 0\n")

-- ten that waited 1 3 3 3 3 6 6 6 6 10
abbrev pub Ties : Type 0
Ties =
    Sums (fixed_spec 0 1 1 (slots 20 20)) 0
    (at 0 (act.Arrive 0) ∷ at 4 (act.Arrive 1) ∷ at 4 (act.Arrive 2) ∷ at 4 (act.Arrive 3) ∷ at 4 (act.Arrive 4)
    ∷ at 7 (act.Arrive 5) ∷ at 7 (act.Arrive 6) ∷ at 7 (act.Arrive 7) ∷ at 7 (act.Arrive 8) ∷ at 9 (act.Arrive 9)
    ∷ at 10 (act.Ready 0) ∷ at 10 (act.Finish 0 true) ∷ at 10 (act.Finish 1 false) ∷ [])
    (codes "from 0\nto 10\nevents 13\n"
    ++ codes "requests 10\nadmitted 10\ndirect 0\nqueue-full 0\noverload 0\n"
    ++ codes "ok 1\nfailed 1\nexpired 0\ncancelled 0\nlost 0\nlive 8\n"
    ++ codes "ran 10\nwaited-p50 3\nwaited-p90 6\nwaited-p99 10\nwaited-p999 10\nwaited-max 10\nwaited-sum 47\n"
    ++ codes "cold 10\nwakes 0\ndecisions 0\nno-data 0\npanicking 0\n"
    ++ codes "pods 1\npods-peak 1\nready-peak 1\nheld-peak 10\nlive-peak 10\n"
    ++ codes "at-zero-ms 0\npod-ms 10\nready-ms 0\nrunning-ms 0\n"
    ++ codes "wanted-changes 0\n")

-- the median of two waits is the lesser
abbrev pub TwoRequests : Type 0
TwoRequests =
    Sums (fixed_spec 0 1 1 (slots 20 20)) 0
    (at 0 (act.Arrive 0) ∷ at 9 (act.Arrive 1) ∷ at 10 (act.Ready 0) ∷ [])
    (codes "from 0\nto 10\nevents 3\n"
    ++ codes "requests 2\nadmitted 2\ndirect 0\nqueue-full 0\noverload 0\n"
    ++ codes "ok 0\nfailed 0\nexpired 0\ncancelled 0\nlost 0\nlive 2\n"
    ++ codes "ran 2\nwaited-p50 1\nwaited-p90 10\nwaited-p99 10\nwaited-p999 10\nwaited-max 10\nwaited-sum 11\n"
    ++ codes "cold 2\nwakes 0\ndecisions 0\nno-data 0\npanicking 0\n"
    ++ codes "pods 1\npods-peak 1\nready-peak 1\nheld-peak 2\nlive-peak 2\n"
    ++ codes "at-zero-ms 0\npod-ms 10\nready-ms 0\nrunning-ms 0\n"
    ++ codes "wanted-changes 0\n")

-- the opening has a peak too, of pods that are never Ready
abbrev pub OpeningCounts : Type 0
OpeningCounts =
    Sums (fixed_spec 1 3 1 (slots 5 5)) 0
    (at 5 (act.Lost 0) ∷ at 5 (act.Lost 1) ∷ at 5 (act.Lost 2) ∷ at 9 act.Pass ∷ [])
    (codes "from 0\nto 9\nevents 4\n"
    ++ codes "requests 0\nadmitted 0\ndirect 0\nqueue-full 0\noverload 0\n"
    ++ codes "ok 0\nfailed 0\nexpired 0\ncancelled 0\nlost 0\nlive 0\n"
    ++ codes "ran 0\nwaited-p50 -\nwaited-p90 -\nwaited-p99 -\nwaited-p999 -\nwaited-max -\nwaited-sum 0\n"
    ++ codes "cold 0\nwakes 0\ndecisions 0\nno-data 0\npanicking 0\n"
    ++ codes "pods 3\npods-peak 3\nready-peak 0\nheld-peak 0\nlive-peak 0\n"
    ++ codes "at-zero-ms 4\npod-ms 15\nready-ms 0\nrunning-ms 0\n"
    ++ codes "wanted-changes 0\n")

-- who is assigned at once is not held after the event
abbrev pub PeaksAfterEvents : Type 0
PeaksAfterEvents =
    Sums (fixed_spec 1 2 1 (slots 5 5)) 0
    (at 0 (act.Ready 0) ∷ at 1 (act.Arrive 1) ∷ at 2 (act.Arrive 2) ∷ at 3 (act.Arrive 3) ∷ at 4 (act.Ready 1)
    ∷ at 5 (act.Finish 0 true) ∷ at 6 (act.Finish 1 true) ∷ at 6 (act.Finish 2 true) ∷ [])
    (codes "from 0\nto 6\nevents 8\n"
    ++ codes "requests 3\nadmitted 3\ndirect 0\nqueue-full 0\noverload 0\n"
    ++ codes "ok 3\nfailed 0\nexpired 0\ncancelled 0\nlost 0\nlive 0\n"
    ++ codes "ran 3\nwaited-p50 2\nwaited-p90 2\nwaited-p99 2\nwaited-p999 2\nwaited-max 2\nwaited-sum 4\n"
    ++ codes "cold 0\nwakes 0\ndecisions 0\nno-data 0\npanicking 0\n"
    ++ codes "pods 2\npods-peak 2\nready-peak 2\nheld-peak 2\nlive-peak 3\n"
    ++ codes "at-zero-ms 0\npod-ms 12\nready-ms 8\nrunning-ms 7\n"
    ++ codes "wanted-changes 0\n")

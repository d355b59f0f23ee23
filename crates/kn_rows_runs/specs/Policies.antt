-- Whole runs of the three policies, over two or three pods.
use Rattle.std.specs.Prelude.{ℕ, [], ◌∷◌, true, codes}
use Rattle.kn_event.specs.declared.event.Act.TheVariants as act
use Rattle.kn_event.specs.declared.revision.Spec.{Spec}
use Rattle.kn_event.specs.FixedSpec.{fixed_spec}
use Rattle.kn_trace.specs.Worked.{Reports, at}

-- pods of this limit, with room for 5 that wait and 9 that may run
abbrev pub pods_of : ℕ → ℕ → ℕ → Spec
pods_of limit pods seed = fixed_spec limit pods 300 (record { depth = 5; max = 9; seed = seed })

-- a limit of 1: the first pod with a free seat
abbrev pub FirstAvailable : Type 0
FirstAvailable =
    Reports (pods_of 1 3 0) 0
    (at 0 (act.Ready 0) ∷ at 0 (act.Ready 1) ∷ at 0 (act.Ready 2) ∷ at 1 (act.Arrive 0) ∷ at 1 (act.Arrive 1)
    ∷ at 1 (act.Arrive 2) ∷ at 2 (act.Finish 1 true) ∷ at 3 (act.Arrive 3) ∷ [])
    (codes "0 create 0 1\n"
    ∷ codes "0 create 1 1\n"
    ∷ codes "0 create 2 1\n"
    ∷ codes "0 ready 0\n"
    ∷ codes "0 ready 1\n"
    ∷ codes "0 ready 2\n"
    ∷ codes "1 admit 0 0\n"
    ∷ codes "1 assign 0 0\n"
    ∷ codes "1 admit 1 1\n"
    ∷ codes "1 assign 1 1\n"
    ∷ codes "1 admit 2 2\n"
    ∷ codes "1 assign 2 2\n"
    ∷ codes "2 finish 1 ok\n"
    ∷ codes "3 admit 3 3\n"
    ∷ codes "3 assign 3 1\n"
    ∷ [])

-- a limit of 4: each pod in turn
abbrev pub RoundRobin : Type 0
RoundRobin =
    Reports (pods_of 4 3 0) 0
    (at 0 (act.Ready 0) ∷ at 0 (act.Ready 1) ∷ at 0 (act.Ready 2) ∷ at 1 (act.Arrive 0) ∷ at 1 (act.Arrive 1)
    ∷ at 1 (act.Arrive 2) ∷ at 1 (act.Arrive 3) ∷ [])
    (codes "0 create 0 4\n"
    ∷ codes "0 create 1 4\n"
    ∷ codes "0 create 2 4\n"
    ∷ codes "0 ready 0\n"
    ∷ codes "0 ready 1\n"
    ∷ codes "0 ready 2\n"
    ∷ codes "1 admit 0 0\n"
    ∷ codes "1 assign 0 0\n"
    ∷ codes "1 admit 1 1\n"
    ∷ codes "1 assign 1 1\n"
    ∷ codes "1 admit 2 2\n"
    ∷ codes "1 assign 2 2\n"
    ∷ codes "1 admit 3 3\n"
    ∷ codes "1 assign 3 0\n"
    ∷ [])

-- no limit: of two pods that the words of the seed name, the less busy one; for four seeds
abbrev pub RandomChoiceSeed0 : Type 0
RandomChoiceSeed0 =
    Reports (pods_of 0 2 0) 0
    (at 0 (act.Ready 0) ∷ at 0 (act.Ready 1) ∷ at 1 (act.Arrive 0) ∷ at 1 (act.Arrive 1) ∷ at 1 (act.Arrive 2)
    ∷ at 1 (act.Arrive 3) ∷ [])
    (codes "0 create 0 0\n"
    ∷ codes "0 create 1 0\n"
    ∷ codes "0 ready 0\n"
    ∷ codes "0 ready 1\n"
    ∷ codes "1 admit 0 0\n"
    ∷ codes "1 assign 0 1\n"
    ∷ codes "1 admit 1 1\n"
    ∷ codes "1 assign 1 0\n"
    ∷ codes "1 admit 2 2\n"
    ∷ codes "1 assign 2 1\n"
    ∷ codes "1 admit 3 3\n"
    ∷ codes "1 assign 3 0\n"
    ∷ [])

abbrev pub RandomChoiceSeed1 : Type 0
RandomChoiceSeed1 =
    Reports (pods_of 0 2 1) 0
    (at 0 (act.Ready 0) ∷ at 0 (act.Ready 1) ∷ at 1 (act.Arrive 0) ∷ at 1 (act.Arrive 1) ∷ at 1 (act.Arrive 2)
    ∷ at 1 (act.Arrive 3) ∷ [])
    (codes "0 create 0 0\n"
    ∷ codes "0 create 1 0\n"
    ∷ codes "0 ready 0\n"
    ∷ codes "0 ready 1\n"
    ∷ codes "1 admit 0 0\n"
    ∷ codes "1 assign 0 0\n"
    ∷ codes "1 admit 1 1\n"
    ∷ codes "1 assign 1 1\n"
    ∷ codes "1 admit 2 2\n"
    ∷ codes "1 assign 2 1\n"
    ∷ codes "1 admit 3 3\n"
    ∷ codes "1 assign 3 0\n"
    ∷ [])

abbrev pub RandomChoiceSeed2 : Type 0
RandomChoiceSeed2 =
    Reports (pods_of 0 2 2) 0
    (at 0 (act.Ready 0) ∷ at 0 (act.Ready 1) ∷ at 1 (act.Arrive 0) ∷ at 1 (act.Arrive 1) ∷ at 1 (act.Arrive 2)
    ∷ at 1 (act.Arrive 3) ∷ [])
    (codes "0 create 0 0\n"
    ∷ codes "0 create 1 0\n"
    ∷ codes "0 ready 0\n"
    ∷ codes "0 ready 1\n"
    ∷ codes "1 admit 0 0\n"
    ∷ codes "1 assign 0 0\n"
    ∷ codes "1 admit 1 1\n"
    ∷ codes "1 assign 1 1\n"
    ∷ codes "1 admit 2 2\n"
    ∷ codes "1 assign 2 0\n"
    ∷ codes "1 admit 3 3\n"
    ∷ codes "1 assign 3 1\n"
    ∷ [])

abbrev pub RandomChoiceSeedGreatest : Type 0
RandomChoiceSeedGreatest =
    Reports (pods_of 0 2 18446744073709551615) 0
    (at 0 (act.Ready 0) ∷ at 0 (act.Ready 1) ∷ at 1 (act.Arrive 0) ∷ at 1 (act.Arrive 1) ∷ at 1 (act.Arrive 2)
    ∷ at 1 (act.Arrive 3) ∷ [])
    (codes "0 create 0 0\n"
    ∷ codes "0 create 1 0\n"
    ∷ codes "0 ready 0\n"
    ∷ codes "0 ready 1\n"
    ∷ codes "1 admit 0 0\n"
    ∷ codes "1 assign 0 0\n"
    ∷ codes "1 admit 1 1\n"
    ∷ codes "1 assign 1 1\n"
    ∷ codes "1 admit 2 2\n"
    ∷ codes "1 assign 2 0\n"
    ∷ codes "1 admit 3 3\n"
    ∷ codes "1 assign 3 1\n"
    ∷ [])

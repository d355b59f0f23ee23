-- The live pods.
use Rattle.std.specs.Prelude.{ℕ, Bool, ◌<◌, List, map}
use Rattle.std.specs.List.{AllPairs, filter}
use Rattle.kn_record.specs.declared.admission.Pod.{Pod}

-- their numbers ascend
abbrev pub AreAscending : List Pod → Type 0
AreAscending all = AllPairs (λ (x y : Pod). x.number < y.number) all

-- the numbers of those that pass the test
abbrev pub pods_where : (Pod → Bool) → List Pod → List ℕ
pods_where test all = map (λ (q : Pod). q.number) (filter test all)

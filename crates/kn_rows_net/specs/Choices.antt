-- What each policy chooses of three Ready pods.
use Rattle.std.specs.Prelude.{◌≡◌, ℕ, List, [], ◌∷◌, map, None, Some}
use Rattle.std.specs.List.{filter}
use Rattle.kn_trace.specs.declared.candidate.Cand.{Cand}
use Rattle.kn_trace.specs.Choice.{choice_of_two, chosen_pod, first_available, has_seat, round_robin}

-- a pod of limit 4, where so many run
abbrev pub pod_with : ℕ → ℕ → Cand
pod_with p running = record { pod = p; limit = 4; running = running }

-- the second one is full
abbrev pub three_pods : List Cand
three_pods = pod_with 0 2 ∷ pod_with 1 4 ∷ pod_with 2 1 ∷ []

-- of all three, and of the full one alone
abbrev pub FirstOfThree : Type 0
FirstOfThree = map first_available (three_pods ∷ (pod_with 1 4 ∷ []) ∷ []) ≡ Some 0 ∷ None ∷ []

-- from the full one on, and from a place past the end
abbrev pub RoundOfThree : Type 0
RoundOfThree = map (λ (place : ℕ). round_robin place three_pods) (1 ∷ 3 ∷ []) ≡ Some 2 ∷ Some 0 ∷ []

-- of the two with a free seat the less busy one
abbrev pub TwoOfThree : Type 0
TwoOfThree = choice_of_two (filter has_seat three_pods) 1 5 ≡ Some 2

-- the first available up to a containerConcurrency of 3, round robin from 4 on
abbrev pub ChosenOfThree : Type 0
ChosenOfThree = map (λ (cc : ℕ). chosen_pod cc 7 1 0 three_pods) (3 ∷ 4 ∷ []) ≡ Some 0 ∷ Some 2 ∷ []

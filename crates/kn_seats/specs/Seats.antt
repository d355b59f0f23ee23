-- What contracts see of the seats: the pods in order of their numbers, and the room for pods and for requests at them.
use Rattle.std.specs.Prelude.{ℕ, List}
use Rattle.kn_seats.specs.Pods.{Pod, with_pod_changed}

pub record State : Type 0 where
  pub pods : List Pod
  pub pod_room : ℕ
  pub request_room : ℕ

-- one pod is changed, and nothing else
abbrev pub change : ℕ → (Pod → Pod) → State → State
change p by s = record s { pods = with_pod_changed p by s.pods }

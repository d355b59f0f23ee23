-- Where a pod stands among pods in the order of their numbers, or would be put in.
use Rattle.std.specs.Prelude.{◌≡◌, ℕ, ◌<◌, ◌≤◌, List, length, slice_index_or, slice_set, insert, remove}
use Rattle.kn_stats.specs.declared.tally.PodTally.{PodTally}
use Rattle.kn_stats.specs.Pods.{found, idle, put, without_pod}

pub record IsAt (p : ℕ) (pods : List PodTally) (place : ℕ) : Type 0 where
  pub inside : place < length pods
  pub pod : (d : PodTally) → slice_index_or pods place d ≡ found p pods
  pub changed : (by : PodTally → PodTally) → put p by pods ≡ slice_set pods place (by (found p pods))
  pub removed : without_pod p pods ≡ remove pods place

pub record IsGap (p : ℕ) (pods : List PodTally) (place : ℕ) : Type 0 where
  pub inside : place ≤ length pods
  pub pod : found p pods ≡ idle p
  pub changed : (by : PodTally → PodTally) → put p by pods ≡ insert pods place (by (idle p))
  pub removed : without_pod p pods ≡ pods

-- What a table's list of live requests keeps to, whatever is done.
use Rattle.std.specs.Prelude.{◌<◌, ◌≤◌, List, length}
use Rattle.std.specs.List.{AllPairs}
use Rattle.kn_trace.specs.Events.{live_most}
use Rattle.kn_record.specs.declared.admission.Request.{Request}

-- numbers ascend, times never fall, and there are at most 20,000
pub record IsOrdered (live : List Request) : Type 0 where
  pub numbers : AllPairs (λ (x y : Request). x.number < y.number) live
  pub times : AllPairs (λ (x y : Request). x.time ≤ y.time) live
  pub few : length live ≤ live_most

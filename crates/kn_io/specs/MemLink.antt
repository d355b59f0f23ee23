-- What contracts see of a link in memory.
use Rattle.std.specs.Prelude.{ℕ, List, Bool, Option, None, Some, length, nat_lt, if◌then◌else◌, Result}
use Rattle.kn_io.specs.Links.{Link, probed}
use Rattle.kn_io.specs.Memory.{Plan}

-- what it tells, the replies to come, and its calls
pub record Wire : Type 0 where
  pub told : Option Link
  pub replies : List (List ℕ)
  pub plan : Plan

-- how many probes there is room for
abbrev pub most_probes : ℕ
most_probes = 4096

-- with one probe more, where there is room
abbrev pub probed_within : {E : Type 0} → Option Link → ℕ → Result Bool E → Option Link
probed_within None pod result = None
probed_within (Some link) pod result = if nat_lt (length link.probes) most_probes then Some (probed link pod result) else None

use Rattle.std.proofs.Common.{◌≡◌, drop}
use Rattle.std.specs.Prelude.{slice_get}
use Rattle.std.specs.List.{filter}
use Rattle.kn_trace.specs.Choice.{has_seat}
use Rattle.kn_trace.proofs.choice.free_at.Given as goal

abbrev pub invariant-loop-cand : goal.invariant-loop-cand
invariant-loop-cand l = slice_get (filter has_seat (drop l.cand-index l.cands)) l.left ≡ slice_get (filter has_seat l.cands) l.position

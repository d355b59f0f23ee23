use Rattle.std.proofs.Common.{◌≡◌, drop}
use Rattle.kn_core.specs.Changes.{after_removals}
use Rattle.kn_core.proofs.rows.remove_all.Given as goal

-- the entries left take away what all of them do
abbrev pub invariant-loop-e : goal.invariant-loop-e
invariant-loop-e l = record {
  left : after_removals (drop l.e-index l.entries) l.pods ≡ after_removals l.entries l.fn.pods;
}

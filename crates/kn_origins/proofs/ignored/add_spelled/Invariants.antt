-- The name so far, and the bytes that are left.
use Rattle.std.proofs.Common.{◌≡◌, ◌++◌, drop}
use Rattle.std.specs.List.{flat_map}
use Rattle.kn_origins.specs.Ignored.{byte_text}
use Rattle.kn_origins.proofs.ignored.add_spelled.Given as goal

abbrev pub invariant-loop-b : goal.invariant-loop-b
invariant-loop-b l = l.text.items ++ flat_map byte_text (drop l.b-index l.name) ≡ l.initial.text.items ++ flat_map byte_text l.name

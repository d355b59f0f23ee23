use Rattle.std.proofs.Common.{take}
use Rattle.kn_head.specs.Fields.{values_named}
use Rattle.kn_head.specs.Rules.{AreValues}
use Rattle.kn_head.proofs.rules.values_of.Given as goal

abbrev pub invariant-loop-field : goal.invariant-loop-field
invariant-loop-field l = AreValues (values_named l.known (take l.field-index l.field-items)) l.found

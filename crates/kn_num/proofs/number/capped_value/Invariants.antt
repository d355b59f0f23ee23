use Rattle.std.proofs.Common.{◌≡◌, min, take}
use Rattle.kn_num.specs.Number.{decimal_value}
use Rattle.kn_num.specs.Capped.{above}
use Rattle.kn_num.proofs.number.capped_value.Given as goal

abbrev pub invariant-loop-digit : goal.invariant-loop-digit
invariant-loop-digit l = l.value ≡ min above (decimal_value (take l.digit-index l.digits))

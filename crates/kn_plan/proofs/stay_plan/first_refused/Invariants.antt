use Rattle.std.proofs.Common.{◌≡◌, [], map, string_bytes, take}
use Rattle.kn_plan.specs.StayOptions.{refusals}
use Rattle.kn_plan.proofs.stay_plan.first_refused.Given as goal

-- the words so far are accepted
abbrev pub invariant-loop-i : goal.invariant-loop-i
invariant-loop-i l = refusals (map string_bytes (take l.i l.words)) ≡ []

use Rattle.std.proofs.Common.{string_bytes, inr}
use Rattle.kn_plan.proofs.StayFaults.{nothing_accepted, refused_first}
use Rattle.kn_plan.proofs.stay_plan.first_refused.Goals as goal

pub loop-i-init : goal.loop-i-init
loop-i-init c = nothing_accepted

pub returns-in_default : goal.returns-in_default
returns-in_default c =
    inr (refused_first string_bytes c.args.words.now c.loop-i.i c.index-words-i.result c.as_str.result.now c.in-Err.kind
    c.loop-i-test.true c.index-words-i.is c.as_str.ensures.value c.loop-i.invariant (c.in-Err.ensures.refused c.in_default.not-OutOfMemory))

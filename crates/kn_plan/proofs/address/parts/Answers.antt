use Rattle.std.proofs.lemmas.Iterator.Consumers.{map_from_collect}
use Rattle.std.proofs.lemmas.Iterator.Splits.{YieldsList-from_str_split}
use Rattle.kn_plan.proofs.address.parts.Goals as goal

pub returns-in-Ok : goal.returns-in-Ok
returns-in-Ok c =
    let all = map_from_collect c.collect.result c.collect.ensures.ran (YieldsList-from_str_split c.args.between c.args.text.now c.requires c.split.ensures.text c.split.ensures.has_more c.split.ensures.pattern) in
    rw c.in-Ok.is at all

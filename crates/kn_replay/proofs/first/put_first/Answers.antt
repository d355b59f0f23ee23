use Rattle.kn_replay.proofs.Firsts.{both_put, none_put, own_put}
use Rattle.kn_replay.proofs.first.put_first.Goals as goal

pub returns-in_default-clause-text : goal.returns-in_default-clause-text
returns-in_default-clause-text c = none_put c.args.time c.args.first c.args.waiting.now c.in_default.ensures.none

pub returns-in-None-clause-text : goal.returns-in-None-clause-text
returns-in-None-clause-text c = own_put c.args.time c.args.first c.in-Some.own c.args.waiting.now _ (rw c.in-None.is at c.in-Some.ensures.some) c.put_own.ensures.text

pub returns-in-Some-next-clause-text : goal.returns-in-Some-next-clause-text
returns-in-Some-next-clause-text c =
    both_put c.args.time c.args.first c.in-Some.own c.in-Some-next.dispatch c.args.waiting.now _ _ (rw c.in-Some-next.is at c.in-Some.ensures.some) c.put_own.ensures.text c.put_dispatch.ensures.text

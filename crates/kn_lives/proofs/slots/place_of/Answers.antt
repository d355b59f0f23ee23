use Rattle.kn_lives.proofs.Marks.{ended_is_none, none_found}
use Rattle.kn_lives.proofs.slots.place_of.Goals as goal

pub returns-then-slots-place : goal.returns-then-slots-place
returns-then-slots-place c = ended_is_none c.args.r c.args.slots.now c.in-Some.place _ c.requires c.in-Some.ensures c.if-slots-place.true

pub returns-in-None : goal.returns-in-None
returns-in-None c = none_found c.args.r c.args.slots.now c.in-None.ensures

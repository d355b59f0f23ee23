use Rattle.std.proofs.Common.{refl}
use Rattle.kn_core.proofs.Ends.{nobody_by, nobody_yet}
use Rattle.kn_core.proofs.Following.{create_few, create_limit, create_number, create_room, drain_there, no_other}
use Rattle.kn_core.proofs.rows.follow_one.Goals as goal

pub create-requires-clause-number : goal.create-requires-clause-number
create-requires-clause-number c = create_number c.args.throttle.now.admission c.args.row c.requires _ _ c.in-Create.is

pub create-requires-clause-few : goal.create-requires-clause-few
create-requires-clause-few c = create_few c.args.throttle.now.admission c.args.row c.requires _ _ c.in-Create.is

pub create-requires-clause-room : goal.create-requires-clause-room
create-requires-clause-room c = create_room c.args.throttle.now.admission c.args.row c.requires _ _ c.in-Create.is

pub create-requires-clause-limit : goal.create-requires-clause-limit
create-requires-clause-limit c = create_limit c.args.throttle.now.admission c.args.row c.requires _ _ c.in-Create.is

pub drain-requires : goal.drain-requires
drain-requires c = drain_there c.args.throttle.now.admission c.args.row c.requires _ c.in-Drain.is

pub returns-in-Create-clause-after : goal.returns-in-Create-clause-after
returns-in-Create-clause-after c = λ t. rw c.in-Create.is (c.create.ensures.after t)

pub returns-in-Create-clause-nobody : goal.returns-in-Create-clause-nobody
returns-in-Create-clause-nobody c = λ t. nobody_by c.time_laws.ensures.step t _ _ _ _ refl (nobody_yet t c.args.throttle.now) (c.create.ensures.after t)

pub returns-in-Drain-clause-after : goal.returns-in-Drain-clause-after
returns-in-Drain-clause-after c = λ t. rw c.in-Drain.is (c.drain.ensures.after t)

pub returns-in-Drain-clause-nobody : goal.returns-in-Drain-clause-nobody
returns-in-Drain-clause-nobody c = λ t. nobody_by c.time_laws.ensures.step t _ _ _ _ refl (nobody_yet t c.args.throttle.now) (c.drain.ensures.after t)

pub returns-in_default : goal.returns-in_default
returns-in_default c = absurd (no_other c.args.throttle.now.admission c.args.row c.requires c.in_default.not-Create c.in_default.not-Drain)

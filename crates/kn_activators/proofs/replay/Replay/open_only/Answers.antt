-- The opening of an activator, in the words of the setup.
use Rattle.std.proofs.Common.{◌∙◌, ap}
use Rattle.kn_event.specs.declared.revision.Spec.{Spec}
use Rattle.kn_trace.specs.Events.{opening}
use Rattle.kn_activators.proofs.Standings.{low_of, some_part, spec_is}
use Rattle.kn_activators.proofs.replay.Replay.open_only.Goals as goal

pub opening-requires-clause-part : goal.opening-requires-clause-part
opening-requires-clause-part c = low_of c.self.inside.setup c.self.inside.group c.args.i c.self.invariant.of (rw (← c.self.view_is) at c.requires)

pub returns-clause-log : goal.returns-clause-log
returns-clause-log c = rw (← c.self.view_is)
    (let one = rw (← c.self.view_is) at c.requires in
    let low = low_of c.self.inside.setup c.self.inside.group c.args.i c.self.invariant.of one in
    let any = some_part c.self.inside.group.parts c.args.i low in
    c.opening.ensures any ∙ ap (λ (s : Spec). opening s c.self.inside.group.start) (spec_is c.self.inside.setup c.self.inside.group c.args.i any c.self.invariant.of one))

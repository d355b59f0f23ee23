use Rattle.std.proofs.Common.{◌∙◌, ap, length}
use Rattle.std.specs.Prelude.{ℕ, List}
use Rattle.kn_slices.specs.Slices.{due_change}
use Rattle.kn_slices.specs.Traces.{limit_by, running_by}
use Rattle.kn_activators.proofs.Making.{some_one}
use Rattle.kn_activators.proofs.Standings.{parts_are}
use Rattle.kn_activators.proofs.replay.Replay.due.Goals as goal

pub returns-clause-stands : goal.returns-clause-stands
returns-clause-stands c = rw (← c.self.view_is) (λ x stands.
    c.plan.ensures.traces x.traces stands.traces ∙ ap (λ (w : List ℕ). due_change limit_by running_by (length x.traces) x.traces w) stands.wanted)

pub returns-clause-one : goal.returns-clause-one
returns-clause-one c = rw (← c.self.view_is)
    (some_one c.plan.result (length c.self.inside.group.parts) c.self.inside.setup.activators (length c.self.inside.group.wanted) (parts_are c.self.inside.setup c.self.inside.group c.self.invariant.of) c.plan.ensures.range)

pub returns-clause-parts : goal.returns-clause-parts
returns-clause-parts c = rw (← c.self.view_is) (parts_are c.self.inside.setup c.self.inside.group c.self.invariant.of)

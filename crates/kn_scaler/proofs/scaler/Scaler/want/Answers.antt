use Rattle.std.proofs.Common.{◌∙◌}
use Rattle.kn_scaling.specs.Average.{second_of}
use Rattle.kn_trace.specs.Scale.{past_of}
use Rattle.kn_scaler.proofs.Rulings.{stands-want}
use Rattle.kn_scaler.proofs.scaler.Scaler.want.Goals as goal

pub returns-clause-trace : goal.returns-clause-trace
returns-clause-trace c = rw (← c.self.view_is) (λ s b stands. c.want.ensures.past (past_of s b) (second_of c.self.inside.stats.time) stands.decider ∙ stands-want s b)

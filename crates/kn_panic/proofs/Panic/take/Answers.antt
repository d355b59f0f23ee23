use Rattle.std.proofs.Common.{ap, ◌∙◌}
use Rattle.kn_scaling.specs.declared.panic.Judged.{Judged}
use Rattle.kn_scaling.specs.Panic.{greater_count, greatest_after}
use Rattle.kn_panic.specs.Stands.{PanicState, judged_by, moment_after}
use Rattle.kn_panic.proofs.Takes.{Takes, after_panics, after_count, after_stands}
use Rattle.kn_panic.proofs.Panic.take.Goals as goal

abbrev state : goal.After-count_of → PanicState
state c = record { moment = c.moment_after-self-inside.result; greatest = c.greatest_after-self-inside.result }

abbrev decision : goal.After-count_of → Judged
decision c = judged_by c.args.time c.args.c.now c.args.window_ms

takes : (c : goal.After-count_of) → Takes c.args.self.now (state c) c.is_within-panicking.result (decision c)
takes c = record {
  moment = c.moment_after-self-inside.ensures ∙ ap (λ s. moment_after c.args.c.now.over c.args.time s.moment) c.self.view_is;
  within = c.is_within-panicking.ensures;
  greatest =
      c.greatest_after-self-inside.ensures
      ∙ ap (λ n. greatest_after c.is_within-panicking.result n c.self.inside.greatest) c.max.ensures
      ∙ ap (λ s. greatest_after c.is_within-panicking.result (greater_count (decision c)) s.greatest) c.self.view_is;
}

pub returns-clause-panicking : goal.returns-clause-panicking
returns-clause-panicking c = λ earlier s. after_panics c.args.self.now (state c) c.is_within-panicking.result (decision c) earlier (takes c) s

pub returns-clause-count : goal.returns-clause-count
returns-clause-count c = λ earlier s. after_count c.args.self.now (state c) c.is_within-panicking.result (decision c) earlier c.count_of.result c.count_of.ensures (takes c) s

pub returns-clause-stands : goal.returns-clause-stands
returns-clause-stands c = λ earlier s. after_stands c.args.self.now (state c) c.is_within-panicking.result (decision c) earlier (takes c) s

use Rattle.std.proofs.Common.{◌∷◌, [], ap, ◌∙◌}
use Rattle.kn_event.specs.declared.revision.Spec.{Spec}
use Rattle.kn_trace.specs.Events.{react}
use Rattle.kn_teller.specs.Run.{trace}
use Rattle.kn_teller.proofs.Runs.{is_step}
use Rattle.kn_teller.proofs.taking.take_by_log.Goals as goal

pub returns-clause-takes : goal.returns-clause-takes
returns-clause-takes c = record {
  steps = λ r run.
      is_step c.args.revision.now c.take.new.self c.args.e.now r run
      (c.trace_laws.ensures.append r.spec r.start r.events (c.args.e.now ∷ []))
      (c.trace_laws.ensures.made r.spec r.start r.events)
      c.take.ensures.stands c.take.ensures.spec c.take.ensures.clock c.requires.order c.requires.times;
  spec = c.take.ensures.spec;
  clock = c.take.ensures.clock;
  events = c.take.ensures.events;
}

pub returns-clause-logged : goal.returns-clause-logged
returns-clause-logged c r run =
    c.take.ensures.logged (trace r) run.stands ∙ ap (λ (s : Spec). react s (trace r) c.args.e.now) run.spec

use Rattle.std.proofs.Common.{◌∷◌, [], length-append, ap, ◌∙◌, arith}
use Rattle.kn_event.specs.declared.revision.Spec.{Spec}
use Rattle.kn_trace.specs.Events.{react}
use Rattle.kn_core.specs.Firsts.{first_rows}
use Rattle.kn_teller.specs.Run.{trace}
use Rattle.kn_teller.proofs.Runs.{is_step}
use Rattle.kn_teller.proofs.taking.take_first.Goals as goal

pub returns-clause-takes : goal.returns-clause-takes
returns-clause-takes c = record {
  steps = λ r run.
      is_step c.args.revision.now c.take_first.new.self c.args.e.now r run
      (c.trace_laws.ensures.append r.spec r.start r.events (c.args.e.now ∷ []))
      (c.trace_laws.ensures.made r.spec r.start r.events)
      c.take_first.ensures.stands c.take_first.ensures.spec c.take_first.ensures.clock c.requires.order c.requires.times;
  spec = c.take_first.ensures.spec;
  clock = c.take_first.ensures.clock;
  events = c.take_first.ensures.events;
}

pub returns-clause-logged : goal.returns-clause-logged
returns-clause-logged c r run =
    c.take_first.ensures.logged (trace r) run.stands ∙ ap (λ (s : Spec). react s (trace r) c.args.e.now) run.spec

pub returns-clause-few : goal.returns-clause-few
returns-clause-few c =
    omega (
      arith,
      c.take_first.ensures.few,
      length-append (first_rows c.args.e.now.time c.take_first.result) c.take_first.new.log,
    )

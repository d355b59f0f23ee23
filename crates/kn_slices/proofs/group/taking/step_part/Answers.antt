use Rattle.kn_slices.proofs.group.taking.step_part.Goals as goal

pub returns-clause-steps : goal.returns-clause-steps
returns-clause-steps c = record {
  logged = c.step.ensures.logged;
  stands = c.step.ensures.stands;
  goes = λ pods is. c.activator_laws.ensures pods c.args.e.now c.args.part.now c.step.new.self (record {
    some = c.live-live.ensures.some;
    fixed = is.fixed;
    has = is.has;
    spec = c.step.ensures.spec;
    lost = c.requires.can.lost;
    stands = c.step.ensures.stands;
  });
  spec = c.step.ensures.spec;
  start = c.step.ensures.start;
  clock = c.step.ensures.clock;
  events = c.step.ensures.events;
}

use Rattle.kn_slices.proofs.group.taking.take_part.Goals as goal

pub returns : goal.returns
returns c = record {
  logged = c.take.ensures.logged;
  stands = c.take.ensures.stands;
  goes = λ pods is. c.activator_laws.ensures pods c.args.e.now c.args.part.now c.take.new.self (record {
    some = c.live-live.ensures.some;
    fixed = is.fixed;
    has = is.has;
    spec = c.take.ensures.spec;
    lost = c.requires.can.lost;
    stands = c.take.ensures.stands;
  });
  spec = c.take.ensures.spec;
  start = c.take.ensures.start;
  clock = c.take.ensures.clock;
  events = c.take.ensures.events;
}

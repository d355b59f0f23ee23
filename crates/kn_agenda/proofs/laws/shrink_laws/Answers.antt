use Rattle.kn_agenda.proofs.Shrinking.{shrinks}
use Rattle.kn_agenda.proofs.laws.shrink_laws.Goals as goal

pub returns : goal.returns
returns c = λ w d ticks x ranges made due.
    shrinks c.fact_laws.ensures c.part_laws.ensures w d ticks x made due (record {
      live = c.growth_laws.ensures.live w.spec d;
      finish = λ r. c.need_laws.ensures.finish d r;
      arrive = c.need_laws.ensures.arrive d;
      tick = c.need_laws.ensures.tick d;
      ready = c.need_laws.ensures.ready d;
      standing = λ e. c.size_laws.ensures.standing w.spec e ranges;
    })

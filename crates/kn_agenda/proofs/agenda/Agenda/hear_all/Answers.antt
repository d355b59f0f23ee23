use Rattle.std.proofs.Common.{◌≤◌, ◌++◌, take, length, subst, sym, arith}
use Rattle.kn_trace.specs.Trace.{Trace, arrivals}
use Rattle.kn_agenda.specs.Keeps.{Keeps}
use Rattle.kn_agenda.proofs.Hearing.{hears}
use Rattle.kn_agenda.proofs.agenda.Agenda.hear_all.Goals as goal

pub loop-e-preserved : goal.loop-e-preserved
loop-e-preserved c = (
  λ s d ranges made proper few room keeps.
      let one = hears c.fact_laws.ensures s d c.args.entries.now c.loop-e.e-index c.e-item.result made proper c.loop-e-test.true c.e-item.is in
      let more = c.hear.ensures.keeps s (d ++ take c.loop-e.e-index c.args.entries.now) ranges one.made (one.proper, tt) (subst (λ (x : Trace). arrivals x ≤ length c.args.jobs.now) one.more (omega (arith, one.few, few))) (omega (arith, room, c.loop-e.invariant.1)) (c.loop-e.invariant.0 s d ranges made proper few room keeps) in
      subst (λ (x : Trace). Keeps c.args.jobs.now x c.hear.new.self.finishes c.hear.new.self.starting) (sym one.more) more,
  omega (arith, c.loop-e.invariant.1, c.hear.ensures.room),
)

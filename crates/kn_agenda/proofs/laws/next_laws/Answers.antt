use Rattle.std.proofs.Common.{◌∷◌, [], nat_lt, arith}
use Rattle.kn_agenda.specs.Due.{event_of, is_before, rank, ticks_of}
use Rattle.kn_agenda.specs.Runs.{so_far}
use Rattle.kn_agenda.proofs.Least.{later_from}
use Rattle.kn_agenda.proofs.Stepping.{runs_more}
use Rattle.kn_agenda.proofs.laws.next_laws.Goals as goal

pub returns : goal.returns
returns c = record {
  order = λ w es clock x runs next. runs.late x.kind x.number x.time next.due;
  step = λ w es clock x good runs next soon.
      let made = c.trace_laws.ensures.made w.spec w.start es in
      runs_more w es x clock good (c.trace_laws.ensures.append w.spec w.start es (event_of w x ∷ [])) (record {
        nobody = λ other. c.coming_laws.ensures.nobody w.spec (so_far w es) (event_of w x) made other;
        one = λ tag is. (c.request_laws.ensures.told w.spec (so_far w es) (event_of w x) tag made is).counts;
        come = λ o come. c.coming_laws.ensures.come w.spec w.jobs (so_far w es) (event_of w x) made o come;
        late = λ ticks k n t a b due. c.late_laws.ensures w.spec w (so_far w es) (event_of w x) ticks k n t a b due;
        shrinks = c.shrink_laws.ensures w (so_far w es) (ticks_of es) x good.ranges made next.due;
      }) runs next soon;
  over = λ w es x next less y due.
      (let late = later_from y.time x.time (is_before (rank y.kind) (rank x.kind) (nat_lt y.number x.number)) (next.first y due) in omega arith);
}

use Rattle.std.proofs.Common.{[], ◌∷◌, arith}
use Rattle.kn_agenda.proofs.Hearing.{arrivals_less}
use Rattle.kn_agenda.proofs.Keeping.{begun_is, hears-begin, hears-create, hears-leave, hears-other, leaving}
use Rattle.kn_agenda.proofs.agenda.Agenda.hear.Goals as goal

pub returns-in-Create-clause-keeps : goal.returns-in-Create-clause-keeps
returns-in-Create-clause-keeps c = λ s d ranges made proper few room keeps.
    hears-create c.fact_laws.ensures s _ d c.args.e.now c.in-Create.p c.in-Create.field-1 _ _ _ _ ranges made proper.0 c.in-Create.is c.start.ensures.finishes c.start.ensures.added keeps

pub returns-in_default : goal.returns-in_default
returns-in_default c = record {
  keeps = λ s d ranges made proper few room keeps.
      hears-other c.fact_laws.ensures _ d c.args.e.now _ _ (record {
        assign = λ r p h. c.in_default.not-Assign r p h;
        run = λ r h. c.in_default.not-Run r h;
        create = λ p n h. c.in_default.not-Create p n h;
        ready = λ p h. c.in_default.not-Ready p h;
        drain = λ p h. c.in_default.not-Drain p h;
        remove = λ p h. c.in_default.not-Remove p h;
        lost = λ p h. c.in_default.not-LostPod p h;
      }) keeps;
  room = omega arith;
}

pub returns-in-Ready-clause-keeps : goal.returns-in-Ready-clause-keeps
returns-in-Ready-clause-keeps c = λ s d ranges made proper few room keeps.
    hears-leave c.fact_laws.ensures _ d c.args.e.now c.in-Ready.p _ _ _ _ (leaving c.args.e.now.row c.in-Ready.p c.in-Ready.is) c.leave.ensures.finishes c.leave.ensures.left keeps

pub returns-in-Assign-clause-keeps : goal.returns-in-Assign-clause-keeps
returns-in-Assign-clause-keeps c = λ s d ranges made proper few room keeps.
    hears-begin c.fact_laws.ensures s _ c.args.self.now.room d c.args.e.now c.in-Assign.r _ _ _ _ made proper.0 (begun_is c.args.e.now.row c.in-Assign.r c.in-Assign.is) (let less = arrivals_less d (c.args.e.now ∷ []) in omega arith) room c.begin.ensures.starting c.begin.ensures.added keeps

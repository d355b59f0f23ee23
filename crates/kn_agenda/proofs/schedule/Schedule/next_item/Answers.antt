use Rattle.std.proofs.Common.{List, subst, sym, arith}
use Rattle.std.proofs.Math.Bridge.{le_prop}
use Rattle.std.proofs.Math.Logic.{∥∥₁_elim, ∥∥₁_map}
use Rattle.kn_event.specs.declared.event.Event.{Event}
use Rattle.kn_agenda.specs.Due.{IsNext, ticks_of}
use Rattle.kn_agenda.specs.Runs.{so_far}
use Rattle.kn_agenda.specs.Schedule.{Made, ScheduleState}
use Rattle.kn_agenda.proofs.Making.{made_on, next_of}
use Rattle.kn_agenda.proofs.schedule.Schedule.next_item.Goals as goal
use Rattle.kn_agenda.proofs.schedule.Schedule.next_item.Goals.{After-next_item}

pub next_item-requires-clause-ticks : goal.next_item-requires-clause-ticks
next_item-requires-clause-ticks c = ∥∥₁_elim c.self.invariant.some le_prop (λ em. (let few = em.1.runs.ticks in let same = em.1.ticks in omega arith))

-- the item comes next
next : (c : After-next_item) (es : List Event) → Made es c.args.self.now → IsNext c.self.inside.workload (so_far c.self.inside.workload es) (ticks_of es) c.next_item.result
next c es made =
    let x : ScheduleState = record { workload = c.self.inside.workload; revision = c.self.inside.revision; agenda = c.self.inside.agenda; waits = c.self.inside.waits; ticks = c.self.inside.ticks } in
    next_of es x c.first_waiting-self-inside.result c.next_item.result (subst (λ (s : ScheduleState). Made es s) (sym c.self.view_is) made) c.first_waiting-self-inside.ensures.before c.first_waiting-self-inside.ensures.most c.next_item.ensures.next

-- and the schedule has made the same events
stays : (c : After-next_item) (es : List Event) → Made es c.args.self.now
    → Made es (record { workload = c.self.inside.workload; revision = c.self.inside.revision; agenda = c.next_item.new.self; waits = c.first_waiting-self-inside.result; ticks = c.self.inside.ticks })
stays c es made =
    let x : ScheduleState = record { workload = c.self.inside.workload; revision = c.self.inside.revision; agenda = c.self.inside.agenda; waits = c.self.inside.waits; ticks = c.self.inside.ticks } in
    made_on es x c.first_waiting-self-inside.result c.next_item.new.self (subst (λ (s : ScheduleState). Made es s) (sym c.self.view_is) made) c.first_waiting-self-inside.ensures.before c.first_waiting-self-inside.ensures.most c.next_item.ensures.keeps c.next_item.ensures.room

at_old : (c : After-next_item) (es : List Event) → Made es (record { workload = c.self.inside.workload; revision = c.self.inside.revision; agenda = c.self.inside.agenda; waits = c.self.inside.waits; ticks = c.self.inside.ticks }) → Made es c.args.self.now
at_old c es made = subst (λ (s : ScheduleState). Made es s) c.self.view_is made

pub invariant_of-self : goal.invariant_of-self
invariant_of-self c = record {
  good = c.self.invariant.good;
  some = ∥∥₁_map c.self.invariant.some (λ em. (em.0, stays c em.0 (at_old c em.0 em.1)));
}

pub returns-clause-next : goal.returns-clause-next
returns-clause-next c = λ es made. subst (λ (s : ScheduleState). IsNext s.workload (so_far s.workload es) (ticks_of es) c.next_item.result) c.self.view_is (next c es made)

pub returns-clause-stays : goal.returns-clause-stays
returns-clause-stays c = λ es made. stays c es made

pub returns-clause-some : goal.returns-clause-some
returns-clause-some c = ∥∥₁_map c.self.invariant.some (λ em. (let old = at_old c em.0 em.1 in (em.0, stays c em.0 old, next c em.0 old)))

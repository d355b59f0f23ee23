use Rattle.std.proofs.Common.{◌≡◌, ℕ, ◌+◌, ◌<◌, ◌≤◌, ◌∙◌, List, [], ◌∷◌, ◌++◌, length, length-append, false, sym, ap, subst, arith}
use Rattle.std.proofs.Math.Bridge.{le_prop}
use Rattle.std.proofs.Math.Logic.{∥∥₁_elim, ∥∥₁_map}
use Rattle.std.specs.Prelude.{slice_index_or}
use Rattle.kn_event.specs.declared.entry.Entry.{Entry}
use Rattle.kn_event.specs.declared.event.Event.{Event}
use Rattle.kn_event.specs.declared.revision.Spec.{Spec}
use Rattle.kn_event.specs.Lists.{contains}
use Rattle.kn_trace.specs.Trace.{Trace, arrivals, waiting}
use Rattle.kn_trace.specs.Events.{react}
use Rattle.kn_core.specs.State.{StandsFor}
use Rattle.kn_record.specs.Made.{Holds, IsProper}
use Rattle.kn_agenda.specs.declared.job.Job.{Job}
use Rattle.kn_agenda.specs.Due.{event_of, ticks_of}
use Rattle.kn_agenda.specs.Kinds.{ticks_behind}
use Rattle.kn_agenda.specs.Keeps.{Keeps}
use Rattle.kn_agenda.specs.Runs.{Runs, so_far}
use Rattle.kn_agenda.specs.Schedule.{ScheduleState}
use Rattle.kn_agenda.proofs.Ending.{few_events}
use Rattle.kn_agenda.proofs.Making.{comes_at, entries_time, services, ticks_on}
use Rattle.kn_agenda.proofs.Stepping.{so_far_more}
use Rattle.kn_agenda.proofs.schedule.Schedule.take.Goals as goal

pub take-requires-clause-order : goal.take-requires-clause-order
take-requires-clause-order c =
    ∥∥₁_elim c.requires.next le_prop (λ em. (
    let x : ScheduleState = record { workload = c.self.inside.workload; revision = c.self.inside.revision; agenda = c.self.inside.agenda; waits = c.self.inside.waits; ticks = c.self.inside.ticks } in
    let b = comes_at x c.args.self.now em.0 c.args.item c.self.view_is em.1 em.2 in
    let late = c.next_laws.ensures.order x.workload em.0 c.self.inside.revision.clock c.args.item b.made.runs b.next in
    let time = ap (λ (y : Event). y.time) c.event_of-e.ensures.value in
    omega arith))

pub take-requires-clause-count : goal.take-requires-clause-count
take-requires-clause-count c =
    ∥∥₁_elim c.self.invariant.some le_prop (λ em. (
    let few = few_events c.self.inside.workload em.0 c.self.inside.revision.clock c.self.invariant.good em.1.runs in
    let same = em.1.events in
    omega arith))

pub hear_all-requires-clause-times : goal.hear_all-requires-clause-times
hear_all-requires-clause-times c = λ k d less.
    ∥∥₁_elim c.self.invariant.some le_prop (λ em. (
    let w = c.self.inside.workload in
    let same : c.entries.result.now ≡ react c.self.inside.revision.spec (so_far w em.0) c.event_of-e.result = c.entries.ensures ∙ c.take.ensures.logged (so_far w em.0) em.1.revision in
    let each = c.part_laws.ensures.rows.react-at c.self.inside.revision.spec (so_far w em.0) c.event_of-e.result in
    let all = entries_time c.event_of-e.result.time (react c.self.inside.revision.spec (so_far w em.0) c.event_of-e.result) each in
    let at = (subst (λ (es : List Entry). (k : ℕ) (d : Entry) → k < length es → (slice_index_or es k d).time ≡ c.event_of-e.result.time) (sym same) all) k d less in
    let time = ap (λ (y : Event). y.time) c.event_of-e.ensures.value in
    omega (arith, at, time, c.requires.time, c.requires.good.until)))

pub hear_all-requires-clause-services : goal.hear_all-requires-clause-services
hear_all-requires-clause-services c = λ k d less.
    let w = c.self.inside.workload in
    (subst (λ (js : List Job). (k : ℕ) (d : Job) → k < length js → (slice_index_or js k d).service ≤ 3600000) (sym c.jobs.ensures) (services w.start w.until w.jobs c.self.invariant.good.jobs)) k d less

pub ticks_behind-self-inside-requires : goal.ticks_behind-self-inside-requires
ticks_behind-self-inside-requires c =
    ∥∥₁_elim c.self.invariant.some le_prop (λ em. (let most = em.1.runs.ticks in let same = em.1.ticks in omega arith))

-- the schedule behind the event
pub returns-clause-goes : goal.returns-clause-goes
returns-clause-goes c = λ es made0 next0.
    let w = c.self.inside.workload in
    let x : ScheduleState = record { workload = c.self.inside.workload; revision = c.self.inside.revision; agenda = c.self.inside.agenda; waits = c.self.inside.waits; ticks = c.self.inside.ticks } in
    let item = c.args.item in
    let b = comes_at x c.args.self.now es item c.self.view_is made0 next0 in
    let m = b.made in
    let here = so_far w es in
    let e = c.event_of-e.result in
    let is : e ≡ event_of w item = c.event_of-e.ensures.value in
    let until = ap (λ (s : ScheduleState). s.workload.until) c.self.view_is in
    let soon : item.time ≤ w.until = omega (arith, c.requires.time, until) in
    let made = c.trace_laws.ensures.made w.spec w.start es in
    let runs = subst (λ (y : Event). Runs w (es ++ y ∷ []) item.time) (sym is) (c.next_laws.ensures.step w es c.self.inside.revision.clock item c.self.invariant.good m.runs b.next soon) in
    let whole = so_far_more w es e (c.trace_laws.ensures.append w.spec w.start es (e ∷ [])) in
    let clock : c.take.new.self.clock ≡ item.time = c.take.ensures.clock ∙ ap (λ (y : Event). y.time) is in
    let logged : c.take.new.log ≡ react w.spec here e = c.take.ensures.logged here m.revision ∙ ap (λ (s : Spec). react s here e) m.spec in
    let stands : StandsFor c.take.new.self (here ++ react w.spec here e) = subst (λ (s : Spec). StandsFor c.take.new.self (here ++ react s here e)) m.spec (c.take.ensures.stands here m.revision) in
    let holds = c.fact_laws.ensures.proper.react-holds w.spec here e (c.fact_laws.ensures.proper.made_kept w.spec here made) in
    let entries : c.entries.result.now ≡ react w.spec here e = c.entries.ensures ∙ logged in
    let jobs : c.jobs.result.now ≡ w.jobs = c.jobs.ensures in
    let few : arrivals (here ++ react w.spec here e) ≤ length w.jobs = subst (λ (f : Trace). arrivals f ≤ length w.jobs) whole runs.few in
    let room : length w.jobs ≤ c.self.inside.agenda.room = m.room in
    let heard = c.hear_all.ensures.keeps w.spec here c.self.invariant.good.ranges made
    (subst (λ (es : List Entry). Holds (IsProper w.spec) here es) (sym entries) holds)
    (subst (λ (es : List Entry). arrivals (here ++ es) ≤ length c.jobs.result.now) (sym entries) (subst (λ (js : List Job). arrivals (here ++ react w.spec here e) ≤ length js) (sym jobs) few))
    (subst (λ (js : List Job). length js ≤ c.self.inside.agenda.room) (sym jobs) room)
    (subst (λ (js : List Job). Keeps js here c.self.inside.agenda.finishes c.self.inside.agenda.starting) (sym jobs) m.keeps) in
    let keeps : Keeps w.jobs (here ++ react w.spec here e) c.hear_all.new.self.finishes c.hear_all.new.self.starting =
    subst (λ (js : List Job). Keeps js (here ++ react w.spec here e) c.hear_all.new.self.finishes c.hear_all.new.self.starting) jobs
    (subst (λ (es : List Entry). Keeps c.jobs.result.now (here ++ es) c.hear_all.new.self.finishes c.hear_all.new.self.starting) entries heard) in
    let stay = (c.lasting_laws.ensures.arrivals w.spec here).once e in
    record {
      runs = subst (λ (t : ℕ). Runs w (es ++ e ∷ []) t) (sym clock) runs;
      revision = subst (λ (f : Trace). StandsFor c.take.new.self f) (sym whole) stands;
      spec = c.take.ensures.spec ∙ m.spec;
      keeps = subst (λ (f : Trace). Keeps w.jobs f c.hear_all.new.self.finishes c.hear_all.new.self.starting) (sym whole) keeps;
      room = omega (arith, room, c.hear_all.ensures.room);
      low = subst (λ (f : Trace). c.self.inside.waits ≤ arrivals f) (sym whole) (omega (arith, m.low, stay));
      waits = λ q less. subst (λ (f : Trace). contains q (waiting f) ≡ false) (sym whole) ((c.lasting_laws.ensures.waits w.spec here q made (omega (arith, less, m.low)) (m.waits q less)).once e);
      ticks = c.ticks_behind-self-inside.ensures ∙ ap (λ (k : ℕ). ticks_behind k item.kind) m.ticks ∙ ticks_on w es item ∙ ap (λ (y : Event). ticks_of (es ++ y ∷ [])) (sym is);
      events = c.take.ensures.events ∙ ap (λ (n : ℕ). n + 1) m.events ∙ sym (length-append es (e ∷ []));
    }

pub invariant_of-self : goal.invariant_of-self
invariant_of-self c = record {
  good = c.self.invariant.good;
  some = ∥∥₁_map c.requires.next (λ em. (em.0 ++ c.event_of-e.result ∷ [], returns-clause-goes c em.0 em.1 em.2));
}

pub returns-clause-few : goal.returns-clause-few
returns-clause-few c =
    ∥∥₁_elim c.requires.next le_prop (λ em. (
    let made = returns-clause-goes c em.0 em.1 em.2 in
    let few = few_events c.self.inside.workload (em.0 ++ c.event_of-e.result ∷ []) c.take.new.self.clock c.self.invariant.good made.runs in
    let same = made.events in
    omega arith))

pub returns-clause-order : goal.returns-clause-order
returns-clause-order c =
    ∥∥₁_elim c.requires.next le_prop (λ em. (
    let late = c.next_laws.ensures.order c.args.self.now.workload em.0 c.args.self.now.revision.clock c.args.item em.1.runs em.2 in
    let time = ap (λ (y : Event). y.time) c.event_of-e.ensures.value in
    omega arith))

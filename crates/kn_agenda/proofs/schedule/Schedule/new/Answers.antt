use Rattle.std.proofs.Common.{◌≡◌, ℕ, ◌<◌, ◌≤◌, ◌∙◌, List, [], length, ap, sym, subst, arith}
use Rattle.std.specs.Prelude.{slice_index_or}
use Rattle.kn_event.specs.declared.entry.Entry.{Entry}
use Rattle.kn_trace.specs.Events.{opening}
use Rattle.kn_agenda.specs.declared.job.Job.{Job}
use Rattle.kn_agenda.proofs.Making.{services}
use Rattle.kn_agenda.proofs.Opening.{between, made_first}
use Rattle.kn_agenda.proofs.schedule.Schedule.new.Goals as goal

pub hear_all-requires-clause-times : goal.hear_all-requires-clause-times
hear_all-requires-clause-times c = λ k d less.
    let s = c.in_ok-spec.spec in
    let start = c.start.result in
    let same : c.entries.result.now ≡ opening s start = c.entries.ensures ∙ c.in_ok-revision.ensures.logged in
    let order = c.history_laws.ensures.times s start start 0 (opening s start) (c.history_laws.ensures.opening s start) in
    let all = between start start (opening s start) order in
    let at = (subst (λ (es : List Entry). (k : ℕ) (d : Entry) → k < length es → (slice_index_or es k d).time ≤ start) (sym same) all) k d less in
    omega (arith, at, c.start.ensures, c.requires.start, c.requires.until)

pub hear_all-requires-clause-services : goal.hear_all-requires-clause-services
hear_all-requires-clause-services c = λ k d less.
    let w = c.args.workload in
    (subst (λ (js : List Job). (k : ℕ) (d : Job) → k < length js → (slice_index_or js k d).service ≤ 3600000) (sym c.jobs-2.ensures) (services w.start w.until w.jobs c.requires.jobs)) k d less

-- no event was made
pub returns-clause-made : goal.returns-clause-made
returns-clause-made c =
    let w = c.args.workload in
    made_first c.fact_laws.ensures c.part_laws.ensures w c.in_ok-revision.revision c.in_ok-agenda.agenda c.hear_all.new.self c.in_ok-spec.spec c.start.result c.entries.result.now c.jobs-2.result.now c.requires
    (c.in_ok-spec.ensures ∙ c.spec.ensures) c.start.ensures (c.entries.ensures ∙ c.in_ok-revision.ensures.logged) c.jobs-2.ensures
    c.in_ok-revision.ensures.stands c.in_ok-revision.ensures.spec c.in_ok-revision.ensures.clock c.in_ok-revision.ensures.events
    c.in_ok-agenda.ensures.finishes c.in_ok-agenda.ensures.starting (let a = c.in_ok-agenda.ensures.room in let b = ap (λ (js : List Job). length js) (c.jobs.ensures ∙ sym c.jobs-2.ensures) in omega arith) c.hear_all.ensures.keeps c.hear_all.ensures.room
    (c.history_laws.ensures.times w.spec w.start w.start 0 (opening w.spec w.start) (c.history_laws.ensures.opening w.spec w.start)) (c.size_laws.ensures.standing w.spec)

pub invariant_of-result : goal.invariant_of-result
invariant_of-result c = record { good = c.requires; some = ∣ ([], returns-clause-made c) ∣₁ }

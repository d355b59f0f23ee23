use Rattle.std.proofs.Common.{◌≡◌, ◌≤◌, ◌<◌, ◌+◌, ℕ, List, length, ap, sym, subst, arith}
use Rattle.std.specs.Prelude.{Some, slice_get}
use Rattle.kn_trace.specs.Trace.{arrivals}
use Rattle.kn_agenda.specs.declared.job.Job.{Job}
use Rattle.kn_agenda.specs.declared.item.Kind.TheVariants.{Passes}
use Rattle.kn_agenda.specs.Kinds.{IsFirstOf}
use Rattle.kn_agenda.proofs.Passes.{both_below, jobs_end, jobs_until, pass_first, pass_none}
use Rattle.kn_agenda.proofs.nexts.next_pass.Goals as goal

pub overflow_add-result : goal.overflow_add-result
overflow_add-result c =
    let w = c.args.w.now in
    let jobs : w.jobs ≡ c.jobs.result.now = sym c.jobs.ensures in
    let job : slice_get w.jobs c.first_waiting-r.result ≡ Some c.in-Some.job = rw jobs (sym c.in-Some.ensures) in
    let soon = jobs_until w.start w.until w.jobs c.first_waiting-r.result c.in-Some.job c.requires.jobs job in
    let most = c.requires.until in
    let timeout = c.requires.ranges.timeout_most in
    omega (arith, c.timeout.ensures)

-- there is a job for each request that came
pub returns-in-None : goal.returns-in-None
returns-in-None c = λ d ticks stands come few low below.
    let r = c.first_waiting-r.result in
    let here : r < arrivals d = subst (λ (n : ℕ). r < n) (c.arrivals.ensures d stands) c.if-r-arrivals.true in
    let none = jobs_end c.jobs.result.now r c.in-None.ensures in
    let same = ap (λ (js : List Job). length js) c.jobs.ensures in
    absurd (omega arith)

pub returns-in-Some : goal.returns-in-Some
returns-in-Some c = λ d ticks stands come few low below.
    let w = c.args.w.now in
    let num = (c.fact_laws.ensures.proper.made_kept c.args.revision.now.spec d stands.parts.made).requests in
    let r = c.first_waiting-r.result in
    let here : r < arrivals d = subst (λ (n : ℕ). r < n) (c.arrivals.ensures d stands) c.if-r-arrivals.true in
    let waits = c.first_waiting-r.ensures.found d stands low here in
    let jobs : w.jobs ≡ c.jobs.result.now = sym c.jobs.ensures in
    let job : slice_get w.jobs r ≡ Some c.in-Some.job = rw jobs (sym c.in-Some.ensures) in
    let before = both_below d c.args.waits r below (λ n from less. c.first_waiting-r.ensures.before d n stands from less) in
    subst (λ (t : ℕ). IsFirstOf w d ticks Passes (Some (record { time = c.in-Some.job.time + t; kind = Passes; number = r }))) (sym c.timeout.ensures) (pass_first c.fact_laws.ensures w d ticks r c.in-Some.job num c.requires.jobs come job waits before)

pub returns-else-r-arrivals : goal.returns-else-r-arrivals
returns-else-r-arrivals c = λ d ticks stands come few low below.
    let num = (c.fact_laws.ensures.proper.made_kept c.args.revision.now.spec d stands.parts.made).requests in
    let r = c.first_waiting-r.result in
    let all : arrivals d ≤ r = let same = c.arrivals.ensures d stands in omega (arith, c.if-r-arrivals.false, same) in
    pass_none c.fact_laws.ensures c.args.w.now d ticks r num all (both_below d c.args.waits r below (λ n from less. c.first_waiting-r.ensures.before d n stands from less))

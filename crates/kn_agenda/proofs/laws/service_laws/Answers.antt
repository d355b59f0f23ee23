use Rattle.std.proofs.Common.{◌+◌, List, [], refl}
use Rattle.kn_event.specs.declared.event.Event.{Event}
use Rattle.kn_trace.specs.Events.{opening}
use Rattle.kn_agenda.specs.declared.item.Kind.TheVariants.{Passes, Readies}
use Rattle.kn_agenda.specs.Workload.{IsWorkload, Workload}
use Rattle.kn_agenda.specs.Due.{AreNext, ticks_of}
use Rattle.kn_agenda.specs.Runs.{so_far}
use Rattle.kn_agenda.proofs.Arriving.{all_arrive}
use Rattle.kn_agenda.proofs.Courses.{HasLaws, all_booted, all_done, all_expired, served}
use Rattle.kn_agenda.proofs.Ending.{RunsAt, runs_on}
use Rattle.kn_agenda.proofs.Once.{few_passes, finish_once, ready_once}
use Rattle.kn_agenda.proofs.Opening.{opens}
use Rattle.kn_agenda.proofs.laws.service_laws.Goals as goal

pub returns : goal.returns
returns c =
    let facts = c.fact_laws.ensures in
    let parts = c.part_laws.ensures in
    let law : (w : Workload) → HasLaws w = λ w. record {
      made = λ es. c.trace_laws.ensures.made w.spec w.start es;
      goes = λ es later. c.trace_laws.ensures.append w.spec w.start es later;
      nobody = λ d e made other. c.coming_laws.ensures.nobody w.spec d e made other;
      one = λ d e tag made is. (c.request_laws.ensures.told w.spec d e tag made is).counts;
      ends = λ d e r ok made is on. (c.request_laws.ensures.ends w.spec d e r ok made is on).runs;
      live = c.growth_laws.ensures.live w.spec;
      finish = c.need_laws.ensures.finish;
      arrive = c.need_laws.ensures.arrive;
      tick = c.need_laws.ensures.tick;
      ready = c.need_laws.ensures.ready;
    } in
    let runs : (w : Workload) (es : List Event) → IsWorkload w → AreNext w es → RunsAt w es = λ w es good steps.
    runs_on w (λ fs clock x. c.next_laws.ensures.step w fs clock x good) [] es steps
    (w.start, opens facts parts w good (c.history_laws.ensures.times w.spec w.start w.start 0 (opening w.spec w.start) (c.history_laws.ensures.opening w.spec w.start)) (c.size_laws.ensures.standing w.spec)) in
    record {
      arrive = λ w es good all. all_arrive w (law w) parts es good all (runs w es good all.steps).1.few;
      serve = λ w es r b good all begun. served w (law w) facts parts (so_far w es) (ticks_of es) r b ((law w).made es) (runs w es good all.steps).1.come (all_done w (law w) facts parts es all.steps) all.over begun;
      done = λ w es r b t steps begun over. all_done w (law w) facts parts es steps r b t begun over;
      expire = λ w es r b t steps taken over. all_expired w (law w) facts parts es steps r b t taken over;
      wait = λ w es r b all waits taken. all.over (record { time = b + w.spec.timeout_ms; kind = Passes; number = r }) (waits, (b, taken, refl));
      ready = λ w es p t steps ready. all_booted w (law w) facts parts es steps p t ready;
      boot = λ w es p b all starts created. all.over (record { time = b + w.boot; kind = Readies; number = p }) (starts, (b, created, refl));
      finish_once = λ w es before e mid f rest r g h steps is first second. finish_once w (law w) facts parts es before e mid f rest r g h steps is first second;
      ready_once = λ w es before e mid f rest p steps is first second. ready_once w (law w) facts parts es before e mid f rest p steps is first second;
      pass = λ w es steps. few_passes w (law w) facts parts es steps;
    }

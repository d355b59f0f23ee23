-- The jobs' arrivals are all that there are, in order.
use Rattle.std.proofs.Common.{◌≡◌, ℕ, zero, suc, ◌<◌, ◌≤◌, Bool, true, false, nat_lt, ◌⊎◌, inl, inr, List, [], ◌∷◌, ◌++◌, length, map, take, refl, sym, ap, ◌∙◌, subst, arith, add-one, append-nil}
use Rattle.std.specs.Prelude.{Option, Some, slice_get}
use Rattle.std.specs.List.{filter}
use Rattle.std.proofs.lemmas.Bool.Decides.{nat_tests}
use Rattle.std.proofs.lemmas.List.{map-append}
use Rattle.std.proofs.lemmas.List.Elements.{filter-append}
use Rattle.kn_event.specs.declared.event.Act.{Act}
use Rattle.kn_event.specs.declared.event.Act.TheVariants as act
use Rattle.kn_event.specs.declared.event.Event.{Event}
use Rattle.kn_trace.specs.Events.{opening, react}
use Rattle.kn_trace.specs.Rows.{arrived_by}
use Rattle.kn_trace.specs.Trace.{Trace, arrivals, each_row}
use Rattle.kn_laws.specs.Facts.{PartFacts}
use Rattle.kn_agenda.specs.declared.item.Item.{Item}
use Rattle.kn_agenda.specs.declared.item.Kind.{Kind}
use Rattle.kn_agenda.specs.declared.item.Kind.TheVariants.{Arrives, Finishes, Passes, Readies, Ticks}
use Rattle.kn_agenda.specs.declared.job.Job.{Job}
use Rattle.kn_agenda.specs.Workload.{IsWorkload, Workload}
use Rattle.kn_agenda.specs.Course.{arrive_of, is_arrival}
use Rattle.kn_agenda.specs.Due.{AreNext, IsDueAt, IsNext, IsSchedule, act_of, event_of, tag_of, ticks_of}
use Rattle.kn_agenda.specs.Runs.{so_far}
use Rattle.kn_agenda.proofs.Courses.{HasLaws, keeps_all}
use Rattle.kn_agenda.proofs.Keeping.{job_there}
use Rattle.kn_agenda.proofs.Passes.{jobs_until}
use Rattle.kn_agenda.proofs.Stepping.{is_kind, no_arrival}

-- so far the first jobs have arrived
abbrev pub AreFirst : List Job → List Event → Trace → Type 0
AreFirst jobs es c = filter is_arrival es ≡ map arrive_of (take (arrivals c) jobs)

take_one : (jobs : List Job) (n : ℕ) (j : Job) → slice_get jobs n ≡ Some j → take (suc n) jobs ≡ take n jobs ++ j ∷ []
take_one [] n j h = absurd (cc)
take_one (x ∷ jobs) zero j h = let same : x ≡ j = cc in rw same refl
take_one (x ∷ jobs) (suc n) j h = ap (λ (js : List Job). x ∷ js) (take_one jobs n j h)

all_jobs : (jobs : List Job) → take (length jobs) jobs ≡ jobs
all_jobs [] = refl
all_jobs (x ∷ jobs) = ap (λ (js : List Job). x ∷ js) (all_jobs jobs)

-- the event of a job's item
arrival_is : (w : Workload) (x : Item) (j : Job) → x.kind ≡ Arrives → slice_get w.jobs x.number ≡ Some j → x.time ≡ j.time → event_of w x ≡ arrive_of j
arrival_is w x j kind job time =
    let did : act_of w x.kind x.number ≡ act.Arrive j.tag = ap (λ (k : Kind). act_of w k x.number) kind ∙ ap (λ (o : Option Job). act.Arrive (tag_of o)) job in
    let a : event_of w x ≡ record { time = j.time; act = act_of w x.kind x.number } = ap (λ (t : ℕ). record { time = t; act = act_of w x.kind x.number }) time in
    let b : record { time = j.time; act = act_of w x.kind x.number } ≡ arrive_of j = ap (λ (d : Act). record { time = j.time; act = d }) did in
    a ∙ b

-- that of another is no arrival
none_arrives : (w : Workload) (x : Item) → (x.kind ≡ Arrives → ⊥) → filter is_arrival (event_of w x ∷ []) ≡ []
none_arrives w x other = by x.kind refl
  where
    by : (k : Kind) → x.kind ≡ k → filter is_arrival (event_of w x ∷ []) ≡ []
    by Finishes is = rw is refl
    by Readies is = rw is refl
    by Passes is = rw is refl
    by Arrives is = absurd (other is)
    by Ticks is = rw is refl

module _ (w : Workload) (law : HasLaws w) (parts : PartFacts) where
  open parts use {rows.{opening_none}}

  nobody_first : arrivals (opening w.spec w.start) ≡ 0
  unfolding arrivals
  nobody_first = let none : each_row arrived_by (opening w.spec w.start) ≡ [] = opening_none arrived_by (λ p n. refl) (λ y. refl) w.spec w.start in rw none refl

  first_more : (es : List Event) (x : Item) → IsNext w (so_far w es) (ticks_of es) x → AreFirst w.jobs es (so_far w es) → AreFirst w.jobs (es ++ event_of w x ∷ []) (so_far w es ++ react w.spec (so_far w es) (event_of w x))
  first_more es x next all = by (is_kind x.kind Arrives)
    where
      whole : filter is_arrival (es ++ event_of w x ∷ []) ≡ filter is_arrival es ++ filter is_arrival (event_of w x ∷ [])
      whole = filter-append is_arrival es (event_of w x ∷ [])

      by : (x.kind ≡ Arrives) ⊎ (x.kind ≡ Arrives → ⊥) → AreFirst w.jobs (es ++ event_of w x ∷ []) (so_far w es ++ react w.spec (so_far w es) (event_of w x))
      by (inl k) =
          let own : (x.number ≡ arrivals (so_far w es)) × (j : Job) × (slice_get w.jobs x.number ≡ Some j) × (x.time ≡ j.time) = subst (λ (q : Kind). IsDueAt w (so_far w es) (ticks_of es) q x.number x.time) k next.due in
          let is = arrival_is w x own.1 k own.2 own.3 in
          let one = law.one (so_far w es) (event_of w x) own.1.tag (law.made es) (ap (λ (e : Event). e.act) is) in
          let job : slice_get w.jobs (arrivals (so_far w es)) ≡ Some own.1 = subst (λ (n : ℕ). slice_get w.jobs n ≡ Some own.1) own.0 own.2 in
          let last : filter is_arrival (event_of w x ∷ []) ≡ arrive_of own.1 ∷ [] = ap (λ (e : Event). filter is_arrival (e ∷ [])) is in
          let right : take (arrivals (so_far w es ++ react w.spec (so_far w es) (event_of w x))) w.jobs ≡ take (arrivals (so_far w es)) w.jobs ++ own.1 ∷ [] = ap (λ (n : ℕ). take n w.jobs) one ∙ rw add-one (take_one w.jobs (arrivals (so_far w es)) own.1 job) in
          rw (whole, last, all, right) (sym (map-append arrive_of (take (arrivals (so_far w es)) w.jobs) (own.1 ∷ [])))
      by (inr k) =
          let none = none_arrives w x k in
          let same = law.nobody (so_far w es) (event_of w x) (law.made es) (no_arrival w x k) in
          rw (whole, none, same) (append-nil (filter is_arrival es) ∙ all)

  pub all_first : (es : List Event) → AreNext w es → AreFirst w.jobs es (so_far w es)
  all_first es steps = keeps_all w law (AreFirst w.jobs) (rw nobody_first refl) first_more es steps

  -- at the end all have arrived
  pub all_arrive : (es : List Event) → IsWorkload w → IsSchedule w es → arrivals (so_far w es) ≤ length w.jobs → filter is_arrival es ≡ map arrive_of w.jobs
  all_arrive es good all few = all_first es all.steps ∙ ap (λ (js : List Job). map arrive_of js) (ap (λ (n : ℕ). take n w.jobs) every ∙ all_jobs w.jobs)
    where
      every : arrivals (so_far w es) ≡ length w.jobs
      every = by (nat_lt (arrivals (so_far w es)) (length w.jobs)) refl
        where
          by : (z : Bool) → nat_lt (arrivals (so_far w es)) (length w.jobs) ≡ z → arrivals (so_far w es) ≡ length w.jobs
          by true h = absurd (
              let less : arrivals (so_far w es) < length w.jobs = grind (arith, nat_tests) in
              let job = job_there w.jobs (arrivals (so_far w es)) less in
              let soon = jobs_until w.start w.until w.jobs (arrivals (so_far w es)) job.0 good.jobs job.1 in
              let late = all.over (record { time = job.0.time; kind = Arrives; number = arrivals (so_far w es) }) (refl, job.0, job.1, refl) in
              omega arith)
          by false h = let more : length w.jobs ≤ arrivals (so_far w es) = grind (arith, nat_tests) in omega arith

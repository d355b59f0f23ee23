-- The next event of a workload keeps what its events keep so far.
use Rattle.std.proofs.Common.{◌≡◌, ℕ, zero, suc, ◌+◌, ◌*◌, ◌<◌, ◌≤◌, Bool, true, false, cond, ◌⊎◌, inl, inr, List, [], ◌∷◌, ◌++◌, length, nat_lt, refl, sym, ap, ◌∙◌, subst, arith, append-nil, length-append}
use Rattle.std.specs.Prelude.{Some, slice_get}
use Rattle.std.specs.List.{filter}
use Rattle.kn_event.specs.declared.event.Act.TheVariants as act
use Rattle.kn_event.specs.declared.event.Event.{Event}
use Rattle.kn_trace.specs.Trace.{Trace, arrivals, live, starting_pods}
use Rattle.kn_trace.specs.Events.{added, react}
use Rattle.kn_laws.specs.ByAct.{IsArrival}
use Rattle.kn_laws.specs.History.{GoesOn}
use Rattle.kn_agenda.specs.declared.item.Item.{Item}
use Rattle.kn_agenda.specs.declared.item.Kind.{Kind}
use Rattle.kn_agenda.specs.declared.item.Kind.TheVariants.{Arrives, Finishes, Passes, Readies, Ticks}
use Rattle.kn_agenda.specs.declared.job.Job.{Job}
use Rattle.kn_agenda.specs.Workload.{IsWorkload, Workload}
use Rattle.kn_agenda.specs.Due.{AreNext, ComesNext, IsDueAt, IsNext, event_of, is_before, is_tick, rank, tag_of, ticks_of}
use Rattle.kn_agenda.specs.Runs.{ComeByJobs, IsByNextJob, Runs, Shrinks, cost_of, so_far}
use Rattle.kn_agenda.proofs.Least.{later_from}
use Rattle.kn_agenda.proofs.Passes.{jobs_rise}

-- ---- one event more

-- where a list with one more at the end is split
abbrev IsSplit : List Event → Event → List Event → Event → List Event → Type 0
IsSplit es e before f rest = ((before ≡ es) × (f ≡ e)) ⊎ ((rest' : List Event) × (es ≡ before ++ f ∷ rest'))

tail_is : (x y : Event) (xs ys : List Event) → x ∷ xs ≡ y ∷ ys → xs ≡ ys
tail_is x y xs ys h = cc

head_is : (x y : Event) (xs ys : List Event) → x ∷ xs ≡ y ∷ ys → x ≡ y
head_is x y xs ys h = cc

pub no_more : (before : List Event) (f : Event) (rest : List Event) → [] ≡ before ++ f ∷ rest → ⊥
no_more [] f rest h = cc
no_more (b ∷ before) f rest h = cc

split_at : (es : List Event) (e : Event) (before : List Event) (f : Event) (rest : List Event) → es ++ e ∷ [] ≡ before ++ f ∷ rest → IsSplit es e before f rest
split_at [] e [] f rest h = inl (refl, sym (head_is e f [] rest h))
split_at [] e (b ∷ before) f rest h = absurd (no_more before f rest (tail_is e b [] (before ++ f ∷ rest) h))
split_at (x ∷ es) e [] f rest h = inr (es, ap (λ (y : Event). y ∷ es) (head_is x f (es ++ e ∷ []) rest h))
split_at (x ∷ es) e (b ∷ before) f rest h =
    by (head_is x b (es ++ e ∷ []) (before ++ f ∷ rest) h) (split_at es e before f rest (tail_is x b (es ++ e ∷ []) (before ++ f ∷ rest) h))
  where
    by : x ≡ b → IsSplit es e before f rest → IsSplit (x ∷ es) e (b ∷ before) f rest
    by same (inl (h', k)) = inl (rw (same, h') refl, k)
    by same (inr (rest', k)) = inr (rest', rw (same, k) refl)

next_more : (w : Workload) (es : List Event) (e : Event) → AreNext w es → ComesNext w es e → AreNext w (es ++ e ∷ [])
next_more w es e steps next before f rest h = by (split_at es e before f rest h)
  where
    by : IsSplit es e before f rest → ComesNext w before f
    by (inl (same, is)) = rw (same, is) next
    by (inr (rest', is)) = steps before f rest' is

pub ticks_more : (es : List Event) (e : Event) → ticks_of (es ++ e ∷ []) ≡ ticks_of es + ticks_of (e ∷ [])
ticks_more [] e = omega arith
ticks_more (x ∷ es) e = by (is_tick x) (ticks_more es e)
  where
    by : (b : Bool) → ticks_of (es ++ e ∷ []) ≡ ticks_of es + ticks_of (e ∷ []) → length (cond b (x ∷ filter is_tick (es ++ e ∷ [])) (filter is_tick (es ++ e ∷ []))) ≡ length (cond b (x ∷ filter is_tick es) (filter is_tick es)) + ticks_of (e ∷ [])
    by true h = omega arith
    by false h = h

pub so_far_more : (w : Workload) (es : List Event) (e : Event) → GoesOn w.spec w.start es (e ∷ []) → so_far w (es ++ e ∷ []) ≡ so_far w es ++ react w.spec (so_far w es) e
unfolding added
so_far_more w es e goes = goes ∙ ap (λ (xs : Trace). so_far w es ++ xs) (append-nil (react w.spec (so_far w es) e))

pub job_within : (jobs : List Job) (r : ℕ) (j : Job) → slice_get jobs r ≡ Some j → r < length jobs
job_within [] r j h = absurd (cc)
job_within (x ∷ jobs) zero j h = omega arith
job_within (x ∷ jobs) (suc r) j h = let more = job_within jobs r j h in omega arith

-- what kind of event it is
pub no_arrival : (w : Workload) (x : Item) → (x.kind ≡ Arrives → ⊥) → IsArrival (event_of w x).act → ⊥
no_arrival w x other h = by x.kind refl h
  where
    by : (k : Kind) → x.kind ≡ k → IsArrival (event_of w x).act → ⊥
    by Finishes is (tag, h) = let off : act.Finish x.number true ≡ act.Arrive tag = rw is at h in cc
    by Readies is (tag, h) = let off : act.Ready x.number ≡ act.Arrive tag = rw is at h in cc
    by Passes is (tag, h) = let off : act.Pass ≡ act.Arrive tag = rw is at h in cc
    by Arrives is h = other is
    by Ticks is (tag, h) = let off : act.Tick ≡ act.Arrive tag = rw is at h in cc

pub ticks_one : (w : Workload) (x : Item) → x.kind ≡ Ticks → ticks_of (event_of w x ∷ []) ≡ 1
ticks_one w x is = rw is refl

pub ticks_none : (w : Workload) (x : Item) → (x.kind ≡ Ticks → ⊥) → ticks_of (event_of w x ∷ []) ≡ 0
ticks_none w x other = by x.kind refl
  where
    by : (k : Kind) → x.kind ≡ k → ticks_of (event_of w x ∷ []) ≡ 0
    by Finishes is = rw is refl
    by Readies is = rw is refl
    by Passes is = rw is refl
    by Arrives is = rw is refl
    by Ticks is = absurd (other is)

-- which kind it is
pub is_kind : (x k : Kind) → (x ≡ k) ⊎ (x ≡ k → ⊥)
is_kind Finishes Finishes = inl refl
is_kind Readies Readies = inl refl
is_kind Passes Passes = inl refl
is_kind Arrives Arrives = inl refl
is_kind Ticks Ticks = inl refl
is_kind Finishes Readies = inr (λ h. cc)
is_kind Finishes Passes = inr (λ h. cc)
is_kind Finishes Arrives = inr (λ h. cc)
is_kind Finishes Ticks = inr (λ h. cc)
is_kind Readies Finishes = inr (λ h. cc)
is_kind Readies Passes = inr (λ h. cc)
is_kind Readies Arrives = inr (λ h. cc)
is_kind Readies Ticks = inr (λ h. cc)
is_kind Passes Finishes = inr (λ h. cc)
is_kind Passes Readies = inr (λ h. cc)
is_kind Passes Arrives = inr (λ h. cc)
is_kind Passes Ticks = inr (λ h. cc)
is_kind Arrives Finishes = inr (λ h. cc)
is_kind Arrives Readies = inr (λ h. cc)
is_kind Arrives Passes = inr (λ h. cc)
is_kind Arrives Ticks = inr (λ h. cc)
is_kind Ticks Finishes = inr (λ h. cc)
is_kind Ticks Readies = inr (λ h. cc)
is_kind Ticks Passes = inr (λ h. cc)
is_kind Ticks Arrives = inr (λ h. cc)

cost_none : (k : Kind) → (k ≡ Arrives → ⊥) → (k ≡ Ticks → ⊥) → cost_of k ≡ 0
cost_none Finishes a t = refl
cost_none Readies a t = refl
cost_none Passes a t = refl
cost_none Arrives a t = absurd (a refl)
cost_none Ticks a t = absurd (t refl)

-- of an item's event: what the laws of the crates below and of this one say of it
pub record IsLawful (w : Workload) (c : Trace) (x : Item) : Type 0 where
  pub nobody : (IsArrival (event_of w x).act → ⊥) → arrivals (c ++ react w.spec c (event_of w x)) ≡ arrivals c
  pub one : (tag : ℕ) → (event_of w x).act ≡ act.Arrive tag → arrivals (c ++ react w.spec c (event_of w x)) ≡ arrivals c + 1
  pub come : IsByNextJob w.spec w.jobs c (event_of w x) → ComeByJobs w.jobs c → ComeByJobs w.jobs (c ++ react w.spec c (event_of w x))
  pub late : (ticks : ℕ) (k : Kind) (n t : ℕ) → (k ≡ Arrives → ⊥) → (k ≡ Ticks → ⊥) → IsDueAt w (c ++ react w.spec c (event_of w x)) ticks k n t → IsDueAt w c ticks k n t ⊎ (x.time ≤ t)
  pub shrinks : Shrinks w c x

module _ (w : Workload) (es : List Event) (x : Item) (clock : ℕ) (good : IsWorkload w) (goes : GoesOn w.spec w.start es (event_of w x ∷ [])) (law : IsLawful w (so_far w es) x) (runs : Runs w es clock) (next : IsNext w (so_far w es) (ticks_of es) x) (soon : x.time ≤ w.until) where
  whole : so_far w (es ++ event_of w x ∷ []) ≡ so_far w es ++ react w.spec (so_far w es) (event_of w x)
  whole = so_far_more w es (event_of w x) goes

  -- what was due isn't due sooner
  not_sooner : (k : Kind) (n t : ℕ) → IsDueAt w (so_far w es) (ticks_of es) k n t → x.time ≤ t
  not_sooner k n t due = later_from t x.time (is_before (rank k) (rank x.kind) (nat_lt n x.number)) (next.first (record { time = t; kind = k; number = n }) due)

  was : (k : Kind) (n t : ℕ) → (k ≡ Arrives → ⊥) → (k ≡ Ticks → ⊥) → IsDueAt w (so_far w es ++ react w.spec (so_far w es) (event_of w x)) (ticks_of es) k n t → x.time ≤ t
  was k n t a b due = by (law.late (ticks_of es) k n t a b due)
    where
      by : IsDueAt w (so_far w es) (ticks_of es) k n t ⊎ (x.time ≤ t) → x.time ≤ t
      by (inl old) = not_sooner k n t old
      by (inr new) = new

  -- the job that arrives
  job_of : x.kind ≡ Arrives → (x.number ≡ arrivals (so_far w es)) × (j : Job) × (slice_get w.jobs x.number ≡ Some j) × (x.time ≡ j.time)
  job_of is = subst (λ (k : Kind). IsDueAt w (so_far w es) (ticks_of es) k x.number x.time) is next.due

  arrive_one : x.kind ≡ Arrives → arrivals (so_far w es ++ react w.spec (so_far w es) (event_of w x)) ≡ arrivals (so_far w es) + 1
  arrive_one is = law.one (tag_of (slice_get w.jobs x.number)) (rw is refl)

  arrival_late : (n t : ℕ) → (n ≡ arrivals (so_far w es ++ react w.spec (so_far w es) (event_of w x))) × (j : Job) × (slice_get w.jobs n ≡ Some j) × (t ≡ j.time) → x.time ≤ t
  arrival_late n t (at, j, is, time) = by (is_kind x.kind Arrives)
    where
      by : (x.kind ≡ Arrives) ⊎ (x.kind ≡ Arrives → ⊥) → x.time ≤ t
      by (inl k) =
          let own = job_of k in
          let one = arrive_one k in
          let before = own.0 in
          let rise = jobs_rise w.start w.until w.jobs x.number n own.1 j good.jobs own.2 is (omega arith) in
          let first = own.3 in
          omega arith
      by (inr k) = not_sooner Arrives n t (at ∙ law.nobody (no_arrival w x k), j, is, time)

  tick_late : (n t : ℕ) → (n ≡ ticks_of (es ++ event_of w x ∷ [])) × (t ≡ w.start + 2000 * (n + 1)) → x.time ≤ t
  tick_late n t (at, time) = by (is_kind x.kind Ticks)
    where
      by : (x.kind ≡ Ticks) ⊎ (x.kind ≡ Ticks → ⊥) → x.time ≤ t
      by (inl k) =
          let own : (x.number ≡ ticks_of es) × (x.time ≡ w.start + 2000 * (x.number + 1)) = subst (λ (q : Kind). IsDueAt w (so_far w es) (ticks_of es) q x.number x.time) k next.due in
          let one = ticks_one w x k in
          let more = ticks_more es (event_of w x) in
          let a = own.0 in
          let b = own.1 in
          omega arith
      by (inr k) =
          let none = ticks_none w x k in
          let more = ticks_more es (event_of w x) in
          let same : n ≡ ticks_of es = omega arith in
          not_sooner Ticks n t (same, time)

  late_more : (k : Kind) (n t : ℕ) → IsDueAt w (so_far w es ++ react w.spec (so_far w es) (event_of w x)) (ticks_of (es ++ event_of w x ∷ [])) k n t → x.time ≤ t
  late_more Finishes n t due = was Finishes n t (λ h. cc) (λ h. cc) due
  late_more Readies n t due = was Readies n t (λ h. cc) (λ h. cc) due
  late_more Passes n t due = was Passes n t (λ h. cc) (λ h. cc) due
  late_more Arrives n t due = arrival_late n t due
  late_more Ticks n t due = tick_late n t due

  few_more : arrivals (so_far w es ++ react w.spec (so_far w es) (event_of w x)) ≤ length w.jobs
  few_more = by (is_kind x.kind Arrives)
    where
      by : (x.kind ≡ Arrives) ⊎ (x.kind ≡ Arrives → ⊥) → arrivals (so_far w es ++ react w.spec (so_far w es) (event_of w x)) ≤ length w.jobs
      by (inl k) = let own = job_of k in let one = arrive_one k in let less = job_within w.jobs x.number own.1 own.2 in let at = own.0 in omega arith
      by (inr k) = let same = law.nobody (no_arrival w x k) in let few = runs.few in omega arith

  come_on : ComeByJobs w.jobs (so_far w es ++ react w.spec (so_far w es) (event_of w x))
  come_on = law.come (by (is_kind x.kind Arrives)) runs.come
    where
      by : (x.kind ≡ Arrives) ⊎ (x.kind ≡ Arrives → ⊥) → IsByNextJob w.spec w.jobs (so_far w es) (event_of w x)
      by (inl k) = let own = job_of k in inr (own.1, rw (← own.0) own.2, own.3, arrive_one k)
      by (inr k) = inl (no_arrival w x k)

  -- ticks end with the workload
  ticks_few : ticks_of (es ++ event_of w x ∷ []) ≤ 43200
  ticks_few = by (is_kind x.kind Ticks)
    where
      by : (x.kind ≡ Ticks) ⊎ (x.kind ≡ Ticks → ⊥) → ticks_of (es ++ event_of w x ∷ []) ≤ 43200
      by (inl k) =
          let own : (x.number ≡ ticks_of es) × (x.time ≡ w.start + 2000 * (x.number + 1)) = subst (λ (q : Kind). IsDueAt w (so_far w es) (ticks_of es) q x.number x.time) k next.due in
          let a = own.0 in
          let b = own.1 in
          let one = ticks_one w x k in
          let more = ticks_more es (event_of w x) in
          let long = good.long in
          omega arith
      by (inr k) = let none = ticks_none w x k in let more = ticks_more es (event_of w x) in let few = runs.ticks in omega arith

  -- each event leaves fewer to come
  many_more : length (es ++ event_of w x ∷ []) + length (live (so_far w es ++ react w.spec (so_far w es) (event_of w x))) + length (starting_pods (so_far w es ++ react w.spec (so_far w es) (event_of w x)))
      ≤ 500 + 502 * (arrivals (so_far w es ++ react w.spec (so_far w es) (event_of w x)) + ticks_of (es ++ event_of w x ∷ []))
  many_more = by (is_kind x.kind Arrives) (is_kind x.kind Ticks)
    where
      by : (x.kind ≡ Arrives) ⊎ (x.kind ≡ Arrives → ⊥) → (x.kind ≡ Ticks) ⊎ (x.kind ≡ Ticks → ⊥)
          → length (es ++ event_of w x ∷ []) + length (live (so_far w es ++ react w.spec (so_far w es) (event_of w x))) + length (starting_pods (so_far w es ++ react w.spec (so_far w es) (event_of w x)))
          ≤ 500 + 502 * (arrivals (so_far w es ++ react w.spec (so_far w es) (event_of w x)) + ticks_of (es ++ event_of w x ∷ []))
      by (inl a) o =
          let cost : cost_of x.kind ≡ 502 = rw a refl in
          let one = arrive_one a in
          let none = ticks_none w x (λ t. (let off : Arrives ≡ Ticks = sym a ∙ t in cc)) in
          let more = ticks_more es (event_of w x) in
          let len = length-append es (event_of w x ∷ []) in
          let law' = law.shrinks in
          let many = runs.many in
          omega arith
      by (inr a) (inl t) =
          let cost : cost_of x.kind ≡ 502 = rw t refl in
          let same = law.nobody (no_arrival w x a) in
          let one = ticks_one w x t in
          let more = ticks_more es (event_of w x) in
          let len = length-append es (event_of w x ∷ []) in
          let law' = law.shrinks in
          let many = runs.many in
          omega arith
      by (inr a) (inr t) =
          let cost = cost_none x.kind a t in
          let same = law.nobody (no_arrival w x a) in
          let none = ticks_none w x t in
          let more = ticks_more es (event_of w x) in
          let len = length-append es (event_of w x ∷ []) in
          let law' = law.shrinks in
          let many = runs.many in
          omega arith

  pub runs_more : Runs w (es ++ event_of w x ∷ []) x.time
  runs_more = record {
    steps = next_more w es (event_of w x) runs.steps (x, next, soon, refl);
    come = subst (λ (f : Trace). ComeByJobs w.jobs f) (sym whole) come_on;
    few = subst (λ (f : Trace). arrivals f ≤ length w.jobs) (sym whole) few_more;
    late = λ k n t due. late_more k n t (subst (λ (f : Trace). IsDueAt w f (ticks_of (es ++ event_of w x ∷ [])) k n t) whole due);
    ticks = ticks_few;
    many = subst (λ (f : Trace). length (es ++ event_of w x ∷ []) + length (live f) + length (starting_pods f) ≤ 500 + 502 * (arrivals f + ticks_of (es ++ event_of w x ∷ []))) (sym whole) many_more;
  }

-- What each event of a workload keeps, all its events keep; and what is so at the end.
use Rattle.std.proofs.Common.{◌≡◌, ℕ, ◌+◌, ◌<◌, ◌≤◌, Bool, true, false, ◌||◌, ◌⊎◌, inl, inr, List, [], ◌∷◌, ◌++◌, length, refl, sym, ap, ◌∙◌, subst, append-nil, append_assoc}
use Rattle.std.specs.Prelude.{Option, None, Some, slice_get}
use Rattle.kn_event.specs.declared.entry.Phase.{Phase}
use Rattle.kn_event.specs.declared.entry.Row.{Row}
use Rattle.kn_event.specs.declared.entry.Row.TheVariants as row
use Rattle.kn_event.specs.declared.event.Act.TheVariants as act
use Rattle.kn_event.specs.declared.event.Event.{Event}
use Rattle.kn_event.specs.Lists.{contains}
use Rattle.kn_trace.specs.Events.{need_of, opening, react}
use Rattle.kn_trace.specs.Rows.{assigned_by, begun_by, ended_by, expired_by, readied_by, run_by, taken_by}
use Rattle.kn_trace.specs.Trace.{Trace, arrivals, assigned, each_row, ended, has_begun, has_run, is_running, live}
use Rattle.kn_record.specs.Facts.{Facts}
use Rattle.kn_record.specs.Made.{IsMade}
use Rattle.kn_laws.specs.ByAct.{IsArrival}
use Rattle.kn_laws.specs.Facts.{PartFacts}
use Rattle.kn_laws.specs.History.{GoesOn}
use Rattle.kn_agenda.specs.declared.item.Item.{Item}
use Rattle.kn_agenda.specs.declared.item.Kind.TheVariants.{Finishes}
use Rattle.kn_agenda.specs.declared.job.Job.{Job}
use Rattle.kn_agenda.specs.Workload.{Workload}
use Rattle.kn_agenda.specs.Course.{ended_at}
use Rattle.kn_agenda.specs.Due.{AreNext, IsDue, IsNext, begun_at, event_of, first_time, ticks_of}
use Rattle.kn_agenda.specs.Runs.{ComeByJobs, so_far}
use Rattle.kn_agenda.proofs.Expiring.{AreExpired, expired_more}
use Rattle.kn_agenda.proofs.Keeping.{begun_parts}
use Rattle.kn_agenda.proofs.Opening.{nothing_yet}
use Rattle.kn_agenda.proofs.Passes.{time-some}
use Rattle.kn_agenda.proofs.Readies.{happened}
use Rattle.kn_agenda.proofs.Serving.{AreBooted, AreDone, booted_more, done_more}
use Rattle.kn_agenda.proofs.Stepping.{so_far_more}

-- what the laws of the crates below say of the traces of a workload
pub record HasLaws (w : Workload) : Type 0 where
  pub made : (es : List Event) → IsMade w.spec (so_far w es)
  pub goes : (es later : List Event) → GoesOn w.spec w.start es later
  pub nobody : (c : Trace) (e : Event) → IsMade w.spec c → (IsArrival e.act → ⊥) → arrivals (c ++ react w.spec c e) ≡ arrivals c
  pub one : (c : Trace) (e : Event) (tag : ℕ) → IsMade w.spec c → e.act ≡ act.Arrive tag → arrivals (c ++ react w.spec c e) ≡ arrivals c + 1
  pub ends : (c : Trace) (e : Event) (r : ℕ) (ok : Bool) → IsMade w.spec c → e.act ≡ act.Finish r ok → is_running c r ≡ true → is_running (c ++ react w.spec c e) r ≡ false
  pub live : (c : Trace) (e : Event) → IsMade w.spec c → length (live (c ++ react w.spec c e)) + 1 ≤ length (live c) + need_of c e.act
  pub finish : (c : Trace) (r : ℕ) (ok : Bool) → is_running c r ≡ true → need_of c (act.Finish r ok) ≡ 0
  pub arrive : (c : Trace) (tag : ℕ) → need_of c (act.Arrive tag) ≡ 2
  pub tick : (c : Trace) → need_of c act.Tick ≡ 1
  pub ready : (c : Trace) (p : ℕ) → need_of c (act.Ready p) ≡ 1

module _ (w : Workload) (law : HasLaws w) where
  -- what the next event keeps of the events and of their trace
  abbrev pub IsKept : (List Event → Trace → Type 0) → Type 0
  IsKept Q = (es : List Event) (x : Item) → IsNext w (so_far w es) (ticks_of es) x → Q es (so_far w es) → Q (es ++ event_of w x ∷ []) (so_far w es ++ react w.spec (so_far w es) (event_of w x))

  kept_on : (Q : List Event → Trace → Type 0) → IsKept Q → (before es : List Event) → AreNext w (before ++ es) → Q before (so_far w before) → Q (before ++ es) (so_far w (before ++ es))
  kept_on Q step before [] steps q = subst (λ (fs : List Event). Q fs (so_far w fs)) (sym (append-nil before)) q
  kept_on Q step before (e ∷ es) steps q =
      let next = steps before e es refl in
      let grown = so_far_more w before (event_of w next.0) (law.goes before (event_of w next.0 ∷ [])) in
      let here : Q (before ++ event_of w next.0 ∷ []) (so_far w (before ++ event_of w next.0 ∷ [])) = subst (λ (c : Trace). Q (before ++ event_of w next.0 ∷ []) c) (sym grown) (step before next.0 next.1 q) in
      let more : Q (before ++ e ∷ []) (so_far w (before ++ e ∷ [])) = subst (λ (f : Event). Q (before ++ f ∷ []) (so_far w (before ++ f ∷ []))) (sym next.3) here in
      subst (λ (fs : List Event). Q fs (so_far w fs)) (append_assoc before (e ∷ []) es) (kept_on Q step (before ++ e ∷ []) es (subst (AreNext w) (sym (append_assoc before (e ∷ []) es)) steps) more)

  -- so all events keep it of which each came next
  pub keeps_all : (Q : List Event → Trace → Type 0) → Q [] (opening w.spec w.start) → IsKept Q → (es : List Event) → AreNext w es → Q es (so_far w es)
  keeps_all Q first step es steps = kept_on Q step [] es steps (subst (λ (c : Trace). Q [] c) (sym (nothing_yet w)) first)

  module _ (facts : Facts) (parts : PartFacts) where
    open facts use {kinds.{contains-split}, members.{begun_taken}, proper.{made_kept}}
    open parts use {rows.{are_by_act, opening_none, react-at}}

    -- nothing happens in the opening but that pods are created
    never : (said : Row → Option ℕ) → ((p n : ℕ) → said (row.Create p n) ≡ None) → ((y : Phase) → said (row.Phase y) ≡ None) → (n t : ℕ) → first_time said (opening w.spec w.start) n ≡ Some t → ⊥
    never said a b n t h =
        let none = opening_none said a b w.spec w.start in
        let on = happened said (opening w.spec w.start) n t h in
        let off : contains n [] ≡ true = rw none at on in
        cc

    pub all_done : (es : List Event) → AreNext w es → AreDone w.jobs (so_far w es)
    all_done es steps = keeps_all (λ fs c. AreDone w.jobs c) (λ r b t begun over. absurd (never ended_by (λ p n. refl) (λ y. refl) r t over))
        (λ fs x next all. done_more facts w (so_far w fs) (ticks_of fs) x (law.made fs) (are_by_act w.spec (so_far w fs) (event_of w x)) (react-at w.spec (so_far w fs) (event_of w x)) next.due all) es steps

    pub all_expired : (es : List Event) → AreNext w es → AreExpired w.spec.timeout_ms (so_far w es)
    all_expired es steps = keeps_all (λ fs c. AreExpired w.spec.timeout_ms c) (λ r b t taken over. absurd (never expired_by (λ p n. refl) (λ y. refl) r t over))
        (λ fs x next all. expired_more facts parts w (so_far w fs) (ticks_of fs) x (law.made fs) next all) es steps

    pub all_booted : (es : List Event) → AreNext w es → AreBooted w.boot (so_far w es)
    all_booted es steps = keeps_all (λ fs c. AreBooted w.boot c) (λ p t ready. absurd (never readied_by (λ q n. refl) (λ y. refl) p t ready))
        (λ fs x next all. booted_more facts w (so_far w fs) (ticks_of fs) x (law.made fs) (are_by_act w.spec (so_far w fs) (event_of w x)) (react-at w.spec (so_far w fs) (event_of w x)) next.due all) es steps

    -- at the end who has begun has ended in time, or would do so later
    pub served : (c : Trace) (ticks r b : ℕ) → IsMade w.spec c → ComeByJobs w.jobs c → AreDone w.jobs c → ((x : Item) → IsDue w c ticks x → w.until < x.time) → begun_at c r ≡ Some b
        → (j : Job) × (slice_get w.jobs r ≡ Some j) × ((ended_at c r ≡ Some (b + j.service)) ⊎ (w.until < b + j.service))
    unfolding is_running has_begun assigned has_run ended
    served c ticks r b made come done over begun = (job.0, job.1, by (contains r (each_row ended_by c)) refl)
      where
        has : (contains r (each_row assigned_by c) || contains r (each_row run_by c)) ≡ true
        has = sym (contains-split begun_by assigned_by run_by begun_parts r c) ∙ happened begun_by c r b begun

        job : (j : Job) × (slice_get w.jobs r ≡ Some j)
        job =
            let taken = time-some taken_by c r (begun_taken c r (made_kept w.spec c made).requests has) in
            let own = come r taken.0 taken.1 in
            (own.0, own.1)

        by : (z : Bool) → contains r (each_row ended_by c) ≡ z → (ended_at c r ≡ Some (b + job.0.service)) ⊎ (w.until < b + job.0.service)
        by true h =
            let end = time-some ended_by c r h in
            let own = done r b end.0 begun end.1 in
            let jobs' : Some own.0 ≡ Some job.0 = sym own.1 ∙ job.1 in
            let same : own.0 ≡ job.0 = cc in
            let begins : Some own.2.0 ≡ Some b = sym own.2.1 ∙ begun in
            let since : own.2.0 ≡ b = cc in
            let sum : end.0 ≡ own.2.0 + own.0.service = own.2.2 in
            let sum' : end.0 ≡ b + job.0.service = sum ∙ ap (λ (n : ℕ). n + own.0.service) since ∙ ap (λ (j : Job). b + j.service) same in
            inl (end.1 ∙ ap (λ (n : ℕ). Some n) sum')
        by false h = inr (over (record { time = b + job.0.service; kind = Finishes; number = r }) (rw (has, h) refl, (job.0, job.1, (b, begun, refl))))

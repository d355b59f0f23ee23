-- What a schedule keeps before its first event.
use Rattle.std.proofs.Common.{◌≡◌, ℕ, zero, suc, ◌+◌, ◌*◌, ◌<◌, ◌≤◌, true, false, ◌||◌, List, [], ◌∷◌, length, refl, sym, ap, ◌∙◌, subst, arith, append-nil}
use Rattle.std.specs.Prelude.{Option, None, Some, slice_index_or}
use Rattle.kn_event.specs.Revision.{AreInRange}
use Rattle.kn_event.specs.declared.entry.Entry.{Entry}
use Rattle.kn_event.specs.declared.entry.Phase.{Phase}
use Rattle.kn_event.specs.declared.entry.Row.{Row}
use Rattle.kn_event.specs.declared.entry.Row.TheVariants as row
use Rattle.kn_event.specs.declared.event.Event.{Event}
use Rattle.kn_event.specs.declared.revision.Spec.{Spec}
use Rattle.kn_event.specs.Lists.{contains}
use Rattle.kn_trace.specs.Rows.{arrived_by, assigned_by, created_by, run_by, taken_by}
use Rattle.kn_trace.specs.Trace.{Trace, arrivals, assigned, each_row, ended, has_begun, has_run, is_running, live, starting_pods, waiting}
use Rattle.kn_trace.specs.Events.{added, opening, trace_of}
use Rattle.kn_trace.specs.Scale.{drain_order}
use Rattle.kn_record.specs.Facts.{Facts}
use Rattle.kn_record.specs.Made.{Holds, IsMade, IsProper}
use Rattle.kn_record.specs.Order.{AreTimesInOrder}
use Rattle.kn_laws.specs.Facts.{PartFacts}
use Rattle.kn_core.specs.State.{RevisionState, StandsFor}
use Rattle.kn_agenda.specs.declared.item.Kind.{Kind}
use Rattle.kn_agenda.specs.declared.item.Kind.TheVariants.{Arrives, Finishes, Passes, Readies, Ticks}
use Rattle.kn_agenda.specs.declared.job.Job.{Job}
use Rattle.kn_agenda.specs.Workload.{AreJobs, IsWorkload, Workload}
use Rattle.kn_agenda.specs.Due.{IsDueAt, taken_at, ticks_of}
use Rattle.kn_agenda.specs.Agenda.{AgendaState}
use Rattle.kn_agenda.specs.Keeps.{Hears, Keeps}
use Rattle.kn_agenda.specs.Runs.{ComeByJobs, Runs, so_far}
use Rattle.kn_agenda.specs.Schedule.{Made}
use Rattle.kn_agenda.proofs.Booting.{starting-most}
use Rattle.kn_agenda.proofs.Passes.{jobs_from}
use Rattle.kn_agenda.proofs.Readies.{happened, happens_later}
use Rattle.kn_agenda.proofs.Stepping.{no_more}

pub nothing_yet : (w : Workload) → so_far w [] ≡ opening w.spec w.start
unfolding trace_of added
nothing_yet w = append-nil (opening w.spec w.start)

-- an agenda of nothing keeps the empty trace
pub keeps_nothing : (jobs : List Job) → Keeps jobs [] [] []
unfolding is_running has_begun assigned has_run ended waiting arrivals starting_pods
keeps_nothing jobs = record {
  begun = λ k d less. absurd (omega (arith, less));
  running = λ r h. absurd (nobody r h);
  few = omega arith;
  starting = refl;
  created = λ k d less. absurd (omega (arith, less));
}
  where
    nobody : (r : ℕ) → is_running [] r ≡ true → ⊥
    nobody r h = cc

-- each time is between the first and the last
pub between : (from to : ℕ) (c : Trace) → AreTimesInOrder from c to → (k : ℕ) (d : Entry) → k < length c → (slice_index_or c k d).time ≤ to
between from to [] h k d less = absurd (omega (arith, less))
between from to (e ∷ c) h zero d less = last e.time to c h.1
  where
    last : (a to : ℕ) (xs : Trace) → AreTimesInOrder a xs to → a ≤ to
    last a to [] h = h
    last a to (x ∷ xs) h = let more = last x.time to xs h.1 in let first = h.0 in omega arith
between from to (e ∷ c) h (suc k) d less = between e.time to c h.1 k d (omega (arith, less))

module _ (facts : Facts) (parts : PartFacts) where
  open facts use {members.{running_parts, waiting_member}, proper.{made_opening}}
  open parts use {rows.{opening_none}}

  none_said : (f : Row → Option ℕ) (s : Spec) (start r : ℕ) → each_row f (opening s start) ≡ [] → contains r (each_row f (opening s start)) ≡ false
  none_said f s start r none = rw none refl

  pub runs_nothing : (w : Workload) → AreJobs w.start w.until w.jobs → AreTimesInOrder w.start (opening w.spec w.start) w.start → length (drain_order (opening w.spec w.start)) ≤ 500 → Runs w [] w.start
  unfolding arrivals assigned has_run live
  runs_nothing w jobs order standing = record {
    steps = λ before e rest h. absurd (no_more before e rest h);
    come = subst (λ (f : Trace). ComeByJobs w.jobs f) (sym (nothing_yet w)) (λ r b h. absurd (nobody_taken r b h));
    few = subst (λ (f : Trace). arrivals f ≤ length w.jobs) (sym (nothing_yet w)) (let zero' : length (each_row arrived_by (opening w.spec w.start)) ≡ 0 = rw no_arrivals refl in omega arith);
    late = λ k n t due. late k n t (subst (λ (f : Trace). IsDueAt w f 0 k n t) (nothing_yet w) due);
    ticks = omega arith;
    many = subst (λ (f : Trace). length {A = Event} [] + length (live f) + length (starting_pods f) ≤ 500 + 502 * (arrivals f + ticks_of [])) (sym (nothing_yet w))
        (let nobody : length (live (opening w.spec w.start)) ≡ 0 = rw (none taken_by (λ p n. refl) (λ x. refl)) refl in let few = starting-most facts parts (opening w.spec w.start) standing in omega arith);
  }
    where
      none : (f : Row → Option ℕ) → ((p n : ℕ) → f (row.Create p n) ≡ None) → ((x : Phase) → f (row.Phase x) ≡ None) → each_row f (opening w.spec w.start) ≡ []
      none f a b = opening_none f a b w.spec w.start

      no_arrivals : each_row arrived_by (opening w.spec w.start) ≡ []
      no_arrivals = none arrived_by (λ p n. refl) (λ x. refl)

      no_taken : (r : ℕ) → contains r (each_row taken_by (opening w.spec w.start)) ≡ false
      no_taken r = none_said taken_by w.spec w.start r (none taken_by (λ p n. refl) (λ x. refl))

      nobody_taken : (r b : ℕ) → taken_at (opening w.spec w.start) r ≡ Some b → ⊥
      nobody_taken r b h = let on = happened taken_by (opening w.spec w.start) r b h in let off = no_taken r in cc

      nobody_runs : (r : ℕ) → is_running (opening w.spec w.start) r ≡ true → ⊥
      nobody_runs r h =
          let on : (contains r (each_row assigned_by (opening w.spec w.start)) || contains r (each_row run_by (opening w.spec w.start))) ≡ true = (running_parts (opening w.spec w.start) r h).0 in
          let a = none_said assigned_by w.spec w.start r (none assigned_by (λ p n. refl) (λ x. refl)) in
          let b = none_said run_by w.spec w.start r (none run_by (λ p n. refl) (λ x. refl)) in
          let off : (false || false) ≡ true = rw (a, b) at on in
          cc

      late : (k : Kind) (n t : ℕ) → IsDueAt w (opening w.spec w.start) 0 k n t → w.start ≤ t
      late Finishes n t due = absurd (nobody_runs n due.0)
      late Readies n t (on, (b, at, sum)) = let first = happens_later created_by (opening w.spec w.start) w.start w.start n b order at in omega arith
      late Passes n t due = absurd (let on = (waiting_member (opening w.spec w.start) n due.0).0 in let off = no_taken n in cc)
      late Arrives n t (at, j, is, time) = let first = jobs_from w.start w.until w.jobs n j jobs is in omega arith
      late Ticks n t (at, time) = omega (arith, time)

  -- a workload in range
  pub opens : (w : Workload) → IsWorkload w → AreTimesInOrder w.start (opening w.spec w.start) w.start → ((d : Trace) → AreInRange w.spec → IsMade w.spec d → length (drain_order d) ≤ 500) → Runs w [] w.start
  opens w good order standing = runs_nothing w good.jobs order (standing (opening w.spec w.start) good.ranges (made_opening w.spec w.start))

  -- a schedule whose agenda heard the opening
  pub made_first : (w : Workload) (rev : RevisionState) (old new : AgendaState) (s : Spec) (start : ℕ) (es : Trace) (jobs : List Job) → IsWorkload w → s ≡ w.spec → start ≡ w.start → es ≡ opening s start → jobs ≡ w.jobs
      → StandsFor rev (opening s start) → rev.spec ≡ s → rev.clock ≡ start → rev.events ≡ 0 → old.finishes ≡ [] → old.starting ≡ [] → old.room ≡ length jobs → Hears jobs es old new → old.room ≤ new.room
      → AreTimesInOrder w.start (opening w.spec w.start) w.start → ((d : Trace) → AreInRange w.spec → IsMade w.spec d → length (drain_order d) ≤ 500)
      → Made [] (record { workload = w; revision = rev; agenda = new; waits = 0; ticks = 0 })
  made_first w rev old new s start es jobs good same at is all stands spec clock events finishes starting room hears more order standing = record {
    runs = subst (λ (t : ℕ). Runs w [] t) (sym (clock ∙ at)) runs;
    revision = subst (λ (f : Trace). StandsFor rev f) (whole ∙ sym (nothing_yet w)) stands;
    spec = spec ∙ same;
    keeps = subst (λ (js : List Job). Keeps js (so_far w []) new.finishes new.starting) all (subst (λ (f : Trace). Keeps jobs f new.finishes new.starting) (heard ∙ sym (nothing_yet w)) keeps);
    room = (let n = ap (λ (js : List Job). length js) all in omega arith);
    low = omega arith;
    waits = λ r less. absurd (omega (arith, less));
    ticks = refl;
    events = events;
  }
    where
      runs : Runs w [] w.start
      runs = opens w good order standing

      whole : opening s start ≡ opening w.spec w.start
      whole = ap (λ (t : Spec). opening t start) same ∙ ap (λ (n : ℕ). opening w.spec n) at

      heard : es ≡ opening w.spec w.start
      heard = is ∙ whole

      few : arrivals es ≤ length jobs
      few = subst (λ (js : List Job). arrivals es ≤ length js) (sym all) (subst (λ (f : Trace). arrivals f ≤ length w.jobs) (nothing_yet w ∙ sym heard) runs.few)

      keeps : Keeps jobs es new.finishes new.starting
      keeps = hears w.spec [] good.ranges (record { rows = tt }) (subst (λ (f : Trace). Holds (IsProper w.spec) [] f) (sym heard) (made_opening w.spec w.start).rows) few (omega (arith, room))
          (rw (finishes, starting) (keeps_nothing jobs))

-- One pod without a limit in serve mode: each arrival goes to it and runs, until 20,000 are live.
use Rattle.std.proofs.Common.{◌≡◌, ℕ, ◌<◌, ◌+◌, Bool, true, false, not, ◌&&◌, [], ◌∷◌, ◌++◌, length, refl, sym, ap, ◌∙◌, arith, append-nil, append_assoc, nat_le}
use Rattle.std.specs.Prelude.{Some, zero, suc, ◌%◌}
use Rattle.std.proofs.lemmas.Bool.Decides.{nat_tests}
use Rattle.std.proofs.lemmas.List.Elements.{filter-append}
use Rattle.kn_event.specs.declared.entry.Row.TheVariants as row
use Rattle.kn_event.specs.declared.entry.Phase.TheVariants as phase
use Rattle.kn_event.specs.declared.entry.Mode.TheVariants as mode
use Rattle.kn_event.specs.declared.event.Act.TheVariants as act
use Rattle.kn_event.specs.declared.revision.Kind.{Kind}
use Rattle.kn_event.specs.declared.revision.Kind.TheVariants as kind
use Rattle.kn_event.specs.declared.revision.Spec.{Spec}
use Rattle.kn_event.specs.Lists.{contains}
use Rattle.kn_trace.specs.Rows.{admitted_by, arrived_by, assigned_by, brought_to, created_by, drained_by, ended_by, limit_by, mode_by, phase_by, readied_by, gone_by, run_by, taken_by, turned_by}
use Rattle.kn_trace.specs.Trace.{Trace, entry, arrivals, assigned, direct_turn, draining, each_row, ended, has_begun, has_free_seat, has_not_begun, has_run, held, is_draining, is_live_pod, is_ready, last_of, limit_of, live, live_pods, queued_at, ready_pods}
use Rattle.kn_trace.specs.Capacity.{pod_full}
use Rattle.kn_trace.specs.Scale.{mode_of, phase_of}
use Rattle.kn_trace.specs.Settling.{assignments_of, held_assignments, promotions, promotions_at, removals, settling}
use Rattle.kn_trace.specs.Events.{act_row, act_rows, activation, added, before_settling, due, departures, expiries, live_most, losses, react, scaler_rows}
use Rattle.kn_rows_runs.specs.Long.{arrivals_from, served_from}
use Rattle.kn_rows_runs.proofs.Lists.{each-none, each-some, filter-all, filter-none, length-upto, nobody_due, not_below, upto, upto-more}
use Rattle.kn_trace.specs.Worked.{at}

-- pod 0 is Ready and has no limit; so many requests were sent to it, and so many of them have a run entry; nobody else came
pub record IsServing (d : Trace) (m k : ℕ) : Type 0 where
  pub mode : each_row mode_by d ≡ mode.Serve ∷ []
  pub phase : last_of (each_row phase_by d) ≡ Some phase.Active
  pub created : each_row created_by d ≡ 0 ∷ []
  pub readied : each_row readied_by d ≡ 0 ∷ []
  pub drained : each_row drained_by d ≡ []
  pub removed : each_row gone_by d ≡ []
  pub limit : each_row (limit_by 0) d ≡ 0 ∷ []
  pub admitted : each_row admitted_by d ≡ []
  pub assigned : each_row assigned_by d ≡ []
  pub ended : each_row ended_by d ≡ []
  pub taken : each_row taken_by d ≡ upto m
  pub turned : each_row turned_by d ≡ upto m
  pub brought : each_row (brought_to 0) d ≡ upto m
  pub run : each_row run_by d ≡ upto k

goes : (d : Trace) (t m : ℕ) → IsServing d m m → IsServing (d ++ entry t (row.Direct m 0) ∷ []) (suc m) m
goes d t m h =
    let e = entry t (row.Direct m 0) in
    record {
      mode = each-none mode_by d e _ refl h.mode;
      phase = ap last_of (each-none phase_by d e _ refl refl) ∙ h.phase;
      created = each-none created_by d e _ refl h.created;
      readied = each-none readied_by d e _ refl h.readied;
      drained = each-none drained_by d e _ refl h.drained;
      removed = each-none gone_by d e _ refl h.removed;
      limit = each-none (limit_by 0) d e _ refl h.limit;
      admitted = each-none admitted_by d e _ refl h.admitted;
      assigned = each-none assigned_by d e _ refl h.assigned;
      ended = each-none ended_by d e _ refl h.ended;
      taken = each-some taken_by d e _ m refl h.taken ∙ sym (upto-more m);
      turned = each-some turned_by d e _ m refl h.turned ∙ sym (upto-more m);
      brought = each-some (brought_to 0) d e _ m refl h.brought ∙ sym (upto-more m);
      run = each-none run_by d e _ refl h.run;
    }

runs : (d : Trace) (t m : ℕ) → IsServing d (suc m) m → IsServing (d ++ entry t (row.Run m) ∷ []) (suc m) (suc m)
runs d t m h =
    let e = entry t (row.Run m) in
    record {
      mode = each-none mode_by d e _ refl h.mode;
      phase = ap last_of (each-none phase_by d e _ refl refl) ∙ h.phase;
      created = each-none created_by d e _ refl h.created;
      readied = each-none readied_by d e _ refl h.readied;
      drained = each-none drained_by d e _ refl h.drained;
      removed = each-none gone_by d e _ refl h.removed;
      limit = each-none (limit_by 0) d e _ refl h.limit;
      admitted = each-none admitted_by d e _ refl h.admitted;
      assigned = each-none assigned_by d e _ refl h.assigned;
      ended = each-none ended_by d e _ refl h.ended;
      taken = each-none taken_by d e _ refl h.taken;
      turned = each-none turned_by d e _ refl h.turned;
      brought = each-none (brought_to 0) d e _ refl h.brought;
      run = each-some run_by d e _ m refl h.run ∙ sym (upto-more m);
    }

-- ---- its views

nobody_ended : (d : Trace) (m k : ℕ) → IsServing d m k → (r : ℕ) → ended d r ≡ false
unfolding ended
nobody_ended d m k h r = rw (h.ended) refl

many_live : (d : Trace) (m k : ℕ) → IsServing d m k → length (live d) ≡ m
unfolding live
many_live d m k h =
    rw (h.taken, filter-all (λ r. not (ended d r)) (λ r. ap (λ (b : Bool). not b) (nobody_ended d m k h r)) (upto m)) (length-upto m)

many_arrived : (d : Trace) (m : ℕ) → each_row arrived_by d ≡ upto m → arrivals d ≡ m
unfolding arrivals
many_arrived d m come = rw (come) (length-upto m)

many_turns : (d : Trace) (m k : ℕ) → IsServing d m k → direct_turn d ≡ m
unfolding direct_turn
many_turns d m k h = rw (h.turned) (length-upto m)

one_ready : (d : Trace) (m k : ℕ) → IsServing d m k → ready_pods d ≡ 0 ∷ []
unfolding ready_pods is_ready is_live_pod
one_ready d m k h = rw (h.created, h.readied, h.drained, h.removed) refl

one_pod : (d : Trace) (m k : ℕ) → IsServing d m k → live_pods d ≡ 0 ∷ []
unfolding live_pods is_live_pod
one_pod d m k h = rw (h.created, h.removed) refl

none_drains : (d : Trace) (m k : ℕ) → IsServing d m k → draining d ≡ []
unfolding draining is_draining
none_drains d m k h = rw (h.created, h.drained) refl

none_held : (d : Trace) (m k : ℕ) → IsServing d m k → held d ≡ []
unfolding held
none_held d m k h = rw (h.admitted) refl

no_limit : (d : Trace) (m k : ℕ) → IsServing d m k → limit_of d 0 ≡ 0
unfolding limit_of
no_limit d m k h = rw (h.limit) refl

is_free : (d : Trace) (m k : ℕ) → IsServing d m k → has_free_seat d 0 ≡ true
unfolding has_free_seat
is_free d m k h = rw (no_limit d m k h) refl

not_full : (d : Trace) (m k : ℕ) → IsServing d m k → pod_full d 0 ≡ false
unfolding pod_full
not_full d m k h = rw (no_limit d m k h) refl

serves : (d : Trace) (m k : ℕ) → IsServing d m k → mode_of d ≡ mode.Serve
unfolding mode_of
serves d m k h = rw (h.mode) refl

is_active : (d : Trace) (m k : ℕ) → IsServing d m k → phase_of d ≡ Some phase.Active
unfolding phase_of
is_active d m k h = h.phase

-- those that have a run entry are no more idle
idle_is : (d : Trace) (m r : ℕ) → IsServing d (suc m) m → has_not_begun d r ≡ not (contains r (upto m))
unfolding has_not_begun has_begun assigned has_run ended
idle_is d m r h = rw (h.assigned, h.run, h.ended) (by (contains r (upto m)))
  where
    by : (b : Bool) → (not b && true) ≡ not b
    by true = refl
    by false = refl

-- the one that came last is queued, and no other
last_queued : (d : Trace) (m : ℕ) → IsServing d (suc m) m → queued_at d 0 ≡ m ∷ []
unfolding queued_at
last_queued d m h =
    rw (h.brought, upto-more m, filter-append (has_not_begun d) (upto m) (m ∷ []), filter-none (has_not_begun d) (upto m) begun, idle_is d m m h, not_below m m (omega arith)) refl
  where
    begun : (r : ℕ) → contains r (upto m) ≡ true → has_not_begun d r ≡ false
    begun r there = rw (idle_is d m r h, there) refl

-- ---- the act's row

row_of_arrival : (s : Spec) (d : Trace) (m k tag : ℕ) → IsServing d m k → each_row arrived_by d ≡ upto m → m < live_most → act_row s d (act.Arrive tag) ≡ Some (row.Direct m 0)
unfolding act_row
row_of_arrival s d m k tag h come few =
    let room : nat_le live_most m ≡ false = grind (arith, nat_tests) in
    let turn : m % 1 ≡ 0 = omega arith in
    rw (many_live d m k h, room, serves d m k h, one_ready d m k h, many_turns d m k h, turn, not_full d m k h, many_arrived d m come) refl

row_of_last : (s : Spec) (d : Trace) (m k tag : ℕ) → IsServing d m k → each_row arrived_by d ≡ upto m → m ≡ live_most → act_row s d (act.Arrive tag) ≡ Some (row.Overload m)
unfolding act_row
row_of_last s d m k tag h come all =
    let none : nat_le live_most m ≡ true = grind (arith, nat_tests) in
    rw (many_live d m k h, none, many_arrived d m come) refl

-- ---- one event

-- the autoscaler decides nothing beside these rows
no_decision : (x : Kind) (s : Spec) (t : ℕ) (c : Trace) (tag m p : ℕ) → scaler_rows x s t c (act.Arrive tag) (Some (row.Direct m p)) ≡ []
no_decision kind.Kpa s t c tag m p = refl
no_decision (kind.Fixed n) s t c tag m p = refl

no_decision_refused : (x : Kind) (s : Spec) (t : ℕ) (c : Trace) (tag m : ℕ) → scaler_rows x s t c (act.Arrive tag) (Some (row.Overload m)) ≡ []
no_decision_refused kind.Kpa s t c tag m = refl
no_decision_refused (kind.Fixed n) s t c tag m = refl

none_expires : (s : Spec) (t : ℕ) (d : Trace) → t < s.timeout_ms → expiries s t d ≡ []
unfolding expiries due
none_expires s t d early = rw (nobody_due s.timeout_ms t early d) refl

stays_active : (t : ℕ) (d : Trace) (m k : ℕ) → IsServing d m k → activation t d ≡ []
unfolding activation
stays_active t d m k h = rw (is_active d m k h) refl

promoted : (t : ℕ) (d : Trace) (m : ℕ) → IsServing d (suc m) m → promotions t d (live_pods d) ≡ entry t (row.Run m) ∷ []
unfolding promotions promotions_at
promoted t d m h = rw (one_pod d (suc m) m h, last_queued d m h, is_free d (suc m) m h) refl

none_assigned : (s : Spec) (t : ℕ) (d : Trace) (m k : ℕ) → IsServing d m k → held_assignments s t d ≡ []
unfolding held_assignments assignments_of
none_assigned s t d m k h = rw (none_held d m k h) refl

none_removed : (t : ℕ) (d : Trace) (m k : ℕ) → IsServing d m k → removals t d ≡ []
unfolding removals
none_removed t d m k h = rw (none_drains d m k h) refl

-- the queued one runs, and nothing more
settles-one : (s : Spec) (t : ℕ) (d : Trace) (m : ℕ) → IsServing d (suc m) m → settling s t d ≡ entry t (row.Run m) ∷ []
unfolding settling
settles-one s t d m h =
    let after = runs d t m h in
    let next = d ++ entry t (row.Run m) ∷ [] in
    rw (promoted t d m h, none_assigned s t next (suc m) (suc m) after, append-nil, none_removed t next (suc m) (suc m) after) refl

not_promoted : (t : ℕ) (d : Trace) (m k : ℕ) → IsServing d m k → queued_at d 0 ≡ [] → promotions t d (live_pods d) ≡ []
unfolding promotions promotions_at
not_promoted t d m k h none = rw (one_pod d m k h, none) refl

-- where nobody is queued the settling adds nothing
settles-none : (s : Spec) (t : ℕ) (d : Trace) (m k : ℕ) → IsServing d m k → queued_at d 0 ≡ [] → settling s t d ≡ []
unfolding settling
settles-none s t d m k h none = rw (not_promoted t d m k h none, append-nil d, none_assigned s t d m k h, append-nil d, none_removed t d m k h) refl

one-served : (s : Spec) (t : ℕ) (d : Trace) (m tag : ℕ) → t < s.timeout_ms → IsServing d m m → each_row arrived_by d ≡ upto m → m < live_most
    → react s d (at t (act.Arrive tag)) ≡ entry t (row.Direct m 0) ∷ entry t (row.Run m) ∷ []
unfolding react before_settling departures losses act_rows
one-served s t d m tag early h come few =
    let next = d ++ entry t (row.Direct m 0) ∷ [] in
    let gone = goes d t m h in
    rw (none_expires s t d early, append-nil, row_of_arrival s d m m tag h come few, no_decision s.kind s t next tag m 0, stays_active t next (suc m) m gone, settles-one s t next m gone) refl

-- a refusal changes nothing of it
stays : (d : Trace) (t m k r : ℕ) → IsServing d m k → IsServing (d ++ entry t (row.Overload r) ∷ []) m k
stays d t m k r h =
    let e = entry t (row.Overload r) in
    record {
      mode = each-none mode_by d e _ refl h.mode;
      phase = ap last_of (each-none phase_by d e _ refl refl) ∙ h.phase;
      created = each-none created_by d e _ refl h.created;
      readied = each-none readied_by d e _ refl h.readied;
      drained = each-none drained_by d e _ refl h.drained;
      removed = each-none gone_by d e _ refl h.removed;
      limit = each-none (limit_by 0) d e _ refl h.limit;
      admitted = each-none admitted_by d e _ refl h.admitted;
      assigned = each-none assigned_by d e _ refl h.assigned;
      ended = each-none ended_by d e _ refl h.ended;
      taken = each-none taken_by d e _ refl h.taken;
      turned = each-none turned_by d e _ refl h.turned;
      brought = each-none (brought_to 0) d e _ refl h.brought;
      run = each-none run_by d e _ refl h.run;
    }

none_queued : (d : Trace) (m : ℕ) → IsServing d m m → queued_at d 0 ≡ []
unfolding queued_at has_not_begun has_begun assigned has_run ended
none_queued d m h = rw (h.brought) (filter-none (has_not_begun d) (upto m) (λ r there. rw (h.assigned, h.run, h.ended, there) refl))

last-refused : (s : Spec) (t : ℕ) (d : Trace) (m tag : ℕ) → t < s.timeout_ms → IsServing d m m → each_row arrived_by d ≡ upto m → m ≡ live_most
    → react s d (at t (act.Arrive tag)) ≡ entry t (row.Overload m) ∷ []
unfolding react before_settling departures losses act_rows
last-refused s t d m tag early h come all =
    let next = d ++ entry t (row.Overload m) ∷ [] in
    let still = stays d t m m m h in
    rw (none_expires s t d early, append-nil, row_of_last s d m m tag h come all, no_decision_refused s.kind s t next tag m, stays_active t next m m still, settles-none s t next m m still (none_queued next m still)) refl

-- ---- all of them

pub all-served : (s : Spec) (t : ℕ) (d : Trace) (n m last : ℕ) → t < s.timeout_ms → IsServing d m m → each_row arrived_by d ≡ upto m → m + n ≡ last → last ≡ live_most
    → added s d (arrivals_from t m (suc n)) ≡ served_from t m n ++ entry t (row.Overload last) ∷ []
unfolding added arrivals_from served_from
all-served s t d zero m last early h come sum all =
    let same : m ≡ last = omega arith in
    rw (last-refused s t d m m early h come (omega arith), same) refl
all-served s t d (suc n) m last early h come sum all =
    let x = entry t (row.Direct m 0) in
    let y = entry t (row.Run m) in
    let went = goes d t m h in
    let ran : IsServing (d ++ x ∷ y ∷ []) (suc m) (suc m) = rw append_assoc at (runs (d ++ x ∷ []) t m went) in
    let next : each_row arrived_by (d ++ x ∷ y ∷ []) ≡ upto (suc m) = rw append_assoc at (each-none arrived_by (d ++ x ∷ []) y _ refl (each-some arrived_by d x _ m refl come ∙ sym (upto-more m))) in
    rw (one-served s t d m m early h come (omega arith)) (ap (λ (es : Trace). x ∷ y ∷ es) (all-served s t (d ++ x ∷ y ∷ []) n (suc m) last early ran next (omega arith) all))

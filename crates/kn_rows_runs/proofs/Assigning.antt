-- One pod without a limit, through the activator: each arrival is admitted and assigned to it, whether those before it live on
-- or have ended.
use Rattle.std.proofs.Common.{◌≡◌, ◌≤◌, ℕ, ◌<◌, ◌+◌, Bool, true, false, not, ◌&&◌, ◌||◌, [], ◌∷◌, ◌++◌, length, refl, sym, ap, ◌∙◌, arith, append-nil, append_assoc, nat_le, nat_lt}
use Rattle.std.specs.Prelude.{Some, zero, suc, ◌==◌}
use Rattle.std.specs.List.{filter}
use Rattle.std.proofs.lemmas.Bool.Decides.{nat_tests}
use Rattle.std.proofs.lemmas.List.Elements.{filter-append}
use Rattle.std.proofs.lemmas.List.Folds.{list_any-append}
use Rattle.std.proofs.lemmas.List.Filters.{length-filter_both}
use Rattle.std.proofs.lemmas.Bool.{eq-eqb}
use Rattle.kn_event.specs.declared.entry.Row.TheVariants as row
use Rattle.kn_event.specs.declared.entry.Phase.TheVariants as phase
use Rattle.kn_event.specs.declared.entry.Mode.TheVariants as mode
use Rattle.kn_event.specs.declared.event.Act.TheVariants as act
use Rattle.kn_event.specs.declared.revision.Kind.{Kind}
use Rattle.kn_event.specs.declared.revision.Kind.TheVariants as kind
use Rattle.kn_event.specs.declared.revision.Spec.{Spec}
use Rattle.kn_event.specs.Lists.{contains}
use Rattle.kn_trace.specs.Rows.{admitted_by, arrived_by, assigned_by, brought_to, created_by, decision_by, drained_by, ended_by, gone_by, limit_by, mode_by, phase_by, readied_by, run_by, taken_by}
use Rattle.kn_trace.specs.Trace.{Trace, entry, arrivals, assigned, draining, each_row, ended, has_begun, has_not_begun, held, in_breaker, is_draining, is_held, is_live_pod, is_ready, is_running, last_of, limit_of, live, live_pods, queued_at, ready_pods}
use Rattle.kn_trace.specs.Capacity.{breaker_full, capacity, in_use}
use Rattle.kn_trace.specs.Choice.{candidates, choice, choice_of_two, chosen_pod, random_choice}
use Rattle.kn_trace.specs.Scale.{mode_of, opening_scale, phase_of, wanted}
use Rattle.kn_trace.specs.Settling.{assignments_of, held_assignments, next_choice, promotions, promotions_at, removals, settling}
use Rattle.kn_trace.specs.Events.{act_row, act_rows, activation, added, before_settling, departures, due, expiries, live_most, losses, react, scaler_rows}
use Rattle.kn_rows_runs.specs.Long.{arrivals_from, assigned_from}
use Rattle.kn_rows_runs.specs.Counts.{brief_requests_from, finished_from}
use Rattle.kn_rows_runs.proofs.Lists.{each-none, each-some, filter-none, length-upto, nobody_due, not_below, upto, upto-more}
use Rattle.kn_trace.specs.Worked.{at}

-- pod 0 is Ready and has no limit; so many requests came, so many of them were assigned to it, and so many ended
pub record IsAssigning (d : Trace) (m a j : ℕ) : Type 0 where
  pub mode : each_row mode_by d ≡ []
  pub phase : last_of (each_row phase_by d) ≡ Some phase.Active
  pub decided : each_row decision_by d ≡ []
  pub created : each_row created_by d ≡ 0 ∷ []
  pub readied : each_row readied_by d ≡ 0 ∷ []
  pub drained : each_row drained_by d ≡ []
  pub removed : each_row gone_by d ≡ []
  pub limit : each_row (limit_by 0) d ≡ 0 ∷ []
  pub run : each_row run_by d ≡ []
  pub arrived : each_row arrived_by d ≡ upto m
  pub admitted : each_row admitted_by d ≡ upto m
  pub taken : each_row taken_by d ≡ upto m
  pub assigned : each_row assigned_by d ≡ upto a
  pub brought : each_row (brought_to 0) d ≡ upto a
  pub ended : each_row ended_by d ≡ upto j

-- a scaled revision that wants a pod, with room for a thousand that run, and a timeout that is not over yet
pub record HasRoom (s : Spec) (t : ℕ) : Type 0 where
  pub scaled : s.kind ≡ kind.Kpa
  pub cc : s.cc ≡ 0
  pub opening : opening_scale s ≡ 1
  pub most : s.slots.max ≡ 1000
  pub slots : s.slots.depth + s.slots.max ≡ 11000
  pub early : t < s.timeout_ms

admits : (d : Trace) (t m j tag : ℕ) → IsAssigning d m m j → IsAssigning (d ++ entry t (row.Admit m tag) ∷ []) (suc m) m j
admits d t m j tag h =
    let e = entry t (row.Admit m tag) in
    record {
      mode = each-none mode_by d e _ refl h.mode;
      phase = ap last_of (each-none phase_by d e _ refl refl) ∙ h.phase;
      decided = each-none decision_by d e _ refl h.decided;
      created = each-none created_by d e _ refl h.created;
      readied = each-none readied_by d e _ refl h.readied;
      drained = each-none drained_by d e _ refl h.drained;
      removed = each-none gone_by d e _ refl h.removed;
      limit = each-none (limit_by 0) d e _ refl h.limit;
      run = each-none run_by d e _ refl h.run;
      arrived = each-some arrived_by d e _ m refl h.arrived ∙ sym (upto-more m);
      admitted = each-some admitted_by d e _ m refl h.admitted ∙ sym (upto-more m);
      taken = each-some taken_by d e _ m refl h.taken ∙ sym (upto-more m);
      assigned = each-none assigned_by d e _ refl h.assigned;
      brought = each-none (brought_to 0) d e _ refl h.brought;
      ended = each-none ended_by d e _ refl h.ended;
    }

assigns : (d : Trace) (t m j : ℕ) → IsAssigning d (suc m) m j → IsAssigning (d ++ entry t (row.Assign m 0) ∷ []) (suc m) (suc m) j
assigns d t m j h =
    let e = entry t (row.Assign m 0) in
    record {
      mode = each-none mode_by d e _ refl h.mode;
      phase = ap last_of (each-none phase_by d e _ refl refl) ∙ h.phase;
      decided = each-none decision_by d e _ refl h.decided;
      created = each-none created_by d e _ refl h.created;
      readied = each-none readied_by d e _ refl h.readied;
      drained = each-none drained_by d e _ refl h.drained;
      removed = each-none gone_by d e _ refl h.removed;
      limit = each-none (limit_by 0) d e _ refl h.limit;
      run = each-none run_by d e _ refl h.run;
      arrived = each-none arrived_by d e _ refl h.arrived;
      admitted = each-none admitted_by d e _ refl h.admitted;
      taken = each-none taken_by d e _ refl h.taken;
      assigned = each-some assigned_by d e _ m refl h.assigned ∙ sym (upto-more m);
      brought = each-some (brought_to 0) d e _ m refl h.brought ∙ sym (upto-more m);
      ended = each-none ended_by d e _ refl h.ended;
    }

ends : (d : Trace) (t m : ℕ) → IsAssigning d (suc m) (suc m) m → IsAssigning (d ++ entry t (row.Finish m true) ∷ []) (suc m) (suc m) (suc m)
ends d t m h =
    let e = entry t (row.Finish m true) in
    record {
      mode = each-none mode_by d e _ refl h.mode;
      phase = ap last_of (each-none phase_by d e _ refl refl) ∙ h.phase;
      decided = each-none decision_by d e _ refl h.decided;
      created = each-none created_by d e _ refl h.created;
      readied = each-none readied_by d e _ refl h.readied;
      drained = each-none drained_by d e _ refl h.drained;
      removed = each-none gone_by d e _ refl h.removed;
      limit = each-none (limit_by 0) d e _ refl h.limit;
      run = each-none run_by d e _ refl h.run;
      arrived = each-none arrived_by d e _ refl h.arrived;
      admitted = each-none admitted_by d e _ refl h.admitted;
      taken = each-none taken_by d e _ refl h.taken;
      assigned = each-none assigned_by d e _ refl h.assigned;
      brought = each-none (brought_to 0) d e _ refl h.brought;
      ended = each-some ended_by d e _ m refl h.ended ∙ sym (upto-more m);
    }

-- ---- its views

at_most : (p : ℕ → Bool) (m : ℕ) → length (filter p (upto m)) ≤ m
at_most p m =
    let both = length-filter_both p (λ x. not (p x)) (λ x. refl) (upto m) in
    let all = length-upto m in
    omega arith

is_below : (m : ℕ) → contains m (upto (suc m)) ≡ true
is_below m = rw (upto-more m, list_any-append (λ y. y == m) (upto m) (m ∷ []), eq-eqb m m refl) (by (contains m (upto m)))
  where
    by : (b : Bool) → (b || (true || false)) ≡ true
    by true = refl
    by false = refl

few_live : (d : Trace) (m a j : ℕ) → IsAssigning d m a j → length (live d) ≤ m
unfolding live
few_live d m a j h = rw (h.taken) (at_most (λ r. not (ended d r)) m)

few_inside : (d : Trace) (m a j : ℕ) → IsAssigning d m a j → length (in_breaker d) ≤ m
unfolding in_breaker
few_inside d m a j h = rw (h.admitted) (at_most (λ r. not (ended d r)) m)

few_in_use : (d : Trace) (m a j : ℕ) → IsAssigning d m a j → in_use d ≤ a
unfolding in_use
few_in_use d m a j h = rw (h.assigned) (at_most (λ r. not (ended d r)) a)

next_number : (d : Trace) (m a j : ℕ) → IsAssigning d m a j → arrivals d ≡ m
unfolding arrivals
next_number d m a j h = rw (h.arrived) (length-upto m)

by_proxy : (d : Trace) (m a j : ℕ) → IsAssigning d m a j → mode_of d ≡ mode.Proxy
unfolding mode_of
by_proxy d m a j h = rw (h.mode) refl

is_active : (d : Trace) (m a j : ℕ) → IsAssigning d m a j → phase_of d ≡ Some phase.Active
unfolding phase_of
is_active d m a j h = h.phase

wants_one : (s : Spec) (t : ℕ) (d : Trace) (m a j : ℕ) → HasRoom s t → IsAssigning d m a j → wanted s d ≡ 1
unfolding wanted
wants_one s t d m a j room h = rw (h.decided) room.opening

one_ready : (d : Trace) (m a j : ℕ) → IsAssigning d m a j → ready_pods d ≡ 0 ∷ []
unfolding ready_pods is_ready is_live_pod
one_ready d m a j h = rw (h.created, h.readied, h.drained, h.removed) refl

one_pod : (d : Trace) (m a j : ℕ) → IsAssigning d m a j → live_pods d ≡ 0 ∷ []
unfolding live_pods is_live_pod
one_pod d m a j h = rw (h.created, h.removed) refl

none_drains : (d : Trace) (m a j : ℕ) → IsAssigning d m a j → draining d ≡ []
unfolding draining is_draining
none_drains d m a j h = rw (h.created, h.drained) refl

no_limit : (d : Trace) (m a j : ℕ) → IsAssigning d m a j → limit_of d 0 ≡ 0
unfolding limit_of
no_limit d m a j h = rw (h.limit) refl

-- those that were assigned are held no more
held_is : (d : Trace) (m a j r : ℕ) → IsAssigning d m a j → is_held d r ≡ (not (contains r (upto a)) && not (contains r (upto j)))
unfolding is_held assigned ended
held_is d m a j r h = rw (h.assigned, h.ended) refl

assigned_is_not_held : (d : Trace) (m a j r : ℕ) → IsAssigning d m a j → contains r (upto a) ≡ true → is_held d r ≡ false
assigned_is_not_held d m a j r h there = rw (held_is d m a j r h, there) refl

none_held : (d : Trace) (m j : ℕ) → IsAssigning d m m j → held d ≡ []
unfolding held
none_held d m j h = rw (h.admitted) (filter-none (is_held d) (upto m) (λ r there. assigned_is_not_held d m m j r h there))

last_held : (d : Trace) (m j : ℕ) → j ≤ m → IsAssigning d (suc m) m j → held d ≡ m ∷ []
unfolding held
last_held d m j few h =
    rw (h.admitted, upto-more m, filter-append (is_held d) (upto m) (m ∷ []), filter-none (is_held d) (upto m) (λ r there. assigned_is_not_held d (suc m) m j r h there), held_is d (suc m) m j m h, not_below m m (omega arith), not_below j m few) refl

none_queued : (d : Trace) (m a j : ℕ) → IsAssigning d m a j → queued_at d 0 ≡ []
unfolding queued_at has_not_begun has_begun assigned
none_queued d m a j h = rw (h.brought) (filter-none (has_not_begun d) (upto a) (λ r there. rw (h.assigned, there) refl))

-- the one pod has a seat, so it is chosen, whatever the words are
chosen : (s : Spec) (t : ℕ) (d : Trace) (m a j : ℕ) → HasRoom s t → IsAssigning d m a j → choice s d ≡ Some 0
unfolding choice chosen_pod random_choice choice_of_two candidates
chosen s t d m a j room h = rw (room.cc, one_ready d m a j h, no_limit d m a j h) refl

many_seats : (s : Spec) (t : ℕ) (d : Trace) (m a j : ℕ) → HasRoom s t → IsAssigning d m a j → capacity s d ≡ 1000
unfolding capacity
many_seats s t d m a j room h = rw (one_ready d m a j h, no_limit d m a j h, room.most) refl

goes_to_it : (s : Spec) (t : ℕ) (d : Trace) (m a j : ℕ) → HasRoom s t → IsAssigning d m a j → a < 1000 → next_choice s d ≡ Some 0
unfolding next_choice
goes_to_it s t d m a j room h few =
    let used = few_in_use d m a j h in
    let free : nat_lt (in_use d) 1000 ≡ true = grind (arith, nat_tests) in
    rw (many_seats s t d m a j room h, free) (chosen s t d m a j room h)

-- ---- one event

none_expires : (s : Spec) (t : ℕ) (d : Trace) → HasRoom s t → expiries s t d ≡ []
unfolding expiries due
none_expires s t d room = rw (nobody_due s.timeout_ms t room.early d) refl

stays_active : (t : ℕ) (d : Trace) (m a j : ℕ) → IsAssigning d m a j → activation t d ≡ []
unfolding activation
stays_active t d m a j h = rw (is_active d m a j h) refl

not_promoted : (t : ℕ) (d : Trace) (m a j : ℕ) → IsAssigning d m a j → promotions t d (live_pods d) ≡ []
unfolding promotions promotions_at
not_promoted t d m a j h = rw (one_pod d m a j h, none_queued d m a j h) refl

none_removed : (t : ℕ) (d : Trace) (m a j : ℕ) → IsAssigning d m a j → removals t d ≡ []
unfolding removals
none_removed t d m a j h = rw (none_drains d m a j h) refl

none_given : (s : Spec) (t : ℕ) (d : Trace) (m j : ℕ) → IsAssigning d m m j → held_assignments s t d ≡ []
unfolding held_assignments assignments_of
none_given s t d m j h = rw (none_held d m j h) refl

one_given : (s : Spec) (t : ℕ) (d : Trace) (m j : ℕ) → HasRoom s t → j ≤ m → IsAssigning d (suc m) m j → m < 1000 → held_assignments s t d ≡ entry t (row.Assign m 0) ∷ []
unfolding held_assignments assignments_of
one_given s t d m j room ended h few = rw (last_held d m j ended h, goes_to_it s t d (suc m) m j room h few) refl

settles-one : (s : Spec) (t : ℕ) (d : Trace) (m j : ℕ) → HasRoom s t → j ≤ m → IsAssigning d (suc m) m j → m < 1000 → settling s t d ≡ entry t (row.Assign m 0) ∷ []
unfolding settling
settles-one s t d m j room ended h few =
    let next = d ++ entry t (row.Assign m 0) ∷ [] in
    rw (not_promoted t d (suc m) m j h, append-nil d, one_given s t d m j room ended h few, none_removed t next (suc m) (suc m) j (assigns d t m j h)) refl

settles-none : (s : Spec) (t : ℕ) (d : Trace) (m j : ℕ) → IsAssigning d m m j → settling s t d ≡ []
unfolding settling
settles-none s t d m j h = rw (not_promoted t d m m j h, append-nil d, none_given s t d m j h, append-nil d, none_removed t d m m j h) refl

row_of_arrival : (s : Spec) (t : ℕ) (d : Trace) (m j tag : ℕ) → HasRoom s t → IsAssigning d m m j → m < 1000 → act_row s d (act.Arrive tag) ≡ Some (row.Admit m tag)
unfolding act_row breaker_full
row_of_arrival s t d m j tag room h few =
    let alive = few_live d m m j h in
    let inside = few_inside d m m j h in
    let not_over : nat_le live_most (length (live d)) ≡ false = grind (arith, nat_tests) in
    let not_full : (length (in_breaker d) == 11000) ≡ false = grind (arith, nat_tests) in
    rw (not_over, by_proxy d m m j h, room.slots, not_full, next_number d m m j h) refl

row_of_finish : (s : Spec) (d : Trace) (m : ℕ) → IsAssigning d (suc m) (suc m) m → act_row s d (act.Finish m true) ≡ Some (row.Finish m true)
unfolding act_row is_running has_begun assigned ended
row_of_finish s d m h = rw (h.assigned, h.ended, is_below m, not_below m m (omega arith)) refl

-- a pod is wanted, so an arrival wakes nothing
wakes_nothing : (x : Kind) (s : Spec) (t : ℕ) (c : Trace) (tag m : ℕ) → x ≡ kind.Kpa → wanted s c ≡ 1 → scaler_rows x s t c (act.Arrive tag) (Some (row.Admit m tag)) ≡ []
wakes_nothing x s t c tag m scaled wants = rw (scaled, wants) refl

decides_nothing : (x : Kind) (s : Spec) (t : ℕ) (c : Trace) (m : ℕ) → scaler_rows x s t c (act.Finish m true) (Some (row.Finish m true)) ≡ []
decides_nothing kind.Kpa s t c m = refl
decides_nothing (kind.Fixed n) s t c m = refl

one-assigned : (s : Spec) (t : ℕ) (d : Trace) (m j tag : ℕ) → HasRoom s t → j ≤ m → IsAssigning d m m j → m < 1000
    → react s d (at t (act.Arrive tag)) ≡ entry t (row.Admit m tag) ∷ entry t (row.Assign m 0) ∷ []
unfolding react before_settling act_rows departures losses
one-assigned s t d m j tag room ended h few =
    let next = d ++ entry t (row.Admit m tag) ∷ [] in
    let came = admits d t m j tag h in
    rw (none_expires s t d room, append-nil, row_of_arrival s t d m j tag room h few, wakes_nothing s.kind s t next tag m room.scaled (wants_one s t next (suc m) m j room came), stays_active t next (suc m) m j came, settles-one s t next m j room ended came few) refl

one-finished : (s : Spec) (t : ℕ) (d : Trace) (m : ℕ) → HasRoom s t → IsAssigning d (suc m) (suc m) m → react s d (at t (act.Finish m true)) ≡ entry t (row.Finish m true) ∷ []
unfolding react before_settling act_rows departures losses
one-finished s t d m room h =
    let next = d ++ entry t (row.Finish m true) ∷ [] in
    let gone = ends d t m h in
    rw (none_expires s t d room, append-nil, row_of_finish s d m h, decides_nothing s.kind s t next m, stays_active t next (suc m) (suc m) (suc m) gone, settles-none s t next (suc m) (suc m) gone) refl

-- ---- all of them

pub all-assigned : (s : Spec) (t : ℕ) (d : Trace) (n m : ℕ) → HasRoom s t → IsAssigning d m m 0 → m + n ≤ 1000 → added s d (arrivals_from t m n) ≡ assigned_from t m n
unfolding added arrivals_from assigned_from
all-assigned s t d zero m room h few = refl
all-assigned s t d (suc n) m room h few =
    let x = entry t (row.Admit m m) in
    let y = entry t (row.Assign m 0) in
    let next : IsAssigning (d ++ x ∷ y ∷ []) (suc m) (suc m) 0 = rw append_assoc at (assigns (d ++ x ∷ []) t m 0 (admits d t m 0 m h)) in
    rw (one-assigned s t d m 0 m room (omega arith) h (omega arith)) (ap (λ (es : Trace). x ∷ y ∷ es) (all-assigned s t (d ++ x ∷ y ∷ []) n (suc m) room next (omega arith)))

pub all-finished : (s : Spec) (t : ℕ) (d : Trace) (n m : ℕ) → HasRoom s t → IsAssigning d m m m → m + n ≤ 1000 → added s d (brief_requests_from t m n) ≡ finished_from t m n
unfolding added brief_requests_from finished_from
all-finished s t d zero m room h few = refl
all-finished s t d (suc n) m room h few =
    let x = entry t (row.Admit m m) in
    let y = entry t (row.Assign m 0) in
    let z = entry t (row.Finish m true) in
    let given : IsAssigning (d ++ x ∷ y ∷ []) (suc m) (suc m) m = rw append_assoc at (assigns (d ++ x ∷ []) t m m (admits d t m m m h)) in
    let gone : IsAssigning ((d ++ x ∷ y ∷ []) ++ z ∷ []) (suc m) (suc m) (suc m) = ends (d ++ x ∷ y ∷ []) t m given in
    rw (one-assigned s t d m m m room (omega arith) h (omega arith), one-finished s t (d ++ x ∷ y ∷ []) m room given)
    (ap (λ (es : Trace). x ∷ y ∷ z ∷ es) (all-finished s t ((d ++ x ∷ y ∷ []) ++ z ∷ []) n (suc m) room gone (omega arith)))

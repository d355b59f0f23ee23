-- A fixed revision without pods: each arrival is held until the breaker is full, and is refused from then on.
use Rattle.std.proofs.Common.{◌≡◌, ℕ, ◌<◌, ◌+◌, true, false, not, List, [], ◌∷◌, ◌++◌, length, refl, sym, ap, ◌∙◌, arith, append-nil, nat_le}
use Rattle.std.specs.Prelude.{Option, None, Some, zero, suc, min, ◌==◌}
use Rattle.std.proofs.lemmas.Bool.Decides.{nat_tests}
use Rattle.kn_event.specs.declared.entry.Row.{Row}
use Rattle.kn_event.specs.declared.entry.Row.TheVariants as row
use Rattle.kn_event.specs.declared.entry.Mode.TheVariants as mode
use Rattle.kn_event.specs.declared.event.Act.{Act}
use Rattle.kn_event.specs.declared.event.Act.TheVariants as act
use Rattle.kn_event.specs.declared.revision.Kind.{Kind}
use Rattle.kn_event.specs.declared.revision.Kind.TheVariants as kind
use Rattle.kn_event.specs.declared.revision.Spec.{Spec}
use Rattle.kn_event.specs.FixedSpec.{fixed_spec}
use Rattle.kn_trace.specs.Rows.{admitted_by, arrived_by, assigned_by, created_by, ended_by, mode_by, phase_by, taken_by}
use Rattle.kn_trace.specs.Trace.{Trace, entry, arrivals, draining, each_row, ended, held, in_breaker, live, live_pods, ready_pods}
use Rattle.kn_trace.specs.Capacity.{breaker_full, capacity, in_use}
use Rattle.kn_trace.specs.Scale.{mode_of, phase_of}
use Rattle.kn_trace.specs.Settling.{assignments_of, held_assignments, next_choice, promotions, removals, settling}
use Rattle.kn_trace.specs.Events.{act_row, act_rows, activation, added, before_settling, due, departures, expiries, live_most, losses, opening, react, scaler_rows, trace_of}
use Rattle.kn_rows_runs.specs.Long.{BreakerRefuses9001, admitted_from, arrivals_from, refused_from, without_pods}
use Rattle.kn_rows_runs.proofs.Lists.{each-none, each-some, filter-all, length-upto, nobody_due, upto, upto-more, upto-none}
use Rattle.kn_trace.specs.Worked.{at}

-- no pod, and so many requests that are held
record IsHolding (d : Trace) (m : ℕ) : Type 0 where
  mode : each_row mode_by d ≡ []
  phase : each_row phase_by d ≡ []
  created : each_row created_by d ≡ []
  assigned : each_row assigned_by d ≡ []
  ended : each_row ended_by d ≡ []
  admitted : each_row admitted_by d ≡ upto m
  taken : each_row taken_by d ≡ upto m

-- a fixed revision with so many slots and a timeout that is not over yet
record HasSlots (s : Spec) (t full : ℕ) : Type 0 where
  fixed : s.kind ≡ kind.Fixed 0
  count : s.slots.depth + s.slots.max ≡ full
  few : full < live_most
  early : t < s.timeout_ms

comes : (d : Trace) (t m tag : ℕ) → IsHolding d m → IsHolding (d ++ entry t (row.Admit m tag) ∷ []) (suc m)
comes d t m tag h =
    let e = entry t (row.Admit m tag) in
    record {
      mode = each-none mode_by d e _ refl h.mode;
      phase = each-none phase_by d e _ refl h.phase;
      created = each-none created_by d e _ refl h.created;
      assigned = each-none assigned_by d e _ refl h.assigned;
      ended = each-none ended_by d e _ refl h.ended;
      admitted = each-some admitted_by d e _ m refl h.admitted ∙ sym (upto-more m);
      taken = each-some taken_by d e _ m refl h.taken ∙ sym (upto-more m);
    }

stays : (d : Trace) (t m r : ℕ) → IsHolding d m → IsHolding (d ++ entry t (row.QueueFull r None) ∷ []) m
stays d t m r h =
    let e = entry t (row.QueueFull r None) in
    record {
      mode = each-none mode_by d e _ refl h.mode;
      phase = each-none phase_by d e _ refl h.phase;
      created = each-none created_by d e _ refl h.created;
      assigned = each-none assigned_by d e _ refl h.assigned;
      ended = each-none ended_by d e _ refl h.ended;
      admitted = each-none admitted_by d e _ refl h.admitted;
      taken = each-none taken_by d e _ refl h.taken;
    }

-- ---- its views

on : (d : Trace) (m : ℕ) → IsHolding d m → (r : ℕ) → not (ended d r) ≡ true
unfolding ended
on d m h r = rw (h.ended) refl

many_live : (d : Trace) (m : ℕ) → IsHolding d m → length (live d) ≡ m
unfolding live
many_live d m h = rw (h.taken, filter-all (λ r. not (ended d r)) (on d m h) (upto m)) (length-upto m)

many_inside : (d : Trace) (m : ℕ) → IsHolding d m → length (in_breaker d) ≡ m
unfolding in_breaker
many_inside d m h = rw (h.admitted, filter-all (λ r. not (ended d r)) (on d m h) (upto m)) (length-upto m)

next_number : (d : Trace) (i : ℕ) → each_row arrived_by d ≡ upto i → arrivals d ≡ i
unfolding arrivals
next_number d i come = rw (come) (length-upto i)

by_proxy : (d : Trace) (m : ℕ) → IsHolding d m → mode_of d ≡ mode.Proxy
unfolding mode_of
by_proxy d m h = rw (h.mode) refl

no_pods : (d : Trace) (m : ℕ) → IsHolding d m → live_pods d ≡ []
unfolding live_pods
no_pods d m h = rw (h.created) refl

none_ready : (d : Trace) (m : ℕ) → IsHolding d m → ready_pods d ≡ []
unfolding ready_pods
none_ready d m h = rw (h.created) refl

none_drains : (d : Trace) (m : ℕ) → IsHolding d m → draining d ≡ []
unfolding draining
none_drains d m h = rw (h.created) refl

nowhere : (s : Spec) (d : Trace) (m : ℕ) → IsHolding d m → next_choice s d ≡ None
unfolding next_choice capacity in_use
nowhere s d m h =
    let none : min s.slots.max 0 ≡ 0 = omega arith in
    rw (h.assigned, none_ready d m h, none) refl

-- ---- one event

no_decision : (x : Kind) (s : Spec) (t : ℕ) (c : Trace) (a : Act) (did : Option Row) → x ≡ kind.Fixed 0 → scaler_rows x s t c a did ≡ []
no_decision x s t c a did fixed = rw fixed refl

given : (s : Spec) (t : ℕ) (d : Trace) → next_choice s d ≡ None → held_assignments s t d ≡ []
unfolding held_assignments assignments_of
given s t d none = by (held d)
  where
    by : (rs : List ℕ) → assignments_of s t d rs ≡ []
    by [] = refl
    by (r ∷ rs) = rw none refl

removed : (t : ℕ) (d : Trace) → draining d ≡ [] → removals t d ≡ []
unfolding removals
removed t d none = rw none refl

settles-none : (s : Spec) (t : ℕ) (d : Trace) (m : ℕ) → IsHolding d m → settling s t d ≡ []
unfolding settling promotions
settles-none s t d m h =
    rw (no_pods d m h, append-nil d, given s t d (nowhere s d m h), append-nil d, removed t d (none_drains d m h)) refl

none_expires : (s : Spec) (t full : ℕ) (d : Trace) → HasSlots s t full → expiries s t d ≡ []
unfolding expiries due
none_expires s t full d slots = rw (nobody_due s.timeout_ms t slots.early d) refl

not_activated : (t : ℕ) (d : Trace) (m : ℕ) → IsHolding d m → activation t d ≡ []
unfolding activation phase_of
not_activated t d m h = rw (h.phase) refl

row_of_arrival : (s : Spec) (t full : ℕ) (d : Trace) (m i tag : ℕ) → HasSlots s t full → IsHolding d m → each_row arrived_by d ≡ upto i → m < full → act_row s d (act.Arrive tag) ≡ Some (row.Admit i tag)
unfolding act_row breaker_full
row_of_arrival s t full d m i tag slots h come less =
    let few = slots.few in
    let room : nat_le live_most m ≡ false = grind (arith, nat_tests) in
    let free : (m == full) ≡ false = grind (arith, nat_tests) in
    rw (many_live d m h, room, by_proxy d m h, many_inside d m h, slots.count, free, next_number d i come) refl

row_of_refusal : (s : Spec) (t full : ℕ) (d : Trace) (i tag : ℕ) → HasSlots s t full → IsHolding d full → each_row arrived_by d ≡ upto i → act_row s d (act.Arrive tag) ≡ Some (row.QueueFull i None)
unfolding act_row breaker_full
row_of_refusal s t full d i tag slots h come =
    let few = slots.few in
    let room : nat_le live_most full ≡ false = grind (arith, nat_tests) in
    let taken : (full == full) ≡ true = grind (arith, nat_tests) in
    rw (many_live d full h, room, by_proxy d full h, many_inside d full h, slots.count, taken, next_number d i come) refl

one-held : (s : Spec) (t full : ℕ) (d : Trace) (m tag : ℕ) → HasSlots s t full → IsHolding d m → each_row arrived_by d ≡ upto m → m < full → react s d (at t (act.Arrive tag)) ≡ entry t (row.Admit m tag) ∷ []
unfolding react before_settling departures losses act_rows
one-held s t full d m tag slots h come less =
    let next = d ++ entry t (row.Admit m tag) ∷ [] in
    let came = comes d t m tag h in
    rw (none_expires s t full d slots, append-nil, row_of_arrival s t full d m m tag slots h come less, no_decision s.kind s t next (act.Arrive tag) (Some (row.Admit m tag)) slots.fixed, not_activated t next (suc m) came, settles-none s t next (suc m) came) refl

one-refused : (s : Spec) (t full : ℕ) (d : Trace) (i tag : ℕ) → HasSlots s t full → IsHolding d full → each_row arrived_by d ≡ upto i → react s d (at t (act.Arrive tag)) ≡ entry t (row.QueueFull i None) ∷ []
unfolding react before_settling departures losses act_rows
one-refused s t full d i tag slots h come =
    let next = d ++ entry t (row.QueueFull i None) ∷ [] in
    let still = stays d t full i h in
    rw (none_expires s t full d slots, append-nil, row_of_refusal s t full d i tag slots h come, no_decision s.kind s t next (act.Arrive tag) (Some (row.QueueFull i None)) slots.fixed, not_activated t next full still, settles-none s t next full still) refl

-- ---- all of them

rest-refused : (s : Spec) (t full : ℕ) (d : Trace) (k i : ℕ) → HasSlots s t full → IsHolding d full → each_row arrived_by d ≡ upto i → added s d (arrivals_from t i k) ≡ refused_from t i k
unfolding added arrivals_from refused_from
rest-refused s t full d zero i slots h come = refl
rest-refused s t full d (suc k) i slots h come =
    let x = entry t (row.QueueFull i None) in
    let next : each_row arrived_by (d ++ x ∷ []) ≡ upto (suc i) = each-some arrived_by d x _ i refl come ∙ sym (upto-more i) in
    rw (one-refused s t full d i i slots h come) (ap (λ (es : Trace). x ∷ es) (rest-refused s t full (d ++ x ∷ []) k (suc i) slots (stays d t full i h) next))

held-then-refused : (s : Spec) (t full : ℕ) (d : Trace) (n m k : ℕ) → HasSlots s t full → IsHolding d m → each_row arrived_by d ≡ upto m → m + n ≡ full → added s d (arrivals_from t m (n + k)) ≡ admitted_from t m n ++ refused_from t full k
unfolding added arrivals_from admitted_from
held-then-refused s t full d zero m k slots h come sum =
    let same : m ≡ full = omega arith in
    let rest : zero + k ≡ k = omega arith in
    rw (rest, same) (rest-refused s t full d k full slots (rw same at h) (rw same at come))
held-then-refused s t full d (suc n) m k slots h come sum =
    let x = entry t (row.Admit m m) in
    let rest : suc n + k ≡ suc (n + k) = omega arith in
    let next : each_row arrived_by (d ++ x ∷ []) ≡ upto (suc m) = each-some arrived_by d x _ m refl come ∙ sym (upto-more m) in
    rw (rest, one-held s t full d m m slots h come (omega arith)) (ap (λ (es : Trace). x ∷ es) (held-then-refused s t full (d ++ x ∷ []) n (suc m) k slots (comes d t m m h) next (omega arith)))

slots_given : HasSlots without_pods 1 11000
unfolding fixed_spec
slots_given = record { fixed = refl; count = refl; few = omega arith; early = omega arith }

nobody_holds : IsHolding [] 0
nobody_holds = record { mode = refl; phase = refl; created = refl; assigned = refl; ended = refl; admitted = sym upto-none; taken = sym upto-none }

pub breaker-run : BreakerRefuses9001
unfolding trace_of opening fixed_spec
breaker-run = held-then-refused without_pods 1 11000 [] 11000 0 9001 slots_given nobody_holds (sym upto-none) refl

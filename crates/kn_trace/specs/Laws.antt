-- The laws of a trace: what holds of every trace that a revision's events make.
use Rattle.std.specs.Prelude.{◌≡◌, ◌<◌, ℕ, Bool, true, false, [], ◌∷◌, ◌++◌, Option, None, Some, ⊤}
use Rattle.kn_event.specs.declared.entry.Entry.{Entry}
use Rattle.kn_event.specs.declared.entry.Row.{Row}
use Rattle.kn_event.specs.declared.entry.Row.TheVariants as row
use Rattle.kn_event.specs.declared.entry.Phase.TheVariants as phase
use Rattle.kn_event.specs.declared.event.Event.{Event}
use Rattle.kn_event.specs.declared.revision.Spec.{Spec}
use Rattle.kn_event.specs.Lists.{contains}
use Rattle.kn_trace.specs.Rows.{outcome_by}
use Rattle.kn_trace.specs.Trace.{Trace, entry, each_row, first_of, held, at_pod, live_pods, pod_of, queued_at, ready_pods, draining, has_free_seat}
use Rattle.kn_trace.specs.Capacity.{capacity, in_use, breaker_full, pod_full}
use Rattle.kn_trace.specs.Scale.{is_in_phase, phase_of}
use Rattle.kn_trace.specs.Events.{act_row, expiries, react}

-- P holds of each row of a trace and of the trace before its entry
abbrev pub Always : (Trace → Row → Type 0) → Trace → Type 0
Always P c = (before : Trace) (e : Entry) (rest : Trace) → c ≡ before ++ e ∷ rest → P before e.row

-- ---- single outcome

abbrev pub HasNoOutcome : Trace → Option ℕ → Type 0
HasNoOutcome c None = ⊤
HasNoOutcome c (Some r) = contains r (each_row outcome_by c) ≡ false

-- a request that is refused, or ends, was neither refused nor ended before
abbrev pub IsFirstOutcome : Trace → Row → Type 0
IsFirstOutcome c x = HasNoOutcome c (outcome_by x)

-- ---- limit safety: all limits are those in force just before the row

-- the first held request goes to a Ready pod with a free seat, while fewer are in use than the capacity allows
pub record IsAssignable (s : Spec) (c : Trace) (r p : ℕ) : Type 0 where
  pub first : first_of (held c) ≡ Some r
  pub ready : contains p (ready_pods c) ≡ true
  pub free : has_free_seat c p ≡ true
  pub room : in_use c < capacity s c

-- the first queued request of a pod runs there, while it has a free seat
pub record IsRunnable (c : Trace) (r p : ℕ) : Type 0 where
  pub first : first_of (queued_at c p) ≡ Some r
  pub free : has_free_seat c p ≡ true

-- so it is of the pod that the request came to
abbrev pub IsRunnableAt : Trace → ℕ → Option ℕ → Type 0
IsRunnableAt c r None = ⊥
IsRunnableAt c r (Some p) = IsRunnable c r p

-- a request goes straight to a Ready pod that isn't full
pub record IsDirectable (c : Trace) (p : ℕ) : Type 0 where
  pub ready : contains p (ready_pods c) ≡ true
  pub room : pod_full c p ≡ false

abbrev pub IsWithinLimits : Spec → Trace → Row → Type 0
IsWithinLimits s c (row.Assign r p) = IsAssignable s c r p
IsWithinLimits s c (row.Run r) = IsRunnableAt c r (pod_of c r)
IsWithinLimits s c (row.Direct r p) = IsDirectable c p
IsWithinLimits s c _ = ⊤

-- ---- removal: a pod that is removed drains and has no request; one that is lost is live, and has none any more

abbrev pub RemovesEmpty : Trace → Row → Type 0
RemovesEmpty c (row.Remove p) = (contains p (draining c) ≡ true) × (at_pod c p ≡ [])
RemovesEmpty c (row.LostPod p) = (contains p (live_pods c) ≡ true) × (at_pod c p ≡ [])
RemovesEmpty c _ = ⊤

-- ---- justified queue-full: the breaker is full, or the pod that is named

abbrev pub RefusesFull : Spec → Trace → Row → Type 0
RefusesFull s c (row.QueueFull r None) = breaker_full s c ≡ true
RefusesFull s c (row.QueueFull r (Some p)) = pod_full c p ≡ true
RefusesFull s c _ = ⊤

-- ---- all of these, at each place of a trace

pub record IsLawful (s : Spec) (c : Trace) : Type 0 where
  pub single_outcome : Always IsFirstOutcome c
  pub limit_safety : Always (IsWithinLimits s) c
  pub removal : Always RemovesEmpty c
  pub justified_queue_full : Always (RefusesFull s) c

-- ---- the settled state, after the opening and after each event

pub record IsSettled (s : Spec) (c : Trace) : Type 0 where
  -- where a request is held, as many are in use as the capacity allows, or no Ready pod has a free seat
  pub held : (r p : ℕ) → contains r (held c) ≡ true → in_use c < capacity s c → contains p (ready_pods c) ≡ true → has_free_seat c p ≡ false
  -- a pod with a queued request has no free seat
  pub queued : (p r : ℕ) → contains r (queued_at c p) ≡ true → has_free_seat c p ≡ false
  -- a draining pod has a request
  pub draining : (p : ℕ) → contains p (draining c) ≡ true → (at_pod c p ≡ [] → ⊥)
  -- the phase is not activating while a pod is Ready
  pub active : (p : ℕ) → contains p (ready_pods c) ≡ true → is_in_phase phase.Activating (phase_of c) ≡ false

-- ---- inert refusals

abbrev pub is_refusal : Row → Bool
is_refusal (row.QueueFull r pod) = true
is_refusal (row.Overload r) = true
is_refusal (row.NotRunning r) = true
is_refusal (row.NotWaiting r) = true
is_refusal (row.NotStarting p) = true
is_refusal (row.NoPod p) = true
is_refusal _ = false

-- an event that is refused adds expiries and its refusal alone
abbrev pub IsInert : Spec → Trace → Event → Type 0
IsInert s c e = (x : Row) → act_row s (c ++ expiries s e.time c) e.act ≡ Some x → is_refusal x ≡ true
    → react s c e ≡ expiries s e.time c ++ entry e.time x ∷ []

-- The kinds of rows that each part of an event adds.
use Rattle.std.proofs.Common.{◌≡◌, ℕ, ◌-◌, Bool, true, false, not, ◌&&◌, List, [], ◌∷◌, ◌++◌, length, map, take, refl, ◌∙◌, append-nil, append_assoc}
use Rattle.std.specs.Prelude.{Option, None, Some, ◌==◌}
use Rattle.std.specs.List.{range_with_len}
use Rattle.kn_event.specs.declared.entry.Row.{Row}
use Rattle.kn_event.specs.declared.entry.Row.TheVariants as row
use Rattle.kn_event.specs.declared.entry.Phase.TheVariants as phase
use Rattle.kn_event.specs.declared.event.Act.{Act}
use Rattle.kn_event.specs.declared.event.Act.TheVariants as act
use Rattle.kn_event.specs.declared.event.Event.{Event}
use Rattle.kn_event.specs.declared.revision.Kind.{Kind}
use Rattle.kn_event.specs.declared.revision.Kind.TheVariants as kind
use Rattle.kn_event.specs.declared.revision.Spec.{Spec}
use Rattle.kn_event.specs.Lists.{contains}
use Rattle.kn_scaling.specs.Decide.{Ruling}
use Rattle.kn_scaling.specs.Burst.{is_same_mode}
use Rattle.kn_trace.specs.Rows.{phase_by}
use Rattle.kn_trace.specs.Trace.{Trace, entry, created, live_pods, draining, has_free_seat, is_empty, queued_at, ready_pods}
use Rattle.kn_trace.specs.Scale.{creations, decision_at, decision_rows, drain_order, is_in_phase, mode_of, phase_of, scale_rows, tick_rows, tick_rows_of, wake_decision_at, wake_rows, wanted, where_true}
use Rattle.kn_trace.specs.Settling.{assignments_of, next_choice, promotions, promotions_at, while_chosen, while_free}
use Rattle.kn_trace.specs.Events.{activation, departures, due, expiries, losses, losses_at, lost_with, scaler_rows, wake_where}
use Rattle.kn_trace.specs.Report.{is_assign, is_expire, is_loss}
use Rattle.kn_record.specs.Rows.{SaysNoPod}
use Rattle.kn_record.specs.Facts.{Facts}
use Rattle.kn_laws.specs.Kinds.{Each, is_run_row, is_remove_row, is_departure_row, is_scaler_row}

-- a list after another
pub Each-append : (test : Row → Bool) (xs ys : Trace) → Each test xs → Each test ys → Each test (xs ++ ys)
Each-append test [] ys h k = k
Each-append test (e ∷ xs) ys h k = (h.0, Each-append test xs ys h.1 k)

pub Each-weaken : (p q : Row → Bool) → ((x : Row) → p x ≡ true → q x ≡ true) → (xs : Trace) → Each p xs → Each q xs
Each-weaken p q more [] h = tt
Each-weaken p q more (e ∷ xs) h = (more e.row h.0, Each-weaken p q more xs h.1)

pub promotions_at-rows : (t : ℕ) (c : Trace) (p : ℕ) (rs : List ℕ) → Each is_run_row (promotions_at t c p rs)
unfolding promotions_at
promotions_at-rows t c p [] = tt
promotions_at-rows t c p (r ∷ rs) = by (has_free_seat c p) (promotions_at-rows t (c ++ entry t (row.Run r) ∷ []) p rs)
  where
    by : (b : Bool) → Each is_run_row (promotions_at t (c ++ entry t (row.Run r) ∷ []) p rs) → Each is_run_row (while_free b (entry t (row.Run r)) (λ x. promotions_at t (c ++ x ∷ []) p rs))
    by false rest = tt
    by true rest = (refl, rest)

-- promotions are run rows
pub promotions-rows : (t : ℕ) (c : Trace) (ps : List ℕ) → Each is_run_row (promotions t c ps)
unfolding promotions
promotions-rows t c [] = tt
promotions-rows t c (p ∷ ps) = Each-append is_run_row (promotions_at t c p (queued_at c p)) _ (promotions_at-rows t c p (queued_at c p)) (promotions-rows t (c ++ promotions_at t c p (queued_at c p)) ps)

-- assignments are assign rows
pub assignments-rows : (s : Spec) (t : ℕ) (c : Trace) (rs : List ℕ) → Each is_assign (assignments_of s t c rs)
unfolding assignments_of
assignments-rows s t c [] = tt
assignments-rows s t c (r ∷ rs) = by (next_choice s c) (λ p. assignments-rows s t (c ++ entry t (row.Assign r p) ∷ []) rs)
  where
    by : (o : Option ℕ) → ((p : ℕ) → Each is_assign (assignments_of s t (c ++ entry t (row.Assign r p) ∷ []) rs)) → Each is_assign (while_chosen o (λ p. entry t (row.Assign r p)) (λ x. assignments_of s t (c ++ x ∷ []) rs))
    by None rest = tt
    by (Some p) rest = (refl, rest p)

pub removed-rows : (t : ℕ) (ps : List ℕ) → Each is_remove_row (map (λ p. entry t (row.Remove p)) ps)
removed-rows t [] = tt
removed-rows t (p ∷ ps) = (refl, removed-rows t ps)

expired-rows : (t : ℕ) (rs : List ℕ) → Each is_expire (map (λ r. entry t (row.Expire r)) rs)
expired-rows t [] = tt
expired-rows t (r ∷ rs) = (refl, expired-rows t rs)

-- expiries are expire rows
pub expiries-rows : (s : Spec) (t : ℕ) (c : Trace) → Each is_expire (expiries s t c)
unfolding expiries
expiries-rows s t c = expired-rows t (due s t c)

lost-rows : (t : ℕ) (rs : List ℕ) → Each is_loss (map (λ r. entry t (row.LostRequest r)) rs)
lost-rows t [] = tt
lost-rows t (r ∷ rs) = (refl, lost-rows t rs)

-- the losses are rows of lost requests
pub losses-rows : (t : ℕ) (c : Trace) (a : Act) → Each is_loss (losses t c a)
unfolding losses
losses-rows t c (act.Lost p) = by (contains p (live_pods c))
  where
    by : (b : Bool) → Each is_loss (losses_at b t c p)
    by true = lost-rows t (lost_with c p)
    by false = tt
losses-rows t c a = tt

expire_departs : (x : Row) → is_expire x ≡ true → is_departure_row x ≡ true
expire_departs (row.Expire r) h = refl
expire_departs _ h = absurd (cc)

loss_departs : (x : Row) → is_loss x ≡ true → is_departure_row x ≡ true
loss_departs (row.LostRequest r) h = refl
loss_departs _ h = absurd (cc)

-- so all that end before the act's own row are of these kinds
pub departures-rows : (s : Spec) (c : Trace) (e : Event) → Each is_departure_row (departures s c e)
unfolding departures
departures-rows s c e =
    let gone = expiries s e.time c in
    Each-append is_departure_row gone (losses e.time (c ++ gone) e.act)
    (Each-weaken is_expire is_departure_row expire_departs gone (expiries-rows s e.time c))
    (Each-weaken is_loss is_departure_row loss_departs (losses e.time (c ++ gone) e.act) (losses-rows e.time (c ++ gone) e.act))

-- only where a pod is lost does anybody but the expired end before the act's own row
pub no_losses : (t : ℕ) (c : Trace) (a : Act) → ((p : ℕ) → a ≡ act.Lost p → ⊥) → losses t c a ≡ []
unfolding losses
no_losses t c (act.Lost p) other = absurd (other p refl)
no_losses t c a other = refl

pub departures-same : (s : Spec) (c : Trace) (e : Event) → ((p : ℕ) → e.act ≡ act.Lost p → ⊥) → departures s c e ≡ expiries s e.time c
unfolding departures
departures-same s c e other = rw (no_losses e.time (c ++ expiries s e.time c) e.act other) (append-nil (expiries s e.time c))

-- ---- what the autoscaler adds

created-rows : (s : Spec) (t : ℕ) (ps : List ℕ) → Each is_scaler_row (map (λ p. entry t (row.Create p s.cc)) ps)
created-rows s t [] = tt
created-rows s t (p ∷ ps) = (refl, created-rows s t ps)

drained-rows : (t : ℕ) (ps : List ℕ) → Each is_scaler_row (map (λ p. entry t (row.Drain p)) ps)
drained-rows t [] = tt
drained-rows t (p ∷ ps) = (refl, drained-rows t ps)

pub where-each : (test : Row → Bool) (b : Bool) (es : Trace) → Each test es → Each test (where_true b es)
where-each test false es h = tt
where-each test true es h = h

-- a decision adds the autoscaler's rows alone
pub decision-rows : (s : Spec) (t : ℕ) (c : Trace) (made : Ruling) → Each is_scaler_row (decision_rows s t c made)
unfolding decision_rows scale_rows
decision-rows s t c made =
    let n = length (drain_order c) in
    let p = where_true (not (is_in_phase made.phase (phase_of c))) (entry t (row.Phase made.phase) ∷ []) in
    let m = where_true (not (is_same_mode made.decision.mode (mode_of c))) (entry t (row.Mode made.decision.mode) ∷ []) in
    let new = creations s t (created c) (made.decision.want - n) in
    let old = map (λ q. entry t (row.Drain q)) (take (n - made.decision.want) (drain_order c)) in (
      refl,
      Each-append is_scaler_row (p ++ m) _
          (Each-append is_scaler_row p m (where-each is_scaler_row (not (is_in_phase made.phase (phase_of c))) _ (refl, tt)) (where-each is_scaler_row (not (is_same_mode made.decision.mode (mode_of c))) _ (refl, tt)))
          (where-each is_scaler_row made.decision.applied (new ++ old) (Each-append is_scaler_row new old (created-rows s t (range_with_len (created c) (made.decision.want - n))) (drained-rows t (take (n - made.decision.want) (drain_order c))))),
    )

tick-rows : (s : Spec) (t : ℕ) (c : Trace) → Each is_scaler_row (tick_rows s t c)
unfolding tick_rows
tick-rows s t c = by (decision_at s c t)
  where
    by : (o : Option Ruling) → Each is_scaler_row (tick_rows_of s t c o)
    by None = (refl, tt)
    by (Some made) = decision-rows s t c made

wake_where-rows : (b : Bool) (s : Spec) (t : ℕ) (c : Trace) → Each is_scaler_row (wake_where b s t c)
unfolding wake_rows
wake_where-rows false s t c = tt
wake_where-rows true s t c = decision-rows s t c (wake_decision_at s c t)

-- so does all that the autoscaler does at an act
pub scaler-rows : (k : Kind) (s : Spec) (t : ℕ) (c : Trace) (a : Act) (did : Option Row) → Each is_scaler_row (scaler_rows k s t c a did)
scaler-rows kind.Kpa s t c act.Tick did = tick-rows s t c
scaler-rows kind.Kpa s t c (act.Arrive tag) (Some (row.Admit r g)) = wake_where-rows (wanted s c == 0) s t c
scaler-rows k s t c a did = tt

-- and the activation
pub activation-rows : (t : ℕ) (c : Trace) → Each is_scaler_row (activation t c)
unfolding activation
activation-rows t c = where-each is_scaler_row (is_in_phase phase.Activating (phase_of c) && not (is_empty (ready_pods c))) (entry t (row.Phase phase.Active) ∷ []) (refl, tt)

module _ (facts : Facts) where
  open facts use {entries.{phase_of-push}, views.{says_no_pod, ready-quiet, live_pods-quiet, draining-quiet}}

  -- ---- what rows of a kind leave as it is

  -- the phase
  pub phase-each : (test : Row → Bool) → ((x : Row) → test x ≡ true → phase_by x ≡ None) → (c es : Trace) → Each test es → phase_of (c ++ es) ≡ phase_of c
  phase-each test none c [] h = rw (append-nil c) refl
  phase-each test none c (e ∷ es) h =
      let one : phase_of (c ++ e ∷ []) ≡ phase_of c = rw (phase_of-push c e, none e.row h.0) refl in
      rw (append_assoc c (e ∷ []) es) at (phase-each test none (c ++ e ∷ []) es h.1 ∙ one)

  -- the Ready pods
  pub ready-each : (test : Row → Bool) → ((x : Row) → test x ≡ true → SaysNoPod x) → (c es : Trace) → Each test es → ready_pods (c ++ es) ≡ ready_pods c
  ready-each test none c [] h = rw (append-nil c) refl
  ready-each test none c (e ∷ es) h = rw (append_assoc c (e ∷ []) es) at (ready-each test none (c ++ e ∷ []) es h.1 ∙ ready-quiet c e (none e.row h.0))

  -- the draining pods
  pub draining-each : (test : Row → Bool) → ((x : Row) → test x ≡ true → SaysNoPod x) → (c es : Trace) → Each test es → draining (c ++ es) ≡ draining c
  draining-each test none c [] h = rw (append-nil c) refl
  draining-each test none c (e ∷ es) h = rw (append_assoc c (e ∷ []) es) at (draining-each test none (c ++ e ∷ []) es h.1 ∙ draining-quiet c e (none e.row h.0))

  -- the live pods
  pub live_pods-each : (test : Row → Bool) → ((x : Row) → test x ≡ true → SaysNoPod x) → (c es : Trace) → Each test es → live_pods (c ++ es) ≡ live_pods c
  live_pods-each test none c [] h = rw (append-nil c) refl
  live_pods-each test none c (e ∷ es) h = rw (append_assoc c (e ∷ []) es) at (live_pods-each test none (c ++ e ∷ []) es h.1 ∙ live_pods-quiet c e (none e.row h.0))

  pub loss_pods : (x : Row) → is_loss x ≡ true → SaysNoPod x
  loss_pods (row.LostRequest r) h = says_no_pod (row.LostRequest r) refl
  loss_pods _ h = absurd (cc)

  pub run_pods : (x : Row) → is_run_row x ≡ true → SaysNoPod x
  run_pods (row.Run r) h = says_no_pod (row.Run r) refl
  run_pods _ h = absurd (cc)

  pub assign_pods : (x : Row) → is_assign x ≡ true → SaysNoPod x
  assign_pods (row.Assign r p) h = says_no_pod (row.Assign r p) refl
  assign_pods _ h = absurd (cc)

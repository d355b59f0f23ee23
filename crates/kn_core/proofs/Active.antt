-- No pod is Ready while a revision waits for its first one, but at the row of that.
use Rattle.std.proofs.Common.{◌≡◌, ℕ, ◌*◌, ◌≤◌, Bool, true, false, cond, List, [], ◌∷◌, ◌++◌, length, refl, sym, ap, ◌∙◌, subst, append-nil, append_assoc, arith, Option, None, Some}
use Rattle.std.specs.Prelude.{not, ◌&&◌, ◌==◌, nat_lt, unwrap_or}
use Rattle.std.proofs.lemmas.Bool.Decides.{nat_tests}
use Rattle.kn_event.specs.declared.entry.Entry.{Entry}
use Rattle.kn_event.specs.declared.entry.Phase.{Phase}
use Rattle.kn_event.specs.declared.entry.Phase.TheVariants as phase
use Rattle.kn_event.specs.declared.entry.Row.{Row}
use Rattle.kn_event.specs.declared.entry.Row.TheVariants as row
use Rattle.kn_event.specs.declared.event.Act.{Act}
use Rattle.kn_event.specs.declared.event.Act.TheVariants as act
use Rattle.kn_event.specs.declared.revision.Kind.{Kind}
use Rattle.kn_event.specs.declared.revision.Kind.TheVariants as kind
use Rattle.kn_event.specs.declared.revision.Spec.{Spec}
use Rattle.kn_event.specs.declared.units.Frac.{Frac}
use Rattle.kn_event.specs.Lists.{contains, or_else}
use Rattle.kn_scaling.specs.Average.{second_of, window_average}
use Rattle.kn_scaling.specs.Decide.{Ruling, decision_from_stable, no_load, one_request, ruling}
use Rattle.kn_scaling.specs.Decide as scaling
use Rattle.kn_scaling.specs.declared.zero.Standing.{Standing}
use Rattle.kn_scaling.specs.Zero.{has_lasted, no_pods, some_pods, zero_rule, zero_rule_in}
use Rattle.kn_scaling.specs.Burst.{is_same_mode}
use Rattle.kn_trace.specs.Events.{activation, scaler_rows, wake_where}
use Rattle.kn_trace.specs.Laws.{IsSettled}
use Rattle.kn_trace.specs.Rows.{phase_by}
use Rattle.kn_trace.specs.Scale.{count_ready, decision_at, decision_rows, is_in_phase, mode_of, past_of, phase_of, scale_rows, standing_of, tick_rows, tick_rows_of, wake_decision_at, wake_rows, wanted, where_true}
use Rattle.kn_trace.specs.Trace.{Trace, created, draining, entry, is_empty, ready_pods, starting_pods}
use Rattle.kn_record.specs.Made.{Holds, IsMade, IsProper}
use Rattle.kn_record.specs.Views.{others}
use Rattle.kn_laws.specs.Kinds.{Each}
use Rattle.kn_pods.specs.Numbers.{inserted}
use Rattle.kn_pods.specs.Pods.{PodsState, ArePodsOf, after_row}
use Rattle.kn_scaler.specs.Rows.{is_quiet}
use Rattle.kn_core.proofs.Lists.{first_is_there}
use Rattle.kn_core.proofs.Scaled.{holds_behind, holds_front}
use Rattle.kn_core.proofs.Traces.{rows_made, same_said}

abbrev pub IsAwake : Trace → Type 0
IsAwake c = is_in_phase phase.Activating (phase_of c) ≡ true → ready_pods c ≡ []

pub awake_settled : (s : Spec) (c : Trace) → IsSettled s c → IsAwake c
awake_settled s c h = by (ready_pods c) refl
  where
    by : (ps : List ℕ) → ready_pods c ≡ ps → IsAwake c
    by [] e waits = e
    by (p ∷ ps) e waits = absurd (let off = h.active p (rw e (first_is_there p (p ∷ ps) refl)) in cc)

pub none_activated : (t : ℕ) (c : Trace) → IsAwake c → activation t c ≡ []
unfolding activation
none_activated t c h = by (is_in_phase phase.Activating (phase_of c)) refl
  where
    by : (b : Bool) → is_in_phase phase.Activating (phase_of c) ≡ b → where_true (is_in_phase phase.Activating (phase_of c) && not (is_empty (ready_pods c))) (entry t (row.Phase phase.Active) ∷ []) ≡ []
    by false e = rw e refl
    by true e = rw (e, h e) refl

-- ---- rows, one after the other

pub each_append : (test : Row → Bool) (xs ys : Trace) → Each test xs → Each test ys → Each test (xs ++ ys)
each_append test [] ys h k = k
each_append test (x ∷ xs) ys h k = (h.0, each_append test xs ys h.1 k)

pub each_weaker : (p q : Row → Bool) → ((x : Row) → p x ≡ true → q x ≡ true) → (xs : Trace) → Each p xs → Each q xs
each_weaker p q wider [] h = tt
each_weaker p q wider (x ∷ xs) h = (wider x.row h.0, each_weaker p q wider xs h.1)

-- a row that says no phase, and that of no pod that it is Ready
abbrev pub is_calm : Row → Bool
is_calm (row.Ready p) = false
is_calm (row.Phase x) = false
is_calm _ = true

calm_phase : (x : Row) → is_calm x ≡ true → phase_by x ≡ None
calm_phase (row.Phase x) h = absurd (cc)
calm_phase _ h = refl

quiet_calm : (x : Row) → is_quiet x ≡ true → is_calm x ≡ true
quiet_calm (row.Ready p) h = absurd (cc)
quiet_calm (row.Phase x) h = absurd (cc)
quiet_calm _ h = refl

-- a row with which no pod drains
abbrev pub drains_none : Row → Bool
drains_none (row.Drain p) = false
drains_none _ = true

none_ready : (x : Row) (pods : PodsState) → is_calm x ≡ true → pods.ready ≡ [] → (after_row x pods).ready ≡ []
none_ready (row.Ready p) pods h none = absurd (cc)
none_ready (row.Drain p) pods h none = by (contains p pods.starting)
  where
    by : (b : Bool) → (cond b (record pods { starting = others p pods.starting; draining = inserted p pods.draining }) (record pods { ready = others p pods.ready; draining = inserted p pods.draining })).ready ≡ []
    by true = none
    by false = rw none refl
none_ready (row.LostPod p) pods h none = rw none refl
none_ready _ pods h none = none

fewer : (p : ℕ) (xs : List ℕ) → length (others p xs) ≤ length xs
fewer p [] = omega arith
fewer p (x ∷ xs) = by (p == x) refl (fewer p xs)
  where
    by : (b : Bool) → (p == x) ≡ b → length (others p xs) ≤ length xs → length (others p (x ∷ xs)) ≤ length (x ∷ xs)
    by true e rec = rw e (omega (arith, rec))
    by false e rec = rw e (omega (arith, rec))

fewer_drain : (x : Row) (pods : PodsState) → drains_none x ≡ true → length (after_row x pods).draining ≤ length pods.draining
fewer_drain (row.Drain p) pods h = absurd (cc)
fewer_drain (row.Remove p) pods h = fewer p pods.draining
fewer_drain (row.LostPod p) pods h = fewer p pods.draining
fewer_drain _ pods h = omega arith

abbrev pub DrainFew : Trace → Type 0
DrainFew c = length (draining c) ≤ 20000

module _ (makes : (s : Spec) (c : Trace) (t : ℕ) (x : Row) → IsMade s c → IsProper s c x → IsMade s (c ++ entry t x ∷ []))
    (goes : (s : Spec) (c : Trace) (t : ℕ) (x : Row) (pods : PodsState) → IsMade s c → IsProper s c x → ArePodsOf pods c → ArePodsOf (after_row x pods) (c ++ entry t x ∷ [])) where
  rows_keep : (s : Spec) (P : Trace → Type 0) (test : Row → Bool) → ((c : Trace) (t : ℕ) (x : Row) → test x ≡ true → IsMade s c → IsProper s c x → P c → P (c ++ entry t x ∷ []))
      → (c es : Trace) → Each test es → IsMade s c → Holds (IsProper s) c es → P c → P (c ++ es)
  rows_keep s P test one c [] each made proper h = subst P (sym (append-nil c)) h
  rows_keep s P test one c (e ∷ es) each made proper h =
      subst P (append_assoc c (e ∷ []) es)
      (rows_keep s P test one (c ++ e ∷ []) es each.1 (makes s c e.time e.row made proper.0) proper.1 (one c e.time e.row each.0 made proper.0 h))

  pods_after : (s : Spec) (c : Trace) (t : ℕ) (x : Row) → IsMade s c → IsProper s c x
      → ArePodsOf (after_row x (record { created = created c; starting = starting_pods c; ready = ready_pods c; draining = draining c })) (c ++ entry t x ∷ [])
  pods_after s c t x made proper =
      goes s c t x (record { created = created c; starting = starting_pods c; ready = ready_pods c; draining = draining c }) made proper
      (record { created = refl; starting = refl; ready = refl; draining = refl })

  awake_row : (s : Spec) (c : Trace) (t : ℕ) (x : Row) → is_calm x ≡ true → IsMade s c → IsProper s c x → IsAwake c → IsAwake (c ++ entry t x ∷ [])
  unfolding phase_of
  awake_row s c t x calm made proper h = λ waits.
      let none = h (rw (same_said phase_by is_calm calm_phase c (entry t x ∷ []) (calm, tt)) at waits) in
      sym (pods_after s c t x made proper).ready ∙ none_ready x (record { created = created c; starting = starting_pods c; ready = ready_pods c; draining = draining c }) calm none

  pub awake_rows : (s : Spec) (c es : Trace) → Each is_calm es → IsMade s c → Holds (IsProper s) c es → IsAwake c → IsAwake (c ++ es)
  awake_rows s c es each made proper h = rows_keep s IsAwake is_calm (awake_row s) c es each made proper h

  few_row : (s : Spec) (c : Trace) (t : ℕ) (x : Row) → drains_none x ≡ true → IsMade s c → IsProper s c x → DrainFew c → DrainFew (c ++ entry t x ∷ [])
  few_row s c t x none made proper h =
      let same = ap length (pods_after s c t x made proper).draining in
      let less = fewer_drain x (record { created = created c; starting = starting_pods c; ready = ready_pods c; draining = draining c }) none in
      omega (arith, same, less, h)

  pub few_rows : (s : Spec) (c es : Trace) → Each drains_none es → IsMade s c → Holds (IsProper s) c es → DrainFew c → DrainFew (c ++ es)
  few_rows s c es each made proper h = rows_keep s DrainFew drains_none (few_row s) c es each made proper h

  -- ---- the phase of a decision

  module _ (push : (c : Trace) (e : Entry) → phase_of (c ++ e ∷ []) ≡ or_else (phase_by e.row) (phase_of c)) (quiet : (s : Spec) (t : ℕ) (c : Trace) (want : ℕ) → Each is_quiet (scale_rows s t c want)) where
    same_is : (p : Phase) (o : Option Phase) → is_in_phase p o ≡ true → o ≡ Some p
    same_is phase.Activating (Some phase.Activating) h = refl
    same_is phase.Active (Some phase.Active) h = refl
    same_is phase.Inactive (Some phase.Inactive) h = refl
    same_is p o h = absurd (cc)

    where_calm : (b : Bool) (es : Trace) → Each is_calm es → Each is_calm (where_true b es)
    where_calm true es h = h
    where_calm false es h = tt

    -- where a decision leaves it activating, no pod is Ready
    decision_awake : (s : Spec) (c : Trace) (t : ℕ) (made : Ruling) → (is_in_phase phase.Activating (Some made.phase) ≡ true → ready_pods c ≡ []) → IsMade s c → Holds (IsProper s) c (decision_rows s t c made) → IsAwake c
        → IsAwake (c ++ decision_rows s t c made)
    unfolding decision_rows
    decision_awake s c t made none is_made proper h =
        let split = append_assoc p m sc in
        let behind : Holds (IsProper s) one (p ++ (m ++ sc)) = subst (Holds (IsProper s) one) split proper.1 in
        let front = holds_front (IsProper s) one p (m ++ sc) behind in
        let made_one = makes s c t (row.Decided made.decision) is_made proper.0 in
        let awake_one = awake_row s c t (row.Decided made.decision) refl is_made proper.0 h in
        let awake_two = here (is_in_phase made.phase (phase_of c)) refl made_one awake_one in
        let last = awake_rows s (one ++ p) (m ++ sc) tail (rows_made makes goes s one p made_one front) (holds_behind (IsProper s) one p (m ++ sc) behind) awake_two in
        subst IsAwake
        (append_assoc one p (m ++ sc) ∙ ap (λ (l : Trace). one ++ l) (sym split) ∙ append_assoc c (entry t (row.Decided made.decision) ∷ []) ((p ++ m) ++ sc)) last
      where
        one : Trace
        one = c ++ entry t (row.Decided made.decision) ∷ []

        y : Entry
        y = entry t (row.Phase made.phase)

        p : Trace
        p = where_true (not (is_in_phase made.phase (phase_of c))) (y ∷ [])

        m : Trace
        m = where_true (not (is_same_mode made.decision.mode (mode_of c))) (entry t (row.Mode made.decision.mode) ∷ [])

        sc : Trace
        sc = where_true made.decision.applied (scale_rows s t c made.decision.want)

        tail : Each is_calm (m ++ sc)
        tail =
            each_append is_calm m sc (where_calm (not (is_same_mode made.decision.mode (mode_of c))) (entry t (row.Mode made.decision.mode) ∷ []) (refl, tt))
            (where_calm made.decision.applied (scale_rows s t c made.decision.want) (each_weaker is_quiet is_calm quiet_calm (scale_rows s t c made.decision.want) (quiet s t c made.decision.want)))

        here : (b : Bool) → is_in_phase made.phase (phase_of c) ≡ b → IsMade s one → IsAwake one → IsAwake (one ++ where_true (not b) (y ∷ []))
        here true e made_one awake = rw (append-nil one) awake
        here false e made_one awake = λ waits.
            let now = rw (push one y) at waits in
            let still = sym (pods_after s c t (row.Decided made.decision) is_made proper.0).ready ∙ none now in
            sym (pods_after s one t (row.Phase made.phase) made_one tt).ready ∙ still

    zero_length : (xs : List ℕ) → length xs ≡ 0 → xs ≡ []
    zero_length [] e = refl
    zero_length (x ∷ xs) e = absurd (omega (arith, e))

    some_waits : (X : Type 0) (ready want : ℕ) → (ready ≡ 0 → X) → is_in_phase phase.Activating (Some (some_pods ready want).phase) ≡ true → X
    some_waits X ready want none h = by (nat_lt 0 ready) refl h
      where
        by : (b : Bool) → nat_lt 0 ready ≡ b → is_in_phase phase.Activating (Some (cond b phase.Active phase.Activating)) ≡ true → X
        by true e h = absurd (cc)
        by false e h = none (grind (arith, nat_tests))

    zero_in_waits : (X : Type 0) (s : Spec) (time ready : ℕ) (standing : Standing) (p : Phase) → (ready ≡ 0 → X) → (is_in_phase phase.Activating (Some p) ≡ true → X)
        → is_in_phase phase.Activating (Some (zero_rule_in p s time ready standing).phase) ≡ true → X
    zero_in_waits X s time ready standing phase.Activating none still h = still refl
    zero_in_waits X s time ready standing phase.Active none still h = by (has_lasted standing.phase_since (1000 * s.stable_s) time) h
      where
        by : (b : Bool) → is_in_phase phase.Activating (Some (cond b (no_pods false) (some_pods ready 1)).phase) ≡ true → X
        by true h = absurd (cc)
        by false h = some_waits X ready 1 none h
    zero_in_waits X s time ready standing phase.Inactive none still h = absurd (cc)

    zero_waits : (X : Type 0) (s : Spec) (time ready bounded : ℕ) (standing : Standing) → (ready ≡ 0 → X) → (is_in_phase phase.Activating (Some standing.phase) ≡ true → X)
        → is_in_phase phase.Activating (Some (zero_rule s time ready bounded standing).phase) ≡ true → X
    unfolding zero_rule
    zero_waits X s time ready bounded standing none still h = by (nat_lt 0 bounded) s.to_zero h
      where
        by : (b z : Bool) → is_in_phase phase.Activating (Some (cond b (some_pods ready bounded) (cond z (zero_rule_in standing.phase s time ready standing) (some_pods ready 1))).phase) ≡ true → X
        by true z h = some_waits X ready bounded none h
        by false true h = zero_in_waits X s time ready standing standing.phase none still h
        by false false h = some_waits X ready 1 none h

    waited : (o : Option Phase) → is_in_phase phase.Activating (Some (unwrap_or o phase.Inactive)) ≡ true → is_in_phase phase.Activating o ≡ true
    waited (Some phase.Activating) h = refl
    waited (Some phase.Active) h = absurd (cc)
    waited (Some phase.Inactive) h = absurd (cc)
    waited None h = absurd (cc)

    ruling_waits : (s : Spec) (c : Trace) (t : ℕ) (stable panic : Frac) → IsAwake c → is_in_phase phase.Activating (Some (ruling s (past_of s c) t (count_ready c) stable panic).phase) ≡ true → ready_pods c ≡ []
    unfolding ruling past_of standing_of count_ready
    ruling_waits s c t stable panic h waits = zero_waits (ready_pods c ≡ []) s t (length (ready_pods c)) _ (standing_of s c) (zero_length (ready_pods c)) (λ still. h (waited (phase_of c) still)) waits

    tick_awake : (s : Spec) (c : Trace) (t : ℕ) → IsMade s c → Holds (IsProper s) c (tick_rows s t c) → IsAwake c → IsAwake (c ++ tick_rows s t c)
    unfolding tick_rows decision_at scaling.decision_at
    tick_awake s c t made proper h = by (window_average (past_of s c).samples s.stable_s (second_of t)) proper
      where
        by : (o : Option Frac) → Holds (IsProper s) c (tick_rows_of s t c (decision_from_stable s (past_of s c) t (count_ready c) o)) → IsAwake (c ++ tick_rows_of s t c (decision_from_stable s (past_of s c) t (count_ready c) o))
        by None proper = awake_row s c t row.NoData refl made tt h
        by (Some stable) proper =
            decision_awake s c t (ruling s (past_of s c) t (count_ready c) stable (unwrap_or (window_average (past_of s c).samples s.panic_s (second_of t)) no_load))
            (ruling_waits s c t stable (unwrap_or (window_average (past_of s c).samples s.panic_s (second_of t)) no_load) h) made proper h

    wake_awake : (b : Bool) (s : Spec) (c : Trace) (t : ℕ) → IsMade s c → Holds (IsProper s) c (wake_where b s t c) → IsAwake c → IsAwake (c ++ wake_where b s t c)
    unfolding wake_rows wake_decision_at scaling.wake_decision_at
    wake_awake false s c t made proper h = rw (append-nil c) h
    wake_awake true s c t made proper h = decision_awake s c t (ruling s (past_of s c) t (count_ready c) one_request one_request) (ruling_waits s c t one_request one_request h) made proper h

    pub scaler_awake : (k : Kind) (s : Spec) (c : Trace) (t : ℕ) (a : Act) (did : Option Row) → IsMade s c → Holds (IsProper s) c (scaler_rows k s t c a did) → IsAwake c → IsAwake (c ++ scaler_rows k s t c a did)
    scaler_awake kind.Kpa s c t act.Tick did made proper h = tick_awake s c t made proper h
    scaler_awake kind.Kpa s c t (act.Arrive tag) (Some (row.Admit r g)) made proper h = wake_awake (wanted s c == 0) s c t made proper h
    scaler_awake k s c t a did made proper h = rw (append-nil c) h

-- No pod is wanted exactly where the phase is inactive.
use Rattle.std.proofs.Common.{◌≡◌, ℕ, ◌-◌, ◌*◌, Bool, true, false, not, cond, ◌&&◌, List, [], ◌∷◌, ◌++◌, length, map, take, nat_lt, zero, suc, refl, sym, ap, subst, ◌∙◌, arith, append-nil, append_assoc}
use Rattle.std.specs.Prelude.{Option, None, Some, ◌==◌, unwrap_or}
use Rattle.std.specs.List.{range_with_len}
use Rattle.std.proofs.lemmas.Bool.{eqb-true, false_from_ne_true}
use Rattle.std.proofs.lemmas.Bool.Decides.{nat_tests}
use Rattle.std.proofs.lemmas.List.Elements.{filter_map-append}
use Rattle.kn_event.specs.declared.entry.Entry.{Entry}
use Rattle.kn_event.specs.declared.entry.Row.{Row}
use Rattle.kn_event.specs.declared.entry.Row.TheVariants as row
use Rattle.kn_event.specs.declared.entry.Phase.{Phase}
use Rattle.kn_event.specs.declared.entry.Phase.TheVariants as phase
use Rattle.kn_event.specs.declared.event.Act.{Act}
use Rattle.kn_event.specs.declared.event.Act.TheVariants as act
use Rattle.kn_event.specs.declared.event.Event.{Event}
use Rattle.kn_event.specs.declared.revision.Kind.{Kind}
use Rattle.kn_event.specs.declared.revision.Kind.TheVariants as kind
use Rattle.kn_event.specs.declared.revision.Spec.{Spec}
use Rattle.kn_event.specs.declared.units.Frac.{Frac}
use Rattle.kn_scaling.specs.Average.{second_of, window_average}
use Rattle.kn_scaling.specs.Decide.{Past, Ruling, decision_from_stable, no_load, one_request, ruling}
use Rattle.kn_scaling.specs.Decide as scaling
use Rattle.kn_scaling.specs.declared.zero.Standing.{Standing}
use Rattle.kn_scaling.specs.Zero.{has_lasted, no_pods, opening_phase, some_pods, zero_rule, zero_rule_in}
use Rattle.kn_scaling.specs.Burst.{is_same_mode}
use Rattle.kn_trace.specs.Rows.{decision_by, phase_by}
use Rattle.kn_trace.specs.Trace.{Trace, entry, created, each_row, held, is_empty, live_pods, ready_pods}
use Rattle.kn_trace.specs.Scale.{count_ready, creations, decision_at, decision_rows, drain_order, is_in_phase, mode_of, opening_scale, past_of, phase_of, scale_rows, standing_of, tick_rows, tick_rows_of, wake_decision_at, wake_rows, wanted, where_true}
use Rattle.kn_trace.specs.Settling.{assignments_of, held_assignments, promotions, removals, settling}
use Rattle.kn_trace.specs.Events.{act_row, act_rows, activation, added, before_settling, entries_of, departures, opening, opening_of, react, scaler_rows, trace_of, wake_where}
use Rattle.kn_trace.specs.Report.{is_assign}
use Rattle.kn_record.specs.Facts.{Facts}
use Rattle.kn_laws.specs.Phases.{WantsByPhase}
use Rattle.kn_laws.specs.Kinds.{Each, is_departure_row, is_remove_row, is_run_row, is_act_row}
use Rattle.kn_laws.proofs.Rows.{assignments-rows, departures-rows, promotions-rows}
use Rattle.kn_laws.proofs.Acts.{act-rows, removals-rows}

abbrev is_idle : Phase → Bool
is_idle p = is_in_phase phase.Inactive (Some p)

-- ---- the rule

zero_in_phase : (s : Spec) (time ready : ℕ) (standing : Standing) → (p : Phase) → (p ≡ phase.Activating → (standing.want == 0) ≡ false)
    → ((zero_rule_in p s time ready standing).want == 0) ≡ is_idle (zero_rule_in p s time ready standing).phase
zero_in_phase s time ready standing phase.Activating some = some refl
zero_in_phase s time ready standing phase.Active some = by (has_lasted standing.phase_since (1000 * s.stable_s) time) (nat_lt 0 ready)
  where
    by : (b r : Bool) → ((cond b (no_pods false) (record { want = 1; applied = true; phase = cond r phase.Active phase.Activating })).want == 0)
        ≡ is_idle (cond b (no_pods false) (record { want = 1; applied = true; phase = cond r phase.Active phase.Activating })).phase
    by true r = refl
    by false true = refl
    by false false = refl
zero_in_phase s time ready standing phase.Inactive some = refl

pods_phase : (ready want : ℕ) → (want == 0) ≡ false → ((some_pods ready want).want == 0) ≡ is_idle (some_pods ready want).phase
pods_phase ready want some = by (nat_lt 0 ready)
  where
    by : (r : Bool) → (want == 0) ≡ is_idle (cond r phase.Active phase.Activating)
    by true = some
    by false = some

-- the rule answers no pods with the inactive phase, and some with another
zero_phase : (s : Spec) (time ready bounded : ℕ) (standing : Standing) → (standing.phase ≡ phase.Activating → (standing.want == 0) ≡ false)
    → ((zero_rule s time ready bounded standing).want == 0) ≡ is_idle (zero_rule s time ready bounded standing).phase
unfolding zero_rule
zero_phase s time ready bounded standing some = by (nat_lt 0 bounded) refl s.to_zero
  where
    above : (n : ℕ) → nat_lt 0 n ≡ true → (n == 0) ≡ false
    above n h = grind (arith, nat_tests)

    by : (b : Bool) → nat_lt 0 bounded ≡ b → (z : Bool)
        → ((cond b (some_pods ready bounded) (cond z (zero_rule_in standing.phase s time ready standing) (some_pods ready 1))).want == 0)
        ≡ is_idle (cond b (some_pods ready bounded) (cond z (zero_rule_in standing.phase s time ready standing) (some_pods ready 1))).phase
    by true e z = pods_phase ready bounded (above bounded e)
    by false e true = zero_in_phase s time ready standing standing.phase some
    by false e false = pods_phase ready 1 refl

abbrev RulesByPhase : Ruling → Type 0
RulesByPhase made = (made.decision.want == 0) ≡ is_idle made.phase

-- so does a whole decision
ruling_phase : (s : Spec) (past : Past) (time ready : ℕ) (stable panic : Frac) → (past.standing.phase ≡ phase.Activating → (past.standing.want == 0) ≡ false) → RulesByPhase (ruling s past time ready stable panic)
unfolding ruling
ruling_phase s past time ready stable panic some = zero_phase s time ready _ past.standing some

-- ---- rows without a decision or a phase

-- rows without a decision leave the wanted scale
unwanted : (s : Spec) (c es : Trace) → each_row decision_by es ≡ [] → wanted s (c ++ es) ≡ wanted s c
unfolding wanted
unwanted s c es none = rw (filter_map-append (λ (e : Entry). decision_by e.row) c es, none, append-nil (each_row decision_by c)) refl

-- rows without a phase leave the phase
unphased : (c es : Trace) → each_row phase_by es ≡ [] → phase_of (c ++ es) ≡ phase_of c
unfolding phase_of
unphased c es none = rw (filter_map-append (λ (e : Entry). phase_by e.row) c es, none, append-nil (each_row phase_by c)) refl

pub none-rows : {X : Type 0} (f : Row → Option X) (test : Row → Bool) → ((x : Row) → test x ≡ true → f x ≡ None) → (es : Trace) → Each test es → each_row f es ≡ []
none-rows f test none [] h = refl
none-rows f test none (e ∷ es) h = rw (none e.row h.0) (none-rows f test none es h.1)

-- the premise stands over rows of such a kind
wants-each : (s : Spec) (test : Row → Bool) → ((x : Row) → test x ≡ true → (decision_by x ≡ None) × (phase_by x ≡ None)) → (c es : Trace) → Each test es → WantsByPhase s c → WantsByPhase s (c ++ es)
wants-each s test none c es h wants scaled =
    rw (unwanted s c es (none-rows decision_by test (λ x k. (none x k).0) es h), unphased c es (none-rows phase_by test (λ x k. (none x k).1) es h)) (wants scaled)

departure_plain : (x : Row) → is_departure_row x ≡ true → (decision_by x ≡ None) × (phase_by x ≡ None)
departure_plain (row.Expire r) h = (refl, refl)
departure_plain (row.LostRequest r) h = (refl, refl)
departure_plain _ h = absurd (cc)

act_plain : (x : Row) → is_act_row x ≡ true → (decision_by x ≡ None) × (phase_by x ≡ None)
act_plain (row.Decided d) h = absurd (cc)
act_plain (row.Phase p) h = absurd (cc)
act_plain _ h = (refl, refl)

run_plain : (x : Row) → is_run_row x ≡ true → (decision_by x ≡ None) × (phase_by x ≡ None)
run_plain (row.Run r) h = (refl, refl)
run_plain _ h = absurd (cc)

assign_plain : (x : Row) → is_assign x ≡ true → (decision_by x ≡ None) × (phase_by x ≡ None)
assign_plain (row.Assign r p) h = (refl, refl)
assign_plain _ h = absurd (cc)

remove_plain : (x : Row) → is_remove_row x ≡ true → (decision_by x ≡ None) × (phase_by x ≡ None)
remove_plain (row.Remove p) h = (refl, refl)
remove_plain _ h = absurd (cc)

made-none : {X : Type 0} (f : Row → Option X) → ((p n : ℕ) → f (row.Create p n) ≡ None) → (s : Spec) (t : ℕ) (ps : List ℕ) → each_row f (map (λ p. entry t (row.Create p s.cc)) ps) ≡ []
made-none f none s t [] = refl
made-none f none s t (p ∷ ps) = rw (none p s.cc) (made-none f none s t ps)

drained-none : {X : Type 0} (f : Row → Option X) → ((p : ℕ) → f (row.Drain p) ≡ None) → (t : ℕ) (ps : List ℕ) → each_row f (map (λ p. entry t (row.Drain p)) ps) ≡ []
drained-none f none t [] = refl
drained-none f none t (p ∷ ps) = rw (none p) (drained-none f none t ps)

scale-none : {X : Type 0} (f : Row → Option X) → ((p n : ℕ) → f (row.Create p n) ≡ None) → ((p : ℕ) → f (row.Drain p) ≡ None) → (b : Bool) (s : Spec) (t : ℕ) (c : Trace) (want : ℕ) → each_row f (where_true b (scale_rows s t c want)) ≡ []
unfolding scale_rows
scale-none f create drain false s t c want = refl
scale-none f create drain true s t c want =
    let n = length (drain_order c) in
    rw (filter_map-append (λ (e : Entry). f e.row) (creations s t (created c) (want - n)) (map (λ p. entry t (row.Drain p)) (take (n - want) (drain_order c))), made-none f create s t (range_with_len (created c) (want - n)), drained-none f drain t (take (n - want) (drain_order c))) refl

where-none : {X : Type 0} (f : Row → Option X) (b : Bool) (x : Entry) → f x.row ≡ None → each_row f (where_true b (x ∷ [])) ≡ []
where-none f false x h = refl
where-none f true x h = rw h refl

same_is : (p : Phase) (o : Option Phase) → is_in_phase p o ≡ true → o ≡ Some p
same_is phase.Activating (Some phase.Activating) h = refl
same_is phase.Active (Some phase.Active) h = refl
same_is phase.Inactive (Some phase.Inactive) h = refl
same_is p o h = absurd (cc)

-- what stands before a decision
stands_some : (s : Spec) (c : Trace) → s.kind ≡ kind.Kpa → WantsByPhase s c → unwrap_or (phase_of c) phase.Inactive ≡ phase.Activating → (wanted s c == 0) ≡ false
stands_some s c scaled wants h = wants scaled ∙ by (phase_of c) h
  where
    by : (o : Option Phase) → unwrap_or o phase.Inactive ≡ phase.Activating → is_in_phase phase.Inactive o ≡ false
    by (Some phase.Activating) h = refl
    by (Some phase.Active) h = refl
    by (Some phase.Inactive) h = absurd (cc)
    by None h = absurd (cc)

-- so does a settling
settling-wants : (s : Spec) (t : ℕ) (c : Trace) → WantsByPhase s c → WantsByPhase s (c ++ settling s t c)
unfolding settling held_assignments
settling-wants s t c wants =
    let ran = promotions t c (live_pods c) in
    let gave = assignments_of s t (c ++ ran) (held (c ++ ran)) in
    let gone = removals t ((c ++ ran) ++ gave) in
    let one = wants-each s is_run_row run_plain c ran (promotions-rows t c (live_pods c)) wants in
    let two = wants-each s is_assign assign_plain (c ++ ran) gave (assignments-rows s t (c ++ ran) (held (c ++ ran))) one in
    let three = wants-each s is_remove_row remove_plain ((c ++ ran) ++ gave) gone (removals-rows t ((c ++ ran) ++ gave)) two in
    subst (λ (d : Trace). WantsByPhase s d) (append_assoc (c ++ ran) gave gone ∙ append_assoc c ran (gave ++ gone) ∙ ap (λ (l : Trace). c ++ l) (sym (append_assoc ran gave gone))) three

nothing_wanted : (s : Spec) → wanted s [] ≡ opening_scale s
unfolding wanted
nothing_wanted s = refl

module _ (facts : Facts) where
  open facts use {entries.{phase_of-push, wanted-push}}

  -- ---- the rows of a decision

  -- after a decision's rows the two agree
  decision-wants : (s : Spec) (t : ℕ) (c : Trace) (made : Ruling) → RulesByPhase made → WantsByPhase s (c ++ decision_rows s t c made)
  unfolding decision_rows
  decision-wants s t c made rules scaled =
      rw (sym (append_assoc c (x ∷ []) ((p ++ m) ++ sc)))
      (rw (unwanted s (c ++ x ∷ []) ((p ++ m) ++ sc) tail, wanted-push s c x) (rules ∙ ap (λ (o : Option Phase). is_in_phase phase.Inactive o) (sym phases)))
    where
      bp : Bool
      bp = is_in_phase made.phase (phase_of c)

      x : Entry
      x = entry t (row.Decided made.decision)

      y : Entry
      y = entry t (row.Phase made.phase)

      p : Trace
      p = where_true (not bp) (y ∷ [])

      m : Trace
      m = where_true (not (is_same_mode made.decision.mode (mode_of c))) (entry t (row.Mode made.decision.mode) ∷ [])

      sc : Trace
      sc = where_true made.decision.applied (scale_rows s t c made.decision.want)

      tail : each_row decision_by ((p ++ m) ++ sc) ≡ []
      tail = rw (
        filter_map-append (λ (e : Entry). decision_by e.row) (p ++ m) sc,
        filter_map-append (λ (e : Entry). decision_by e.row) p m,
        where-none decision_by (not bp) y refl,
        where-none decision_by (not (is_same_mode made.decision.mode (mode_of c))) (entry t (row.Mode made.decision.mode)) refl,
        scale-none decision_by (λ p n. refl) (λ p. refl) made.decision.applied s t c made.decision.want,
      ) refl

      rest : each_row phase_by (m ++ sc) ≡ []
      rest = rw (
        filter_map-append (λ (e : Entry). phase_by e.row) m sc,
        where-none phase_by (not (is_same_mode made.decision.mode (mode_of c))) (entry t (row.Mode made.decision.mode)) refl,
        scale-none phase_by (λ p n. refl) (λ p. refl) made.decision.applied s t c made.decision.want,
      ) refl

      first : phase_of (c ++ x ∷ []) ≡ phase_of c
      first = phase_of-push c x

      here : (b : Bool) → is_in_phase made.phase (phase_of c) ≡ b → phase_of ((c ++ x ∷ []) ++ where_true (not b) (y ∷ [])) ≡ Some made.phase
      here true e = rw (append-nil (c ++ x ∷ [])) (first ∙ same_is made.phase (phase_of c) e)
      here false e = phase_of-push (c ++ x ∷ []) y

      phases : phase_of ((c ++ x ∷ []) ++ ((p ++ m) ++ sc)) ≡ Some made.phase
      phases =
          ap phase_of (ap (λ (l : Trace). (c ++ x ∷ []) ++ l) (append_assoc p m sc) ∙ sym (append_assoc (c ++ x ∷ []) p (m ++ sc)))
          ∙ unphased ((c ++ x ∷ []) ++ p) (m ++ sc) rest ∙ here bp refl

  -- a tick keeps it
  tick-wants : (s : Spec) (t : ℕ) (c : Trace) → s.kind ≡ kind.Kpa → WantsByPhase s c → WantsByPhase s (c ++ tick_rows s t c)
  unfolding tick_rows decision_at past_of standing_of scaling.decision_at
  tick-wants s t c scaled wants = by (window_average (past_of s c).samples s.stable_s (second_of t))
    where
      by : (o : Option Frac) → WantsByPhase s (c ++ tick_rows_of s t c (decision_from_stable s (past_of s c) t (count_ready c) o))
      by None = λ k. rw (unwanted s c (entry t row.NoData ∷ []) refl, unphased c (entry t row.NoData ∷ []) refl) (wants k)
      by (Some stable) = decision-wants s t c (ruling s (past_of s c) t (count_ready c) stable (unwrap_or (window_average (past_of s c).samples s.panic_s (second_of t)) no_load))
          (ruling_phase s (past_of s c) t (count_ready c) stable _ (stands_some s c scaled wants))

  -- so does a decision on an arrival
  wake-wants : (b : Bool) (s : Spec) (t : ℕ) (c : Trace) → s.kind ≡ kind.Kpa → WantsByPhase s c → WantsByPhase s (c ++ wake_where b s t c)
  unfolding wake_rows wake_decision_at past_of standing_of scaling.wake_decision_at
  wake-wants false s t c scaled wants = rw (append-nil c) wants
  wake-wants true s t c scaled wants = decision-wants s t c (ruling s (past_of s c) t (count_ready c) one_request one_request) (ruling_phase s (past_of s c) t (count_ready c) one_request one_request (stands_some s c scaled wants))

  scaler-wants : (k : Kind) (s : Spec) (t : ℕ) (c : Trace) (a : Act) (did : Option Row) → s.kind ≡ kind.Kpa → WantsByPhase s c → WantsByPhase s (c ++ scaler_rows k s t c a did)
  scaler-wants kind.Kpa s t c act.Tick did scaled wants = tick-wants s t c scaled wants
  scaler-wants kind.Kpa s t c (act.Arrive tag) (Some (row.Admit r g)) scaled wants = wake-wants (wanted s c == 0) s t c scaled wants
  scaler-wants k s t c a did scaled wants = rw (append-nil c) wants

  -- activating or active, some pod is wanted
  activation-wants : (s : Spec) (t : ℕ) (c : Trace) → WantsByPhase s c → WantsByPhase s (c ++ activation t c)
  unfolding activation
  activation-wants s t c wants scaled = by (is_in_phase phase.Activating (phase_of c)) refl (is_empty (ready_pods c))
    where
      x : Entry
      x = entry t (row.Phase phase.Active)

      apart : (o : Option Phase) → is_in_phase phase.Activating o ≡ true → is_in_phase phase.Inactive o ≡ false
      apart (Some phase.Activating) h = refl
      apart (Some phase.Active) h = absurd (cc)
      apart (Some phase.Inactive) h = absurd (cc)
      apart None h = absurd (cc)

      by : (a : Bool) → is_in_phase phase.Activating (phase_of c) ≡ a → (b : Bool)
          → (wanted s (c ++ where_true (a && not b) (x ∷ [])) == 0) ≡ is_in_phase phase.Inactive (phase_of (c ++ where_true (a && not b) (x ∷ [])))
      by false e b = rw (append-nil c) (wants scaled)
      by true e true = rw (append-nil c) (wants scaled)
      by true e false = rw (wanted-push s c x, phase_of-push c x) (wants scaled ∙ apart (phase_of c) e)

  -- so does an event
  pub react-wants : (s : Spec) (c : Trace) (e : Event) → WantsByPhase s c → WantsByPhase s (c ++ react s c e)
  unfolding react before_settling act_rows
  react-wants s c e wants scaled =
      let gone = departures s c e in
      let own = entries_of e.time (act_row s (c ++ gone) e.act) in
      let more = scaler_rows s.kind s e.time ((c ++ gone) ++ own) e.act (act_row s (c ++ gone) e.act) in
      let active = activation e.time ((c ++ gone) ++ (own ++ more)) in
      let first = (gone ++ (own ++ more)) ++ active in
      let one = wants-each s is_departure_row departure_plain c gone (departures-rows s c e) wants in
      let two = wants-each s is_act_row act_plain (c ++ gone) own (act-rows s e.time (c ++ gone) e.act) one in
      let three = scaler-wants s.kind s e.time ((c ++ gone) ++ own) e.act (act_row s (c ++ gone) e.act) scaled two in
      let four = activation-wants s e.time ((c ++ gone) ++ (own ++ more)) (subst (λ (d : Trace). WantsByPhase s d) (append_assoc (c ++ gone) own more) three) in
      let all : ((c ++ gone) ++ (own ++ more)) ++ active ≡ c ++ first = append_assoc (c ++ gone) (own ++ more) active ∙ append_assoc c gone ((own ++ more) ++ active) ∙ ap (λ (l : Trace). c ++ l) (sym (append_assoc gone (own ++ more) active)) in
      let five = settling-wants s e.time (c ++ first) (subst (λ (d : Trace). WantsByPhase s d) all four) in
      subst (λ (d : Trace). WantsByPhase s d) (append_assoc c first (settling s e.time (c ++ first))) five scaled

  -- it is so after the opening
  pub opening-wants : (s : Spec) (start : ℕ) → WantsByPhase s (opening s start)
  unfolding opening
  opening-wants s start scaled = by s.kind scaled
    where
      x : Entry
      x = entry start (row.Phase (opening_phase (opening_scale s)))

      new : Trace
      new = creations s start 0 (opening_scale s)

      first : (n : ℕ) → (n == 0) ≡ is_idle (opening_phase n)
      first zero = refl
      first (suc n) = false_from_ne_true (suc n == 0) (λ h. let e : suc n ≡ 0 = eqb-true (suc n) 0 h in absurd (omega arith))

      by : (k : Kind) → k ≡ kind.Kpa → (wanted s (opening_of k s start) == 0) ≡ is_in_phase phase.Inactive (phase_of (opening_of k s start))
      by kind.Kpa h =
          rw (unwanted s (x ∷ []) new (made-none decision_by (λ p n. refl) s start (range_with_len 0 (opening_scale s))), unphased (x ∷ []) new (made-none phase_by (λ p n. refl) s start (range_with_len 0 (opening_scale s))))
          (rw (wanted-push s [] x, phase_of-push [] x, nothing_wanted s) (first (opening_scale s)))
      by (kind.Fixed n) h = absurd (cc)

  wants_added : (s : Spec) (c : Trace) (es : List Event) → WantsByPhase s c → WantsByPhase s (c ++ added s c es)
  unfolding added
  wants_added s c [] wants = rw (append-nil c) wants
  wants_added s c (e ∷ es) wants = rw (append_assoc c (react s c e) (added s (c ++ react s c e) es)) at (wants_added s (c ++ react s c e) es (react-wants s c e wants))

  -- so after each event of a run
  pub wants_trace : (s : Spec) (start : ℕ) (es : List Event) → WantsByPhase s (trace_of s start es)
  unfolding trace_of
  wants_trace s start es = wants_added s (opening s start) es (opening-wants s start)

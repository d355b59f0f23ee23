-- The rows of a decision, of the phase and of the opening are proper.
use Rattle.std.proofs.Common.{◌≡◌, ℕ, ◌+◌, ◌-◌, ◌≤◌, Bool, true, false, not, cond, ◌&&◌, ◌||◌, List, [], ◌∷◌, ◌++◌, length, reverse, take, map, nat_lt, zero, suc, refl, sym, ap, ◌∙◌, arith, append-nil, append_assoc}
use Rattle.std.specs.Prelude.{Option, None, Some, ◌==◌, unwrap_or, ◌*◌}
use Rattle.std.proofs.lemmas.List.{reverse-append}
use Rattle.std.proofs.lemmas.Bool.{eq-eqb, false_from_ne_true, or_right}
use Rattle.kn_event.specs.declared.entry.Entry.{Entry}
use Rattle.kn_event.specs.declared.entry.Row.{Row}
use Rattle.kn_event.specs.declared.entry.Row.TheVariants as row
use Rattle.kn_event.specs.declared.entry.Phase.{Phase}
use Rattle.kn_event.specs.declared.entry.Phase.TheVariants as phase
use Rattle.kn_event.specs.declared.event.Act.{Act}
use Rattle.kn_event.specs.declared.event.Act.TheVariants as act
use Rattle.kn_event.specs.declared.revision.Kind.{Kind}
use Rattle.kn_event.specs.declared.revision.Kind.TheVariants as kind
use Rattle.kn_event.specs.declared.revision.Spec.{Spec}
use Rattle.kn_event.specs.declared.units.Frac.{Frac}
use Rattle.kn_event.specs.Revision.{AreInRange}
use Rattle.kn_event.specs.Lists.{contains}
use Rattle.kn_scaling.specs.Average.{window_average, second_of}
use Rattle.kn_scaling.specs.Decide.{Past, Ruling, decision_from_stable, no_load, one_request, ruling}
use Rattle.kn_scaling.specs.Decide as scaling
use Rattle.kn_scaling.specs.declared.zero.Standing.{Standing}
use Rattle.kn_scaling.specs.Zero.{bounded_count, has_lasted, no_pods, opening_phase, pods_most, some_pods, zero_rule, zero_rule_in}
use Rattle.kn_scaling.specs.Burst.{is_same_mode}
use Rattle.kn_trace.specs.Rows.{created_by, drained_by, readied_by, gone_by}
use Rattle.kn_trace.specs.Trace.{Trace, entry, created, each_row, is_empty, is_live_pod, is_ready, is_starting, ready_pods, starting_pods}
use Rattle.kn_trace.specs.Scale.{count_ready, creations, decision_at, decision_rows, drain_order, is_in_phase, mode_of, opening_scale, past_of, phase_of, scale_rows, standing_of, tick_rows, tick_rows_of, wake_decision_at, wake_rows, wanted, where_true}
use Rattle.kn_trace.specs.Events.{act_row, act_rows, activation, entries_of, opening, opening_of, scaler_rows, wake_where}
use Rattle.kn_record.specs.Made.{AreDistinct, ArePodsNumbered, Holds, IsMade, IsProper}
use Rattle.kn_record.specs.Rows.{SaysNoPod}
use Rattle.kn_record.specs.Kept.{Kept, IsCleared}
use Rattle.kn_record.proofs.Flags.{created-push}
use Rattle.kn_record.proofs.Members.{contains-append, contains-filter, distinct-filter, distinct-push}
use Rattle.kn_record.proofs.Numbers.{filter_member}
use Rattle.kn_record.proofs.PodNumbers.{ArePodsNumbered-push, contains-reverse, next_unnamed_pod, proper_keeps_pods}
use Rattle.kn_record.proofs.PodSteps.{drain_order-create, drain_order-drain, drain_order-quiet, says_no_pod}
use Rattle.kn_record.proofs.Kept.{Holds-append, Holds-kept, Kept-push}
use Rattle.kn_record.proofs.Reacting.{act-holds, apart_from}

-- ---- lists

-- two distinct lists without a number in common
pub distinct-append : (xs ys : List ℕ) → AreDistinct xs → AreDistinct ys → ((r : ℕ) → contains r xs ≡ true → contains r ys ≡ false) → AreDistinct (xs ++ ys)
distinct-append [] ys d e apart = e
distinct-append (x ∷ xs) ys d e apart = (
  rw (contains-append x xs ys, d.0) (apart x (rw (eq-eqb x x refl) refl)),
  distinct-append xs ys d.1 e (λ r h. apart r (or_right (x == r) (contains r xs) h)),
)

pub distinct-reverse : (xs : List ℕ) → AreDistinct xs → AreDistinct (reverse xs)
distinct-reverse [] d = tt
distinct-reverse (x ∷ xs) d = rw (reverse-append (x ∷ []) xs) (distinct-push (reverse xs) x (distinct-reverse xs d.1) (contains-reverse x xs ∙ d.0))

pub contains-take : (n r : ℕ) (xs : List ℕ) → contains r (take n xs) ≡ true → contains r xs ≡ true
contains-take zero r xs h = absurd (cc)
contains-take (suc n) r [] h = h
contains-take (suc n) r (x ∷ xs) h = by (x == r) h (λ k. contains-take n r xs k)
  where
    by : (b : Bool) → (b || contains r (take n xs)) ≡ true → (contains r (take n xs) ≡ true → contains r xs ≡ true) → (b || contains r xs) ≡ true
    by true h rest = refl
    by false h rest = rest h

pub distinct-take : (n : ℕ) (xs : List ℕ) → AreDistinct xs → AreDistinct (take n xs)
distinct-take zero xs d = tt
distinct-take (suc n) [] d = tt
distinct-take (suc n) (x ∷ xs) d = (false_from_ne_true (contains x (take n xs)) (λ h. let found = contains-take n x xs h in let apart = d.0 in absurd (cc)), distinct-take n xs d.1)

-- ---- the pods that do not drain

-- a starting pod isn't Ready
starting_or_ready : (c : Trace) (p : ℕ) → contains p (starting_pods c) ≡ true → contains p (ready_pods c) ≡ false
unfolding starting_pods ready_pods is_starting is_ready is_live_pod
starting_or_ready c p h =
    let both = filter_member (is_starting c) p (each_row created_by c) h in
    contains-filter (is_ready c) p (each_row created_by c) ∙ by (contains p (each_row created_by c)) (contains p (each_row readied_by c)) (not (contains p (each_row drained_by c))) (not (contains p (each_row gone_by c))) both.1
  where
    by : (a x d g : Bool) → (not x && d && g) ≡ true → (a && (x && d && g)) ≡ false
    by true true d g h = absurd (cc)
    by true false d g h = refl
    by false x d g h = refl

-- each pod stands once in the order of draining
pub drain_order_distinct : (c : Trace) → ArePodsNumbered c → AreDistinct (drain_order c)
unfolding drain_order starting_pods ready_pods
drain_order_distinct c num =
    distinct-append (reverse (starting_pods c)) (reverse (ready_pods c)) (distinct-reverse (starting_pods c) (distinct-filter (is_starting c) (each_row created_by c) num.once)) (distinct-reverse (ready_pods c) (distinct-filter (is_ready c) (each_row created_by c) num.once))
    (λ r h. contains-reverse r (ready_pods c) ∙ starting_or_ready c r (sym (contains-reverse r (starting_pods c)) ∙ h))

-- ---- the rows of a scale

-- new pods take the next numbers, and there is room for them
pub creations-hold : (s : Spec) (t : ℕ) (c : Trace) (i k : ℕ) → ArePodsNumbered c → created c ≡ i → (AreInRange s → length (drain_order c) + k ≤ pods_most) → Holds (IsProper s) c (creations s t i k)
creations-hold s t c i zero num e room = tt
creations-hold s t c i (suc k) num e room = (
  one,
  creations-hold s t (c ++ x ∷ []) (i + 1) k (ArePodsNumbered-push c x num (proper_keeps_pods s c x.row num one)) (created-push c x ∙ ap (λ (m : ℕ). m + 1) e)
      (λ ranges. let a = room ranges in let b = drain_order-create c t i s.cc (rw (← e) (next_unnamed_pod c num)) in omega arith),
)
  where
    x : Entry
    x = entry t (row.Create i s.cc)

    one : IsProper s c (row.Create i s.cc)
    one = (sym e, λ ranges. let a = room ranges in omega arith)

-- who drains has not drained before
drains-hold : (s : Spec) (t : ℕ) (c : Trace) (ps : List ℕ) → AreDistinct ps → ((p : ℕ) → contains p ps ≡ true → contains p (drain_order c) ≡ true) → Holds (IsProper s) c (map (λ p. entry t (row.Drain p)) ps)
drains-hold s t c [] d all = tt
drains-hold s t c (p ∷ ps) d all = (
  all p (rw (eq-eqb p p refl) refl),
  drains-hold s t (c ++ entry t (row.Drain p) ∷ []) ps d.1 (λ q h. drain_order-drain c t p q ∙ rw (all q (or_right (p == q) (contains q ps) h)) (apart_from p q ps d.0 h)),
)

-- the same pods as at c, at a trace d that has grown without a row on pods
pub scale-hold : (s : Spec) (t : ℕ) (c d : Trace) (want : ℕ) → ArePodsNumbered d → created d ≡ created c → drain_order d ≡ drain_order c → (AreInRange s → want ≤ pods_most) → Holds (IsProper s) d (scale_rows s t c want)
unfolding scale_rows
scale-hold s t c d want num made standing few = by (want - n) refl
  where
    n : ℕ
    n = length (drain_order c)

    by : (k : ℕ) → want - n ≡ k → Holds (IsProper s) d (creations s t (created c) k ++ map (λ p. entry t (row.Drain p)) (take (n - want) (drain_order c)))
    by zero e = drains-hold s t d (take (n - want) (drain_order c)) (distinct-take (n - want) (drain_order c) (rw standing at (drain_order_distinct d num))) (λ p h. rw standing (contains-take (n - want) p (drain_order c) h))
    by (suc k) e =
        let none : n - want ≡ 0 = omega arith in
        let some : n + suc k ≡ want = omega arith in
        Holds-append (IsProper s) d (creations s t (created c) (suc k)) (map (λ p. entry t (row.Drain p)) (take (n - want) (drain_order c)))
        (creations-hold s t d (created c) (suc k) num made (λ ranges. let few_pods = few ranges in rw standing (omega arith)))
        (rw none tt)

-- ---- no decision wants more pods than a revision may have

-- the bounds end at 500
bounds_few : (s : Spec) (reached : Bool) (count : ℕ) → bounded_count s reached count ≤ pods_most
unfolding bounded_count
bounds_few s reached count = omega arith

zero_in_few : (s : Spec) (time ready : ℕ) (standing : Standing) → standing.want ≤ pods_most → (p : Phase) → (zero_rule_in p s time ready standing).want ≤ pods_most
zero_in_few s time ready standing few phase.Activating = few
zero_in_few s time ready standing few phase.Active = by (has_lasted standing.phase_since (1000 * s.stable_s) time)
  where
    by : (b : Bool) → (cond b (no_pods false) (some_pods ready 1)).want ≤ pods_most
    by true = omega arith
    by false = omega arith
zero_in_few s time ready standing few phase.Inactive = omega arith

-- so does the rule of zero, if no more were wanted before
zero_few : (s : Spec) (time ready bounded : ℕ) (standing : Standing) → bounded ≤ pods_most → standing.want ≤ pods_most → (zero_rule s time ready bounded standing).want ≤ pods_most
unfolding zero_rule
zero_few s time ready bounded standing few kept = by (nat_lt 0 bounded) s.to_zero
  where
    by : (some to_zero : Bool) → (cond some (some_pods ready bounded) (cond to_zero (zero_rule_in standing.phase s time ready standing) (some_pods ready 1))).want ≤ pods_most
    by true z = few
    by false true = zero_in_few s time ready standing kept standing.phase
    by false false = omega arith

pub ruling_few : (s : Spec) (past : Past) (time ready : ℕ) (stable panic : Frac) → past.standing.want ≤ pods_most → (ruling s past time ready stable panic).decision.want ≤ pods_most
unfolding ruling
ruling_few s past time ready stable panic kept = zero_few s time ready _ past.standing (bounds_few s past.reached _) kept

-- ---- the rows of a decision

quiet-hold : (s : Spec) (t : ℕ) (c : Trace) (b : Bool) (x : Row) → IsProper s c x → Holds (IsProper s) c (where_true b (entry t x ∷ []))
quiet-hold s t c false x h = tt
quiet-hold s t c true x h = (h, tt)

-- at d are the pods of c
abbrev pub SamePods : Trace → Trace → Type 0
SamePods c d = (created d ≡ created c) × (drain_order d ≡ drain_order c)

same_pods : (c d : Trace) (e : Entry) → SamePods c d → SaysNoPod e.row → SamePods c (d ++ e ∷ [])
same_pods c d e same none = (created-push d e ∙ rw none.created (omega arith), drain_order-quiet d e none ∙ same.1)

same_where : (c d : Trace) (b : Bool) (t : ℕ) (x : Row) → SamePods c d → SaysNoPod x → SamePods c (d ++ where_true b (entry t x ∷ []))
same_where c d false t x same none = rw (append-nil d) same
same_where c d true t x same none = same_pods c d (entry t x) same none

-- the rows of a decision are proper
pub decision-holds : (s : Spec) (t : ℕ) (c : Trace) (made : Ruling) → Kept s c → (AreInRange s → made.decision.want ≤ pods_most) → Holds (IsProper s) c (decision_rows s t c made)
unfolding decision_rows
decision-holds s t c made kept few =
    let one : IsProper s c (row.Decided made.decision) = few in
    let x = entry t (row.Decided made.decision) in
    let p = where_true (not (is_in_phase made.phase (phase_of c))) (entry t (row.Phase made.phase) ∷ []) in
    let m = where_true (not (is_same_mode made.decision.mode (mode_of c))) (entry t (row.Mode made.decision.mode) ∷ []) in
    let c1 = c ++ x ∷ [] in
    let c2 = c1 ++ p in
    let c3 = c2 ++ m in
    let kept1 = Kept-push s c x kept one in
    let two = quiet-hold s t c1 (not (is_in_phase made.phase (phase_of c))) (row.Phase made.phase) tt in
    let kept2 = Holds-kept s c1 p kept1 two in
    let three = quiet-hold s t c2 (not (is_same_mode made.decision.mode (mode_of c))) (row.Mode made.decision.mode) tt in
    let kept3 = Holds-kept s c2 m kept2 three in
    let same1 = same_pods c c x (refl, refl) (says_no_pod (row.Decided made.decision) refl) in
    let same2 = same_where c c1 (not (is_in_phase made.phase (phase_of c))) t (row.Phase made.phase) same1 (says_no_pod (row.Phase made.phase) refl) in
    let same3 = same_where c c2 (not (is_same_mode made.decision.mode (mode_of c))) t (row.Mode made.decision.mode) same2 (says_no_pod (row.Mode made.decision.mode) refl) in (
      one,
      Holds-append (IsProper s) c1 (p ++ m) (where_true made.decision.applied (scale_rows s t c made.decision.want)) (Holds-append (IsProper s) c1 p m two three)
          (rw (← append_assoc c1 p m) (pods-hold made.decision.applied c3 kept3 same3)),
    )
  where
    pods-hold : (b : Bool) (d : Trace) → Kept s d → SamePods c d → Holds (IsProper s) d (where_true b (scale_rows s t c made.decision.want))
    pods-hold false d kept same = tt
    pods-hold true d kept same = scale-hold s t c d made.decision.want kept.pods same.0 same.1 few

-- those of a tick are
pub tick-holds : (s : Spec) (t : ℕ) (c : Trace) → Kept s c → Holds (IsProper s) c (tick_rows s t c)
unfolding tick_rows decision_at past_of standing_of scaling.decision_at
tick-holds s t c kept = by (window_average (past_of s c).samples s.stable_s (second_of t))
  where
    by : (o : Option Frac) → Holds (IsProper s) c (tick_rows_of s t c (decision_from_stable s (past_of s c) t (count_ready c) o))
    by None = (tt, tt)
    by (Some stable) = decision-holds s t c (ruling s (past_of s c) t (count_ready c) stable (unwrap_or (window_average (past_of s c).samples s.panic_s (second_of t)) no_load)) kept
        (λ ranges. ruling_few s (past_of s c) t (count_ready c) stable _ (kept.wants ranges))

-- those of a decision on an arrival are
wake-holds : (s : Spec) (t : ℕ) (c : Trace) → Kept s c → Holds (IsProper s) c (wake_rows s t c)
unfolding wake_rows wake_decision_at past_of standing_of scaling.wake_decision_at
wake-holds s t c kept =
    decision-holds s t c (ruling s (past_of s c) t (count_ready c) one_request one_request) kept (λ ranges. ruling_few s (past_of s c) t (count_ready c) one_request one_request (kept.wants ranges))

pub wake_where-holds : (b : Bool) (s : Spec) (t : ℕ) (c : Trace) → Kept s c → Holds (IsProper s) c (wake_where b s t c)
wake_where-holds false s t c kept = tt
wake_where-holds true s t c kept = wake-holds s t c kept

pub scaler-holds : (k : Kind) (s : Spec) (t : ℕ) (c : Trace) (a : Act) (did : Option Row) → Kept s c → Holds (IsProper s) c (scaler_rows k s t c a did)
scaler-holds kind.Kpa s t c act.Tick did kept = tick-holds s t c kept
scaler-holds kind.Kpa s t c (act.Arrive tag) (Some (row.Admit r g)) kept = wake_where-holds (wanted s c == 0) s t c kept
scaler-holds k s t c a did kept = tt

-- the act's row and what the autoscaler adds to it
pub acts-hold : (s : Spec) (t : ℕ) (c : Trace) (a : Act) → Kept s c → IsCleared c a → Holds (IsProper s) c (act_rows s t c a)
unfolding act_rows
acts-hold s t c a kept clear =
    let did = entries_of t (act_row s c a) in
    let one = act-holds s t c a clear in
    Holds-append (IsProper s) c did _ one (scaler-holds s.kind s t (c ++ did) a (act_row s c a) (Holds-kept s c did kept one))

-- the activation is
pub activation-holds : (s : Spec) (t : ℕ) (c : Trace) → Holds (IsProper s) c (activation t c)
unfolding activation
activation-holds s t c = quiet-hold s t c (is_in_phase phase.Activating (phase_of c) && not (is_empty (ready_pods c))) (row.Phase phase.Active) tt

-- ---- the opening

nothing_created : created [] ≡ 0
unfolding created
nothing_created = refl

nothing_stands : length (drain_order []) ≡ 0
unfolding drain_order starting_pods ready_pods
nothing_stands = refl

no_pods_numbered : ArePodsNumbered []
unfolding created
no_pods_numbered = record { come = λ p h. absurd (cc); once = tt }

-- the opening was made
pub made_opening : (s : Spec) (start : ℕ) → IsMade s (opening s start)
unfolding opening
made_opening s start = record { rows = by s.kind refl }
  where
    few : AreInRange s → opening_scale s ≤ pods_most
    few ranges = let a = ranges.initial in let b = ranges.min in omega arith

    x : Entry
    x = entry start (row.Phase (opening_phase (opening_scale s)))

    none : SaysNoPod x.row
    none = says_no_pod (row.Phase (opening_phase (opening_scale s))) refl

    by : (k : Kind) → s.kind ≡ k → Holds (IsProper s) [] (opening_of k s start)
    by (kind.Fixed n) e = creations-hold s start [] 0 n no_pods_numbered nothing_created (λ ranges. let a = ranges.pods n e in let b = nothing_stands in omega arith)
    by kind.Kpa e = (
      tt,
      creations-hold s start (x ∷ []) 0 (opening_scale s) (ArePodsNumbered-push [] x no_pods_numbered (proper_keeps_pods s [] x.row no_pods_numbered tt))
          (created-push [] x ∙ rw (nothing_created) refl) (λ ranges. let a = few ranges in let b = nothing_stands in rw (drain_order-quiet [] x none) (omega arith)),
    )

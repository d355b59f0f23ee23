-- Each row of a trace that events made, by the trace before it.
use Rattle.std.proofs.Common.{◌≡◌, refl, sym, ap, ◌∙◌, subst, inl, inr, ℕ, ◌-◌, ◌%◌, Bool, true, false, not, nat_le, List, [], ◌∷◌, ◌++◌, length, map, take, append_assoc, append-nil, Option, None, Some}
use Rattle.std.specs.Prelude.{◌==◌, ◌&&◌, ◌⊎◌, unwrap_or, slice_index, if◌then◌else◌}
use Rattle.std.specs.List.{range_with_len}
use Rattle.std.proofs.lemmas.Bool.{eqb-true}
use Rattle.kn_event.specs.declared.entry.Decision.{Decision}
use Rattle.kn_event.specs.declared.entry.Entry.{Entry}
use Rattle.kn_event.specs.declared.entry.Mode.{Mode}
use Rattle.kn_event.specs.declared.entry.Mode.TheVariants as mode
use Rattle.kn_event.specs.declared.entry.Phase.{Phase}
use Rattle.kn_event.specs.declared.entry.Phase.TheVariants as phase
use Rattle.kn_event.specs.declared.entry.Row.{Row}
use Rattle.kn_event.specs.declared.entry.Row.TheVariants as row
use Rattle.kn_event.specs.declared.event.Act.{Act}
use Rattle.kn_event.specs.declared.event.Act.TheVariants as act
use Rattle.kn_event.specs.declared.event.Event.{Event}
use Rattle.kn_event.specs.declared.revision.Kind.{Kind}
use Rattle.kn_event.specs.declared.revision.Kind.TheVariants as kind
use Rattle.kn_event.specs.declared.revision.Spec.{Spec}
use Rattle.kn_event.specs.Lists.{contains}
use Rattle.kn_scaling.specs.Burst.{is_same_mode}
use Rattle.kn_scaling.specs.Decide.{Ruling}
use Rattle.kn_scaling.specs.Zero.{opening_phase}
use Rattle.kn_trace.specs.Capacity.{breaker_full, pod_full}
use Rattle.kn_trace.specs.Events.{act_row, act_rows, activation, added, admission_row, arrival_row, before_settling, departures, direct_row, entries_of, live_most, opening, opening_of, react, scaler_rows, trace_of, wake_where}
use Rattle.kn_trace.specs.Rows.{decision_by, phase_by}
use Rattle.kn_trace.specs.Scale.{creations, decision_at, decision_rows, drain_order, is_in_phase, mode_of, opening_scale, phase_of, scale_rows, tick_rows, tick_rows_of, wake_decision_at, wake_rows, wanted, where_true}
use Rattle.kn_trace.specs.Settling.{assignments_of, held_assignments, promotions, removals, settling}
use Rattle.kn_trace.specs.Trace.{Trace, arrivals, created, direct_turn, each_row, entry, held, is_running, is_starting, last_of, live, live_pods, ready_pods, waiting}
use Rattle.kn_trace.specs.Report.{is_assign}
use Rattle.kn_laws.specs.Facts.{PartFacts}
use Rattle.kn_laws.specs.Kinds.{Each, is_departure_row, is_remove_row, is_run_row}
use Rattle.kn_show_reasons.specs.Runs.{IsByPast, Wakes, comes_to_breaker, names_breaker, notice_at}

-- what is shown of a row: a decision is one of a scaled revision, by the past of the trace before it
pub record IsTold (s : Spec) (c : Trace) (t : ℕ) (y : Row) : Type 0 where
  pub decided : (d : Decision) → decision_by y ≡ Some d → (s.kind ≡ kind.Kpa) × IsByPast s c t d
  pub breaker : names_breaker (notice_at s c t y) ≡ (comes_to_breaker y && breaker_full s c)

-- of each of these rows, by the trace before it
abbrev EachRow : Spec → Trace → Trace → Type 0
EachRow s c [] = Unit {0}
EachRow s c (x ∷ xs) = IsTold s c x.time x.row × EachRow s (c ++ x ∷ []) xs

each_append : (s : Spec) (c xs ys : Trace) → EachRow s c xs → EachRow s (c ++ xs) ys → EachRow s c (xs ++ ys)
each_append s c [] ys h k = subst (λ (d : Trace). EachRow s d ys) (append-nil c) k
each_append s c (x ∷ xs) ys h k = (h.0, each_append s (c ++ x ∷ []) xs ys h.1 (subst (λ (d : Trace). EachRow s d ys) (sym (append_assoc c (x ∷ []) xs)) k))

each_at : (s : Spec) (c xs before rest : Trace) (x : Entry) → EachRow s c xs → xs ≡ before ++ x ∷ rest → IsTold s (c ++ before) x.time x.row
each_at s c xs [] rest x h is =
    let all : EachRow s c (x ∷ rest) = subst (EachRow s c) is h in
    subst (λ (d : Trace). IsTold s d x.time x.row) (sym (append-nil c)) all.0
each_at s c xs (y ∷ before) rest x h is =
    let all : EachRow s c (y ∷ (before ++ x ∷ rest)) = subst (EachRow s c) is h in
    subst (λ (d : Trace). IsTold s d x.time x.row) (append_assoc c (y ∷ []) before) (each_at s (c ++ y ∷ []) (before ++ x ∷ rest) before rest x all.1 refl)

-- ---- rows of other kinds

abbrev is_quiet : Row → Bool
is_quiet (row.Decided d) = false
is_quiet (row.Admit r tag) = false
is_quiet (row.QueueFull r pod) = false
is_quiet _ = true

quiet_told : (s : Spec) (c : Trace) (t : ℕ) (y : Row) → is_quiet y ≡ true → IsTold s c t y
quiet_told s c t (row.Decided d) h = absurd (cc)
quiet_told s c t (row.Admit r tag) h = absurd (cc)
quiet_told s c t (row.QueueFull r pod) h = absurd (cc)
quiet_told s c t _ h = record { decided = λ d is. absurd (cc); breaker = refl }

each_quiet : (s : Spec) (c xs : Trace) → Each is_quiet xs → EachRow s c xs
each_quiet s c [] h = tt
each_quiet s c (x ∷ xs) h = (quiet_told s c x.time x.row h.0, each_quiet s (c ++ x ∷ []) xs h.1)

quiet_by : (p : Row → Bool) → ((d : Decision) → p (row.Decided d) ≡ false) → ((r tag : ℕ) → p (row.Admit r tag) ≡ false) → ((r : ℕ) (pod : Option ℕ) → p (row.QueueFull r pod) ≡ false) → (x : Row) → p x ≡ true → is_quiet x ≡ true
quiet_by p decided admitted full (row.Decided d) h = absurd (let e : false ≡ true = sym (decided d) ∙ h in cc)
quiet_by p decided admitted full (row.Admit r tag) h = absurd (let e : false ≡ true = sym (admitted r tag) ∙ h in cc)
quiet_by p decided admitted full (row.QueueFull r pod) h = absurd (let e : false ≡ true = sym (full r pod) ∙ h in cc)
quiet_by p decided admitted full _ h = refl

quiet_map : (t : ℕ) (f : ℕ → Row) → ((p : ℕ) → is_quiet (f p) ≡ true) → (ps : List ℕ) → Each is_quiet (map (λ p. entry t (f p)) ps)
quiet_map t f quiet [] = tt
quiet_map t f quiet (p ∷ ps) = (quiet p, quiet_map t f quiet ps)

quiet_where : (b : Bool) (es : Trace) → Each is_quiet es → Each is_quiet (where_true b es)
quiet_where false es h = tt
quiet_where true es h = h

either_told : (s : Spec) (c : Trace) (t : ℕ) (b : Bool) (x y : Row) → IsTold s c t x → IsTold s c t y → IsTold s c t (if b then x else y)
either_told s c t true x y h k = h
either_told s c t false x y h k = k

-- ---- the act's own row

full_told : (s : Spec) (c : Trace) (t r : ℕ) → breaker_full s c ≡ true → IsTold s c t (row.QueueFull r None)
full_told s c t r full = record { decided = λ d is. absurd (cc); breaker = sym full }

admit_told : (s : Spec) (c : Trace) (t r tag : ℕ) → breaker_full s c ≡ false → IsTold s c t (row.Admit r tag)
admit_told s c t r tag free = record { decided = λ d is. absurd (cc); breaker = sym free }

pod_full_told : (s : Spec) (c : Trace) (t r p : ℕ) → IsTold s c t (row.QueueFull r (Some p))
pod_full_told s c t r p = record { decided = λ d is. absurd (cc); breaker = refl }

admission_told : (s : Spec) (c : Trace) (t tag : ℕ) → IsTold s c t (admission_row s c tag)
admission_told s c t tag = by (breaker_full s c) refl
  where
    by : (b : Bool) → breaker_full s c ≡ b → IsTold s c t (if b then row.QueueFull (arrivals c) None else row.Admit (arrivals c) tag)
    by true full = full_told s c t (arrivals c) full
    by false free = admit_told s c t (arrivals c) tag free

direct_told : (s : Spec) (c : Trace) (t : ℕ) (ready : List ℕ) → IsTold s c t (direct_row c ready)
direct_told s c t ready =
    let p = slice_index ready (direct_turn c % length ready) in
    either_told s c t (pod_full c p) (row.QueueFull (arrivals c) (Some p)) (row.Direct (arrivals c) p) (pod_full_told s c t (arrivals c) p) (quiet_told s c t (row.Direct (arrivals c) p) refl)

arrival_told : (m : Mode) (s : Spec) (c : Trace) (t : ℕ) (ready : List ℕ) (tag : ℕ) → IsTold s c t (arrival_row m s c ready tag)
arrival_told mode.Serve s c t (p ∷ ps) tag = direct_told s c t (p ∷ ps)
arrival_told mode.Serve s c t [] tag = admission_told s c t tag
arrival_told mode.Proxy s c t ready tag = admission_told s c t tag

own_told : (s : Spec) (c : Trace) (t : ℕ) (a : Act) → EachRow s c (entries_of t (act_row s c a))
unfolding act_row
own_told s c t (act.Arrive tag) = (
  either_told s c t (nat_le live_most (length (live c))) (row.Overload (arrivals c)) (arrival_row (mode_of c) s c (ready_pods c) tag)
      (quiet_told s c t (row.Overload (arrivals c)) refl) (arrival_told (mode_of c) s c t (ready_pods c) tag),
  tt,
)
own_told s c t (act.Finish r ok) = (either_told s c t (is_running c r) (row.Finish r ok) (row.NotRunning r) (quiet_told s c t (row.Finish r ok) refl) (quiet_told s c t (row.NotRunning r) refl), tt)
own_told s c t (act.Cancel r) = (either_told s c t (contains r (waiting c)) (row.Cancel r) (row.NotWaiting r) (quiet_told s c t (row.Cancel r) refl) (quiet_told s c t (row.NotWaiting r) refl), tt)
own_told s c t act.Pass = tt
own_told s c t (act.Ready p) = (
  either_told s c t (contains p (live_pods c)) (if is_starting c p then row.Ready p else row.NotStarting p) (row.NoPod p)
      (either_told s c t (is_starting c p) (row.Ready p) (row.NotStarting p) (quiet_told s c t (row.Ready p) refl) (quiet_told s c t (row.NotStarting p) refl)) (quiet_told s c t (row.NoPod p) refl),
  tt,
)
own_told s c t (act.Limit p n) = (either_told s c t (contains p (live_pods c)) (row.Limit p n) (row.NoPod p) (quiet_told s c t (row.Limit p n) refl) (quiet_told s c t (row.NoPod p) refl), tt)
own_told s c t (act.Lost p) = (either_told s c t (contains p (live_pods c)) (row.LostPod p) (row.NoPod p) (quiet_told s c t (row.LostPod p) refl) (quiet_told s c t (row.NoPod p) refl), tt)
own_told s c t act.Tick = tt

-- ---- what the autoscaler adds

some_same : (x y : Decision) → Some x ≡ Some y → x ≡ y
some_same x y e = cc

abbrev IsWay : Spec → Trace → ℕ → Ruling → Type 0
IsWay s c t made = (decision_at s c t ≡ Some made) ⊎ (Wakes s c t × (wake_decision_at s c t ≡ made))

-- the trace ends with this row, if there is one
abbrev EndsWith : Trace → ℕ → Option Row → Type 0
EndsWith c t did = (x : Row) → did ≡ Some x → last_of c ≡ Some (entry t x)

last_push : (c : Trace) (x : Entry) → last_of (c ++ x ∷ []) ≡ Some x
last_push [] x = refl
last_push (y ∷ c) x = ap (λ (o : Option Entry). Some (unwrap_or o y)) (last_push c x)

ends_with : (c : Trace) (t : ℕ) (did : Option Row) → EndsWith (c ++ entries_of t did) t did
ends_with c t None x is = absurd (cc)
ends_with c t (Some y) x is = let same : y ≡ x = cc in last_push c (entry t y) ∙ ap (λ (z : Row). Some (entry t z)) same

decided_told : (s : Spec) (t : ℕ) (c : Trace) (made : Ruling) → s.kind ≡ kind.Kpa → IsWay s c t made → IsTold s c t (row.Decided made.decision)
decided_told s t c made scaled way = record { decided = λ d is. (scaled, record { made = made; way = way; same = some_same made.decision d is }); breaker = refl }

module _ (facts : PartFacts) where
  open facts use {each.{Each-append, Each-weaken}, rows.{assignments-rows, departures-rows, promotions-rows, removals-rows}}

  decision_each : (s : Spec) (t : ℕ) (c : Trace) (made : Ruling) → s.kind ≡ kind.Kpa → IsWay s c t made → EachRow s c (decision_rows s t c made)
  unfolding decision_rows scale_rows
  decision_each s t c made scaled way =
      let n = length (drain_order c) in
      let p = where_true (not (is_in_phase made.phase (phase_of c))) (entry t (row.Phase made.phase) ∷ []) in
      let m = where_true (not (is_same_mode made.decision.mode (mode_of c))) (entry t (row.Mode made.decision.mode) ∷ []) in
      let new = creations s t (created c) (made.decision.want - n) in
      let old = map (λ q. entry t (row.Drain q)) (take (n - made.decision.want) (drain_order c)) in
      let one : Each is_quiet (entry t (row.Phase made.phase) ∷ []) = (refl, tt) in
      let two : Each is_quiet (entry t (row.Mode made.decision.mode) ∷ []) = (refl, tt) in (
        decided_told s t c made scaled way,
        each_quiet s (c ++ entry t (row.Decided made.decision) ∷ []) ((p ++ m) ++ where_true made.decision.applied (new ++ old))
            (Each-append is_quiet (p ++ m) (where_true made.decision.applied (new ++ old))
            (Each-append is_quiet p m (quiet_where (not (is_in_phase made.phase (phase_of c))) (entry t (row.Phase made.phase) ∷ []) one)
            (quiet_where (not (is_same_mode made.decision.mode (mode_of c))) (entry t (row.Mode made.decision.mode) ∷ []) two))
            (quiet_where made.decision.applied (new ++ old) (Each-append is_quiet new old (quiet_map t (λ q. row.Create q s.cc) (λ q. refl) (range_with_len (created c) (made.decision.want - n)))
            (quiet_map t row.Drain (λ q. refl) (take (n - made.decision.want) (drain_order c)))))),
      )

  scaler_each : (k : Kind) (s : Spec) (t : ℕ) (c : Trace) (a : Act) (did : Option Row) → s.kind ≡ k → EndsWith c t did → EachRow s c (scaler_rows k s t c a did)
  unfolding tick_rows wake_rows
  scaler_each kind.Kpa s t c act.Tick did scaled ends = by (decision_at s c t) refl
    where
      by : (o : Option Ruling) → decision_at s c t ≡ o → EachRow s c (tick_rows_of s t c o)
      by None is = (quiet_told s c t row.NoData refl, tt)
      by (Some made) is = decision_each s t c made scaled (inl is)
  scaler_each kind.Kpa s t c (act.Arrive tag) (Some (row.Admit r g)) scaled ends = by (wanted s c == 0) refl
    where
      by : (b : Bool) → (wanted s c == 0) ≡ b → EachRow s c (wake_where b s t c)
      by false is = tt
      by true is =
          let wakes : Wakes s c t = record { request = r; tag = g; admitted = ends (row.Admit r g) refl; none = eqb-true (wanted s c) 0 is } in
          decision_each s t c (wake_decision_at s c t) scaled (inr (wakes, refl))
  scaler_each k s t c a did scaled ends = tt

  -- ---- an event, and all of them

  settling_quiet : (s : Spec) (t : ℕ) (c : Trace) → Each is_quiet (settling s t c)
  unfolding settling held_assignments
  settling_quiet s t c =
      let ran = promotions t c (live_pods c) in
      let gave = assignments_of s t (c ++ ran) (held (c ++ ran)) in
      Each-append is_quiet (ran ++ gave) (removals t ((c ++ ran) ++ gave))
      (Each-append is_quiet ran gave (Each-weaken is_run_row is_quiet (quiet_by is_run_row (λ d. refl) (λ r tag. refl) (λ r pod. refl)) ran (promotions-rows t c (live_pods c)))
      (Each-weaken is_assign is_quiet (quiet_by is_assign (λ d. refl) (λ r tag. refl) (λ r pod. refl)) gave (assignments-rows s t (c ++ ran) (held (c ++ ran)))))
      (Each-weaken is_remove_row is_quiet (quiet_by is_remove_row (λ d. refl) (λ r tag. refl) (λ r pod. refl)) (removals t ((c ++ ran) ++ gave)) (removals-rows t ((c ++ ran) ++ gave)))

  activation_quiet : (t : ℕ) (c : Trace) → Each is_quiet (activation t c)
  unfolding activation
  activation_quiet t c = quiet_where _ (entry t (row.Phase phase.Active) ∷ []) (refl, tt)

  react_each : (s : Spec) (c : Trace) (e : Event) → EachRow s c (react s c e)
  unfolding react before_settling act_rows
  react_each s c e =
      let t = e.time in
      let gone = departures s c e in
      let own = entries_of t (act_row s (c ++ gone) e.act) in
      let more = scaler_rows s.kind s t ((c ++ gone) ++ own) e.act (act_row s (c ++ gone) e.act) in
      let did = own ++ more in
      let active = activation t ((c ++ gone) ++ did) in
      let first = (gone ++ did) ++ active in
      let departs = each_quiet s c gone (Each-weaken is_departure_row is_quiet (quiet_by is_departure_row (λ d. refl) (λ r tag. refl) (λ r pod. refl)) gone (departures-rows s c e)) in
      let acts = each_append s (c ++ gone) own more (own_told s (c ++ gone) t e.act) (scaler_each s.kind s t ((c ++ gone) ++ own) e.act (act_row s (c ++ gone) e.act) refl (ends_with (c ++ gone) t (act_row s (c ++ gone) e.act))) in
      each_append s c first (settling s t (c ++ first))
      (each_append s c (gone ++ did) active (each_append s c gone did departs acts) (each_quiet s (c ++ (gone ++ did)) active (activation_quiet t ((c ++ gone) ++ did))))
      (each_quiet s (c ++ first) (settling s t (c ++ first)) (settling_quiet s t (c ++ first)))

  added_each : (s : Spec) (c : Trace) (es : List Event) → EachRow s c (added s c es)
  unfolding added
  added_each s c [] = tt
  added_each s c (e ∷ es) = each_append s c (react s c e) (added s (c ++ react s c e) es) (react_each s c e) (added_each s (c ++ react s c e) es)

  opening_quiet : (s : Spec) (start : ℕ) → Each is_quiet (opening s start)
  unfolding opening
  opening_quiet s start = by s.kind
    where
      by : (k : Kind) → Each is_quiet (opening_of k s start)
      by (kind.Fixed pods) = quiet_map start (λ q. row.Create q s.cc) (λ q. refl) (range_with_len 0 pods)
      by kind.Kpa = (refl, quiet_map start (λ q. row.Create q s.cc) (λ q. refl) (range_with_len 0 (opening_scale s)))

  trace_each : (s : Spec) (start : ℕ) (es : List Event) → EachRow s [] (trace_of s start es)
  unfolding trace_of
  trace_each s start es = each_append s [] (opening s start) (added s (opening s start) es) (each_quiet s [] (opening s start) (opening_quiet s start)) (added_each s (opening s start) es)

  pub row_told : (s : Spec) (start : ℕ) (es : List Event) (before rest : Trace) (x : Entry) → trace_of s start es ≡ before ++ x ∷ rest → IsTold s before x.time x.row
  row_told s start es before rest x is = each_at s [] (trace_of s start es) before rest x (trace_each s start es) is

-- ---- the phase before a decision

scaled_trace : (s : Spec) (start : ℕ) (es : List Event) → s.kind ≡ kind.Kpa
    → trace_of s start es ≡ entry start (row.Phase (opening_phase (opening_scale s))) ∷ (creations s start 0 (opening_scale s) ++ added s (opening s start) es)
unfolding trace_of opening
scaled_trace s start es scaled = ap (λ (k : Kind). opening_of k s start ++ added s (opening s start) es) scaled

phase_before : (q : Phase) (t : ℕ) (more before rest : Trace) (x : Entry) (d : Decision) → entry t (row.Phase q) ∷ more ≡ before ++ x ∷ rest → decision_by x.row ≡ Some d → (p : Phase) × (phase_of before ≡ Some p)
unfolding phase_of
phase_before q t more [] rest x d is decided =
    let same : entry t (row.Phase q) ≡ x = cc in
    let none : None ≡ Some d = subst (λ (z : Entry). decision_by z.row ≡ Some d) (sym same) decided in
    absurd (cc)
phase_before q t more (y ∷ before) rest x d is decided =
    let same : y ≡ entry t (row.Phase q) = cc in
    (unwrap_or (last_of (each_row phase_by before)) q, ap (λ (z : Entry). last_of (each_row phase_by (z ∷ before))) same)

pub has_phase : (s : Spec) (start : ℕ) (es : List Event) (before rest : Trace) (x : Entry) (d : Decision) → s.kind ≡ kind.Kpa → trace_of s start es ≡ before ++ x ∷ rest → decision_by x.row ≡ Some d
    → (p : Phase) × (phase_of before ≡ Some p)
has_phase s start es before rest x d scaled is decided =
    phase_before (opening_phase (opening_scale s)) start (creations s start 0 (opening_scale s) ++ added s (opening s start) es) before rest x d (sym (scaled_trace s start es scaled) ∙ is) decided

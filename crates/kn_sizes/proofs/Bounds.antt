-- How many entries one event adds, and how many pods may live.
use Rattle.std.proofs.Common.{◌≡◌, ℕ, ◌+◌, ◌-◌, ◌≤◌, Bool, true, false, not, cond, ◌&&◌, List, [], ◌∷◌, ◌++◌, length, map, take, refl, sym, ap, subst, ◌∙◌, arith, append-nil, append_assoc, length-append}
use Rattle.std.specs.Prelude.{Option, None, Some, ◌==◌}
use Rattle.std.specs.List.{cons_option, filter, range_with_len}
use Rattle.std.proofs.lemmas.List.{length-take}
use Rattle.std.proofs.lemmas.List.FromFn.{length-map-range_with_len, length-range_with_len}
use Rattle.kn_event.specs.declared.entry.Entry.{Entry}
use Rattle.kn_event.specs.declared.entry.Row.{Row}
use Rattle.kn_event.specs.declared.entry.Row.TheVariants as row
use Rattle.kn_event.specs.declared.entry.Phase.TheVariants as phase
use Rattle.kn_event.specs.declared.event.Act.{Act}
use Rattle.kn_event.specs.declared.event.Act.TheVariants as act
use Rattle.kn_event.specs.declared.event.Event.{Event}
use Rattle.kn_event.specs.declared.revision.Kind.{Kind}
use Rattle.kn_event.specs.declared.revision.Kind.TheVariants as kind
use Rattle.kn_event.specs.declared.revision.Spec.{Spec}
use Rattle.kn_event.specs.Revision.{AreInRange}
use Rattle.kn_event.specs.Lists.{contains}
use Rattle.kn_scaling.specs.Decide.{Ruling}
use Rattle.kn_scaling.specs.Zero.{pods_most}
use Rattle.kn_scaling.specs.Burst.{is_same_mode}
use Rattle.kn_trace.specs.Rows.{created_by, drained_by, ended_by, taken_by}
use Rattle.kn_trace.specs.Trace.{Trace, entry, at_pod, created, draining, each_row, held, is_empty, live, live_pods, ready_pods, waiting}
use Rattle.kn_trace.specs.Scale.{creations, decision_at, decision_rows, drain_order, is_in_phase, mode_of, phase_of, scale_rows, tick_rows, tick_rows_of, wake_decision_at, wake_rows, wanted, where_true}
use Rattle.kn_trace.specs.Settling.{held_assignments, promotions, removals, settling}
use Rattle.kn_trace.specs.Events.{act_row, act_rows, activation, before_settling, departures, entries_of, expiries, live_most, react, scaler_rows, wake_where}
use Rattle.kn_trace.specs.Laws.{IsSettled}
use Rattle.kn_trace.specs.Report.{is_assign, is_expire}
use Rattle.kn_record.specs.Made.{Holds, IsMade, IsProper}
use Rattle.kn_record.specs.Rows.{counted}
use Rattle.kn_record.specs.Kept.{Kept}
use Rattle.kn_record.specs.Facts.{Facts}
use Rattle.kn_laws.specs.Kinds.{Each, is_departure_row, is_remove_row, is_run_row, is_scaler_row, is_act_row}
use Rattle.kn_laws.specs.Facts.{PartFacts}
use Rattle.kn_sizes.proofs.Ends.{live-many}
use Rattle.kn_sizes.proofs.Counts.{count-append, count-each, count-live, count-pods, draining-less, few_live, few_standing, leaves-list, leaves_by, live_pods-list, none-each}
use Rattle.kn_sizes.proofs.Draining.{draining-within}

length-map : (f : ℕ → Entry) (xs : List ℕ) → length (map f xs) ≡ length xs
length-map f [] = refl
length-map f (x ∷ xs) = let rest = length-map f xs in omega arith

where-length : (b : Bool) (x : Entry) → length (where_true b (x ∷ [])) ≤ 1
where-length false x = omega arith
where-length true x = omega arith

-- with n pods that do not drain: new ones, or some drain
scale-length : (s : Spec) (t : ℕ) (c : Trace) (want : ℕ) → length (drain_order c) ≤ pods_most → want ≤ pods_most → length (scale_rows s t c want) ≤ pods_most
unfolding scale_rows
scale-length s t c want few some =
    let n = length (drain_order c) in
    let a = length-map-range_with_len (λ p. entry t (row.Create p s.cc)) (created c) (want - n) in
    let b = length-map (λ p. entry t (row.Drain p)) (take (n - want) (drain_order c)) in
    let d = length-take (n - want) (drain_order c) in
    rw (length-append, a, b, d) (omega arith)

created-count : (s : Spec) (t : ℕ) (ps : List ℕ) → length (each_row created_by (map (λ p. entry t (row.Create p s.cc)) ps)) ≡ length ps
created-count s t [] = refl
created-count s t (p ∷ ps) = let rest = created-count s t ps in omega arith

drained-count : (t : ℕ) (ps : List ℕ) → each_row created_by (map (λ p. entry t (row.Drain p)) ps) ≡ []
drained-count t [] = refl
drained-count t (p ∷ ps) = drained-count t ps

-- new pods fill up what stands, and no more
scale-created : (s : Spec) (t : ℕ) (c : Trace) (want : ℕ) → length (drain_order c) ≤ pods_most → want ≤ pods_most → length (each_row created_by (scale_rows s t c want)) + length (drain_order c) ≤ pods_most
unfolding scale_rows
scale-created s t c want few some =
    let n = length (drain_order c) in
    let a = count-append created_by (creations s t (created c) (want - n)) (map (λ p. entry t (row.Drain p)) (take (n - want) (drain_order c))) in
    let b = created-count s t (range_with_len (created c) (want - n)) in
    let d = length-range_with_len (created c) (want - n) in
    let e : length (each_row created_by (map (λ p. entry t (row.Drain p)) (take (n - want) (drain_order c)))) ≡ 0 = rw (drained-count t (take (n - want) (drain_order c))) refl in
    omega arith

where-scale : (b : Bool) (s : Spec) (t : ℕ) (c : Trace) (want : ℕ) → length (drain_order c) ≤ pods_most → want ≤ pods_most
    → (length (where_true b (scale_rows s t c want)) ≤ pods_most) × (length (each_row created_by (where_true b (scale_rows s t c want))) + length (drain_order c) ≤ pods_most)
where-scale false s t c want few some = (omega arith, omega arith)
where-scale true s t c want few some = (scale-length s t c want few some, scale-created s t c want few some)

where-created : (b : Bool) (x : Entry) → created_by x.row ≡ None → each_row created_by (where_true b (x ∷ [])) ≡ []
where-created false x h = refl
where-created true x h = rw h refl

-- rows that add few, and no more pods than may stand
pub record AddsFew (most : ℕ) (c es : Trace) : Type 0 where
  pub rows : length es ≤ most
  pub pods : length (each_row created_by es) + length (drain_order c) ≤ pods_most

nothing-few : (c : Trace) → length (drain_order c) ≤ pods_most → AddsFew 503 c []
nothing-few c few = record { rows = omega arith; pods = omega arith }

abbrev NoNewPods : (Row → Bool) → Type 0
NoNewPods test = (x : Row) → test x ≡ true → (created_by x ≡ None) × (drained_by x ≡ None)

departure_none : NoNewPods is_departure_row
departure_none (row.Expire r) h = (refl, refl)
departure_none (row.LostRequest r) h = (refl, refl)
departure_none _ h = absurd (cc)

act_none : NoNewPods is_act_row
act_none (row.Create p n) h = absurd (cc)
act_none (row.Drain p) h = absurd (cc)
act_none _ h = (refl, refl)

departure_ends : (x : Row) → is_departure_row x ≡ true → counted (ended_by x) ≡ 1
departure_ends (row.Expire r) h = refl
departure_ends (row.LostRequest r) h = refl
departure_ends _ h = absurd (cc)

pub departure_takes : (x : Row) → is_departure_row x ≡ true → taken_by x ≡ None
departure_takes (row.Expire r) h = refl
departure_takes (row.LostRequest r) h = refl
departure_takes _ h = absurd (cc)

expire_leaves : (x : Row) → is_expire x ≡ true → counted (leaves_by x) ≡ 1
expire_leaves (row.Expire r) h = refl
expire_leaves _ h = absurd (cc)

run_leaves : (x : Row) → is_run_row x ≡ true → counted (leaves_by x) ≡ 1
run_leaves (row.Run r) h = refl
run_leaves _ h = absurd (cc)

assign_leaves : (x : Row) → is_assign x ≡ true → counted (leaves_by x) ≡ 1
assign_leaves (row.Assign r p) h = refl
assign_leaves _ h = absurd (cc)

expire_takes : (x : Row) → is_expire x ≡ true → taken_by x ≡ None
expire_takes (row.Expire r) h = refl
expire_takes _ h = absurd (cc)

pub run_takes : (x : Row) → is_run_row x ≡ true → taken_by x ≡ None
run_takes (row.Run r) h = refl
run_takes _ h = absurd (cc)

pub assign_takes : (x : Row) → is_assign x ≡ true → taken_by x ≡ None
assign_takes (row.Assign r p) h = refl
assign_takes _ h = absurd (cc)

pub scaler_takes : (x : Row) → is_scaler_row x ≡ true → taken_by x ≡ None
scaler_takes (row.Admit r tag) h = absurd (cc)
scaler_takes (row.Direct r p) h = absurd (cc)
scaler_takes _ h = refl

-- no more rows say something than there are
count-within : (f : Row → Option ℕ) (es : Trace) → length (each_row f es) ≤ length es
count-within f [] = omega arith
count-within f (e ∷ es) = by (f e.row) (count-within f es)
  where
    by : (o : Option ℕ) → length (each_row f es) ≤ length es → length (cons_option o (each_row f es)) ≤ length (e ∷ es)
    by None h = omega arith
    by (Some r) h = omega arith

pub remove_takes : (x : Row) → is_remove_row x ≡ true → taken_by x ≡ None
remove_takes (row.Remove p) h = refl
remove_takes _ h = absurd (cc)

remove_creates : (x : Row) → is_remove_row x ≡ true → created_by x ≡ None
remove_creates (row.Remove p) h = refl
remove_creates _ h = absurd (cc)

length-filter-within : (t : ℕ → Bool) (xs : List ℕ) → length (filter t xs) ≤ length xs
length-filter-within t [] = omega arith
length-filter-within t (x ∷ xs) = by (t x) (length-filter-within t xs)
  where
    by : (b : Bool) → length (filter t xs) ≤ length xs → length (cond b (x ∷ filter t xs) (filter t xs)) ≤ length (x ∷ xs)
    by true h = omega arith
    by false h = omega arith

one-own : (t : ℕ) (o : Option Row) → length (entries_of t o) ≤ 1
one-own t None = omega arith
one-own t (Some x) = omega arith

activation-length : (t : ℕ) (c : Trace) → length (activation t c) ≤ 1
unfolding activation
activation-length t c = where-length _ (entry t (row.Phase phase.Active))

abbrev pub gone_of : Spec → Trace → Event → Trace
gone_of s c e = departures s c e

abbrev pub own_of : Spec → Trace → Event → Trace
own_of s c e = entries_of e.time (act_row s (c ++ gone_of s c e) e.act)

abbrev pub more_of : Spec → Trace → Event → Trace
more_of s c e = scaler_rows s.kind s e.time ((c ++ gone_of s c e) ++ own_of s c e) e.act (act_row s (c ++ gone_of s c e) e.act)

abbrev pub active_of : Spec → Trace → Event → Trace
active_of s c e = activation e.time ((c ++ gone_of s c e) ++ (own_of s c e ++ more_of s c e))

-- the rows before the settling are these
pub before-parts : (s : Spec) (c : Trace) (e : Event) → before_settling s c e ≡ (gone_of s c e ++ (own_of s c e ++ more_of s c e)) ++ active_of s c e
unfolding before_settling act_rows
before-parts s c e = refl

-- what they come to
record Before (c gone es : Trace) : Type 0 where
  rows : length es ≤ length gone + 505
  ends : length gone + length (live (c ++ gone)) ≤ length (live c)
  wait : length (waiting (c ++ es)) ≤ length (waiting (c ++ gone)) + length (each_row taken_by es)
  leave : length (each_row leaves_by gone) ≤ length (each_row leaves_by es)
  take : length (each_row taken_by es) ≤ 1
  pods : length (live_pods (c ++ es)) ≤ length (draining c) + pods_most

activation-creates : (t : ℕ) (c : Trace) → length (each_row created_by (activation t c)) ≡ 0
unfolding activation
activation-creates t c = rw (where-created (is_in_phase phase.Activating (phase_of c) && not (is_empty (ready_pods c))) (entry t (row.Phase phase.Active)) refl) refl

pub before-whole : (c gone own more active : Trace) → ((c ++ gone) ++ own) ++ (more ++ active) ≡ c ++ ((gone ++ (own ++ more)) ++ active)
before-whole c gone own more active = simp append_assoc refl

act-takes : (s : Spec) (t : ℕ) (c : Trace) (p : ℕ) → each_row taken_by (entries_of t (act_row s c (act.Lost p))) ≡ []
unfolding act_row
act-takes s t c p = by (contains p (live_pods c))
  where
    by : (b : Bool) → each_row taken_by (entries_of t (Some (cond b (row.LostPod p) (row.NoPod p)))) ≡ []
    by true = refl
    by false = refl

module _ (facts : Facts) (parts : PartFacts) where
  open facts use {proper.{Holds-kept, holds_both, made_kept, made_more, expiries-hold, departures-hold, departures-clear, act-holds, tick-holds, wake_where-holds, scaler-holds, activation-holds, promotions-hold, held_assignments-hold, before-holds}}
  open parts use {each.{run_pods, assign_pods, draining-each}, rows.{expiries-rows, departures-rows, departures-same, act-rows, scaler-rows, activation-rows, promotions-rows, assignments-rows, removed-rows}}

  -- ---- the rows of a decision

  -- a decision adds at most 503 rows
  decision-few : (s : Spec) (t : ℕ) (c : Trace) (made : Ruling) → length (drain_order c) ≤ pods_most → made.decision.want ≤ pods_most → AddsFew 503 c (decision_rows s t c made)
  unfolding decision_rows
  decision-few s t c made few some =
      let bp = not (is_in_phase made.phase (phase_of c)) in
      let bm = not (is_same_mode made.decision.mode (mode_of c)) in
      let p = where_true bp (entry t (row.Phase made.phase) ∷ []) in
      let m = where_true bm (entry t (row.Mode made.decision.mode) ∷ []) in
      let sc = where_true made.decision.applied (scale_rows s t c made.decision.want) in
      let a = where-length bp (entry t (row.Phase made.phase)) in
      let b = where-length bm (entry t (row.Mode made.decision.mode)) in
      let d = where-scale made.decision.applied s t c made.decision.want few some in
      let e : length (each_row created_by p) ≡ 0 = rw (where-created bp (entry t (row.Phase made.phase)) refl) refl in
      let f : length (each_row created_by m) ≡ 0 = rw (where-created bm (entry t (row.Mode made.decision.mode)) refl) refl in
      let g = count-append created_by (p ++ m) sc in
      let h = count-append created_by p m in
      let k : length ((p ++ m) ++ sc) ≡ (length p + length m) + length sc = rw (length-append, length-append) refl in
      let few_rows = d.0 in
      let few_pods = d.1 in
      record { rows = omega arith; pods = omega arith }

  -- ---- what the autoscaler adds

  -- so does a tick
  tick-few : (s : Spec) (t : ℕ) (c : Trace) → Kept s c → AreInRange s → length (drain_order c) ≤ pods_most → AddsFew 503 c (tick_rows s t c)
  unfolding tick_rows decision_rows
  tick-few s t c kept ranges few = by (decision_at s c t) (tick-holds s t c kept)
    where
      by : (o : Option Ruling) → Holds (IsProper s) c (tick_rows_of s t c o) → AddsFew 503 c (tick_rows_of s t c o)
      by None h = record { rows = omega arith; pods = omega arith }
      by (Some made) h = decision-few s t c made few (h.0 ranges)

  -- so does a decision on an arrival
  wake-few : (b : Bool) (s : Spec) (t : ℕ) (c : Trace) → Kept s c → AreInRange s → length (drain_order c) ≤ pods_most → AddsFew 503 c (wake_where b s t c)
  unfolding wake_rows decision_rows
  wake-few false s t c kept ranges few = nothing-few c few
  wake-few true s t c kept ranges few = decision-few s t c (wake_decision_at s c t) few ((wake_where-holds true s t c kept).0 ranges)

  scaler-few : (k : Kind) (s : Spec) (t : ℕ) (c : Trace) (a : Act) (did : Option Row) → Kept s c → AreInRange s → length (drain_order c) ≤ pods_most → AddsFew 503 c (scaler_rows k s t c a did)
  scaler-few kind.Kpa s t c act.Tick did kept ranges few = tick-few s t c kept ranges few
  scaler-few kind.Kpa s t c (act.Arrive tag) (Some (row.Admit r g)) kept ranges few = wake-few (wanted s c == 0) s t c kept ranges few
  scaler-few k s t c a did kept ranges few = nothing-few c few

  -- ---- rows that create, drain and remove no pod

  -- such rows make no more pods drain
  draining-fewer : (test : Row → Bool) → NoNewPods test → (c es : Trace) → Each test es → length (draining (c ++ es)) ≤ length (draining c)
  draining-fewer test none c [] h = rw (append-nil c) (omega arith)
  draining-fewer test none c (e ∷ es) h =
      let rest = draining-fewer test none (c ++ e ∷ []) es h.1 in
      let both = none e.row h.0 in
      let one = draining-less facts c e both.0 both.1 in
      let sum : length (draining ((c ++ e ∷ []) ++ es)) ≤ length (draining c) = omega arith in
      rw (append_assoc c (e ∷ []) es) at sum

  pub held_rows : (s : Spec) (t : ℕ) (c : Trace) → Each is_assign (held_assignments s t c)
  unfolding held_assignments
  held_rows s t c = assignments-rows s t c (held c)

  -- ---- the parts of an event, up to the settling

  -- what they come to, at a trace that was made
  counts-before : (s : Spec) (c : Trace) (e : Event) → IsMade s c → AreInRange s → Before c (gone_of s c e) (before_settling s c e)
  counts-before s c e made ranges =
      let gone = gone_of s c e in
      let own = own_of s c e in
      let more = more_of s c e in
      let active = active_of s c e in
      let c1 = c ++ gone in
      let c2 = c1 ++ own in
      let kept = made_kept s c made in
      let departs = departures-hold s c e kept in
      let clear = departures-clear s c e kept in
      let kept1 = Holds-kept s c gone kept departs in
      let kept2 = Holds-kept s c1 own kept1 (act-holds s e.time c1 e.act clear) in
      let made1 = made_more s c gone made departs in
      let made2 = made_more s c1 own made1 (act-holds s e.time c1 e.act clear) in
      let few = scaler-few s.kind s e.time c2 e.act (act_row s c1 e.act) kept2 ranges (few_standing facts s c2 made2 ranges) in
      let few_rows = few.rows in
      let few_pods = few.pods in
      let gone_kind = departures-rows s c e in
      let own_kind = act-rows s e.time c1 e.act in
      let more_kind = scaler-rows s.kind s e.time c2 e.act (act_row s c1 e.act) in
      let active_kind = activation-rows e.time (c1 ++ (own ++ more)) in
      let a = one-own e.time (act_row s c1 e.act) in
      let b = activation-length e.time (c1 ++ (own ++ more)) in
      let len : length ((gone ++ (own ++ more)) ++ active) ≡ (length gone + (length own + length more)) + length active = rw (length-append, length-append, length-append) refl in
      let leaves : length (each_row leaves_by ((gone ++ (own ++ more)) ++ active)) ≡ (length (each_row leaves_by gone) + length (each_row leaves_by (own ++ more))) + length (each_row leaves_by active)
      = rw (count-append leaves_by (gone ++ (own ++ more)) active, count-append leaves_by gone (own ++ more)) refl in
      let end = count-each ended_by is_departure_row departure_ends gone gone_kind in
      let lives = live-many facts s c gone kept departs in
      let did = holds_both s c1 own (more ++ active) (act-holds s e.time c1 e.act clear)
      (holds_both s c2 more active (scaler-holds s.kind s e.time c2 e.act (act_row s c1 e.act) kept2) (rw (append_assoc c1 own more) (activation-holds s e.time (c1 ++ (own ++ more))))) in
      let waits = leaves-list facts s c1 (own ++ (more ++ active)) kept1 did in
      let took : length (each_row taken_by (own ++ (more ++ active))) ≡ length (each_row taken_by own) + (length (each_row taken_by more) + length (each_row taken_by active))
      = rw (count-append taken_by own (more ++ active), count-append taken_by more active) refl in
      let whole : c1 ++ (own ++ (more ++ active)) ≡ c ++ ((gone ++ (own ++ more)) ++ active) = simp append_assoc refl in
      let takes : length (each_row taken_by ((gone ++ (own ++ more)) ++ active)) ≡ (length (each_row taken_by gone) + (length (each_row taken_by own) + length (each_row taken_by more))) + length (each_row taken_by active)
      = rw (count-append taken_by (gone ++ (own ++ more)) active, count-append taken_by gone (own ++ more), count-append taken_by own more) refl in
      let t1 : length (each_row taken_by gone) ≡ 0 = rw (none-each taken_by is_departure_row departure_takes gone gone_kind) refl in
      let t2 = count-within taken_by own in
      let t3 : length (each_row taken_by more) ≡ 0 = rw (none-each taken_by is_scaler_row scaler_takes more more_kind) refl in
      let t4 : length (each_row taken_by active) ≡ 0 = rw (none-each taken_by is_scaler_row scaler_takes active active_kind) refl in
      let d1 = draining-fewer is_act_row act_none c1 own own_kind in
      let d2 = draining-fewer is_departure_row departure_none c gone gone_kind in
      let p2 = count-pods facts c2 in
      let p3 = live_pods-list facts c2 (more ++ active) in
      let p4 = count-append created_by more active in
      let p5 = activation-creates e.time (c1 ++ (own ++ more)) in
      let all : c2 ++ (more ++ active) ≡ c ++ ((gone ++ (own ++ more)) ++ active) = before-whole c gone own more active in
      let bound : length (live_pods (c2 ++ (more ++ active))) ≤ length (draining c) + pods_most = omega arith in
      let waits_bound : length (waiting (c1 ++ (own ++ (more ++ active)))) ≤ length (waiting c1) + length (each_row taken_by ((gone ++ (own ++ more)) ++ active)) = omega arith in
      subst (λ (es : Trace). Before c gone es) (sym (before-parts s c e)) (record {
        rows = omega arith;
        ends = omega arith;
        wait = rw whole at waits_bound;
        leave = omega arith;
        take = omega arith;
        pods = rw all at bound;
      })

  -- ---- the settling

  -- what it comes to, at a trace d
  settling-count : (s : Spec) (t : ℕ) (d : Trace) → Kept s d → (length (settling s t d) ≤ length (waiting d) + length (draining d)) × (length (each_row created_by (settling s t d)) ≡ 0)
  unfolding settling removals
  settling-count s t d kept =
      let ran = promotions t d (live_pods d) in
      let gave = held_assignments s t (d ++ ran) in
      let d2 = (d ++ ran) ++ gave in
      let ps = filter (λ p. is_empty (at_pod d2 p)) (draining d2) in
      let rem = map (λ p. entry t (row.Remove p)) ps in
      let one = promotions-hold s t d (live_pods d) kept in
      let kept1 = Holds-kept s d ran kept one in
      let two = held_assignments-hold s t (d ++ ran) kept1.requests in
      let ran_kind = promotions-rows t d (live_pods d) in
      let gave_kind = held_rows s t (d ++ ran) in
      let w1 = leaves-list facts s d ran kept one in
      let w2 = leaves-list facts s (d ++ ran) gave kept1 two in
      let n1 = count-each leaves_by is_run_row run_leaves ran ran_kind in
      let n2 = count-each leaves_by is_assign assign_leaves gave gave_kind in
      let t1 : length (each_row taken_by ran) ≡ 0 = rw (none-each taken_by is_run_row run_takes ran ran_kind) refl in
      let t2 : length (each_row taken_by gave) ≡ 0 = rw (none-each taken_by is_assign assign_takes gave gave_kind) refl in
      let d1 : length (draining d2) ≡ length (draining d) = ap (λ (l : List ℕ). length l) (draining-each is_assign assign_pods (d ++ ran) gave gave_kind ∙ draining-each is_run_row run_pods d ran ran_kind) in
      let r1 = length-map (λ p. entry t (row.Remove p)) ps in
      let r2 = length-filter-within (λ p. is_empty (at_pod d2 p)) (draining d2) in
      let len : length ((ran ++ gave) ++ rem) ≡ (length ran + length gave) + length rem = rw (length-append, length-append) refl in
      let c0 : length (each_row created_by ((ran ++ gave) ++ rem)) ≡ (length (each_row created_by ran) + length (each_row created_by gave)) + length (each_row created_by rem)
      = rw (count-append created_by (ran ++ gave) rem, count-append created_by ran gave) refl in
      let c1 : length (each_row created_by ran) ≡ 0 = rw (none-each created_by is_run_row (λ x k. (run_pods x k).created) ran ran_kind) refl in
      let c2 : length (each_row created_by gave) ≡ 0 = rw (none-each created_by is_assign (λ x k. (assign_pods x k).created) gave gave_kind) refl in
      let c3 : length (each_row created_by rem) ≡ 0 = rw (none-each created_by is_remove_row remove_creates rem (removed-rows t ps)) refl in
      (omega arith, omega arith)

  -- ---- the bounds

  -- a trace that is settled has at most 20,500 live pods
  pub few_pods : (s : Spec) (c : Trace) → AreInRange s → IsMade s c → IsSettled s c → length (live_pods c) ≤ 20500
  few_pods s c ranges made settled =
      let a = count-pods facts c in
      let b = draining-within facts parts s c made settled in
      let d = count-live c in
      let e = few_live facts s c made in
      let f = few_standing facts s c made ranges in
      omega arith

  -- of which at most 20,000 drain
  pub few_draining : (s : Spec) (c : Trace) → IsMade s c → IsSettled s c → length (draining c) ≤ 20000
  few_draining s c made settled =
      let b = draining-within facts parts s c made settled in
      let d = count-live c in
      let e = few_live facts s c made in
      omega arith

  -- and so has each before its settling
  pub few_pods_before : (s : Spec) (c : Trace) (e : Event) → AreInRange s → IsMade s c → IsSettled s c → length (live_pods (c ++ before_settling s c e)) ≤ 20500
  few_pods_before s c e ranges made settled =
      let b = draining-within facts parts s c made settled in
      let d = count-live c in
      let g = few_live facts s c made in
      let before = counts-before s c e made ranges in
      let pods = before.pods in
      omega arith

  -- an event adds at most 20,505 entries before its settling
  pub few_before : (s : Spec) (c : Trace) (e : Event) → AreInRange s → IsMade s c → length (before_settling s c e) ≤ 20505
  few_before s c e ranges made =
      let before = counts-before s c e made ranges in
      let rows = before.rows in
      let ends = before.ends in
      let g = few_live facts s c made in
      omega arith

  -- where no pod is lost, one event adds at most 21,006 entries
  pub fewer_entries : (s : Spec) (c : Trace) (e : Event) → AreInRange s → IsMade s c → IsSettled s c → ((p : ℕ) → e.act ≡ act.Lost p → ⊥) → length (react s c e) ≤ 21006
  unfolding react
  fewer_entries s c e ranges made settled other =
      let first = before_settling s c e in
      let kept = made_kept s c made in
      let hold = before-holds s c e kept in
      let before = counts-before s c e made ranges in
      let rows = before.rows in
      let leave = before.leave in
      let take = before.take in
      let pods = before.pods in
      let same = ap (λ (l : Trace). length l) (departures-same s c e other) in
      let left = ap (λ (l : Trace). length (each_row leaves_by l)) (departures-same s c e other) in
      let each = count-each leaves_by is_expire expire_leaves (expiries s e.time c) (expiries-rows s e.time c) in
      let w = leaves-list facts s c first kept hold in
      let after = settling-count s e.time (c ++ first) (Holds-kept s c first kept hold) in
      let some = after.0 in
      let p = count-pods facts (c ++ first) in
      let b = draining-within facts parts s c made settled in
      let d = count-live c in
      let g = few_live facts s c made in
      let len : length (first ++ settling s e.time (c ++ first)) ≡ length first + length (settling s e.time (c ++ first)) = length-append first (settling s e.time (c ++ first)) in
      omega arith

  -- an event that loses a pod takes in nobody
  lost-takes : (s : Spec) (c : Trace) (e : Event) (p : ℕ) → e.act ≡ act.Lost p → length (each_row taken_by (before_settling s c e)) ≡ 0
  lost-takes s c e p lost =
      let gone = gone_of s c e in
      let own = own_of s c e in
      let more = more_of s c e in
      let active = active_of s c e in
      let c1 = c ++ gone in
      let all : length (each_row taken_by ((gone ++ (own ++ more)) ++ active)) ≡ (length (each_row taken_by gone) + (length (each_row taken_by own) + length (each_row taken_by more))) + length (each_row taken_by active)
      = rw (count-append taken_by (gone ++ (own ++ more)) active, count-append taken_by gone (own ++ more), count-append taken_by own more) refl in
      let t1 : length (each_row taken_by gone) ≡ 0 = rw (none-each taken_by is_departure_row departure_takes gone (departures-rows s c e)) refl in
      let t2 : length (each_row taken_by own) ≡ 0 = ap (λ (a : Act). length (each_row taken_by (entries_of e.time (act_row s c1 a)))) lost ∙ ap (λ (l : List ℕ). length l) (act-takes s e.time c1 p) in
      let t3 : length (each_row taken_by more) ≡ 0 = rw (none-each taken_by is_scaler_row scaler_takes more (scaler-rows s.kind s e.time (c1 ++ own) e.act (act_row s c1 e.act))) refl in
      let t4 : length (each_row taken_by active) ≡ 0 = rw (none-each taken_by is_scaler_row scaler_takes active (activation-rows e.time (c1 ++ (own ++ more)))) refl in
      ap (λ (es : Trace). length (each_row taken_by es)) (before-parts s c e) ∙ omega arith

  -- one event adds at most 41,005 entries
  pub few_entries : (s : Spec) (c : Trace) (e : Event) → AreInRange s → IsMade s c → IsSettled s c → length (react s c e) ≤ 41005
  unfolding react
  few_entries s c e ranges made settled = by e.act refl
    where
      first : Trace
      first = before_settling s c e

      lost : (p : ℕ) → e.act ≡ act.Lost p → length (first ++ settling s e.time (c ++ first)) ≤ 41005
      lost p is =
          let kept = made_kept s c made in
          let hold = before-holds s c e kept in
          let before = counts-before s c e made ranges in
          let rows = before.rows in
          let ends = before.ends in
          let wait = before.wait in
          let none = lost-takes s c e p is in
          let some = (settling-count s e.time (c ++ first) (Holds-kept s c first kept hold)).0 in
          let w = count-live (c ++ gone_of s c e) in
          let g = few_live facts s c made in
          let most = few_pods_before s c e ranges made settled in
          let all = count-pods facts (c ++ first) in
          let len : length (first ++ settling s e.time (c ++ first)) ≡ length first + length (settling s e.time (c ++ first)) = length-append first (settling s e.time (c ++ first)) in
          omega arith

      plain : ((p : ℕ) → e.act ≡ act.Lost p → ⊥) → length (first ++ settling s e.time (c ++ first)) ≤ 41005
      plain other = let few = fewer_entries s c e ranges made settled other in omega arith

      by : (a : Act) → e.act ≡ a → length (first ++ settling s e.time (c ++ first)) ≤ 41005
      by (act.Lost p) is = lost p is
      by a is = plain (λ p lost. absurd (cc))

  -- at most 20,000 requests expire at once
  pub few_expiries : (s : Spec) (t : ℕ) (c : Trace) → IsMade s c → length (expiries s t c) ≤ live_most
  few_expiries s t c made =
      let w = leaves-list facts s c (expiries s t c) (made_kept s c made) (expiries-hold s t c (made_kept s c made).requests) in
      let n = count-each leaves_by is_expire expire_leaves (expiries s t c) (expiries-rows s t c) in
      let k : length (each_row taken_by (expiries s t c)) ≡ 0 = rw (none-each taken_by is_expire expire_takes (expiries s t c) (expiries-rows s t c)) refl in
      let d = count-live c in
      let g = few_live facts s c made in
      omega arith

  -- a settling adds at most 40,500 entries
  pub few_settling : (s : Spec) (c : Trace) (e : Event) → AreInRange s → IsMade s c → IsSettled s c → length (settling s e.time (c ++ before_settling s c e)) ≤ 40500
  few_settling s c e ranges made settled =
      let first = before_settling s c e in
      let hold = before-holds s c e (made_kept s c made) in
      let after = settling-count s e.time (c ++ first) (Holds-kept s c first (made_kept s c made) hold) in
      let some = after.0 in
      let d = count-live (c ++ first) in
      let g = few_live facts s (c ++ first) (made_more s c first made hold) in
      let p = count-pods facts (c ++ first) in
      let most = few_pods_before s c e ranges made settled in
      omega arith

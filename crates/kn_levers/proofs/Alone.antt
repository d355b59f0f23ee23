-- The stable window by averages over another one; and periods of which neither alone changes a decision.
use Rattle.std.proofs.Common.{◌≡◌, refl, sym, ap, ◌∙◌, ℕ, ◌-◌, ◌*◌, ◌/◌, ◌<◌, ◌≤◌, Bool, true, false, cond, ◌&&◌, ◌||◌, arith, lit<, mul-pos, lt_of_lt_of_le, lt_of_mul-lt-mul_right, zero-mul}
use Rattle.std.specs.Prelude.{nat_lt, nat_le, max}
use Rattle.std.specs.Int.{div_ceil}
use Rattle.std.proofs.lemmas.Bool.Decides.{nat_tests}
use Rattle.std.proofs.lemmas.Grind.{div_ceil_times}
use Rattle.kn_event.specs.Revision.{AreInRange}
use Rattle.kn_event.specs.declared.entry.Phase.TheVariants as phase
use Rattle.kn_event.specs.declared.revision.Spec.{Spec}
use Rattle.kn_event.specs.declared.units.Frac.{Frac}
use Rattle.kn_scaling.specs.declared.zero.Standing.{Standing}
use Rattle.kn_scaling.specs.Demand.{count_for, desired_counts, is_over, max_scale_down, max_scale_up, one_or_more, pods_for, within_rates}
use Rattle.kn_scaling.specs.Zero.{bounded_count, has_lasted, is_proxy, may_go, zero_rule}
use Rattle.kn_levers.specs.Laws.{Leaves, LongerWindow, Moment, NeitherAlone, ShorterWindow, bounded_by, decision_in, delayed_by, is_other, judged_before, judged_now, passed_in, undelayed_by}
use Rattle.kn_levers.specs.Settings.{hour_ms, hour_s}
use Rattle.kn_levers.proofs.Answered.{kept_one, lasted, lasted_is, longer_is_other, none_inactive, none_wanted, not_lasted, shorter_is_other}
use Rattle.kn_levers.proofs.AtZero.{past_it, same_within, whole}
use Rattle.kn_levers.proofs.Bounded.{none_asked}
use Rattle.kn_levers.proofs.Decided.{decided, delayed_by_is, same_bounded}
use Rattle.kn_levers.proofs.Panics.{fewer_ask}

nobody_asked : (s : Spec) (m : Moment) → (decision_in s m).bounded ≡ 0 → bounded_by s s m ≡ 0
nobody_asked s m none = let is = decided s m in sym is.bounded ∙ none

pub longer_window : LongerWindow
longer_window s m stable panic order idle past young =
    let t : Spec = record s { stable_s = hour_s } in
    let other : Moment = record m { stable = stable; panic = panic } in
    let goes = none_wanted s m.time m.ready m.past.standing idle.on idle.phase (lasted m.past.standing.phase_since (1000 * s.stable_s) m.time order.phase past) in
    rw (nobody_asked s m idle.none)
    (longer_is_other s t m.time m.ready (bounded_by s t other) m.past.standing goes idle.phase (not_lasted m.past.standing.phase_since hour_ms m.time order.phase young))

-- ---- without load

ceil_none : (y : ℕ) → 0 < y → div_ceil 0 y ≡ 0
ceil_none y some =
    let times = div_ceil_times 0 y some in
    let below : div_ceil 0 y * y < 1 * y = omega (arith, times.1) in
    let less : div_ceil 0 y < 1 = lt_of_mul-lt-mul_right y below in
    omega (arith, less)

no_pods_for : (s : Spec) (average : Frac) → AreInRange s → average.num ≡ 0 → pods_for s average ≡ 0
unfolding pods_for
no_pods_for s average range none =
    let some : 0 < average.den * s.target.num = mul-pos average.above_zero (lt_of_lt_of_le (lit< tt) range.target_least) in
    ap (λ (n : ℕ). div_ceil (n * s.target.den) (average.den * s.target.num)) none ∙ ap (λ (n : ℕ). div_ceil n (average.den * s.target.num)) (zero-mul s.target.den) ∙ ceil_none (average.den * s.target.num) some

active_order : (w v n : ℕ) → w ≤ v → cond (nat_lt 0 w && nat_lt w n) n w ≤ cond (nat_lt 0 v && nat_lt v n) n v
active_order w v n order = grind (arith, nat_tests)

-- none asked for asks for no more than some
count_order : (s : Spec) (ready pods : ℕ) → count_for s ready 0 ≤ count_for s ready pods
unfolding count_for
count_order s ready pods = active_order (within_rates s ready 0) (within_rates s ready pods) s.activation (omega arith)

same_count : (s : Spec) (seconds ready pods : ℕ) → count_for (record s { stable_s = seconds }) ready pods ≡ count_for s ready pods
unfolding count_for max_scale_up max_scale_down
same_count s seconds ready pods = refl

same_for : (s : Spec) (seconds : ℕ) (average : Frac) → pods_for (record s { stable_s = seconds }) average ≡ pods_for s average
unfolding pods_for
same_for s seconds average = refl

-- no pods asked for are not over
never_over : (s : Spec) (ready : ℕ) → AreInRange s → is_over s ready 0 ≡ false
unfolding is_over
never_over s ready range = less (s.panic_threshold.0 * one_or_more ready) (mul-pos (lt_of_lt_of_le (lit< tt) range.threshold_least) (omega arith))
  where
    less : (n : ℕ) → 0 < n → nat_le n (0 * 100000) ≡ false
    less n some = grind (arith, nat_tests)

same_over : (s : Spec) (seconds ready pods : ℕ) → is_over (record s { stable_s = seconds }) ready pods ≡ is_over s ready pods
unfolding is_over
same_over s seconds ready pods = refl

quiet_asks : (s : Spec) (m : Moment) (seconds : ℕ) (stable panic : Frac) → AreInRange s → seconds ≤ s.stable_s → stable.num ≡ 0 → panic.num ≡ 0
    → undelayed_by s (record s { stable_s = seconds }) (record m { stable = stable; panic = panic }) ≤ undelayed_by s s m
unfolding desired_counts
quiet_asks s m seconds stable panic range shorter one two =
    let t : Spec = record s { stable_s = seconds } in
    let other : Moment = record m { stable = stable; panic = panic } in
    let first = ap (count_for t m.ready) (same_for s seconds stable ∙ no_pods_for s stable range one) ∙ same_count s seconds m.ready 0 in
    let second = ap (count_for t m.ready) (same_for s seconds panic ∙ no_pods_for s panic range two) ∙ same_count s seconds m.ready 0 in
    let over : is_over t m.ready (pods_for t panic) ≡ false = ap (is_over t m.ready) (same_for s seconds panic ∙ no_pods_for s panic range two) ∙ same_over s seconds m.ready 0 ∙ never_over s m.ready range in
    fewer_ask (judged_now t other) (judged_now s m) (judged_before s m) refl (omega (arith, shorter)) (λ was. absurd (let g : false ≡ true = sym over ∙ was in cc))
    (let order = count_order s m.ready (pods_for s m.stable) in omega (arith, first, order)) (let order = count_order s m.ready (pods_for s m.panic) in omega (arith, second, order))

pub shorter_window : ShorterWindow
shorter_window s m stable panic range order idle young one two =
    let t : Spec = record s { stable_s = passed_in m / 1000 } in
    let other : Moment = record m { stable = stable; panic = panic } in
    let asks = quiet_asks s m (passed_in m / 1000) stable panic range (whole (passed_in m) s.stable_s young) one two in
    let parts = delayed_by_is s s m in
    let parts' = delayed_by_is s t other in
    let nobody = nobody_asked s m idle.none in
    let zero = none_asked s m.past.reached (delayed_by s s m) nobody in
    let none' : delayed_by s t other ≡ 0 = omega (arith, asks, parts, parts', zero) in
    let bounded : bounded_by s t other ≡ 0 =
    ap (bounded_count t m.past.reached) none' ∙ same_within s m.past.reached (passed_in m / 1000) 0 ∙ sym (ap (bounded_count s m.past.reached) zero) ∙ nobody in
    rw (nobody, bounded)
    (shorter_is_other s t m.time m.ready m.past.standing (kept_one s m.time m.ready m.past.standing order.phase (rw (idle.on, idle.phase) young))
    (none_wanted t m.time m.ready m.past.standing idle.on idle.phase (lasted m.past.standing.phase_since (1000 * (passed_in m / 1000)) m.time order.phase (past_it (passed_in m)))))

-- ---- neither period alone

stays_alike : (s t : Spec) (time ready : ℕ) (x : Standing) → s.to_zero ≡ true → t.to_zero ≡ true → x.phase ≡ phase.Inactive → may_go s time x ≡ false → may_go t time x ≡ false
    → is_other (zero_rule s time ready 0 x) (zero_rule t time ready 0 x) ≡ false
stays_alike s t time ready x on on' inactive one two = rw (none_inactive s time ready x on inactive, none_inactive t time ready x on' inactive, one, two) refl

later : (since a b time : ℕ) → has_lasted since a time ≡ false → has_lasted since (max b a) time ≡ false
later since a b time young = grind (arith, nat_tests)

sooner : (since a b time : ℕ) → has_lasted since a time ≡ false → has_lasted since (max a b) time ≡ false
sooner since a b time young = grind (arith, nat_tests)

waits_retention : (s : Spec) (time : ℕ) (x : Standing) → has_lasted x.phase_since s.retention_ms time ≡ false → may_go s time x ≡ false
unfolding may_go
waits_retention s time x young = rw (later x.phase_since s.retention_ms s.grace_ms time young, young) refl

waits_grace : (s : Spec) (time : ℕ) (x : Standing) → has_lasted x.phase_since s.grace_ms time ≡ false → (is_proxy x.mode && has_lasted x.mode_since s.grace_ms time) ≡ false → may_go s time x ≡ false
unfolding may_go
waits_grace s time x young mode = rw (sooner x.phase_since s.grace_ms s.retention_ms time young) (by (has_lasted x.phase_since s.retention_ms time) (is_proxy x.mode) (has_lasted x.mode_since s.grace_ms time) mode)
  where
    by : (r p h : Bool) → p && h ≡ false → r && p && h ≡ false
    by true p h e = e
    by false p h e = refl

or_not : (a b : Bool) → (a || b) ≡ false → (a ≡ false) × (b ≡ false)
or_not true b e = absurd (let g : true ≡ false = e in cc)
or_not false b e = (refl, e)

pub neither_alone : NeitherAlone
neither_alone s m ms order idle retention grace =
    let none = nobody_asked s m idle.none in
    let young : has_lasted m.past.standing.phase_since s.retention_ms m.time ≡ false = sym (lasted_is m.past.standing.phase_since s.retention_ms m.time order.phase) ∙ retention in
    let both = or_not (nat_le s.grace_ms (passed_in m)) (is_proxy m.past.standing.mode && nat_le s.grace_ms (m.time - m.past.standing.mode_since)) grace in
    let first : has_lasted m.past.standing.phase_since s.grace_ms m.time ≡ false = sym (lasted_is m.past.standing.phase_since s.grace_ms m.time order.phase) ∙ both.0 in
    let second : (is_proxy m.past.standing.mode && has_lasted m.past.standing.mode_since s.grace_ms m.time) ≡ false =
    ap (λ (b : Bool). is_proxy m.past.standing.mode && b) (sym (lasted_is m.past.standing.mode_since s.grace_ms m.time order.mode)) ∙ both.1 in
    let stays = waits_retention s m.time m.past.standing young in (
      alike (record s { grace_ms = ms }) none (same_bounded s m s.to_zero ms s.retention_ms ∙ none)
          (stays_alike s (record s { grace_ms = ms }) m.time m.ready m.past.standing idle.on idle.on idle.phase stays (waits_retention (record s { grace_ms = ms }) m.time m.past.standing young)),
      alike (record s { retention_ms = ms }) none (same_bounded s m s.to_zero s.grace_ms ms ∙ none)
          (stays_alike s (record s { retention_ms = ms }) m.time m.ready m.past.standing idle.on idle.on idle.phase stays (waits_grace (record s { retention_ms = ms }) m.time m.past.standing first second)),
    )
  where
    alike : (t : Spec) → bounded_by s s m ≡ 0 → bounded_by s t m ≡ 0 → is_other (zero_rule s m.time m.ready 0 m.past.standing) (zero_rule t m.time m.ready 0 m.past.standing) ≡ false → Leaves s t m
    alike t one two h = rw (one, two) h

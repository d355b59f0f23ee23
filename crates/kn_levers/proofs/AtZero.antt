-- Where no pod is asked for, what is named changes the decision.
use Rattle.std.proofs.Common.{◌≡◌, refl, sym, ap, ◌∙◌, ℕ, ◌*◌, ◌/◌, ◌<◌, ◌≤◌, Bool, true, false, not, cond, ◌&&◌, ◌||◌, arith, lit<}
use Rattle.std.specs.Prelude.{◌==◌, nat_lt, nat_le}
use Rattle.std.proofs.lemmas.Bool.Decides.{nat_tests}
use Rattle.kn_event.specs.declared.entry.Decision.{Decision}
use Rattle.kn_event.specs.declared.entry.Phase.{Phase}
use Rattle.kn_event.specs.declared.entry.Phase.TheVariants as phase
use Rattle.kn_event.specs.declared.revision.Spec.{Spec}
use Rattle.kn_scaling.specs.declared.zero.ZeroAnswer.{ZeroAnswer}
use Rattle.kn_scaling.specs.Demand.{count_for, desired_counts, is_over, max_scale_down, max_scale_up, pods_for}
use Rattle.kn_scaling.specs.Zero.{bounded_count, has_lasted, is_proxy, lower_bound, may_go, no_pods, some_pods, zero_rule}
use Rattle.kn_levers.specs.declared.lever.Setting.TheVariants as setting
use Rattle.kn_levers.specs.Laws.{Changes, IsInOrder, Moment, before_of, bounded_by, delayed_by, is_other, judged_before, judged_now, passed_in, undelayed_by}
use Rattle.kn_levers.specs.Levers.{at_zero, by_rule, in_active, in_phase, is_grace_over, is_young, longer, one_pod, stay}
use Rattle.kn_levers.specs.Settings.{hour_ms, hour_s, with_setting}
use Rattle.kn_levers.proofs.Answered.{flips_is_other, goes_by_both, goes_by_grace, goes_by_retention, kept_one, lasted, lasted_is, longer_is_other, more_differ, none_inactive, none_wanted, not_lasted, on_is_other, one_for_none, shorter_is_other, stays_by_retention, waits_is_other, zero_some}
use Rattle.kn_levers.proofs.Bounded.{low_rises, min_least, none_asked}
use Rattle.kn_levers.proofs.Decided.{IsDecidedIn, delayed_by_is, same_bounded, same_delayed}
use Rattle.kn_levers.proofs.Panics.{fewer_ask}

-- the whole seconds of a time, which are over and within a longer window
pub past_it : (n : ℕ) → nat_lt n (1000 * (n / 1000)) ≡ false
past_it n = grind (arith, nat_tests)

pub whole : (n k : ℕ) → nat_lt n (1000 * k) ≡ true → n / 1000 ≤ k
whole n k young = grind (arith, nat_tests)

-- a window of so many whole seconds asks for no more
shorter_window : (s : Spec) (m : Moment) (seconds : ℕ) → seconds ≤ s.stable_s → undelayed_by s (record s { stable_s = seconds }) m ≤ undelayed_by s s m
unfolding desired_counts pods_for max_scale_up max_scale_down count_for is_over
shorter_window s m seconds shorter =
    fewer_ask (judged_now (record s { stable_s = seconds }) m) (judged_now s m) (judged_before s m) refl (omega arith) (λ over. over) (omega arith) (omega arith)

pub same_within : (s : Spec) (reached : Bool) (seconds n : ℕ) → bounded_count (record s { stable_s = seconds }) reached n ≡ bounded_count s reached n
unfolding bounded_count lower_bound
same_within s reached seconds n = refl

module _ (s : Spec) (m : Moment) (d : Decision) (is : IsDecidedIn s m d) (order : IsInOrder m) (recents : ℕ) (none : d.bounded ≡ 0) where
  nobody : bounded_by s s m ≡ 0
  nobody = sym is.bounded ∙ none

  -- no pod is asked for with the other settings either
  at_none : (t : Spec) → bounded_by s t m ≡ 0 → is_other (zero_rule s m.time m.ready 0 m.past.standing) (zero_rule t m.time m.ready 0 m.past.standing) ≡ true → Changes s t m
  at_none t none' h = rw (nobody, none') h

  -- or some may be
  at_some : (t : Spec) → is_other (zero_rule s m.time m.ready 0 m.past.standing) (zero_rule t m.time m.ready (bounded_by s t m) m.past.standing) ≡ true → Changes s t m
  at_some t h = rw nobody h

  asked_none : delayed_by s s m ≡ 0
  asked_none = none_asked s m.past.reached (delayed_by s s m) nobody

  -- one pod is kept, and a lower bound asks for two
  one_changes : (t : Spec) → zero_rule s m.time m.ready 0 m.past.standing ≡ some_pods m.ready 1 → delayed_by s t m ≡ delayed_by s s m → 2 ≤ t.min → Changes s t m
  one_changes t one same two =
      let low = min_least t m.past.reached in
      let asked = asked_none in
      let more : 1 < bounded_by s t m = low_rises t m.past.reached (delayed_by s t m) 1 (omega (arith, same, asked)) (lit< tt) (omega (arith, low, two)) in
      at_some t (rw (one, zero_some t m.time m.ready (bounded_by s t m) m.past.standing (omega (arith, more)), more_differ 1 (bounded_by s t m) more) refl)

  one_pod_changes : zero_rule s m.time m.ready 0 m.past.standing ≡ some_pods m.ready 1 → Changes s (with_setting s (one_pod s).setting) m
  one_pod_changes one = by (s.max == 1)
    where
      by : (b : Bool) → Changes s (with_setting s (cond b (setting.MinAndMax 2 2) (setting.Min 2))) m
      by true = one_changes (record s { min = 2; max = 2 }) one (same_delayed s m 2 2 s.initial) (omega arith)
      by false = one_changes (record s { min = 2 }) one (same_delayed s m 2 s.max s.initial) (omega arith)

  -- ---- without scale to zero

  off_changes : s.to_zero ≡ false
      → Changes s (with_setting s (cond (is_young s m.past.standing.phase (passed_in m)) (one_pod s) (by_rule (setting.ToZero true))).setting) m
  off_changes off = by (is_young s m.past.standing.phase (passed_in m)) refl
    where
      by : (y : Bool) → is_young s m.past.standing.phase (passed_in m) ≡ y → Changes s (with_setting s (cond y (one_pod s) (by_rule (setting.ToZero true))).setting) m
      by true e = one_pod_changes (kept_one s m.time m.ready m.past.standing order.phase (rw off refl))
      by false e =
          at_none (record s { to_zero = true }) (same_bounded s m true s.grace_ms s.retention_ms ∙ nobody) (on_is_other s m.time m.ready m.past.standing order.phase off e)

  -- ---- pods that wait for the first ready one

  waits_changes : s.to_zero ≡ true → m.past.standing.phase ≡ phase.Activating → Changes s (record s { min = 1 }) m
  waits_changes on waits =
      let t : Spec = record s { min = 1 } in
      let low = min_least t m.past.reached in
      let same = same_delayed s m 1 s.max s.initial in
      let asked = asked_none in
      let some : 0 < bounded_by s t m = low_rises t m.past.reached (delayed_by s t m) 0 (omega (arith, same, asked)) (lit< tt) (omega (arith, low)) in
      at_some t (waits_is_other s t m.time m.ready (bounded_by s t m) m.past.standing on waits some)

  -- ---- active

  shorter_changes : s.to_zero ≡ true → m.past.standing.phase ≡ phase.Active → nat_lt (passed_in m) (1000 * s.stable_s) ≡ true
      → Changes s (record s { stable_s = (passed_in m) / 1000 }) m
  shorter_changes on active young =
      let t : Spec = record s { stable_s = passed_in m / 1000 } in
      let fits = whole (passed_in m) s.stable_s young in
      let asks = shorter_window s m (passed_in m / 1000) fits in
      let parts = delayed_by_is s s m in
      let parts' = delayed_by_is s t m in
      let zero = asked_none in
      let none' : delayed_by s t m ≡ 0 = omega (arith, asks, parts, parts', zero) in
      let bounded : bounded_by s t m ≡ 0 = ap (bounded_count t m.past.reached) none' ∙ same_within s m.past.reached (passed_in m / 1000) 0 ∙ sym (ap (bounded_count s m.past.reached) zero) ∙ nobody in
      at_none t bounded (shorter_is_other s t m.time m.ready m.past.standing
      (kept_one s m.time m.ready m.past.standing order.phase (rw (on, active) young))
      (none_wanted t m.time m.ready m.past.standing on active (lasted m.past.standing.phase_since (1000 * (passed_in m / 1000)) m.time order.phase (past_it (passed_in m)))))

  active_changes : s.to_zero ≡ true → m.past.standing.phase ≡ phase.Active → Changes s (with_setting s (in_active s (before_of s m recents)).setting) m
  active_changes on active = by (nat_lt (passed_in m) (1000 * s.stable_s)) refl (nat_le 6000 (passed_in m)) (nat_lt (passed_in m) hour_ms) refl
    where
      goes : nat_lt (passed_in m) (1000 * s.stable_s) ≡ false → zero_rule s m.time m.ready 0 m.past.standing ≡ no_pods false
      goes e = none_wanted s m.time m.ready m.past.standing on active (lasted m.past.standing.phase_since (1000 * s.stable_s) m.time order.phase e)

      by : (y : Bool) → nat_lt (passed_in m) (1000 * s.stable_s) ≡ y → (w : Bool) → (h : Bool) → nat_lt (passed_in m) hour_ms ≡ h
          → Changes s (with_setting s (cond y (cond w (by_rule (setting.StableWindow (passed_in m / 1000))) (one_pod s)) (cond h (by_rule (setting.StableWindow hour_s)) (by_rule (setting.ToZero false)))).setting) m
      by true e true h f = shorter_changes on active e
      by true e false h f = one_pod_changes (kept_one s m.time m.ready m.past.standing order.phase (rw (on, active) e))
      by false e w true f =
          at_some (record s { stable_s = hour_s }) (longer_is_other s (record s { stable_s = hour_s }) m.time m.ready (bounded_by s (record s { stable_s = hour_s }) m) m.past.standing (goes e) active
          (not_lasted m.past.standing.phase_since hour_ms m.time order.phase f))
      by false e w false f =
          at_none (record s { to_zero = false }) (same_bounded s m false s.grace_ms s.retention_ms ∙ nobody)
          (one_for_none s (record s { to_zero = false }) m.time m.ready m.past.standing (ap (λ (a : ZeroAnswer). a.want) (goes e)) refl)

  -- ---- inactive

  applied_is : s.to_zero ≡ true → m.past.standing.phase ≡ phase.Inactive → d.applied ≡ may_go s m.time m.past.standing
  applied_is on inactive =
      is.applied ∙ ap (λ (n : ℕ). (zero_rule s m.time m.ready n m.past.standing).applied) nobody ∙ ap (λ (a : ZeroAnswer). a.applied) (none_inactive s m.time m.ready m.past.standing on inactive)

  -- with another grace period or retention they go in place of staying, or stay
  flips : (grace retention : ℕ) → s.to_zero ≡ true → m.past.standing.phase ≡ phase.Inactive
      → may_go (record s { grace_ms = grace; retention_ms = retention }) m.time m.past.standing ≡ not (may_go s m.time m.past.standing)
      → Changes s (record s { grace_ms = grace; retention_ms = retention }) m
  flips grace retention on inactive other =
      at_none (record s { grace_ms = grace; retention_ms = retention }) (same_bounded s m s.to_zero grace retention ∙ nobody)
      (flips_is_other s (record s { grace_ms = grace; retention_ms = retention }) m.time m.ready m.past.standing on on inactive other)

  inactive_changes : s.to_zero ≡ true → m.past.standing.phase ≡ phase.Inactive
      → Changes s (with_setting s (cond d.applied (longer (before_of s m recents) (setting.Retention hour_ms)) (by_rule (stay s (before_of s m recents)))).setting) m
  inactive_changes on inactive = by d.applied refl (nat_lt (passed_in m) hour_ms) refl (nat_le s.retention_ms (passed_in m)) refl (is_grace_over s (before_of s m recents)) refl
    where
      went : (b : Bool) → d.applied ≡ b → may_go s m.time m.past.standing ≡ b
      went b e = sym (applied_is on inactive) ∙ e

      over : is_grace_over s (before_of s m recents) ≡ true
          → (has_lasted m.past.standing.phase_since s.grace_ms m.time || (is_proxy m.past.standing.mode && has_lasted m.past.standing.mode_since s.grace_ms m.time)) ≡ true
      over h = rw (sym (lasted_is m.past.standing.phase_since s.grace_ms m.time order.phase), sym (lasted_is m.past.standing.mode_since s.grace_ms m.time order.mode)) h

      by : (g : Bool) → d.applied ≡ g → (h : Bool) → nat_lt (passed_in m) hour_ms ≡ h → (r : Bool) → nat_le s.retention_ms (passed_in m) ≡ r → (w : Bool) → is_grace_over s (before_of s m recents) ≡ w
          → Changes s (with_setting s (cond g (cond h (by_rule (setting.Retention hour_ms)) (by_rule (setting.ToZero false)))
          (by_rule (cond r setting.Grace (cond w (setting.Retention 0) setting.GraceAndRetention)))).setting) m
      by true e true f r i w j =
          flips s.grace_ms hour_ms on inactive (stays_by_retention s m.time m.past.standing (not_lasted m.past.standing.phase_since hour_ms m.time order.phase f) ∙ sym (ap not (went true e)))
      by true e false f r i w j =
          at_none (record s { to_zero = false }) (same_bounded s m false s.grace_ms s.retention_ms ∙ nobody)
          (one_for_none s (record s { to_zero = false }) m.time m.ready m.past.standing (ap (λ (a : ZeroAnswer). a.want) (none_inactive s m.time m.ready m.past.standing on inactive)) refl)
      by false e h f true i w j =
          flips 0 s.retention_ms on inactive (goes_by_grace s m.time m.past.standing (sym (lasted_is m.past.standing.phase_since s.retention_ms m.time order.phase) ∙ i) ∙ sym (ap not (went false e)))
      by false e h f false i true j = flips s.grace_ms 0 on inactive (goes_by_retention s m.time m.past.standing order.phase (over j) ∙ sym (ap not (went false e)))
      by false e h f false i false j = flips 0 0 on inactive (goes_by_both s m.time m.past.standing order.phase ∙ sym (ap not (went false e)))

  -- ---- all of them

  in_phase_changes : s.to_zero ≡ true → (p : Phase) → m.past.standing.phase ≡ p → Changes s (with_setting s (in_phase p s (before_of s m recents) d).setting) m
  in_phase_changes on phase.Activating at = waits_changes on at
  in_phase_changes on phase.Active at = active_changes on at
  in_phase_changes on phase.Inactive at = inactive_changes on at

  pub zero_changes : Changes s (with_setting s (at_zero s (before_of s m recents) d).setting) m
  zero_changes = by s.to_zero refl
    where
      by : (z : Bool) → s.to_zero ≡ z
          → Changes s (with_setting s (cond z (in_phase m.past.standing.phase s (before_of s m recents) d)
          (cond (is_young s m.past.standing.phase (passed_in m)) (one_pod s) (by_rule (setting.ToZero true)))).setting) m
      by true on = in_phase_changes on m.past.standing.phase refl
      by false off = off_changes off

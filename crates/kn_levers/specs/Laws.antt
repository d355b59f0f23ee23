-- What it is that settings change a decision.
use Rattle.std.specs.Prelude.{◌≡◌, ℕ, Bool, true, false, not, ◌-◌, ◌*◌, ◌/◌, ◌≤◌, ◌||◌, ◌==◌, nat_le, nat_lt, List, ◌∷◌, map, if◌then◌else◌}
use Rattle.std.specs.List.{find}
use Rattle.kn_event.specs.declared.entry.Decision.{Decision}
use Rattle.kn_event.specs.declared.entry.Phase.{Phase}
use Rattle.kn_event.specs.declared.entry.Phase.TheVariants as phase
use Rattle.kn_event.specs.declared.revision.Spec.{Spec}
use Rattle.kn_event.specs.declared.units.Frac.{Frac}
use Rattle.kn_event.specs.Revision.{AreInRange}
use Rattle.kn_scaling.specs.declared.delay.Asked.{Asked}
use Rattle.kn_scaling.specs.declared.panic.Judged.{Judged}
use Rattle.kn_scaling.specs.declared.zero.ZeroAnswer.{ZeroAnswer}
use Rattle.kn_scaling.specs.Average.{second_of}
use Rattle.kn_scaling.specs.Decide.{Past, asked_of, judged_of, ruling, stable_window_ms}
use Rattle.kn_scaling.specs.Delay.{delayed_count, recent_count}
use Rattle.kn_scaling.specs.Demand.{desired_counts}
use Rattle.kn_scaling.specs.Panic.{is_over_decision, is_within_window, undelayed_count}
use Rattle.kn_scaling.specs.Zero.{bounded_count, pods_most, zero_rule}
use Rattle.kn_levers.specs.declared.lever.Before.{Before}
use Rattle.kn_levers.specs.Levers.{change_of, is_grace_over}
use Rattle.kn_levers.specs.Settings.{hour_ms, hour_s, with_setting}

-- all that a decision goes by, but for the specification
pub record Moment : Type 0 where
  pub past : Past
  pub time : ℕ
  pub ready : ℕ
  pub stable : Frac
  pub panic : Frac

-- phase and mode began before, and no more pods are ready than there may be
pub record IsInOrder (m : Moment) : Type 0 where
  pub phase : m.past.standing.phase_since ≤ m.time
  pub mode : m.past.standing.mode_since ≤ m.time
  pub ready : m.ready ≤ pods_most

abbrev pub decision_in : Spec → Moment → Decision
decision_in s m = (ruling s m.past m.time m.ready m.stable m.panic).decision

-- ---- what it looks back on

-- the decision itself, as panic reads it
abbrev pub judged_now : Spec → Moment → Judged
judged_now s m = record { time = m.time; counts = desired_counts s m.ready m.stable m.panic; window_ms = stable_window_ms s }

-- the earlier ones
abbrev pub judged_before : Spec → Moment → List Judged
judged_before s m = map (judged_of s) m.past.decisions

abbrev pub asked_before : Moment → List Asked
asked_before m = map asked_of m.past.decisions

-- the most that earlier decisions asked for within the delay
abbrev pub recent_in : Spec → Moment → ℕ
recent_in s m = recent_count s.delay_s (second_of m.time) (asked_before m)

-- what it finds, with so many taken for the most within the delay
abbrev pub before_of : Spec → Moment → ℕ → Before
before_of s m recent = record {
  phase = m.past.standing.phase;
  passed = m.time - m.past.standing.phase_since;
  mode = m.past.standing.mode;
  mode_passed = m.time - m.past.standing.mode_since;
  reached = m.past.reached;
  over = is_within_window (judged_now s m) (find is_over_decision (judged_before s m));
  recent = recent;
}

-- ---- the decision by one specification, with the panic as another one made it: by it the earlier decisions are judged

abbrev pub undelayed_by : Spec → Spec → Moment → ℕ
undelayed_by made s m = undelayed_count (judged_now s m ∷ judged_before made m)

abbrev pub delayed_by : Spec → Spec → Moment → ℕ
delayed_by made s m = delayed_count s.delay_s (record { second = second_of m.time; count = undelayed_by made s m } ∷ asked_before m)

abbrev pub bounded_by : Spec → Spec → Moment → ℕ
bounded_by made s m = bounded_count s m.past.reached (delayed_by made s m)

-- the pods that are wanted, whether they are applied, and the phase after it
abbrev pub answer_by : Spec → Spec → Moment → ZeroAnswer
answer_by made s m = zero_rule s m.time m.ready (bounded_by made s m) m.past.standing

-- ---- another decision

-- another count, or applied otherwise
abbrev pub is_other : ZeroAnswer → ZeroAnswer → Bool
is_other a b = not (a.want == b.want) || (if a.applied then not b.applied else b.applied)

-- with these settings in place of the first, all else and the past the same, the decision comes out otherwise
abbrev pub Changes : Spec → Spec → Moment → Type 0
Changes s other m = is_other (answer_by s s m) (answer_by s other m) ≡ true

-- a specification with what is named of it, at its value
abbrev pub changed : Spec → Moment → ℕ → Spec
changed s m recent = with_setting s (change_of s (before_of s m recent) (decision_in s m)).setting

-- ---- the law, of a specification in range; the most within the delay may be taken for more than it is

abbrev pub EachChanges : Type 0
EachChanges = (s : Spec) (m : Moment) (recent : ℕ) → AreInRange s → IsInOrder m → recent_in s m ≤ recent → Changes s (changed s m recent) m

abbrev pub EachInRange : Type 0
EachInRange = (s : Spec) (m : Moment) (recent : ℕ) → AreInRange s → AreInRange (changed s m recent)

-- those answers are the decision's
abbrev pub EachIsRuled : Type 0
EachIsRuled = (s : Spec) (m : Moment) → ((decision_in s m).want ≡ (answer_by s s m).want) × ((decision_in s m).applied ≡ (answer_by s s m).applied)

-- ---- where no pod of a revision that scales to zero is asked for

-- no pod is asked for in this phase
pub record IsIdle (s : Spec) (m : Moment) (p : Phase) : Type 0 where
  pub none : (decision_in s m).bounded ≡ 0
  pub on : s.to_zero ≡ true
  pub phase : m.past.standing.phase ≡ p

abbrev pub passed_in : Moment → ℕ
passed_in m = m.time - m.past.standing.phase_since

-- by these settings and by averages over another window the decision comes out otherwise
abbrev pub ChangesOver : Spec → Spec → Moment → Frac → Frac → Type 0
ChangesOver s other m stable panic = is_other (answer_by s s m) (answer_by s other (record m { stable = stable; panic = panic })) ≡ true

-- active, with the stable window over: one of an hour, whatever the averages over it are
abbrev pub LongerWindow : Type 0
LongerWindow = (s : Spec) (m : Moment) (stable panic : Frac) → IsInOrder m → IsIdle s m phase.Active
    → nat_lt (passed_in m) (1000 * s.stable_s) ≡ false → nat_lt (passed_in m) hour_ms ≡ true → ChangesOver s (record s { stable_s = hour_s }) m stable panic

-- within it: one of the whole seconds passed, without load over it
abbrev pub ShorterWindow : Type 0
ShorterWindow = (s : Spec) (m : Moment) (stable panic : Frac) → AreInRange s → IsInOrder m → IsIdle s m phase.Active
    → nat_lt (passed_in m) (1000 * s.stable_s) ≡ true → stable.num ≡ 0 → panic.num ≡ 0 → ChangesOver s (record s { stable_s = passed_in m / 1000 }) m stable panic

-- by these settings it comes out as it did
abbrev pub Leaves : Spec → Spec → Moment → Type 0
Leaves s other m = is_other (answer_by s s m) (answer_by s other m) ≡ false

-- inactive, with neither period over: at whatever value neither of the two alone changes it
abbrev pub NeitherAlone : Type 0
NeitherAlone = (s : Spec) (m : Moment) (ms : ℕ) → IsInOrder m → IsIdle s m phase.Inactive
    → nat_le s.retention_ms (passed_in m) ≡ false → is_grace_over s (before_of s m 0) ≡ false → Leaves s (record s { grace_ms = ms }) m × Leaves s (record s { retention_ms = ms }) m

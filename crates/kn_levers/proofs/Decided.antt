-- A decision by its numbers, and what another specification makes of them.
use Rattle.std.proofs.Common.{◌≡◌, refl, ℕ, ◌<◌, ◌≤◌, Bool, true, not, ◌&&◌, ◌||◌, arith, ◌∷◌}
use Rattle.std.specs.Prelude.{◌==◌, nat_lt, max}
use Rattle.kn_event.specs.declared.entry.Decision.{Decision}
use Rattle.kn_event.specs.declared.revision.Spec.{Spec}
use Rattle.kn_scaling.specs.Average.{second_of}
use Rattle.kn_scaling.specs.Decide.{ruling}
use Rattle.kn_scaling.specs.Delay.{recent_count}
use Rattle.kn_scaling.specs.Demand.{count_for, desired_counts, is_over, max_scale_down, max_scale_up, pods_for}
use Rattle.kn_scaling.specs.Panic.{is_panicking}
use Rattle.kn_scaling.specs.Zero.{bounded_count, lower_bound, pods_most}
use Rattle.kn_levers.specs.Laws.{Changes, IsInOrder, Moment, answer_by, asked_before, before_of, bounded_by, decision_in, delayed_by, judged_before, judged_now, undelayed_by}
use Rattle.kn_levers.specs.Levers.{keeps_one}
use Rattle.kn_levers.proofs.Answered.{fewer_is_other, lower_is_other, more_is_other}
use Rattle.kn_levers.proofs.Bounded.{low_rises}
use Rattle.kn_levers.proofs.Panics.{delayed_is}

-- ---- its numbers

pub record IsDecidedIn (s : Spec) (m : Moment) (d : Decision) : Type 0 where
  pub ready : d.ready ≡ m.ready
  pub dspc : d.dspc ≡ pods_for s m.stable
  pub dppc : d.dppc ≡ pods_for s m.panic
  pub stable : d.stable ≡ m.stable
  pub panic : d.panic ≡ m.panic
  pub over : d.over ≡ is_over s m.ready (pods_for s m.panic)
  pub panicking : d.panicking ≡ is_panicking (judged_now s m ∷ judged_before s m)
  pub undelayed : d.undelayed ≡ undelayed_by s s m
  pub delayed : d.delayed ≡ delayed_by s s m
  pub bounded : d.bounded ≡ bounded_by s s m
  pub want : d.want ≡ (answer_by s s m).want
  pub applied : d.applied ≡ (answer_by s s m).applied

pub decided : (s : Spec) (m : Moment) → IsDecidedIn s m (decision_in s m)
unfolding ruling desired_counts
decided s m = record {
  ready = refl;
  dspc = refl;
  dppc = refl;
  stable = refl;
  panic = refl;
  over = refl;
  panicking = refl;
  undelayed = refl;
  delayed = refl;
  bounded = refl;
  want = refl;
  applied = refl;
}

-- ---- the same counts by other bounds and periods, and within other bounds

pub same_delayed : (s : Spec) (m : Moment) (least most initial : ℕ) → delayed_by s (record s { min = least; max = most; initial = initial }) m ≡ delayed_by s s m
unfolding desired_counts pods_for max_scale_up max_scale_down count_for is_over
same_delayed s m least most initial = refl

pub same_bounded : (s : Spec) (m : Moment) (on : Bool) (grace retention : ℕ) → bounded_by s (record s { to_zero = on; grace_ms = grace; retention_ms = retention }) m ≡ bounded_by s s m
unfolding desired_counts pods_for max_scale_up max_scale_down count_for is_over bounded_count lower_bound
same_bounded s m on grace retention = refl

-- ---- another answer

pub more_changes : (s t : Spec) (m : Moment) → 0 < bounded_by s s m → bounded_by s s m < bounded_by s t m → Changes s t m
more_changes s t m some more = more_is_other s t m.time m.ready (bounded_by s s m) (bounded_by s t m) m.past.standing some more

pub fewer_changes : (s t : Spec) (m : Moment) → 0 < bounded_by s t m → bounded_by s t m < bounded_by s s m → Changes s t m
fewer_changes s t m some fewer = fewer_is_other s t m.time m.ready (bounded_by s s m) (bounded_by s t m) m.past.standing some fewer

pub lower_changes : (s t : Spec) (m : Moment) → IsInOrder m → t.to_zero ≡ s.to_zero → t.stable_s ≡ s.stable_s → bounded_by s t m < bounded_by s s m
    → (nat_lt 0 (bounded_by s t m) || not ((bounded_by s s m == 1) && keeps_one s (before_of s m 0))) ≡ true → Changes s t m
lower_changes s t m order zero window fewer kept = lower_is_other s t m.time m.ready (bounded_by s s m) (bounded_by s t m) m.past.standing order.phase zero window fewer kept

-- a lower bound above the count
pub low_changes : (s t : Spec) (m : Moment) → delayed_by s t m ≡ delayed_by s s m → 0 < bounded_by s s m → bounded_by s s m < pods_most → delayed_by s s m ≤ bounded_by s s m
    → bounded_by s s m < lower_bound t m.past.reached → Changes s t m
low_changes s t m same some few asked low = more_changes s t m some (low_rises t m.past.reached (delayed_by s t m) (bounded_by s s m) (omega (arith, same, asked)) few low)

-- ---- what the delay adds

pub delayed_by_is : (s t : Spec) (m : Moment) → delayed_by s t m ≡ max (undelayed_by s t m) (recent_count t.delay_s (second_of m.time) (asked_before m))
delayed_by_is s t m = delayed_is t.delay_s (record { second = second_of m.time; count = undelayed_by s t m }) (asked_before m)

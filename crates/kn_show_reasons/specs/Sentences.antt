-- Which lines a decision has, and by which numbers: each sentence stands where its rule held.
use Rattle.std.specs.Prelude.{ℕ, Bool, ◌-◌, ◌*◌, ◌/◌, ◌==◌, ◌&&◌, nat_lt, max, List, [], ◌∷◌, Option, None, Some, if◌then◌else◌}
use Rattle.std.specs.Bool.{then_some}
use Rattle.std.specs.List.{filter_map}
use Rattle.kn_event.specs.declared.entry.Decision.{Decision}
use Rattle.kn_event.specs.declared.entry.Phase.{Phase}
use Rattle.kn_event.specs.declared.entry.Phase.TheVariants as phase
use Rattle.kn_event.specs.declared.revision.Burst.{Burst}
use Rattle.kn_event.specs.declared.revision.Burst.TheVariants as burst
use Rattle.kn_event.specs.declared.revision.Spec.{Spec}
use Rattle.kn_scaling.specs.Demand.{count_for, max_scale_down, max_scale_up, one_or_more}
use Rattle.kn_levers.specs.Levers.{is_cut, is_kept, is_raised}
use Rattle.kn_reason.specs.declared.reason.Lever.{Lever}
use Rattle.kn_reason.specs.declared.reason.Lever.TheVariants as lever
use Rattle.kn_reason.specs.declared.reason.Reason.{Reason}
use Rattle.kn_reason.specs.declared.reason.Reason.TheVariants as reason

-- ---- what an average asks for: so many pods, at so many ready ones

abbrev pub up_rate : Spec → ℕ → ℕ → Option Reason
up_rate s ready pods = then_some (is_cut s ready pods) (reason.UpRate s.up (max_scale_up s ready))

abbrev pub down_rate : Spec → ℕ → ℕ → Option Reason
down_rate s ready pods = then_some (is_kept s ready pods) (reason.DownRate s.down (max_scale_down s ready))

abbrev pub activation : Spec → ℕ → ℕ → Option Reason
activation s ready pods = then_some (is_raised s ready pods) (reason.Activation s.activation)

-- ---- the averages

-- in thousandths, rounded down
abbrev pub target_milli : Spec → ℕ
target_milli s = s.target.num * 1000 / s.target.den

abbrev pub stable_reason : Spec → Decision → Reason
stable_reason s d = reason.Stable s.stable_s d.stable (target_milli s) d.dspc

abbrev pub panic_reason : Spec → Decision → Reason
panic_reason s d = reason.Panic s.panic_s d.panic d.dppc

-- ---- panic

-- it begins, now or anew, or goes on
abbrev pub panics : Spec → Decision → Option Reason
panics s d =
    if d.over then Some (reason.Over d.dppc (one_or_more d.ready) s.panic_threshold)
    else then_some d.panicking (reason.GoesOn d.undelayed)

-- the greater of what the two averages ask for, within the rates and at the activation scale
abbrev pub asked_now : Spec → Decision → ℕ
asked_now s d = max (count_for s d.ready d.dspc) (count_for s d.ready d.dppc)

-- a panic that begins anew: more were asked for since it first began
abbrev pub asked_more : Spec → Decision → Bool
asked_more s d = d.panicking && nat_lt (asked_now s d) d.undelayed

abbrev pub most : Spec → Decision → Option Reason
most s d = then_some (d.over && asked_more s d) (reason.Most d.undelayed)

-- ---- the delay and the bounds

abbrev pub delay : Spec → Decision → Option Reason
delay s d = then_some (nat_lt d.undelayed d.delayed) (reason.Delay s.delay_s d.delayed)

abbrev pub raised_by : Spec → Decision → Reason
raised_by s d = if d.bounded == s.min then reason.Min s.min d.bounded else reason.Initial s.initial d.bounded

abbrev pub capped_by : Spec → Decision → Reason
capped_by s d = if d.bounded == s.max then reason.Max s.max d.bounded else reason.Ceiling d.bounded

abbrev pub bound : Spec → Decision → Option Reason
bound s d = if nat_lt d.delayed d.bounded then Some (raised_by s d) else then_some (nat_lt d.bounded d.delayed) (capped_by s d)

-- ---- scale to zero, in the phase before the decision, of which so many milliseconds have passed

abbrev pub in_active : Spec → Decision → ℕ → Reason
in_active s d passed = if d.want == 0 then reason.GoesInactive passed (1000 * s.stable_s) else reason.Active passed (1000 * s.stable_s) d.want

abbrev pub in_inactive : Spec → Decision → ℕ → Reason
in_inactive s d passed = if d.applied then reason.Inactive passed d.want else reason.NotYet passed s.grace_ms s.retention_ms

abbrev pub by_phase : Spec → Decision → ℕ → Option Phase → Option Reason
by_phase s d passed None = None
by_phase s d passed (Some phase.Activating) = Some (reason.Waits d.want)
by_phase s d passed (Some phase.Active) = Some (in_active s d passed)
by_phase s d passed (Some phase.Inactive) = Some (in_inactive s d passed)

-- where no pod is asked for
abbrev pub at_zero : Spec → Decision → ℕ → Option Phase → Option Reason
at_zero s d passed p = if d.bounded == 0 then (if s.to_zero then by_phase s d passed p else Some (reason.NoZero d.want)) else None

-- ---- the burst capacity

abbrev pub burst_by : Spec → Decision → Burst → Reason
burst_by s d burst.Unlimited = reason.BurstUnlimited d.mode
burst_by s d (burst.Capacity capacity) =
    if capacity.0 == 0 then reason.BurstOff d.mode
    else reason.Burst (record { ready = d.ready; total = s.total; capacity = capacity; average = d.panic; excess = d.excess; mode = d.mode })

-- ---- what would change the count: the last rule that did

-- of the rules that hold what the stable average asks for
abbrev pub demand_lever : Spec → Decision → Lever
demand_lever s d =
    if is_raised s d.ready d.dspc then lever.Activation
    else (if is_kept s d.ready d.dspc then lever.DownRate
    else (if is_cut s d.ready d.dspc then lever.UpRate else lever.Load))

-- of those before the bounds
abbrev pub asked_lever : Spec → Decision → Lever
asked_lever s d =
    if nat_lt d.undelayed d.delayed then lever.Delay
    else (if d.undelayed == count_for s d.ready d.dspc then demand_lever s d else lever.Panic)

-- of the bounds
abbrev pub bound_lever : Spec → Decision → Lever
bound_lever s d =
    if nat_lt d.delayed d.bounded then (if d.bounded == s.min then lever.Min else lever.Initial)
    else (if d.bounded == s.max then lever.Max else lever.Nothing)

-- of scale to zero
-- the longer of the two periods
abbrev pub wait_lever : Spec → Lever
wait_lever s = if nat_lt s.grace_ms s.retention_ms then lever.Retention else lever.Grace

abbrev pub phase_lever : Spec → Option Phase → Lever
phase_lever s None = lever.Load
phase_lever s (Some phase.Activating) = lever.Ready
phase_lever s (Some phase.Active) = lever.StableWindow
phase_lever s (Some phase.Inactive) = wait_lever s

abbrev pub zero_lever : Spec → Option Phase → Lever
zero_lever s p = if s.to_zero then phase_lever s p else lever.ToZero

unfoldable pub lever_of : Spec → Option Phase → Decision → Lever
lever_of s p d =
    if d.bounded == 0 then zero_lever s p
    else (if d.bounded == d.delayed then asked_lever s d else bound_lever s d)

-- ---- all together, in the phase before the decision, which began at this time

-- each sentence of the decision, where it stands
unfoldable pub sentences_of : Spec → ℕ → Option Phase → ℕ → Decision → List (Option Reason)
sentences_of s t p since d =
    Some (reason.Wants d.want d.ready)
    ∷ Some (stable_reason s d)
    ∷ up_rate s d.ready d.dspc
    ∷ down_rate s d.ready d.dspc
    ∷ activation s d.ready d.dspc
    ∷ Some (panic_reason s d)
    ∷ up_rate s d.ready d.dppc
    ∷ down_rate s d.ready d.dppc
    ∷ activation s d.ready d.dppc
    ∷ panics s d
    ∷ most s d
    ∷ delay s d
    ∷ bound s d
    ∷ at_zero s d (t - since) p
    ∷ Some (burst_by s d s.burst)
    ∷ Some (reason.Change (lever_of s p d))
    ∷ []

-- those that stand
unfoldable pub reasons_of : Spec → ℕ → Option Phase → ℕ → Decision → List Reason
reasons_of s t p since d = filter_map (λ x. x) (sentences_of s t p since d)

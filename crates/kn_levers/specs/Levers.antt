-- Which settings a decision hangs on, and the value of each by which it comes out otherwise: the first line that fits.
use Rattle.std.specs.Prelude.{ℕ, Bool, true, false, not, ◌+◌, ◌-◌, ◌*◌, ◌/◌, ◌&&◌, ◌||◌, ◌==◌, nat_lt, nat_le, max, List, if◌then◌else◌}
use Rattle.kn_event.specs.declared.units.Frac.{Frac}
use Rattle.kn_event.specs.declared.entry.Decision.{Decision}
use Rattle.kn_event.specs.declared.entry.Phase.{Phase}
use Rattle.kn_event.specs.declared.entry.Phase.TheVariants as phase
use Rattle.kn_event.specs.declared.revision.Spec.{Spec}
use Rattle.kn_scaling.specs.Demand.{count_for, max_scale_down, max_scale_up, one_or_more, with_activation, within_rates}
use Rattle.kn_scaling.specs.Zero.{is_proxy, lower_bound, pods_most}
use Rattle.kn_levers.specs.declared.lever.Before.{Before}
use Rattle.kn_levers.specs.declared.lever.Change.{Change}
use Rattle.kn_levers.specs.declared.lever.Lever.{Lever}
use Rattle.kn_levers.specs.declared.lever.Setting.{Setting}
use Rattle.kn_levers.specs.declared.lever.Setting.TheVariants as setting
use Rattle.kn_levers.specs.declared.lever.Why.{Why}
use Rattle.kn_levers.specs.declared.lever.Why.TheVariants as why
use Rattle.kn_levers.specs.Settings.{hour_ms, hour_s, least_rate, levers, most_rate}

-- the setting whose own rule gave the count
abbrev pub by_rule : Setting → Change
by_rule x = record { setting = x; why = why.Rule }

-- ---- a bound, which changes any count above 0

-- min-scale can be raised over the count
abbrev pub has_above : Spec → Decision → Bool
has_above s d = nat_lt d.bounded pods_most && (s.max == 0 || nat_lt d.bounded s.max)

-- max-scale can be set below it
abbrev pub has_below : Spec → Decision → Bool
has_below s d = nat_le 2 d.bounded && nat_lt s.min d.bounded

-- one pod more by min-scale
abbrev pub one_more : Decision → Setting
one_more d = setting.Min (d.bounded + 1)

-- max-scale is the count: both bounds above it. 500 is the most: both below it, and the initial scale where it holds 500 too
abbrev pub both_bounds : Spec → Before → Decision → Setting
both_bounds s x d =
    if nat_lt d.bounded pods_most then setting.MinAndMax (d.bounded + 1) 0
    else (if x.reached || nat_lt s.initial pods_most then setting.MinAndMax (pods_most - 1) (pods_most - 1) else setting.Bounds (pods_most - 1))

abbrev pub bound_setting : Spec → Before → Decision → Setting
bound_setting s x d =
    if has_above s d then one_more d
    else (if has_below s d then setting.Max (d.bounded - 1)
    else (if not x.reached && nat_lt d.bounded pods_most then setting.Initial (d.bounded + 1) else both_bounds s x d))

abbrev pub by_bound : Spec → Before → Decision → Why → Change
by_bound s x d w = record { setting = bound_setting s x d; why = w }

-- ---- no pod is asked for

-- active for less than the stable window
abbrev pub is_young : Spec → Phase → ℕ → Bool
is_young s phase.Active passed = nat_lt passed (1000 * s.stable_s)
is_young s phase.Activating passed = false
is_young s phase.Inactive passed = false

-- one pod is wanted where none is asked for: without scale to zero, or within the stable window
abbrev pub keeps_one : Spec → Before → Bool
keeps_one s x = not s.to_zero || is_young s x.phase x.passed

-- that pod, and no setting of scale to zero changes it now
abbrev pub one_pod : Spec → Change
one_pod s = record { setting = if s.max == 1 then setting.MinAndMax 2 2 else setting.Min 2; why = why.OnePod }

-- the grace period is over, by the phase or by the mode
abbrev pub is_grace_over : Spec → Before → Bool
is_grace_over s x = nat_le s.grace_ms x.passed || (is_proxy x.mode && nat_le s.grace_ms x.mode_passed)

-- pods stay: the retention, the grace period or both aren't over
abbrev pub stay : Spec → Before → Setting
stay s x =
    if nat_le s.retention_ms x.passed then setting.Grace
    else (if is_grace_over s x then setting.Retention 0 else setting.GraceAndRetention)

-- a longer period would keep pods for up to an hour; after it scale to zero alone does
abbrev pub longer : Before → Setting → Change
longer x period = if nat_lt x.passed hour_ms then by_rule period else by_rule (setting.ToZero false)

-- within the stable window a shorter one lets it go, of 6 seconds at least; after it a longer one keeps it
abbrev pub in_active : Spec → Before → Change
in_active s x =
    if nat_lt x.passed (1000 * s.stable_s) then (if nat_le 6000 x.passed then by_rule (setting.StableWindow (x.passed / 1000)) else one_pod s)
    else longer x (setting.StableWindow hour_s)

-- pods that wait for the first ready one; an active revision; pods that go or stay
abbrev pub in_phase : Phase → Spec → Before → Decision → Change
in_phase phase.Activating s x d = record { setting = setting.Min 1; why = why.OrReady }
in_phase phase.Active s x d = in_active s x
in_phase phase.Inactive s x d = if d.applied then longer x (setting.Retention hour_ms) else by_rule (stay s x)

abbrev pub at_zero : Spec → Before → Decision → Change
at_zero s x d =
    if s.to_zero then in_phase x.phase s x d
    else (if is_young s x.phase x.passed then one_pod s else by_rule (setting.ToZero true))

-- ---- a bound holds

-- min-scale holds more than is asked for
abbrev pub least : Spec → Before → Decision → Setting
least s x d =
    if has_above s d then one_more d
    else (if not x.reached && nat_lt d.bounded pods_most then setting.Initial (d.bounded + 1)
    else (if not x.reached && s.initial == d.bounded then setting.MinAndInitial (d.bounded - 1)
    else (if d.bounded == 1 && keeps_one s x then setting.MinAndMax 2 2 else setting.Min (d.bounded - 1))))

-- min-scale or the initial scale does
abbrev pub raised : Spec → Before → Decision → Change
raised s x d =
    if d.bounded == s.min then by_rule (least s x d)
    else (if nat_lt d.bounded pods_most then by_rule (setting.Initial (d.bounded + 1)) else by_rule (setting.Initial (pods_most - 1)))

-- max-scale, or 500, holds fewer than are asked for
abbrev pub capped : Spec → Before → Decision → Change
capped s x d =
    if nat_lt d.bounded pods_most then by_rule (setting.Max 0)
    else (if nat_lt s.min pods_most then record { setting = setting.Max (pods_most - 1); why = why.Ceiling }
    else record { setting = both_bounds s x d; why = why.Ceiling })

-- ---- what is asked for is wanted

-- so many asked for in place of those let fewer be wanted
abbrev pub lets_fewer : Spec → Before → Decision → ℕ → Bool
lets_fewer s x d n =
    nat_lt (max (lower_bound s x.reached) n) d.bounded
    && (nat_lt 0 (max (lower_bound s x.reached) n) || not (d.bounded == 1 && keeps_one s x))

-- why the delay isn't what holds them: a lower bound, or the one pod of an active revision
abbrev pub least_why : Spec → Before → Decision → Why
least_why s x d = if d.bounded == s.min then why.MinAsks else (if d.bounded == lower_bound s x.reached then why.InitialAsks else why.OnePod)

-- what the stable average asks for
abbrev pub stable_count : Spec → Decision → ℕ
stable_count s d = count_for s d.ready d.dspc

-- panic begins with this decision
abbrev pub begins_panic : Before → Decision → Bool
begins_panic x d = d.over && not x.over

-- it doesn't at the greatest threshold, and then fewer are wanted
abbrev pub hangs_on_panic : Spec → Before → Decision → Bool
hangs_on_panic s x d =
    nat_lt d.dppc (100 * one_or_more d.ready) && (nat_lt (stable_count s d) d.undelayed && lets_fewer s x d (max (stable_count s d) x.recent))

-- the activation scale holds so many pods, which are some within the rates
abbrev pub is_raised : Spec → ℕ → ℕ → Bool
is_raised s ready pods = nat_lt 0 (within_rates s ready pods) && nat_lt (within_rates s ready pods) s.activation

-- the down rate does
abbrev pub is_kept : Spec → ℕ → ℕ → Bool
is_kept s ready pods = nat_lt pods (max_scale_down s ready)

-- the up rate does
abbrev pub is_cut : Spec → ℕ → ℕ → Bool
is_cut s ready pods = nat_lt (max_scale_up s ready) (max (max_scale_down s ready) pods)

-- without the down rate fewer are wanted; in panic it isn't known
abbrev pub hangs_on_down : Spec → Before → Decision → ℕ → Bool
hangs_on_down s x d pods =
    is_kept s d.ready pods && (not d.panicking && lets_fewer s x d (max (with_activation s pods) x.recent))

-- at the least down rate so many are asked for
abbrev pub most_down : ℕ → ℕ
most_down ready = (1000 * one_or_more ready) / 1001

-- so many pods at the least target bear less than the average
abbrev pub bears_less : ℕ → Frac → Bool
bears_less pods average = nat_lt (pods * average.den) (100 * average.num)

abbrev pub kept : Spec → Decision → Change
kept s d =
    if nat_lt (max_scale_down s d.ready) (most_down d.ready) then by_rule (setting.DownRate least_rate)
    else record { setting = one_more d; why = why.DownRateHolds }

abbrev pub borne : Decision → ℕ → Frac → Change
borne d pods average =
    if bears_less pods average then record { setting = setting.Target; why = why.OrLoad }
    else record { setting = one_more d; why = why.NoTarget }

-- by which more are asked for than so many pods, which bear this average
abbrev pub asks_more : Spec → Decision → ℕ → Frac → Change
asks_more s d pods average =
    if nat_lt (max_scale_up s d.ready) pods then by_rule setting.UpRate
    else (if is_kept s d.ready pods then kept s d
    else (if nat_lt pods (max_scale_up s d.ready) then borne d pods average
    else record { setting = one_more d; why = why.UpRateHolds }))

-- why no more may be asked for
abbrev pub most_why : Decision → Why
most_why d = if nat_lt d.bounded pods_most then why.NoMore else why.Ceiling

-- of the average that the count goes by
abbrev pub by_average : Spec → Before → Decision → ℕ → Frac → Change
by_average s x d pods average =
    if has_above s d && is_raised s d.ready pods then by_rule (setting.Activation (d.bounded + 1))
    else (if hangs_on_down s x d pods then by_rule (setting.DownRate most_rate)
    else (if has_above s d then asks_more s d pods average else by_bound s x d (most_why d)))

-- of an earlier decision of the panic: what it asked for stays, so a bound
abbrev pub by_earlier : Spec → Before → Decision → Change
by_earlier s x d = if has_below s d then record { setting = setting.Max (d.bounded - 1); why = why.PanicKeeps } else by_bound s x d why.PanicKeeps

abbrev pub by_counts : Spec → Before → Decision → Change
by_counts s x d =
    if d.undelayed == stable_count s d then by_average s x d d.dspc d.stable
    else (if d.panicking && d.undelayed == count_for s d.ready d.dppc then by_average s x d d.dppc d.panic else by_earlier s x d)

abbrev pub undelayed : Spec → Before → Decision → Change
undelayed s x d = if begins_panic x d && hangs_on_panic s x d then by_rule setting.Panic else by_counts s x d

abbrev pub asked : Spec → Before → Decision → Change
asked s x d =
    if nat_lt d.undelayed d.delayed then (if lets_fewer s x d d.undelayed then by_rule setting.Delay else by_bound s x d (least_why s x d))
    else undelayed s x d

-- ---- all together

unfoldable pub change_of : Spec → Before → Decision → Change
change_of s x d =
    if d.bounded == 0 then at_zero s x d
    else (if nat_lt d.delayed d.bounded then raised s x d
    else (if nat_lt d.bounded d.delayed then capped s x d else asked s x d))

-- the settings that a decision hangs on
abbrev pub levers_of : Spec → Before → Decision → List Lever
levers_of s x d = levers (change_of s x d).setting

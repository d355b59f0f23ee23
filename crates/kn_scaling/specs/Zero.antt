-- The bounds of a count, and when a revision goes to no pods at all.
use Rattle.std.specs.Prelude.{ℕ, zero, suc, Bool, true, false, ◌+◌, ◌*◌, ◌&&◌, ◌||◌, ◌==◌, nat_lt, nat_le, min, max, if◌then◌else◌}
use Rattle.kn_event.specs.declared.entry.Phase.{Phase}
use Rattle.kn_event.specs.declared.entry.Phase.TheVariants as phase
use Rattle.kn_event.specs.declared.entry.Mode.{Mode}
use Rattle.kn_event.specs.declared.entry.Mode.TheVariants as mode
use Rattle.kn_event.specs.declared.revision.Spec.{Spec}
use Rattle.kn_scaling.specs.declared.zero.Standing.{Standing}
use Rattle.kn_scaling.specs.declared.zero.ZeroAnswer.{ZeroAnswer}

-- ---- the bounds

-- min-scale, raised to the initial scale as long as so many pods were never Ready
unfoldable pub lower_bound : Spec → Bool → ℕ
lower_bound spec reached = if reached then spec.min else max spec.min spec.initial

-- max-scale 0 is none
abbrev pub not_above_max : Spec → ℕ → ℕ
not_above_max spec count = if spec.max == 0 then count else min spec.max count

-- the most pods of a revision
abbrev pub pods_most : ℕ
pods_most = 500

-- a count below the lower bound becomes it, also where that is above max-scale; else one above max-scale becomes that
unfoldable pub bounded_count : Spec → Bool → ℕ → ℕ
bounded_count spec reached count =
    min pods_most (if nat_lt count (lower_bound spec reached) then lower_bound spec reached else not_above_max spec count)

-- ---- the scale-to-zero rule

abbrev pub is_proxy : Mode → Bool
is_proxy mode.Proxy = true
is_proxy mode.Serve = false

-- whether so many milliseconds went by
abbrev pub has_lasted : ℕ → ℕ → ℕ → Bool
has_lasted since ms time = nat_le (since + ms) time

-- inactive for the larger of grace and retention, or for retention and through the activator for grace
unfoldable pub may_go : Spec → ℕ → Standing → Bool
may_go spec time standing =
    has_lasted standing.phase_since (max spec.grace_ms spec.retention_ms) time
    || (has_lasted standing.phase_since spec.retention_ms time && is_proxy standing.mode && has_lasted standing.mode_since spec.grace_ms time)

-- applied, and then active where a pod is Ready, else activating
abbrev pub some_pods : ℕ → ℕ → ZeroAnswer
some_pods ready want = record { want = want; applied = true; phase = if nat_lt 0 ready then phase.Active else phase.Activating }

abbrev pub no_pods : Bool → ZeroAnswer
no_pods applied = record { want = 0; applied = applied; phase = phase.Inactive }

-- activating: all stays as it was. Active for less than a stable window: one pod. Active for longer: inactive, and the
-- pods stay for now. Inactive: they go once they may
abbrev pub zero_rule_in : Phase → Spec → ℕ → ℕ → Standing → ZeroAnswer
zero_rule_in phase.Activating spec time ready standing = record { want = standing.want; applied = false; phase = phase.Activating }
zero_rule_in phase.Active spec time ready standing =
    if has_lasted standing.phase_since (1000 * spec.stable_s) time then no_pods false else some_pods ready 1
zero_rule_in phase.Inactive spec time ready standing = no_pods (may_go spec time standing)

-- a bounded count above 0 is wanted; without scale to zero, one pod is; else it goes by the phase
unfoldable pub zero_rule : Spec → ℕ → ℕ → ℕ → Standing → ZeroAnswer
zero_rule spec time ready bounded standing =
    if nat_lt 0 bounded then some_pods ready bounded
    else (if spec.to_zero then zero_rule_in standing.phase spec time ready standing else some_pods ready 1)

abbrev pub opening_phase : ℕ → Phase
opening_phase zero = phase.Inactive
opening_phase (suc want) = phase.Activating

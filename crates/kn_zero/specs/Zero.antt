-- What a revision's zero rule keeps between its decisions.
use Rattle.std.specs.Prelude.{ℕ, Bool, true, false, max, if◌then◌else◌}
use Rattle.kn_event.specs.declared.entry.Phase.{Phase}
use Rattle.kn_event.specs.declared.entry.Phase.TheVariants as phase
use Rattle.kn_event.specs.declared.entry.Mode.{Mode}
use Rattle.kn_event.specs.declared.entry.Mode.TheVariants as mode
use Rattle.kn_event.specs.declared.revision.Spec.{Spec}
use Rattle.kn_scaling.specs.declared.zero.Standing.{Standing}
use Rattle.kn_scaling.specs.declared.zero.ZeroAnswer.{ZeroAnswer}
use Rattle.kn_scaling.specs.Burst.{is_activating, is_same_mode}
use Rattle.kn_scaling.specs.Decide.{stable_window_ms}
use Rattle.kn_scaling.specs.Zero.{opening_phase}
use Rattle.kn_zero.specs.declared.settings.Settings.{Settings}

pub record ZeroState : Type 0 where
  pub settings : Settings
  pub standing : Standing

abbrev pub settings_of : Spec → Settings
settings_of spec = record {
  to_zero = spec.to_zero;
  stable_ms = stable_window_ms spec;
  grace_ms = spec.grace_ms;
  retention_ms = spec.retention_ms;
}

-- ---- where the revision stands

-- at the opening the initial scale is wanted, or min-scale where that is more
abbrev pub opening_standing : Spec → ℕ → Standing
opening_standing spec start = record {
  phase = opening_phase (max spec.initial spec.min);
  phase_since = start;
  mode = mode.Proxy;
  mode_since = start;
  want = max spec.initial spec.min;
}

abbrev pub is_same_phase : Phase → Phase → Bool
is_same_phase phase.Activating phase.Activating = true
is_same_phase phase.Active phase.Active = true
is_same_phase phase.Inactive phase.Inactive = true
is_same_phase _ _ = false

-- in this phase from now on; since this time, unless it was in it before
abbrev pub with_phase : ℕ → Phase → Standing → Standing
with_phase time phase standing = record standing {
  phase = phase;
  phase_since = if is_same_phase phase standing.phase then standing.phase_since else time;
}

abbrev pub with_mode : ℕ → Mode → Standing → Standing
with_mode time mode standing = record standing {
  mode = mode;
  mode_since = if is_same_mode mode standing.mode then standing.mode_since else time;
}

-- after an answer of the zero rule
abbrev pub with_answer : ℕ → ZeroAnswer → Standing → Standing
with_answer time answer standing = record (with_phase time answer.phase standing) { want = answer.want }

-- a pod is Ready: activating becomes active
abbrev pub with_ready_pod : ℕ → Standing → Standing
with_ready_pod time standing = if is_activating standing.phase then with_phase time phase.Active standing else standing

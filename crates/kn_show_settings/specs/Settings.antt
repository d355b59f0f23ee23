-- The settings of a setup, in the order of their lines.
use Rattle.std.specs.Prelude.{◌≡◌, ℕ, ◌/◌, ◌++◌, List, [], ◌∷◌, codes, OnOk, Result, Vec}
use Rattle.std.specs.Fmt.{decimal}
use Rattle.std.specs.Global.{Global}
use Rattle.serde_json.specs.Data.{Data}
use Rattle.kn_event.specs.declared.revision.Kind.{Kind}
use Rattle.kn_event.specs.declared.revision.Kind.TheVariants.{Fixed, Kpa}
use Rattle.kn_event.specs.declared.revision.Slots.{Slots}
use Rattle.kn_event.specs.declared.revision.Spec.{Spec}
use Rattle.kn_config.specs.declared.key.Key.TheVariants as key
use Rattle.kn_journal.specs.declared.journal.Setup.{Setup}
use Rattle.kn_milli.specs.Milli.{milli_text}
use Rattle.kn_origins.specs.declared.origin.Origin.TheVariants as origin
use Rattle.kn_origins.specs.Origins.{annotated, configured, overridden, renamed, specified}
use Rattle.kn_origins.specs.Lines.{Setting, flag_text, setting, setting_lines}
use Rattle.kn_origins.specs.Amounts.{burst_text, metric_text, panic_origin, target_milli, target_origin, total_origin, utilisation, utilisation_origin, window_origin}
use Rattle.kn_origins.specs.Ignored.{ignored_text}
use Rattle.kn_show_settings.specs.Blocks.{config_block, revision_block, value_of}

-- a line for each of these was added
abbrev pub AddsSettings : {T E : Type 0} → Vec ℕ Global → Vec ℕ Global → List Setting → Result T E → Type 0
AddsSettings old new settings result = OnOk result (new.items ≡ old.items ++ setting_lines settings)

-- ---- of fixed pods

abbrev pub fixed_settings : ℕ → Spec → List Setting
fixed_settings pods spec =
    setting (codes "limit") (decimal spec.cc) origin.Setup
    ∷ setting (codes "depth") (decimal spec.slots.depth) origin.Setup
    ∷ setting (codes "max") (decimal spec.slots.max) origin.Setup
    ∷ setting (codes "pods") (decimal pods) origin.Setup
    ∷ setting (codes "timeout") (decimal (spec.timeout_ms / 1000)) origin.Setup
    ∷ setting (codes "seed") (decimal spec.slots.seed) origin.Setup ∷ []

-- ---- of a revision that scales

unfoldable pub own_settings : Spec → Data → List Setting
own_settings spec revision =
    setting (codes "namespace") spec.namespace origin.Revision
    ∷ setting (codes "name") spec.name origin.Revision
    ∷ setting (codes "containerConcurrency") (decimal spec.cc) (specified key.ContainerConcurrency revision)
    ∷ setting (codes "timeoutSeconds") (decimal (spec.timeout_ms / 1000)) (specified key.TimeoutSeconds revision) ∷ []

-- what a pod bears, and is to bear
unfoldable pub load_settings : Spec → Data → Data → List Setting
load_settings spec config revision =
    setting (codes "metric") (metric_text spec.metric) (annotated key.Metric revision origin.Default)
    ∷ setting (codes "target-total") (milli_text spec.total.0) (total_origin spec config revision)
    ∷ setting (codes "target-utilization-percentage") (milli_text (utilisation spec.metric config revision)) (utilisation_origin spec.metric config revision)
    ∷ setting (codes "target") (milli_text (target_milli spec.target)) (target_origin spec config revision) ∷ []

unfoldable pub window_settings : Spec → Data → Data → List Setting
window_settings spec config revision =
    setting (codes "stable-window-s") (decimal spec.stable_s) (window_origin config revision)
    ∷ setting (codes "panic-window-s") (decimal spec.panic_s) (panic_origin config revision)
    ∷ setting (codes "panic-threshold-percentage") (milli_text spec.panic_threshold.0) (overridden key.PanicThresholdPercentage config revision)
    ∷ setting (codes "target-burst-capacity") (burst_text spec.burst) (overridden key.TargetBurstCapacity config revision) ∷ []

abbrev pub rate_settings : Spec → Data → List Setting
rate_settings spec config =
    setting (codes "max-scale-up-rate") (milli_text spec.up.0) (configured key.MaxScaleUpRate config)
    ∷ setting (codes "max-scale-down-rate") (milli_text spec.down.0) (configured key.MaxScaleDownRate config) ∷ []

unfoldable pub zero_settings : Spec → Data → Data → List Setting
zero_settings spec config revision =
    setting (codes "enable-scale-to-zero") (flag_text spec.to_zero) (configured key.EnableScaleToZero config)
    ∷ setting (codes "scale-to-zero-grace-period-ms") (decimal spec.grace_ms) (configured key.ScaleToZeroGracePeriod config)
    ∷ setting (codes "scale-to-zero-pod-retention-period-ms") (decimal spec.retention_ms) (overridden key.ScaleToZeroPodRetentionPeriod config revision) ∷ []

unfoldable pub scale_settings : Spec → Data → Data → List Setting
scale_settings spec config revision =
    setting (codes "min-scale") (decimal spec.min) (renamed key.MinScale key.OldMinScale config revision)
    ∷ setting (codes "max-scale") (decimal spec.max) (renamed key.MaxScale key.OldMaxScale config revision)
    ∷ setting (codes "initial-scale") (decimal spec.initial) (overridden key.InitialScale config revision)
    ∷ setting (codes "activation-scale") (decimal spec.activation) (annotated key.ActivationScale revision origin.Default)
    ∷ setting (codes "scale-down-delay-s") (decimal spec.delay_s) (overridden key.ScaleDownDelay config revision) ∷ []

abbrev pub slot_settings : Slots → List Setting
slot_settings slots =
    setting (codes "depth") (decimal slots.depth) origin.Setup
    ∷ setting (codes "max") (decimal slots.max) origin.Setup
    ∷ setting (codes "seed") (decimal slots.seed) origin.Setup ∷ []

-- what a pod bears and what is averaged
unfoldable pub measure_text : Spec → Data → Data → List ℕ
measure_text spec config revision =
    setting_lines (own_settings spec revision) ++ (setting_lines (load_settings spec config revision) ++ setting_lines (window_settings spec config revision))

-- how soon counts change, and their bounds
unfoldable pub bound_text : Spec → Data → Data → List ℕ
bound_text spec config revision =
    setting_lines (rate_settings spec config) ++ (setting_lines (zero_settings spec config revision) ++ setting_lines (scale_settings spec config revision))

-- the settings in force over a ConfigMap and a Revision, and what is ignored of these
unfoldable pub scaled_text : Spec → Data → Data → List ℕ
scaled_text spec config revision =
    measure_text spec config revision ++ (bound_text spec config revision ++ (setting_lines (slot_settings spec.slots) ++ ignored_text config revision))

-- ---- of a setup

-- those over the ConfigMap and the Revision in a setup's text
abbrev pub text_by_blocks : Spec → List ℕ → List ℕ
text_by_blocks spec text = scaled_text spec (value_of (config_block text)) (value_of (revision_block text))

abbrev pub text_by : Kind → Spec → List ℕ → List ℕ
text_by (Fixed pods) spec text = setting_lines (fixed_settings pods spec)
text_by Kpa spec text = text_by_blocks spec text

unfoldable pub settings_text : Setup → List ℕ
settings_text s = text_by s.spec.kind s.spec s.text

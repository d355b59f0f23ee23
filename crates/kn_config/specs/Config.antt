-- The settings of a ConfigMap: its text, then the shape of `data`, then each key in the table's order.
use Rattle.std.specs.Prelude.{◌≡◌, ℕ, ◌&&◌, ◌==◌, not, Bool, true, List, Option, Some, None, Result, Ok, Err, if◌then◌else◌, codes}
use Rattle.serde_json.specs.Data.{Data, null, boolean, number, string, array, object}
use Rattle.serde_json.specs.Find.{get}
use Rattle.kn_event.specs.declared.units.Milli.{Milli}
use Rattle.kn_event.specs.declared.revision.Burst.{Burst}
use Rattle.kn_event.specs.declared.revision.Burst.TheVariants.{Capacity}
use Rattle.kn_event.specs.Defaults.{milli}
use Rattle.kn_config.specs.declared.key.Key.{Key}
use Rattle.kn_config.specs.declared.key.Key.TheVariants as key
use Rattle.kn_config.specs.declared.value.KeyError.{KeyError}
use Rattle.kn_config.specs.declared.value.KeyError.TheVariants as fault
use Rattle.kn_config.specs.declared.config.Config.{Config}
use Rattle.kn_config.specs.declared.config.ConfigError.{ConfigError}
use Rattle.kn_config.specs.declared.config.ConfigError.TheVariants as error
use Rattle.kn_config.specs.declared.config.Targets.{Targets}
use Rattle.kn_config.specs.declared.config.Windows.{Windows}
use Rattle.kn_config.specs.declared.config.Idling.{Idling}
use Rattle.kn_config.specs.declared.config.Scales.{Scales}
use Rattle.kn_config.specs.Json.{json_of}
use Rattle.kn_config.specs.Keys.{key_text, rule_of, IsInRange}
use Rattle.kn_config.specs.Values.{◌>>=◌, text_of, or_else, number_of, percentage_of, burst_of, duration_of, seconds_of, count_of, flag_of, IsBurstOf}

-- a key's text in the data
abbrev pub text_at : Key → Data → Result (Option (List ℕ)) KeyError
text_at k members = text_of k (get (key_text k) members)

-- a key of each kind: what its text says, or its default
abbrev pub number_at : Key → Data → Result Milli KeyError
number_at k members = text_at k members >>= or_else (milli (rule_of k).default) (number_of k)

abbrev pub percentage_at : Key → Data → Result Milli KeyError
percentage_at k members = text_at k members >>= or_else (milli (rule_of k).default) (percentage_of k)

abbrev pub burst_at : Key → Data → Result Burst KeyError
burst_at k members = text_at k members >>= or_else (Capacity (milli (rule_of k).default)) (burst_of k)

abbrev pub duration_at : Key → Data → Result ℕ KeyError
duration_at k members = text_at k members >>= or_else (rule_of k).default (duration_of k)

abbrev pub seconds_at : Key → Data → Result ℕ KeyError
seconds_at k members = text_at k members >>= or_else (rule_of k).default (seconds_of k)

abbrev pub count_at : Key → Data → Result ℕ KeyError
count_at k members = text_at k members >>= or_else (rule_of k).default (count_of k)

abbrev pub flag_at : Key → Data → Result Bool KeyError
flag_at k members = text_at k members >>= or_else ((rule_of k).default == 1) (flag_of k)

unfoldable pub targets_of : Data → Result Targets KeyError
targets_of members =
    percentage_at key.ContainerConcurrencyTargetPercentage members >>= λ utilisation.
    number_at key.ContainerConcurrencyTargetDefault members >>= λ concurrency_default.
    number_at key.RequestsPerSecondTargetDefault members >>= λ rps_default.
    burst_at key.TargetBurstCapacity members >>= λ burst.
    Ok (record { utilisation = utilisation; concurrency_default = concurrency_default; rps_default = rps_default; burst = burst })

unfoldable pub windows_of : Data → Result Windows KeyError
windows_of members =
    seconds_at key.StableWindow members >>= λ stable_s.
    number_at key.PanicWindowPercentage members >>= λ panic_percent.
    number_at key.PanicThresholdPercentage members >>= λ panic_threshold.
    number_at key.MaxScaleUpRate members >>= λ up.
    number_at key.MaxScaleDownRate members >>= λ down.
    Ok (record { stable_s = stable_s; panic_percent = panic_percent; panic_threshold = panic_threshold; up = up; down = down })

unfoldable pub idling_of : Data → Result Idling KeyError
idling_of members =
    flag_at key.EnableScaleToZero members >>= λ to_zero.
    duration_at key.ScaleToZeroGracePeriod members >>= λ grace_ms.
    duration_at key.ScaleToZeroPodRetentionPeriod members >>= λ retention_ms.
    Ok (record { to_zero = to_zero; grace_ms = grace_ms; retention_ms = retention_ms })

-- an initial scale of 0 is in range where it is allowed
unfoldable pub scales_of : Data → Result Scales KeyError
scales_of members =
    count_at key.MinScale members >>= λ min.
    count_at key.MaxScale members >>= λ max.
    flag_at key.AllowZeroInitialScale members >>= λ allow_zero_initial.
    count_at key.InitialScale members >>= λ initial.
    if initial == 0 && not allow_zero_initial then Err (fault.OutOfRange key.InitialScale) else (
    seconds_at key.ScaleDownDelay members >>= λ delay_s.
    Ok (record { min = min; max = max; allow_zero_initial = allow_zero_initial; initial = initial; delay_s = delay_s }))

-- the keys of the data, in the table's order
unfoldable pub settings_of : Data → Result Config KeyError
settings_of members =
    targets_of members >>= λ targets.
    windows_of members >>= λ windows.
    idling_of members >>= λ idling.
    scales_of members >>= λ scales.
    Ok (record {
      utilisation = targets.utilisation;
      concurrency_default = targets.concurrency_default;
      rps_default = targets.rps_default;
      burst = targets.burst;
      stable_s = windows.stable_s;
      panic_percent = windows.panic_percent;
      panic_threshold = windows.panic_threshold;
      up = windows.up;
      down = windows.down;
      to_zero = idling.to_zero;
      grace_ms = idling.grace_ms;
      retention_ms = idling.retention_ms;
      min = scales.min;
      max = scales.max;
      initial = scales.initial;
      allow_zero_initial = scales.allow_zero_initial;
      delay_s = scales.delay_s;
    })

-- a fault of a key is one of the ConfigMap
abbrev pub as_config : Result Config KeyError → Result Config ConfigError
as_config (Ok config) = Ok config
as_config (Err (fault.NotText k)) = Err (error.NotText k)
as_config (Err (fault.BadValue k why)) = Err (error.BadValue k why)
as_config (Err (fault.OutOfRange k)) = Err (error.OutOfRange k)

-- the member `data`: none where it is missing, else an object
abbrev pub settings_in : Option Data → Result Config ConfigError
settings_in None = as_config (settings_of null)
settings_in (Some null) = Err error.DataShape
settings_in (Some (boolean _)) = Err error.DataShape
settings_in (Some (number _)) = Err error.DataShape
settings_in (Some (string _)) = Err error.DataShape
settings_in (Some (array _)) = Err error.DataShape
settings_in (Some (object members)) = as_config (settings_of (object members))

-- an object, and its member `data`
abbrev pub config_in : Data → Result Config ConfigError
config_in null = Err error.DataShape
config_in (boolean _) = Err error.DataShape
config_in (number _) = Err error.DataShape
config_in (string _) = Err error.DataShape
config_in (array _) = Err error.DataShape
config_in (object members) = settings_in (get (codes "data") (object members))

abbrev config_or_fault : Option Data → Result Config ConfigError
config_or_fault None = Err error.NotJson
config_or_fault (Some map) = config_in map

-- the settings that a text gives, or its first fault
unfoldable pub config_of : List ℕ → Result Config ConfigError
config_of text = config_or_fault (json_of text)

-- want of memory, or else what is read
abbrev pub GivesConfig : Result Config ConfigError → Result Config ConfigError → Type 0
GivesConfig (Err error.Memory) read = Unit {0}
GivesConfig given read = given ≡ read

pub record AreTargets (t : Targets) : Type 0 where
  pub utilisation : IsInRange key.ContainerConcurrencyTargetPercentage t.utilisation.0
  pub concurrency_default : IsInRange key.ContainerConcurrencyTargetDefault t.concurrency_default.0
  pub rps_default : IsInRange key.RequestsPerSecondTargetDefault t.rps_default.0
  pub burst : IsBurstOf key.TargetBurstCapacity t.burst

pub record AreWindows (w : Windows) : Type 0 where
  pub stable_s : IsInRange key.StableWindow w.stable_s
  pub panic_percent : IsInRange key.PanicWindowPercentage w.panic_percent.0
  pub panic_threshold : IsInRange key.PanicThresholdPercentage w.panic_threshold.0
  pub up : IsInRange key.MaxScaleUpRate w.up.0
  pub down : IsInRange key.MaxScaleDownRate w.down.0

pub record IsIdling (i : Idling) : Type 0 where
  pub grace_ms : IsInRange key.ScaleToZeroGracePeriod i.grace_ms
  pub retention_ms : IsInRange key.ScaleToZeroPodRetentionPeriod i.retention_ms

pub record AreScales (s : Scales) : Type 0 where
  pub min : IsInRange key.MinScale s.min
  pub max : IsInRange key.MaxScale s.max
  pub initial : IsInRange key.InitialScale s.initial
  pub zero_initial : s.initial ≡ 0 → s.allow_zero_initial ≡ true
  pub delay_s : IsInRange key.ScaleDownDelay s.delay_s

-- the range of each setting
pub record IsConfig (c : Config) : Type 0 where
  pub utilisation : IsInRange key.ContainerConcurrencyTargetPercentage c.utilisation.0
  pub concurrency_default : IsInRange key.ContainerConcurrencyTargetDefault c.concurrency_default.0
  pub rps_default : IsInRange key.RequestsPerSecondTargetDefault c.rps_default.0
  pub burst : IsBurstOf key.TargetBurstCapacity c.burst
  pub stable_s : IsInRange key.StableWindow c.stable_s
  pub panic_percent : IsInRange key.PanicWindowPercentage c.panic_percent.0
  pub panic_threshold : IsInRange key.PanicThresholdPercentage c.panic_threshold.0
  pub up : IsInRange key.MaxScaleUpRate c.up.0
  pub down : IsInRange key.MaxScaleDownRate c.down.0
  pub grace_ms : IsInRange key.ScaleToZeroGracePeriod c.grace_ms
  pub retention_ms : IsInRange key.ScaleToZeroPodRetentionPeriod c.retention_ms
  pub min : IsInRange key.MinScale c.min
  pub max : IsInRange key.MaxScale c.max
  pub initial : IsInRange key.InitialScale c.initial
  pub zero_initial : c.initial ≡ 0 → c.allow_zero_initial ≡ true
  pub delay_s : IsInRange key.ScaleDownDelay c.delay_s

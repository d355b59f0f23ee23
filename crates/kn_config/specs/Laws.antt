-- What settings don't depend on.
use Rattle.std.specs.Prelude.{◌≡◌, true, false, List, [], ◌∷◌}
use Rattle.serde_json.specs.Data.{Data}
use Rattle.serde_json.specs.Find.{get}
use Rattle.kn_event.specs.declared.revision.Burst.TheVariants.{Capacity}
use Rattle.kn_event.specs.Defaults.{milli}
use Rattle.kn_config.specs.declared.key.Key.{Key}
use Rattle.kn_config.specs.declared.key.Key.TheVariants as key
use Rattle.kn_config.specs.declared.config.Config.{Config}
use Rattle.kn_config.specs.Keys.{key_text}

abbrev pub HaveSame : List Key → Data → Data → Type 0
HaveSame [] a b = Unit {0}
HaveSame (k ∷ ks) a b = (get (key_text k) a ≡ get (key_text k) b) × HaveSame ks a b

-- the keys of the ConfigMap, in the order in which they are judged
abbrev pub setting_keys : List Key
setting_keys =
    key.ContainerConcurrencyTargetPercentage ∷ key.ContainerConcurrencyTargetDefault ∷ key.RequestsPerSecondTargetDefault
    ∷ key.TargetBurstCapacity ∷ key.StableWindow ∷ key.PanicWindowPercentage ∷ key.PanicThresholdPercentage
    ∷ key.MaxScaleUpRate ∷ key.MaxScaleDownRate ∷ key.EnableScaleToZero ∷ key.ScaleToZeroGracePeriod
    ∷ key.ScaleToZeroPodRetentionPeriod ∷ key.MinScale ∷ key.MaxScale ∷ key.AllowZeroInitialScale ∷ key.InitialScale
    ∷ key.ScaleDownDelay ∷ []

-- what no key of the table gives
abbrev pub default_config : Config
default_config = record {
  utilisation = milli 70000;
  concurrency_default = milli 100000;
  rps_default = milli 200000;
  burst = Capacity (milli 211000);
  stable_s = 60;
  panic_percent = milli 10000;
  panic_threshold = milli 200000;
  up = milli 1000000;
  down = milli 2000;
  to_zero = true;
  grace_ms = 30000;
  retention_ms = 0;
  min = 0;
  max = 0;
  initial = 1;
  allow_zero_initial = false;
  delay_s = 0;
}

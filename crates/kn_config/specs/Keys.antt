-- The keys of the ConfigMap and of a Revision: how each is written, and its default and range.
use Rattle.std.specs.Prelude.{ℕ, ◌≤◌, List, codes}
use Rattle.kn_config.specs.declared.key.Key.{Key}
use Rattle.kn_config.specs.declared.key.Key.TheVariants.{ContainerConcurrencyTargetPercentage, ContainerConcurrencyTargetDefault, RequestsPerSecondTargetDefault, TargetBurstCapacity, StableWindow, PanicWindowPercentage, PanicThresholdPercentage, MaxScaleUpRate, MaxScaleDownRate, EnableScaleToZero, ScaleToZeroGracePeriod, ScaleToZeroPodRetentionPeriod, MinScale, MaxScale, AllowZeroInitialScale, InitialScale, ScaleDownDelay, OldMinScale, OldMaxScale, Target, TargetUtilizationPercentage, Window, ActivationScale, ContainerConcurrency, TimeoutSeconds, Class, Metric, Annotations, Namespace, Name}
use Rattle.kn_config.specs.declared.key.Rule.{Rule}

abbrev pub key_text : Key → List ℕ
key_text ContainerConcurrencyTargetPercentage = codes "container-concurrency-target-percentage"
key_text ContainerConcurrencyTargetDefault = codes "container-concurrency-target-default"
key_text RequestsPerSecondTargetDefault = codes "requests-per-second-target-default"
key_text TargetBurstCapacity = codes "target-burst-capacity"
key_text StableWindow = codes "stable-window"
key_text PanicWindowPercentage = codes "panic-window-percentage"
key_text PanicThresholdPercentage = codes "panic-threshold-percentage"
key_text MaxScaleUpRate = codes "max-scale-up-rate"
key_text MaxScaleDownRate = codes "max-scale-down-rate"
key_text EnableScaleToZero = codes "enable-scale-to-zero"
key_text ScaleToZeroGracePeriod = codes "scale-to-zero-grace-period"
key_text ScaleToZeroPodRetentionPeriod = codes "scale-to-zero-pod-retention-period"
key_text MinScale = codes "min-scale"
key_text MaxScale = codes "max-scale"
key_text AllowZeroInitialScale = codes "allow-zero-initial-scale"
key_text InitialScale = codes "initial-scale"
key_text ScaleDownDelay = codes "scale-down-delay"
key_text OldMinScale = codes "minScale"
key_text OldMaxScale = codes "maxScale"
key_text Target = codes "target"
key_text TargetUtilizationPercentage = codes "target-utilization-percentage"
key_text Window = codes "window"
key_text ActivationScale = codes "activation-scale"
key_text ContainerConcurrency = codes "containerConcurrency"
key_text TimeoutSeconds = codes "timeoutSeconds"
key_text Class = codes "class"
key_text Metric = codes "metric"
key_text Annotations = codes "annotations"
key_text Namespace = codes "namespace"
key_text Name = codes "name"

-- the default, the least and the greatest
abbrev pub rule : ℕ → ℕ → ℕ → Rule
rule default least most = record { default = default; least = least; most = most }

abbrev pub no_amount : Rule
no_amount = rule 0 0 0

-- the table: numbers and percentages in thousandths, windows and the scale-down delay in seconds, the other two
-- durations in milliseconds, a boolean as 1 or 0
abbrev pub rule_of : Key → Rule
rule_of ContainerConcurrencyTargetPercentage = rule 70000 1 100000
rule_of ContainerConcurrencyTargetDefault = rule 100000 10 1000000000
rule_of RequestsPerSecondTargetDefault = rule 200000 10 1000000000
rule_of TargetBurstCapacity = rule 211000 0 1000000000
rule_of StableWindow = rule 60 6 3600
rule_of PanicWindowPercentage = rule 10000 1000 100000
rule_of PanicThresholdPercentage = rule 200000 1000 10000000
rule_of MaxScaleUpRate = rule 1000000 1001 1000000000
rule_of MaxScaleDownRate = rule 2000 1001 1000000000
rule_of EnableScaleToZero = rule 1 0 1
rule_of ScaleToZeroGracePeriod = rule 30000 0 3600000
rule_of ScaleToZeroPodRetentionPeriod = rule 0 0 3600000
rule_of MinScale = rule 0 0 500
rule_of MaxScale = rule 0 0 1000000000
rule_of AllowZeroInitialScale = rule 0 0 1
rule_of InitialScale = rule 1 0 500
rule_of ScaleDownDelay = rule 0 0 3600
rule_of OldMinScale = rule 0 0 500
rule_of OldMaxScale = rule 0 0 1000000000
rule_of Target = rule 100000 10 1000000000
rule_of TargetUtilizationPercentage = rule 70000 1000 100000
rule_of Window = rule 60 6 3600
rule_of ActivationScale = rule 1 1 500
rule_of ContainerConcurrency = rule 0 0 1000
rule_of TimeoutSeconds = rule 300 1 3600
rule_of Class = no_amount
rule_of Metric = no_amount
rule_of Annotations = no_amount
rule_of Namespace = no_amount
rule_of Name = no_amount

-- the amount lies in the key's range
pub record IsInRange (key : Key) (amount : ℕ) : Type 0 where
  pub least : (rule_of key).least ≤ amount
  pub most : amount ≤ (rule_of key).most

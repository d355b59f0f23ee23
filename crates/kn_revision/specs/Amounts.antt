-- What a Revision's limits and annotations come to over the configuration.
use Rattle.std.specs.Prelude.{◌≤◌, Result, Ok, IfSome, codes}
use Rattle.serde_json.specs.Data.{Data}
use Rattle.kn_event.specs.declared.units.Milli.{Milli}
use Rattle.kn_event.specs.declared.revision.Metric.{Metric}
use Rattle.kn_event.specs.declared.revision.Metric.TheVariants.{Concurrency, Rps}
use Rattle.kn_event.specs.Defaults.{milli}
use Rattle.kn_event.specs.Ranges.{IsBurst, IsTotal}
use Rattle.kn_config.specs.declared.config.Config.{Config}
use Rattle.kn_config.specs.declared.value.KeyError.{KeyError}
use Rattle.kn_config.specs.Values.{◌>>=◌}
use Rattle.kn_revision.specs.declared.annotation.Annotation.TheVariants as annotation
use Rattle.kn_revision.specs.declared.member.Limits.{Limits}
use Rattle.kn_revision.specs.declared.amounts.Scale.{Scale}
use Rattle.kn_revision.specs.declared.amounts.Load.{Load}
use Rattle.kn_revision.specs.declared.amounts.Pace.{Pace}
use Rattle.kn_revision.specs.declared.amounts.Amounts.{Amounts}
use Rattle.kn_revision.specs.Members.{inner, limits_of, AreLimits}
use Rattle.kn_revision.specs.Annotations.{number_at, burst_at, duration_at, seconds_at, count_at, renamed_count_at, target_at, class_at, metric_at, annotations_of}

-- the class, the metric and the bounds
unfoldable pub scale_of : Config → Data → Result Scale KeyError
scale_of config annotations =
    class_at annotations >>= λ _.
    metric_at annotations >>= λ metric.
    renamed_count_at annotation.MinScale annotation.OldMinScale config.min annotations >>= λ min.
    renamed_count_at annotation.MaxScale annotation.OldMaxScale config.max annotations >>= λ max.
    count_at annotation.InitialScale config.initial annotations >>= λ initial.
    Ok (record { metric = metric; min = min; max = max; initial = initial })

-- the utilisation without its annotation: the configuration's for the concurrency, and always 70 per cent for requests
-- per second
unfoldable pub utilisation_without : Config → Metric → Milli
utilisation_without config Concurrency = config.utilisation
utilisation_without config Rps = milli 70000

-- the target, its utilisation, which is given where it has no annotation, and the windows
unfoldable pub load_of : Config → Milli → Data → Result Load KeyError
load_of config otherwise annotations =
    target_at annotations >>= λ target.
    number_at annotation.TargetUtilizationPercentage otherwise annotations >>= λ utilisation.
    seconds_at annotation.Window config.stable_s annotations >>= λ stable_s.
    number_at annotation.PanicWindowPercentage config.panic_percent annotations >>= λ panic_percent.
    number_at annotation.PanicThresholdPercentage config.panic_threshold annotations >>= λ panic_threshold.
    Ok (record { target = target; utilisation = utilisation; stable_s = stable_s; panic_percent = panic_percent; panic_threshold = panic_threshold })

-- the burst capacity, the delays and the activation scale
unfoldable pub pace_of : Config → Data → Result Pace KeyError
pace_of config annotations =
    burst_at annotation.TargetBurstCapacity config.burst annotations >>= λ burst.
    seconds_at annotation.ScaleDownDelay config.delay_s annotations >>= λ delay_s.
    duration_at annotation.ScaleToZeroPodRetentionPeriod config.retention_ms annotations >>= λ retention_ms.
    count_at annotation.ActivationScale 1 annotations >>= λ activation.
    Ok (record { burst = burst; delay_s = delay_s; retention_ms = retention_ms; activation = activation })

-- the annotations in the table's order
unfoldable pub overridden : Config → Limits → Data → Result Amounts KeyError
overridden config limits annotations =
    scale_of config annotations >>= λ scale.
    load_of config (utilisation_without config scale.metric) annotations >>= λ load.
    pace_of config annotations >>= λ pace.
    Ok (record { limits = limits; scale = scale; load = load; pace = pace })

-- `spec` first, then the annotations
unfoldable pub amounts_of : Config → Data → Result Amounts KeyError
amounts_of config root =
    limits_of root >>= λ limits.
    annotations_of (inner (codes "metadata") (codes "annotations") root) >>= λ annotations.
    overridden config limits annotations

pub record AreScales (scale : Scale) : Type 0 where
  pub min : scale.min ≤ 500
  pub max : scale.max ≤ 1000000000
  pub initial : scale.initial ≤ 500

pub record IsLoad (load : Load) : Type 0 where
  pub target : IfSome load.target IsTotal
  pub utilisation : load.utilisation.0 ≤ 100000
  pub stable_least : 6 ≤ load.stable_s
  pub stable_most : load.stable_s ≤ 3600
  pub percent : load.panic_percent.0 ≤ 100000
  pub threshold_least : 1000 ≤ load.panic_threshold.0
  pub threshold_most : load.panic_threshold.0 ≤ 10000000

pub record IsPace (pace : Pace) : Type 0 where
  pub burst : IsBurst pace.burst
  pub delay : pace.delay_s ≤ 3600
  pub retention : pace.retention_ms ≤ 3600000
  pub activation_least : 1 ≤ pace.activation
  pub activation_most : pace.activation ≤ 500

pub record AreAmounts (amounts : Amounts) : Type 0 where
  pub limits : AreLimits amounts.limits
  pub scale : AreScales amounts.scale
  pub load : IsLoad amounts.load
  pub pace : IsPace amounts.pace

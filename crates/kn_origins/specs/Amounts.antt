-- The amounts of a scaled revision that its specification has in other parts, and what gives each of them.
use Rattle.std.specs.Prelude.{ℕ, ◌*◌, ◌/◌, ◌==◌, List, Option, None, Some, Result, Ok, Err, if◌then◌else◌, codes}
use Rattle.serde_json.specs.Data.{Data}
use Rattle.serde_json.specs.Find.{as_str}
use Rattle.kn_event.specs.declared.units.Milli.{Milli}
use Rattle.kn_event.specs.declared.units.Frac.{Frac}
use Rattle.kn_event.specs.declared.revision.Burst.{Burst}
use Rattle.kn_event.specs.declared.revision.Burst.TheVariants.{Unlimited, Capacity}
use Rattle.kn_event.specs.declared.revision.Metric.{Metric}
use Rattle.kn_event.specs.declared.revision.Metric.TheVariants.{Concurrency, Rps}
use Rattle.kn_event.specs.declared.revision.Spec.{Spec}
use Rattle.kn_event.specs.Defaults.{default_utilisation}
use Rattle.kn_config.specs.declared.key.Key.TheVariants as key
use Rattle.kn_config.specs.declared.value.KeyError.{KeyError}
use Rattle.kn_config.specs.Keys.{key_text, rule_of}
use Rattle.kn_config.specs.Values.{number_of, percentage_of}
use Rattle.kn_revision.specs.Members.{inner}
use Rattle.kn_origins.specs.declared.origin.Origin.{Origin}
use Rattle.kn_origins.specs.declared.origin.Origin.TheVariants as origin
use Rattle.kn_origins.specs.Origins.{above, annotated, annotation, configured}
use Rattle.kn_milli.specs.Milli.{milli_text}

abbrev pub metric_text : Metric → List ℕ
metric_text Concurrency = codes "concurrency"
metric_text Rps = codes "rps"

abbrev pub burst_text : Burst → List ℕ
burst_text Unlimited = codes "unlimited"
burst_text (Capacity capacity) = milli_text capacity.0

-- ---- the total

-- without the annotation: a containerConcurrency above 0 is the Revision's
abbrev pub total_otherwise : Metric → ℕ → Data → Origin
total_otherwise Concurrency cc config = if cc == 0 then configured key.ContainerConcurrencyTargetDefault config else origin.Revision
total_otherwise Rps cc config = configured key.RequestsPerSecondTargetDefault config

unfoldable pub total_origin : Spec → Data → Data → Origin
total_origin spec config revision = annotated key.Target revision (total_otherwise spec.metric spec.cc config)

-- ---- the utilisation, in thousandths of a per cent

-- what a text says. In a setup that was read each one says an amount
abbrev pub amount : Result Milli KeyError → ℕ
amount (Ok read) = read.0
amount (Err fault) = 0

abbrev pub number_in : Option (List ℕ) → ℕ
number_in None = 0
number_in (Some text) = amount (number_of key.TargetUtilizationPercentage text)

abbrev pub percentage_in : Option (List ℕ) → ℕ
percentage_in None = 0
percentage_in (Some text) = amount (percentage_of key.ContainerConcurrencyTargetPercentage text)

-- of the key
abbrev pub percentage_or_default : Option Data → ℕ
percentage_or_default None = (rule_of key.ContainerConcurrencyTargetPercentage).default
percentage_or_default (Some value) = percentage_in (as_str value)

-- without the annotation: of requests per second it is always the default
abbrev pub utilisation_without : Metric → Data → ℕ
utilisation_without Concurrency config = percentage_or_default (inner (codes "data") (key_text key.ContainerConcurrencyTargetPercentage) config)
utilisation_without Rps config = default_utilisation

abbrev pub number_or : ℕ → Option Data → ℕ
number_or otherwise None = otherwise
number_or otherwise (Some value) = number_in (as_str value)

unfoldable pub utilisation : Metric → Data → Data → ℕ
utilisation metric config revision = number_or (utilisation_without metric config) (annotation key.TargetUtilizationPercentage revision)

abbrev pub utilisation_otherwise : Metric → Data → Origin
utilisation_otherwise Concurrency config = configured key.ContainerConcurrencyTargetPercentage config
utilisation_otherwise Rps config = origin.Default

unfoldable pub utilisation_origin : Metric → Data → Data → Origin
utilisation_origin metric config revision = annotated key.TargetUtilizationPercentage revision (utilisation_otherwise metric config)

-- ---- the target and the windows

-- in thousandths, rounded down
abbrev pub target_milli : Frac → ℕ
target_milli target = 1000 * target.num / target.den

-- the part or the total
unfoldable pub target_origin : Spec → Data → Data → Origin
target_origin spec config revision = above (utilisation_origin spec.metric config revision) (total_origin spec config revision)

unfoldable pub window_origin : Data → Data → Origin
window_origin config revision = annotated key.Window revision (configured key.StableWindow config)

-- its part of the stable window, or that window
unfoldable pub panic_origin : Data → Data → Origin
panic_origin config revision = above (annotated key.PanicWindowPercentage revision (configured key.PanicWindowPercentage config)) (window_origin config revision)

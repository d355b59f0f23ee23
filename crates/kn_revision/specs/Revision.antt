-- The specification that a Revision gives over a configuration.
use Rattle.std.specs.Prelude.{◌≡◌, ℕ, ◌*◌, ◌/◌, ◌==◌, ◌&&◌, nat_lt, min, max, not, List, Option, Some, None, Result, Ok, Err, if◌then◌else◌, codes}
use Rattle.serde_json.specs.Data.{Data}
use Rattle.kn_event.specs.declared.units.Milli.{Milli}
use Rattle.kn_event.specs.declared.revision.Slots.{Slots}
use Rattle.kn_event.specs.declared.revision.Spec.{Spec}
use Rattle.kn_event.specs.declared.revision.Kind.TheVariants.{Kpa}
use Rattle.kn_event.specs.declared.revision.Metric.{Metric}
use Rattle.kn_event.specs.declared.revision.Metric.TheVariants.{Concurrency, Rps}
use Rattle.kn_event.specs.Defaults.{milli, scaling_target}
use Rattle.kn_config.specs.declared.key.Key.TheVariants as key
use Rattle.kn_config.specs.declared.config.Config.{Config}
use Rattle.kn_config.specs.declared.value.KeyError.{KeyError}
use Rattle.kn_config.specs.declared.value.KeyError.TheVariants as fault
use Rattle.kn_config.specs.Json.{json_of}
use Rattle.kn_revision.specs.declared.error.Field.TheVariants as field
use Rattle.kn_revision.specs.declared.error.SpecError.{SpecError}
use Rattle.kn_revision.specs.declared.error.SpecError.TheVariants as error
use Rattle.kn_revision.specs.declared.amounts.Amounts.{Amounts}
use Rattle.kn_revision.specs.Members.{inner, name_of}
use Rattle.kn_revision.specs.Amounts.{amounts_of}

-- a step that may find a fault, and the next one, which is given what it found
infixl 10 ◌>>>=◌
abbrev pub ◌>>>=◌ : {A B : Type 0} → Result A SpecError → (A → Result B SpecError) → Result B SpecError
(Ok x) >>>= next = next x
(Err why) >>>= next = Err why

-- a fault of a key is one of the Revision
abbrev pub as_fault : KeyError → SpecError
as_fault (fault.NotText k) = error.NotText k
as_fault (fault.BadValue k why) = error.BadValue k why
as_fault (fault.OutOfRange k) = error.OutOfRange k

abbrev pub of_keys : {A : Type 0} → Result A KeyError → Result A SpecError
of_keys (Ok x) = Ok x
of_keys (Err why) = Err (as_fault why)

-- the containerConcurrency, or the default where that is 0; a target is taken in place of the default, and the smaller
-- of it and a containerConcurrency above 0
abbrev pub concurrency_total : ℕ → Milli → Option Milli → Milli
concurrency_total cc default None = if cc == 0 then default else milli (1000 * cc)
concurrency_total cc default (Some target) = if cc == 0 then target else milli (min target.0 (1000 * cc))

-- the default, or the target in its place; the containerConcurrency isn't looked at
abbrev pub rps_total : Milli → Option Milli → Milli
rps_total default None = default
rps_total default (Some target) = target

-- what a pod bears in all: requests, or requests per second
abbrev pub total_of : Config → Metric → ℕ → Option Milli → Milli
total_of config Concurrency cc target = concurrency_total cc config.concurrency_default target
total_of config Rps cc target = rps_total config.rps_default target

-- the per cent of the stable window in whole seconds, rounded down, and at least 1
abbrev pub panic_seconds : ℕ → Milli → ℕ
panic_seconds stable_s percent = max 1 (stable_s * percent.0 / 100000)

-- a max-scale that isn't 0 and is below the min-scale; then an initial scale of 0 that isn't allowed
abbrev pub fault_of : Config → Amounts → Option SpecError
fault_of config amounts =
    if nat_lt 0 amounts.scale.max && nat_lt amounts.scale.max amounts.scale.min then Some (error.OutOfRange key.MaxScale)
    else (if amounts.scale.initial == 0 && not config.allow_zero_initial then Some error.ZeroInitial
    else None)

-- the specification of these names and amounts; the rates, the grace period and whether it scales to zero are the
-- configuration's
unfoldable pub parts_of : Config → Slots → List ℕ → List ℕ → Amounts → Spec
parts_of config slots namespace name amounts =
    let total = total_of config amounts.scale.metric amounts.limits.cc amounts.load.target in
    record {
      kind = Kpa;
      namespace = namespace;
      name = name;
      cc = amounts.limits.cc;
      metric = amounts.scale.metric;
      total = total;
      target = scaling_target total.0 amounts.load.utilisation.0;
      stable_s = amounts.load.stable_s;
      panic_s = panic_seconds amounts.load.stable_s amounts.load.panic_percent;
      panic_threshold = amounts.load.panic_threshold;
      up = config.up;
      down = config.down;
      activation = amounts.pace.activation;
      delay_s = amounts.pace.delay_s;
      burst = amounts.pace.burst;
      min = amounts.scale.min;
      max = amounts.scale.max;
      initial = amounts.scale.initial;
      to_zero = config.to_zero;
      grace_ms = config.grace_ms;
      retention_ms = amounts.pace.retention_ms;
      timeout_ms = 1000 * amounts.limits.timeout_s;
      slots = slots;
    }

abbrev pub unless : {A : Type 0} → Option SpecError → A → Result A SpecError
unless (Some why) x = Err why
unless None x = Ok x

-- the names, then the amounts, then what is wrong with them together
unfoldable pub spec_in : Config → Slots → Data → Result Spec SpecError
spec_in config slots root =
    name_of field.Namespace (inner (codes "metadata") (codes "namespace") root) >>>= λ namespace.
    name_of field.Name (inner (codes "metadata") (codes "name") root) >>>= λ name.
    of_keys (amounts_of config root) >>>= λ amounts.
    unless (fault_of config amounts) (parts_of config slots namespace name amounts)

abbrev spec_or_fault : Config → Slots → Option Data → Result Spec SpecError
spec_or_fault config slots None = Err error.NotJson
spec_or_fault config slots (Some root) = spec_in config slots root

-- the specification that a text gives over a configuration, or its first fault
unfoldable pub spec_of : Config → List ℕ → Slots → Result Spec SpecError
spec_of config text slots = spec_or_fault config slots (json_of text)

-- want of memory, or else what is read
abbrev pub GivesSpec : Result Spec SpecError → Result Spec SpecError → Type 0
GivesSpec (Err error.Memory) read = Unit {0}
GivesSpec given read = given ≡ read

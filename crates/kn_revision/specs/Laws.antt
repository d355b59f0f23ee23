-- What a Revision without annotations is over the default configuration, and what a Revision's specification doesn't
-- depend on.
use Rattle.std.specs.Prelude.{◌≡◌, ℕ, List, Some, None, Result, Ok, Err, codes}
use Rattle.serde_json.specs.Data.{Data, null}
use Rattle.serde_json.specs.Find.{get}
use Rattle.kn_event.specs.declared.revision.Slots.{Slots}
use Rattle.kn_event.specs.declared.revision.Kind.TheVariants.{Kpa}
use Rattle.kn_event.specs.declared.revision.Metric.TheVariants.{Concurrency}
use Rattle.kn_event.specs.declared.revision.Burst.TheVariants.{Capacity}
use Rattle.kn_event.specs.Defaults.{milli}
use Rattle.kn_event.specs.FixedSpec.{fixed_spec}
use Rattle.kn_config.specs.declared.config.Config.{Config}
use Rattle.kn_config.specs.declared.value.KeyError.{KeyError}
use Rattle.kn_config.specs.Json.{json_of}
use Rattle.kn_config.specs.Laws.{default_config}
use Rattle.kn_revision.specs.declared.annotation.Annotation.{Annotation}
use Rattle.kn_revision.specs.declared.member.Limits.{Limits}
use Rattle.kn_revision.specs.declared.amounts.Amounts.{Amounts}
use Rattle.kn_revision.specs.Members.{inner}
use Rattle.kn_revision.specs.Annotations.{annotation_name, annotations_of}
use Rattle.kn_revision.specs.Amounts.{overridden}
use Rattle.kn_revision.specs.Revision.{parts_of, spec_of}

abbrev pub limits : ℕ → ℕ → Limits
limits cc timeout_s = record { cc = cc; timeout_s = timeout_s }

-- what no annotation gives
abbrev pub default_amounts : ℕ → ℕ → Amounts
default_amounts cc timeout_s = record {
  limits = limits cc timeout_s;
  scale = record { metric = Concurrency; min = 0; max = 0; initial = 1 };
  load = record { target = None; utilisation = milli 70000; stable_s = 60; panic_percent = milli 10000; panic_threshold = milli 200000 };
  pace = record { burst = Capacity (milli 211000); delay_s = 0; retention_ms = 0; activation = 1 };
}

-- with the names of fixed pods they give the specification of fixed pods, but for its kind
pub record AreFixed (cc timeout_s : ℕ) (slots : Slots) : Type 0 where
  pub none : overridden default_config (limits cc timeout_s) null ≡ Ok (default_amounts cc timeout_s)
  pub same : parts_of default_config slots (codes "default") (codes "fixed") (default_amounts cc timeout_s) ≡ record (fixed_spec cc 0 timeout_s slots) { kind = Kpa }

-- at each containerConcurrency, timeout and slots
abbrev pub DefaultsAreFixed : Type 0
DefaultsAreFixed = (cc timeout_s : ℕ) (slots : Slots) → AreFixed cc timeout_s slots

-- two objects have the same at each name of the table of annotations
abbrev pub HaveSameAnnotations : Data → Data → Type 0
HaveSameAnnotations a b = (k : Annotation) → get (annotation_name k) a ≡ get (annotation_name k) b

-- the annotations of two Revisions: both are such objects, or both the same fault
abbrev pub AgreeOnAnnotations : Result Data KeyError → Result Data KeyError → Type 0
AgreeOnAnnotations (Ok a) (Ok b) = HaveSameAnnotations a b
AgreeOnAnnotations (Ok a) (Err why) = ⊥
AgreeOnAnnotations (Err why) (Ok b) = ⊥
AgreeOnAnnotations (Err why) (Err other) = why ≡ other

-- two Revisions have the same in each member that is named
pub record AgreeOnNamed (a b : Data) : Type 0 where
  pub namespace : inner (codes "metadata") (codes "namespace") a ≡ inner (codes "metadata") (codes "namespace") b
  pub name : inner (codes "metadata") (codes "name") a ≡ inner (codes "metadata") (codes "name") b
  pub cc : inner (codes "spec") (codes "containerConcurrency") a ≡ inner (codes "spec") (codes "containerConcurrency") b
  pub timeout : inner (codes "spec") (codes "timeoutSeconds") a ≡ inner (codes "spec") (codes "timeoutSeconds") b
  pub annotations : AgreeOnAnnotations
      (annotations_of (inner (codes "metadata") (codes "annotations") a))
      (annotations_of (inner (codes "metadata") (codes "annotations") b))

-- whatever else their texts have, they give the same over each configuration
abbrev pub OthersAreIgnored : Type 0
OthersAreIgnored = (config : Config) (slots : Slots) (text other : List ℕ) (a b : Data) → json_of text ≡ Some a → json_of other ≡ Some b
    → AgreeOnNamed a b → spec_of config text slots ≡ spec_of config other slots

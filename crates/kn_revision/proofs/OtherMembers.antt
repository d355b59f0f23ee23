-- What a Revision gives depends on the members that are named alone.
use Rattle.std.proofs.Common.{◌≡◌, ℕ, List, Option, Some, None, Result, Ok, Err, refl}
use Rattle.serde_json.specs.Data.{Data}
use Rattle.kn_event.specs.declared.units.Milli.{Milli}
use Rattle.kn_event.specs.declared.revision.Slots.{Slots}
use Rattle.kn_config.specs.declared.config.Config.{Config}
use Rattle.kn_config.specs.declared.value.KeyError.{KeyError}
use Rattle.kn_config.specs.Json.{json_of}
use Rattle.kn_config.specs.Values.{◌>>=◌}
use Rattle.kn_revision.specs.declared.annotation.Annotation.{Annotation}
use Rattle.kn_revision.specs.declared.annotation.Annotation.TheVariants as annotation
use Rattle.kn_revision.specs.declared.member.Limits.{Limits}
use Rattle.kn_revision.specs.declared.amounts.Scale.{Scale}
use Rattle.kn_revision.specs.declared.amounts.Amounts.{Amounts}
use Rattle.kn_revision.specs.Members.{limits_of}
use Rattle.kn_revision.specs.Annotations.{text_at, new_or_old, renamed_count_at}
use Rattle.kn_revision.specs.Amounts.{scale_of, load_of, pace_of, utilisation_without, overridden, amounts_of}
use Rattle.kn_revision.specs.Revision.{spec_in, spec_of}
use Rattle.kn_revision.specs.Laws.{HaveSameAnnotations, AgreeOnAnnotations, AgreeOnNamed}

-- ---- the annotations of two objects

after_new : (new old : Annotation) (otherwise : ℕ) (a b : Data) → HaveSameAnnotations a b → (text : Result (Option (List ℕ)) KeyError)
    → (text >>= new_or_old new old otherwise a) ≡ (text >>= new_or_old new old otherwise b)
after_new new old otherwise a b same (Ok (Some text)) = refl
after_new new old otherwise a b same (Ok None) = rw (same old) refl
after_new new old otherwise a b same (Err why) = refl

renamed_same : (new old : Annotation) (otherwise : ℕ) (a b : Data) → HaveSameAnnotations a b → renamed_count_at new old otherwise a ≡ renamed_count_at new old otherwise b
renamed_same new old otherwise a b same = rw (same new) (after_new new old otherwise a b same (text_at new b))

scale_same : (config : Config) (a b : Data) → HaveSameAnnotations a b → scale_of config a ≡ scale_of config b
unfolding scale_of
scale_same config a b same = rw (
  same annotation.Class,
  same annotation.Metric,
  renamed_same annotation.MinScale annotation.OldMinScale config.min a b same,
  renamed_same annotation.MaxScale annotation.OldMaxScale config.max a b same,
  same annotation.InitialScale,
) refl

load_same : (config : Config) (otherwise : Milli) (a b : Data) → HaveSameAnnotations a b → load_of config otherwise a ≡ load_of config otherwise b
unfolding load_of
load_same config otherwise a b same = rw (same annotation.Target, same annotation.TargetUtilizationPercentage, same annotation.Window, same annotation.PanicWindowPercentage, same annotation.PanicThresholdPercentage) refl

pace_same : (config : Config) (a b : Data) → HaveSameAnnotations a b → pace_of config a ≡ pace_of config b
unfolding pace_of
pace_same config a b same = rw (same annotation.TargetBurstCapacity, same annotation.ScaleDownDelay, same annotation.ScaleToZeroPodRetentionPeriod, same annotation.ActivationScale) refl

abbrev with_scale : Config → Limits → Data → Scale → Result Amounts KeyError
with_scale config limits annotations scale =
    load_of config (utilisation_without config scale.metric) annotations >>= λ load.
    pace_of config annotations >>= λ pace.
    Ok (record { limits = limits; scale = scale; load = load; pace = pace })

after_scale : (config : Config) (limits : Limits) (a b : Data) → HaveSameAnnotations a b → (scale : Result Scale KeyError)
    → (scale >>= with_scale config limits a) ≡ (scale >>= with_scale config limits b)
after_scale config limits a b same (Ok scale) = rw (load_same config (utilisation_without config scale.metric) a b same, pace_same config a b same) refl
after_scale config limits a b same (Err why) = refl

overridden_same : (config : Config) (limits : Limits) (a b : Data) → HaveSameAnnotations a b → overridden config limits a ≡ overridden config limits b
unfolding overridden
overridden_same config limits a b same = rw (scale_same config a b same) (after_scale config limits a b same (scale_of config b))

-- ---- two Revisions

after_annotations : (config : Config) (limits : Limits) (a b : Result Data KeyError) → AgreeOnAnnotations a b → (a >>= overridden config limits) ≡ (b >>= overridden config limits)
after_annotations config limits (Ok a) (Ok b) same = overridden_same config limits a b same
after_annotations config limits (Ok a) (Err why) none = absurd none
after_annotations config limits (Err why) (Ok b) none = absurd none
after_annotations config limits (Err why) (Err other) same = rw same refl

after_limits : (config : Config) (a b : Result Data KeyError) → AgreeOnAnnotations a b → (limits : Result Limits KeyError)
    → (limits >>= λ found. a >>= overridden config found) ≡ (limits >>= λ found. b >>= overridden config found)
after_limits config a b same (Ok limits) = after_annotations config limits a b same
after_limits config a b same (Err why) = refl

limits_same : (a b : Data) → AgreeOnNamed a b → limits_of a ≡ limits_of b
limits_same a b same = rw (same.cc, same.timeout) refl

amounts_same : (config : Config) (a b : Data) → AgreeOnNamed a b → amounts_of config a ≡ amounts_of config b
unfolding amounts_of
amounts_same config a b same = rw (limits_same a b same) (after_limits config _ _ same.annotations (limits_of b))

spec_in-same : (config : Config) (slots : Slots) (a b : Data) → AgreeOnNamed a b → spec_in config slots a ≡ spec_in config slots b
unfolding spec_in
spec_in-same config slots a b same = rw (same.namespace, same.name, amounts_same config a b same) refl

pub spec_of-same : (config : Config) (slots : Slots) (text other : List ℕ) (a b : Data) → json_of text ≡ Some a → json_of other ≡ Some b
    → AgreeOnNamed a b → spec_of config text slots ≡ spec_of config other slots
unfolding spec_of
spec_of-same config slots text other a b is other_is same = rw (is, other_is) (spec_in-same config slots a b same)

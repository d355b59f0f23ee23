-- The annotations of a Revision, over what holds without them.
use Rattle.std.specs.Prelude.{ℕ, ◌++◌, bytes_eq, List, Option, Some, None, Result, Ok, Err, if◌then◌else◌, codes, ⊤}
use Rattle.serde_json.specs.Data.{Data, null, boolean, number, string, array, object}
use Rattle.serde_json.specs.Find.{get}
use Rattle.kn_event.specs.declared.units.Milli.{Milli}
use Rattle.kn_event.specs.declared.revision.Burst.{Burst}
use Rattle.kn_event.specs.declared.revision.Metric.{Metric}
use Rattle.kn_event.specs.declared.revision.Metric.TheVariants as metric
use Rattle.kn_config.specs.declared.key.Key.{Key}
use Rattle.kn_config.specs.declared.key.Key.TheVariants as key
use Rattle.kn_config.specs.declared.value.KeyError.{KeyError}
use Rattle.kn_config.specs.declared.value.KeyError.TheVariants as fault
use Rattle.kn_config.specs.Keys.{key_text}
use Rattle.kn_config.specs.Values.{◌>>=◌, text_of, or_else, number_of, burst_of, duration_of, seconds_of, count_of}
use Rattle.kn_revision.specs.declared.annotation.Annotation.{Annotation}
use Rattle.kn_revision.specs.declared.annotation.Annotation.TheVariants as annotation

abbrev pub key_of : Annotation → Key
key_of annotation.Class = key.Class
key_of annotation.Metric = key.Metric
key_of annotation.MinScale = key.MinScale
key_of annotation.OldMinScale = key.OldMinScale
key_of annotation.MaxScale = key.MaxScale
key_of annotation.OldMaxScale = key.OldMaxScale
key_of annotation.InitialScale = key.InitialScale
key_of annotation.Target = key.Target
key_of annotation.TargetUtilizationPercentage = key.TargetUtilizationPercentage
key_of annotation.Window = key.Window
key_of annotation.PanicWindowPercentage = key.PanicWindowPercentage
key_of annotation.PanicThresholdPercentage = key.PanicThresholdPercentage
key_of annotation.TargetBurstCapacity = key.TargetBurstCapacity
key_of annotation.ScaleDownDelay = key.ScaleDownDelay
key_of annotation.ScaleToZeroPodRetentionPeriod = key.ScaleToZeroPodRetentionPeriod
key_of annotation.ActivationScale = key.ActivationScale

-- the key after the prefix of the autoscaler's annotations
abbrev pub annotation_name : Annotation → List ℕ
annotation_name a = codes "autoscaling.knative.dev/" ++ key_text (key_of a)

-- the annotation's text, if it is there
abbrev pub text_at : Annotation → Data → Result (Option (List ℕ)) KeyError
text_at a annotations = text_of (key_of a) (get (annotation_name a) annotations)

-- an annotation of each kind: what its text says, or what holds without it
abbrev pub number_at : Annotation → Milli → Data → Result Milli KeyError
number_at a otherwise annotations = text_at a annotations >>= or_else otherwise (number_of (key_of a))

abbrev pub burst_at : Annotation → Burst → Data → Result Burst KeyError
burst_at a otherwise annotations = text_at a annotations >>= or_else otherwise (burst_of (key_of a))

abbrev pub duration_at : Annotation → ℕ → Data → Result ℕ KeyError
duration_at a otherwise annotations = text_at a annotations >>= or_else otherwise (duration_of (key_of a))

abbrev pub seconds_at : Annotation → ℕ → Data → Result ℕ KeyError
seconds_at a otherwise annotations = text_at a annotations >>= or_else otherwise (seconds_of (key_of a))

abbrev pub count_at : Annotation → ℕ → Data → Result ℕ KeyError
count_at a otherwise annotations = text_at a annotations >>= or_else otherwise (count_of (key_of a))

abbrev pub new_or_old : Annotation → Annotation → ℕ → Data → Option (List ℕ) → Result ℕ KeyError
new_or_old new old otherwise annotations (Some text) = count_of (key_of new) text
new_or_old new old otherwise annotations None = count_at old otherwise annotations

-- the old spelling is looked at only where the new one isn't there
abbrev pub renamed_count_at : Annotation → Annotation → ℕ → Data → Result ℕ KeyError
renamed_count_at new old otherwise annotations = text_at new annotations >>= new_or_old new old otherwise annotations

-- the target, if it is there
abbrev pub target_at : Data → Result (Option Milli) KeyError
target_at annotations = text_at annotation.Target annotations >>= or_else None (λ text. number_of key.Target text >>= λ target. Ok (Some target))

-- no class but this autoscaler's
abbrev pub class_at : Data → Result ⊤ KeyError
class_at annotations = text_at annotation.Class annotations >>= or_else tt (λ text.
    if bytes_eq text (codes "kpa.autoscaling.knative.dev") then Ok tt else Err (fault.OutOfRange key.Class))

abbrev metric_of : List ℕ → Result Metric KeyError
metric_of text = if bytes_eq text (codes "concurrency") then Ok metric.Concurrency
    else (if bytes_eq text (codes "rps") then Ok metric.Rps else Err (fault.OutOfRange key.Metric))

-- the concurrency where it isn't there
abbrev pub metric_at : Data → Result Metric KeyError
metric_at annotations = text_at annotation.Metric annotations >>= or_else metric.Concurrency metric_of

-- the annotations: none where they are missing, else an object
abbrev pub annotations_of : Option Data → Result Data KeyError
annotations_of None = Ok null
annotations_of (Some null) = Err (fault.NotText key.Annotations)
annotations_of (Some (boolean _)) = Err (fault.NotText key.Annotations)
annotations_of (Some (number _)) = Err (fault.NotText key.Annotations)
annotations_of (Some (string _)) = Err (fault.NotText key.Annotations)
annotations_of (Some (array _)) = Err (fault.NotText key.Annotations)
annotations_of (Some (object members)) = Ok (object members)

-- Where a setting comes from.
use Rattle.std.specs.Prelude.{ℕ, Bool, ◌++◌, List, Option, is_some, option_and_then, if◌then◌else◌, codes}
use Rattle.serde_json.specs.Data.{Data}
use Rattle.serde_json.specs.Find.{get}
use Rattle.kn_config.specs.declared.key.Key.{Key}
use Rattle.kn_config.specs.Keys.{key_text}
use Rattle.kn_revision.specs.Members.{inner}
use Rattle.kn_origins.specs.declared.origin.Origin.{Origin}
use Rattle.kn_origins.specs.declared.origin.Origin.TheVariants as origin

abbrev pub origin_text : Origin → List ℕ
origin_text origin.Default = codes "default"
origin_text origin.Config = codes "config"
origin_text origin.Revision = codes "revision"
origin_text origin.Setup = codes "setup"

-- of two that have a part in a setting, the Revision before the configuration, and that before the default
abbrev pub config_or : Origin → Origin
config_or origin.Default = origin.Config
config_or origin.Config = origin.Config
config_or origin.Revision = origin.Revision
config_or origin.Setup = origin.Setup

abbrev pub above : Origin → Origin → Origin
above origin.Default b = b
above origin.Config b = config_or b
above origin.Revision b = origin.Revision
above origin.Setup b = origin.Setup

-- what all annotations of the autoscaler begin with
abbrev pub prefix : List ℕ
prefix = codes "autoscaling.knative.dev/"

-- an annotation as it is written
abbrev pub annotation_text : Key → List ℕ
annotation_text key = prefix ++ key_text key

-- the Revision's annotations
abbrev pub annotations : Data → Option Data
annotations revision = inner (codes "metadata") (codes "annotations") revision

-- one of them
abbrev pub annotation : Key → Data → Option Data
annotation key revision = option_and_then (get (annotation_text key)) (annotations revision)

abbrev pub has_annotation : Key → Data → Bool
has_annotation key revision = is_some (annotation key revision)

-- the Revision where it has the annotation
unfoldable pub annotated : Key → Data → Origin → Origin
annotated key revision otherwise = if has_annotation key revision then origin.Revision else otherwise

-- the Revision where its `spec` has the member, else the default
unfoldable pub specified : Key → Data → Origin
specified key revision = if is_some (inner (codes "spec") (key_text key) revision) then origin.Revision else origin.Default

-- the configuration where its `data` has the key, else the default
unfoldable pub configured : Key → Data → Origin
configured key config = if is_some (inner (codes "data") (key_text key) config) then origin.Config else origin.Default

-- an annotation before the key of the same name
unfoldable pub overridden : Key → Data → Data → Origin
overridden key config revision = annotated key revision (configured key config)

-- an annotation, its old spelling, the key
unfoldable pub renamed : Key → Key → Data → Data → Origin
renamed key old config revision = annotated key revision (annotated old revision (configured key config))

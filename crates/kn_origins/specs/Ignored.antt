-- What a ConfigMap and a Revision say and no setting comes from.
use Rattle.std.specs.Prelude.{ℕ, ◌+◌, ◌/◌, ◌%◌, ◌==◌, Bool, true, false, not, ◌&&◌, ◌||◌, nat_eq, nat_lt, bytes_eq, List, [], ◌∷◌, ◌++◌, drop, length, Option, None, Some, codes, if◌then◌else◌}
use Rattle.std.specs.List.{filter, flat_map, list_any, starts_with}
use Rattle.serde_json.specs.Data.{Data, Members, no_members, member}
use Rattle.serde_json.specs.Find.{as_object, get}
use Rattle.kn_config.specs.declared.key.Key.{Key}
use Rattle.kn_config.specs.declared.key.Key.TheVariants as key
use Rattle.kn_config.specs.Keys.{key_text}
use Rattle.kn_config.specs.Laws.{setting_keys}
use Rattle.kn_origins.specs.Origins.{annotations, has_annotation, prefix}

-- the names of an object's members, in the order of their bytes
abbrev pub names_of : Members → List (List ℕ)
names_of no_members = []
names_of (member name value more) = name ∷ names_of more

abbrev pub names_in : Option Members → List (List ℕ)
names_in None = []
names_in (Some members) = names_of members

abbrev pub names : Option Data → List (List ℕ)
names None = []
names (Some value) = names_in (as_object value)

-- it is the text of one of these keys
abbrev pub is_among : List Key → List ℕ → Bool
is_among keys name = list_any (λ k. bytes_eq name (key_text k)) keys

-- ---- keys of the ConfigMap

-- no key of the table
unfoldable pub is_unset : List ℕ → Bool
is_unset name = not (is_among setting_keys name)

abbrev pub ignored_keys : Data → List (List ℕ)
ignored_keys config = filter is_unset (names (get (codes "data") config))

-- ---- annotations

-- the annotations of the table, but for the old spellings
abbrev pub annotation_keys : List Key
annotation_keys =
    key.Class ∷ key.Metric ∷ key.MinScale ∷ key.MaxScale ∷ key.InitialScale ∷ key.Target ∷ key.TargetUtilizationPercentage ∷ key.Window
    ∷ key.PanicWindowPercentage ∷ key.PanicThresholdPercentage ∷ key.TargetBurstCapacity ∷ key.ScaleDownDelay
    ∷ key.ScaleToZeroPodRetentionPeriod ∷ key.ActivationScale ∷ []

-- an old spelling, where the new one isn't there
abbrev pub is_old : Key → Bool → List ℕ → Bool
is_old old has_new name = not has_new && bytes_eq name (key_text old)

-- an annotation of this name is read, where the new spellings are there or not
unfoldable pub is_read : Bool → Bool → List ℕ → Bool
is_read has_min has_max name = is_among annotation_keys name || (is_old key.OldMinScale has_min name || is_old key.OldMaxScale has_max name)

-- it is an annotation of the autoscaler and isn't read
unfoldable pub is_unread : Bool → Bool → List ℕ → Bool
is_unread has_min has_max name = starts_with nat_eq name prefix && not (is_read has_min has_max (drop (length prefix) name))

abbrev pub ignored_annotations : Data → List (List ℕ)
ignored_annotations revision = filter (is_unread (has_annotation key.MinScale revision) (has_annotation key.MaxScale revision)) (names (annotations revision))

-- ---- their lines

abbrev pub hex_digit : ℕ → ℕ
hex_digit n = if nat_lt n 10 then 48 + n else 87 + n

-- a byte of a name, as JSON spells it: a control code would break the line
abbrev pub byte_text : ℕ → List ℕ
byte_text b =
    if nat_lt b 32 then 92 ∷ (codes "u00" ++ (hex_digit (b / 16) ∷ hex_digit (b % 16) ∷ []))
    else (if b == 92 then 92 ∷ 92 ∷ [] else b ∷ [])

unfoldable pub name_text : List ℕ → List ℕ
name_text name = flat_map byte_text name

unfoldable pub ignored_line : List ℕ → List ℕ
ignored_line name = codes "ignored " ++ (name_text name ++ codes "\n")

abbrev pub ignored_lines : List (List ℕ) → List ℕ
ignored_lines [] = []
ignored_lines (name ∷ more) = ignored_line name ++ ignored_lines more

abbrev pub ignored_if : Bool → List ℕ → List ℕ
ignored_if true name = ignored_line name
ignored_if false name = []

-- of the ConfigMap, and then of the Revision
unfoldable pub ignored_text : Data → Data → List ℕ
ignored_text config revision = ignored_lines (ignored_keys config) ++ ignored_lines (ignored_annotations revision)

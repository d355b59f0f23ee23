-- The members of a Revision that are no annotations.
use Rattle.std.specs.Prelude.{ℕ, ◌≤◌, List, Option, Some, None, option_and_then, Result, Ok, Err, if◌then◌else◌, codes}
use Rattle.serde_json.specs.Data.{Data, null, boolean, number, string, array, object}
use Rattle.serde_json.specs.Find.{get, as_number, as_u64}
use Rattle.kn_event.specs.Ranges.{is_name}
use Rattle.kn_config.specs.declared.key.Key.{Key}
use Rattle.kn_config.specs.declared.key.Key.TheVariants as key
use Rattle.kn_config.specs.declared.value.KeyError.{KeyError}
use Rattle.kn_config.specs.declared.value.KeyError.TheVariants as fault
use Rattle.kn_config.specs.Keys.{key_text, rule_of}
use Rattle.kn_config.specs.Values.{◌>>=◌, in_range}
use Rattle.kn_revision.specs.declared.error.Field.{Field}
use Rattle.kn_revision.specs.declared.error.Field.TheVariants as field
use Rattle.kn_revision.specs.declared.error.SpecError.{SpecError}
use Rattle.kn_revision.specs.declared.error.SpecError.TheVariants as error
use Rattle.kn_revision.specs.declared.member.Limits.{Limits}

-- the member of an object's member: none where one is missing, or the first is no object
abbrev pub inner : List ℕ → List ℕ → Data → Option Data
inner outer name root = option_and_then (get name) (get outer root)

abbrev pub field_key : Field → Key
field_key field.Namespace = key.Namespace
field_key field.Name = key.Name

abbrev pub field_text : Field → List ℕ
field_text f = key_text (field_key f)

-- a name: it is there, it is text, and it is 1 to 253 bytes of the name alphabet
abbrev pub name_of : Field → Option Data → Result (List ℕ) SpecError
name_of f None = Err (error.Missing f)
name_of f (Some null) = Err (error.NotText (field_key f))
name_of f (Some (boolean _)) = Err (error.NotText (field_key f))
name_of f (Some (number _)) = Err (error.NotText (field_key f))
name_of f (Some (string name)) = if is_name name then Ok name else Err (error.OutOfRange (field_key f))
name_of f (Some (array _)) = Err (error.NotText (field_key f))
name_of f (Some (object _)) = Err (error.NotText (field_key f))

abbrev whole_in_range : Key → Option ℕ → Result ℕ KeyError
whole_in_range k None = Err (fault.OutOfRange k)
whole_in_range k (Some whole) = in_range k whole

-- a whole number without sign, fraction and exponent, in its range
abbrev pub whole_of : Key → Option Data → Result ℕ KeyError
whole_of k None = Ok (rule_of k).default
whole_of k (Some member) = whole_in_range k (option_and_then as_u64 (as_number member))

-- containerConcurrency, then timeoutSeconds
abbrev pub limits_of : Data → Result Limits KeyError
limits_of root =
    whole_of key.ContainerConcurrency (inner (codes "spec") (codes "containerConcurrency") root) >>= λ cc.
    whole_of key.TimeoutSeconds (inner (codes "spec") (codes "timeoutSeconds") root) >>= λ timeout_s.
    Ok (record { cc = cc; timeout_s = timeout_s })

pub record AreLimits (limits : Limits) : Type 0 where
  pub cc : limits.cc ≤ 1000
  pub timeout_least : 1 ≤ limits.timeout_s
  pub timeout_most : limits.timeout_s ≤ 3600

-- The utilisation that is shown is the one that the target is made of.
use Rattle.std.proofs.Common.{◌≡◌, ℕ, List, refl, sym, ap, ◌∙◌, subst}
use Rattle.std.specs.Prelude.{codes, Result, Ok, Err, Option, None, Some, option_and_then}
use Rattle.serde_json.specs.Data.{Data, null, boolean, number, string, array, object}
use Rattle.serde_json.specs.Find.{get}
use Rattle.kn_event.specs.Defaults.{milli, scaling_target}
use Rattle.kn_event.specs.declared.units.Milli.{Milli}
use Rattle.kn_event.specs.declared.revision.Metric.{Metric}
use Rattle.kn_event.specs.declared.revision.Metric.TheVariants.{Concurrency, Rps}
use Rattle.kn_event.specs.declared.revision.Slots.{Slots}
use Rattle.kn_event.specs.declared.revision.Spec.{Spec}
use Rattle.kn_config.specs.declared.config.Config.{Config}
use Rattle.kn_config.specs.declared.config.ConfigError.{ConfigError}
use Rattle.kn_config.specs.declared.config.ConfigError.TheVariants as config_error
use Rattle.kn_config.specs.declared.key.Key.TheVariants as key
use Rattle.kn_config.specs.declared.value.KeyError.{KeyError}
use Rattle.kn_config.specs.declared.value.KeyError.TheVariants as fault
use Rattle.kn_config.specs.Config as map
use Rattle.kn_config.specs.Config.{as_config, config_in, config_of, idling_of, percentage_at, scales_of, settings_in, settings_of, targets_of, windows_of}
use Rattle.kn_config.specs.Json.{json_of}
use Rattle.kn_config.specs.Keys.{key_text, rule_of}
use Rattle.kn_config.specs.Laws.{default_config}
use Rattle.kn_config.specs.Values.{◌>>=◌, number_of, or_else, percentage_of, text_of}
use Rattle.kn_revision.specs.declared.annotation.Annotation.TheVariants as annotation
use Rattle.kn_revision.specs.declared.error.SpecError.{SpecError}
use Rattle.kn_revision.specs.declared.error.SpecError.TheVariants as spec_error
use Rattle.kn_revision.specs.declared.error.Field.TheVariants as field
use Rattle.kn_revision.specs.Amounts as over
use Rattle.kn_revision.specs.Amounts.{amounts_of, load_of, overridden, pace_of, scale_of}
use Rattle.kn_revision.specs.Annotations.{annotation_name, annotations_of, number_at, seconds_at, target_at}
use Rattle.kn_revision.specs.Members.{inner, limits_of, name_of}
use Rattle.kn_revision.specs.Revision.{◌>>>=◌, fault_of, of_keys, parts_of, spec_in, spec_of, unless}
use Rattle.kn_origins.specs.Amounts.{amount, number_or, percentage_or_default, utilisation, utilisation_without}
use Rattle.kn_show_settings.specs.Blocks.{or_null, value_of}

-- ---- what these steps read, whose types have no name here

abbrev type_of : {A E : Type 0} → Result A E → Type 0
type_of {A} r = A

abbrev Targets : Type 0
Targets = type_of (targets_of null)

abbrev Load : Type 0
Load = type_of (load_of default_config (milli 0) null)

abbrev Amounts : Type 0
Amounts = type_of (amounts_of default_config null)

-- ---- a step, and the next one

bind-inv : {A B : Type 0} (r : Result A KeyError) (next : A → Result B KeyError) (y : B) → (r >>= next) ≡ Ok y → (x : A) × (r ≡ Ok x) × (next x ≡ Ok y)
bind-inv (Ok x) next y h = (x, refl, h)
bind-inv (Err why) next y h = absurd (cc)

-- ---- of the configuration

as-inv : (r : Result Config KeyError) (config : Config) → as_config r ≡ Ok config → r ≡ Ok config
as-inv (Ok x) config h = cc
as-inv (Err (fault.NotText k)) config h = absurd (cc)
as-inv (Err (fault.BadValue k why)) config h = absurd (cc)
as-inv (Err (fault.OutOfRange k)) config h = absurd (cc)

percentage-read : (o : Option Data) (m : Milli) → (text_of key.ContainerConcurrencyTargetPercentage o >>= or_else (milli (rule_of key.ContainerConcurrencyTargetPercentage).default) (percentage_of key.ContainerConcurrencyTargetPercentage)) ≡ Ok m
    → m.0 ≡ percentage_or_default o
percentage-read None m h =
    let same : milli (rule_of key.ContainerConcurrencyTargetPercentage).default ≡ m = cc in
    ap (λ (x : Milli). x.0) (sym same)
percentage-read (Some null) m h = absurd (cc)
percentage-read (Some (boolean b)) m h = absurd (cc)
percentage-read (Some (number n)) m h = absurd (cc)
percentage-read (Some (string text)) m h = sym (ap amount h)
percentage-read (Some (array xs)) m h = absurd (cc)
percentage-read (Some (object xs)) m h = absurd (cc)

settings-inv : (members : Data) (config : Config) → settings_of members ≡ Ok config → percentage_at key.ContainerConcurrencyTargetPercentage members ≡ Ok config.utilisation
unfolding settings_of targets_of
settings-inv members config h =
    let t = bind-inv (targets_of members) _ config h in
    let w = bind-inv (windows_of members) _ config t.2 in
    let i = bind-inv (idling_of members) _ config w.2 in
    let s = bind-inv (scales_of members) _ config i.2 in
    let u = bind-inv (percentage_at key.ContainerConcurrencyTargetPercentage members) _ t.0 t.1 in
    let d = bind-inv (map.number_at key.ContainerConcurrencyTargetDefault members) _ t.0 u.2 in
    let r = bind-inv (map.number_at key.RequestsPerSecondTargetDefault members) _ t.0 d.2 in
    let b = bind-inv (map.burst_at key.TargetBurstCapacity members) _ t.0 r.2 in
    let of_targets : Ok u.0 ≡ Ok t.0.utilisation = ap (as_utilisation u.0) b.2 in
    let of_config : Ok t.0.utilisation ≡ Ok config.utilisation = ap (as_config_utilisation t.0.utilisation) s.2 in
    u.1 ∙ of_targets ∙ of_config
  where
    as_utilisation : Milli → Result Targets KeyError → Result Milli KeyError
    as_utilisation otherwise (Ok x) = Ok x.utilisation
    as_utilisation otherwise (Err why) = Ok otherwise

    as_config_utilisation : Milli → Result Config KeyError → Result Milli KeyError
    as_config_utilisation otherwise (Ok x) = Ok x.utilisation
    as_config_utilisation otherwise (Err why) = Ok otherwise

abbrev or_not_json : Option Data → Result Config ConfigError
or_not_json None = Err config_error.NotJson
or_not_json (Some root) = config_in root

abbrev percentage_name : List ℕ
percentage_name = key_text key.ContainerConcurrencyTargetPercentage

config-inv : (text : List ℕ) (config : Config) → config_of text ≡ Ok config → config.utilisation.0 ≡ percentage_or_default (inner (codes "data") percentage_name (value_of text))
unfolding config_of
config-inv text config h = whole (json_of text) h
  where
    read : (members : Data) → as_config (settings_of members) ≡ Ok config → config.utilisation.0 ≡ percentage_or_default (get percentage_name members)
    read members h = percentage-read (get percentage_name members) config.utilisation (settings-inv members config (as-inv (settings_of members) config h))

    data_in : (o : Option Data) → settings_in o ≡ Ok config → config.utilisation.0 ≡ percentage_or_default (option_and_then (get percentage_name) o)
    data_in None h = read null h
    data_in (Some null) h = absurd (cc)
    data_in (Some (boolean b)) h = absurd (cc)
    data_in (Some (number n)) h = absurd (cc)
    data_in (Some (string text)) h = absurd (cc)
    data_in (Some (array xs)) h = absurd (cc)
    data_in (Some (object members)) h = read (object members) h

    map_in : (root : Data) → config_in root ≡ Ok config → config.utilisation.0 ≡ percentage_or_default (inner (codes "data") percentage_name root)
    map_in null h = absurd (cc)
    map_in (boolean b) h = absurd (cc)
    map_in (number n) h = absurd (cc)
    map_in (string text) h = absurd (cc)
    map_in (array xs) h = absurd (cc)
    map_in (object members) h = data_in (get (codes "data") (object members)) h

    whole : (o : Option Data) → or_not_json o ≡ Ok config → config.utilisation.0 ≡ percentage_or_default (inner (codes "data") percentage_name (or_null o))
    whole None h = absurd (cc)
    whole (Some root) h = map_in root h

-- ---- of the Revision

number-read : (o : Option Data) (otherwise m : Milli) → (text_of key.TargetUtilizationPercentage o >>= or_else otherwise (number_of key.TargetUtilizationPercentage)) ≡ Ok m → m.0 ≡ number_or otherwise.0 o
number-read None otherwise m h =
    let same : otherwise ≡ m = cc in
    ap (λ (x : Milli). x.0) (sym same)
number-read (Some null) otherwise m h = absurd (cc)
number-read (Some (boolean b)) otherwise m h = absurd (cc)
number-read (Some (number n)) otherwise m h = absurd (cc)
number-read (Some (string text)) otherwise m h = sym (ap amount h)
number-read (Some (array xs)) otherwise m h = absurd (cc)
number-read (Some (object xs)) otherwise m h = absurd (cc)

abbrev utilisation_name : List ℕ
utilisation_name = annotation_name annotation.TargetUtilizationPercentage

annotation-read : (o : Option Data) (annotations : Data) (otherwise m : Milli) → annotations_of o ≡ Ok annotations → number_at annotation.TargetUtilizationPercentage otherwise annotations ≡ Ok m
    → m.0 ≡ number_or otherwise.0 (option_and_then (get utilisation_name) o)
annotation-read None annotations otherwise m h read =
    let same : null ≡ annotations = cc in
    number-read None otherwise m (subst (λ (d : Data). number_at annotation.TargetUtilizationPercentage otherwise d ≡ Ok m) (sym same) read)
annotation-read (Some null) annotations otherwise m h read = absurd (cc)
annotation-read (Some (boolean b)) annotations otherwise m h read = absurd (cc)
annotation-read (Some (number n)) annotations otherwise m h read = absurd (cc)
annotation-read (Some (string text)) annotations otherwise m h read = absurd (cc)
annotation-read (Some (array xs)) annotations otherwise m h read = absurd (cc)
annotation-read (Some (object members)) annotations otherwise m h read =
    let same : object members ≡ annotations = cc in
    number-read (get utilisation_name (object members)) otherwise m (subst (λ (d : Data). number_at annotation.TargetUtilizationPercentage otherwise d ≡ Ok m) (sym same) read)

-- ---- of the specification

after-inv : {A B : Type 0} (r : Result A SpecError) (next : A → Result B SpecError) (y : B) → (r >>>= next) ≡ Ok y → (x : A) × (r ≡ Ok x) × (next x ≡ Ok y)
after-inv (Ok x) next y h = (x, refl, h)
after-inv (Err why) next y h = absurd (cc)

keys-inv : {A : Type 0} (r : Result A KeyError) (x : A) → of_keys r ≡ Ok x → r ≡ Ok x
keys-inv (Ok y) x h = cc
keys-inv (Err why) x h = absurd (cc)

unless-inv : {A : Type 0} (o : Option SpecError) (x y : A) → unless o x ≡ Ok y → x ≡ y
unless-inv None x y h = cc
unless-inv (Some why) x y h = absurd (cc)

-- it is of these amounts
record IsMadeOf (config : Config) (root : Data) (slots : Slots) (s : Spec) : Type 0 where
  namespace : List ℕ
  name : List ℕ
  amounts : Amounts
  is : parts_of config slots namespace name amounts ≡ s
  read : amounts_of config root ≡ Ok amounts

made-inv : (config : Config) (root : Data) (slots : Slots) (s : Spec) → spec_in config slots root ≡ Ok s → IsMadeOf config root slots s
unfolding spec_in
made-inv config root slots s h =
    let n = after-inv (name_of field.Namespace (inner (codes "metadata") (codes "namespace") root)) _ s h in
    let m = after-inv (name_of field.Name (inner (codes "metadata") (codes "name") root)) _ s n.2 in
    let a = after-inv (of_keys (amounts_of config root)) _ s m.2 in
    record {
      namespace = n.0;
      name = m.0;
      amounts = a.0;
      is = unless-inv (fault_of config a.0) (parts_of config slots n.0 m.0 a.0) s a.2;
      read = keys-inv (amounts_of config root) a.0 a.1;
    }

load-inv : (config : Config) (otherwise : Milli) (annotations : Data) (load : Load) → load_of config otherwise annotations ≡ Ok load → number_at annotation.TargetUtilizationPercentage otherwise annotations ≡ Ok load.utilisation
unfolding load_of
load-inv config otherwise annotations load h =
    let t = bind-inv (target_at annotations) _ load h in
    let u = bind-inv (number_at annotation.TargetUtilizationPercentage otherwise annotations) _ load t.2 in
    let w = bind-inv (seconds_at annotation.Window config.stable_s annotations) _ load u.2 in
    let p = bind-inv (number_at annotation.PanicWindowPercentage config.panic_percent annotations) _ load w.2 in
    let g = bind-inv (number_at annotation.PanicThresholdPercentage config.panic_threshold annotations) _ load p.2 in
    let same : Ok u.0 ≡ Ok load.utilisation = ap (of_load u.0) g.2 in
    u.1 ∙ same
  where
    of_load : Milli → Result Load KeyError → Result Milli KeyError
    of_load otherwise (Ok x) = Ok x.utilisation
    of_load otherwise (Err why) = Ok otherwise

amounts-inv : (config : Config) (root : Data) (x : Amounts) → amounts_of config root ≡ Ok x
    → x.load.utilisation.0 ≡ number_or (over.utilisation_without config x.scale.metric).0 (option_and_then (get utilisation_name) (inner (codes "metadata") (codes "annotations") root))
unfolding amounts_of overridden
amounts-inv config root x h =
    let l = bind-inv (limits_of root) _ x h in
    let a = bind-inv (annotations_of (inner (codes "metadata") (codes "annotations") root)) _ x l.2 in
    let sc = bind-inv (scale_of config a.0) _ x a.2 in
    let ld = bind-inv (load_of config (over.utilisation_without config sc.0.metric) a.0) _ x sc.2 in
    let pc = bind-inv (pace_of config a.0) _ x ld.2 in
    let whole : record { limits = l.0; scale = sc.0; load = ld.0; pace = pc.0 } ≡ x = (let it = pc.2 in cc) in
    let read = annotation-read (inner (codes "metadata") (codes "annotations") root) a.0 (over.utilisation_without config sc.0.metric) ld.0.utilisation a.1 (load-inv config (over.utilisation_without config sc.0.metric) a.0 ld.0 ld.1) in
    subst (λ (y : Amounts). y.load.utilisation.0 ≡ number_or (over.utilisation_without config y.scale.metric).0 (option_and_then (get utilisation_name) (inner (codes "metadata") (codes "annotations") root))) whole read

-- without an annotation it is the same
without-is : (config : Config) (text : List ℕ) (metric : Metric) → config_of text ≡ Ok config → (over.utilisation_without config metric).0 ≡ utilisation_without metric (value_of text)
unfolding over.utilisation_without
without-is config text Concurrency h = config-inv text config h
without-is config text Rps h = refl

abbrev or_no_json : Config → Slots → Option Data → Result Spec SpecError
or_no_json config slots None = Err spec_error.NotJson
or_no_json config slots (Some root) = spec_in config slots root

-- so the target is of that, and the slots are known
pub record IsTargetOf (config revision : List ℕ) (slots : Slots) (s : Spec) : Type 0 where
  pub slots_are : s.slots ≡ slots
  pub target_is : s.target ≡ scaling_target s.total.0 (utilisation s.metric (value_of config) (value_of revision))

pub target-is : (config : Config) (config_text revision : List ℕ) (slots : Slots) (s : Spec) → config_of config_text ≡ Ok config → spec_of config revision slots ≡ Ok s → IsTargetOf config_text revision slots s
unfolding spec_of utilisation parts_of
target-is config config_text revision slots s read h =
    let both = whole (json_of revision) h in
    record { slots_are = both.0; target_is = both.1 }
  where
    of_root : (root : Data) → IsMadeOf config root slots s
        → (s.slots ≡ slots) × (s.target ≡ scaling_target s.total.0 (number_or (utilisation_without s.metric (value_of config_text)) (option_and_then (get utilisation_name) (inner (codes "metadata") (codes "annotations") root))))
    of_root root made =
        let x = made.amounts in
        let o = option_and_then (get utilisation_name) (inner (codes "metadata") (codes "annotations") root) in
        let amount_is = amounts-inv config root x made.read ∙ ap (λ (n : ℕ). number_or n o) (without-is config config_text x.scale.metric read) in
        subst (λ (t : Spec). (t.slots ≡ slots) × (t.target ≡ scaling_target t.total.0 (number_or (utilisation_without t.metric (value_of config_text)) o))) made.is
        (refl, ap (scaling_target (parts_of config slots made.namespace made.name x).total.0) amount_is)

    whole : (o : Option Data) → or_no_json config slots o ≡ Ok s
        → (s.slots ≡ slots) × (s.target ≡ scaling_target s.total.0 (number_or (utilisation_without s.metric (value_of config_text)) (option_and_then (get utilisation_name) (inner (codes "metadata") (codes "annotations") (or_null o)))))
    whole None h = absurd (cc)
    whole (Some root) h = of_root root (made-inv config root slots s h)

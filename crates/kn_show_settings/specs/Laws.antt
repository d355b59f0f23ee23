-- What the lines of a setup that scales are by.
use Rattle.std.specs.Prelude.{◌≡◌, ℕ, Ok}
use Rattle.kn_event.specs.Defaults.{scaling_target}
use Rattle.kn_event.specs.declared.revision.Kind.TheVariants.{Kpa}
use Rattle.kn_config.specs.declared.config.Config.{Config}
use Rattle.kn_config.specs.Config.{config_of}
use Rattle.kn_revision.specs.Revision.{spec_of}
use Rattle.kn_journal.specs.declared.journal.Setup.{Setup}
use Rattle.kn_origins.specs.Amounts.{utilisation}
use Rattle.kn_show_settings.specs.Blocks.{config_block, revision_block, value_of}

-- the utilisation in its lines, in thousandths of a per cent
abbrev pub utilisation_in : Setup → ℕ
utilisation_in s = utilisation s.spec.metric (value_of (config_block s.text)) (value_of (revision_block s.text))

-- the ConfigMap and the Revision that its lines look at say just its specification, which a replay runs by; and its target
-- is that of the total and the utilisation that are shown
pub record IsByBlocks (s : Setup) : Type 0 where
  pub config : Config
  pub config_is : config_of (config_block s.text) ≡ Ok config
  pub spec_is : spec_of config (revision_block s.text) s.spec.slots ≡ Ok s.spec
  pub target : s.spec.target ≡ scaling_target s.spec.total.0 (utilisation_in s)

-- where it scales
abbrev pub IsByText : Setup → Type 0
IsByText s = s.spec.kind ≡ Kpa → IsByBlocks s

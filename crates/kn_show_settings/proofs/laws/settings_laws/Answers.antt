use Rattle.kn_show_settings.proofs.ByBlocks.{by_opening, by_setup}
use Rattle.kn_show_settings.proofs.laws.settings_laws.Goals as goal

pub returns : goal.returns
returns c = record { read = by_opening; kept = by_setup }

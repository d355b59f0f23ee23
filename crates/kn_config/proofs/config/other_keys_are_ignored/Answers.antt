use Rattle.std.proofs.Common.{refl}
use Rattle.kn_config.specs.Config.{settings_of, targets_of, windows_of, idling_of, scales_of}
use Rattle.kn_config.proofs.OtherKeys.{settings_same}
use Rattle.kn_config.proofs.config.other_keys_are_ignored.Goals as goal

pub returns-clause-others : goal.returns-clause-others
returns-clause-others c = settings_same

pub returns-clause-defaults : goal.returns-clause-defaults
unfolding settings_of targets_of windows_of idling_of scales_of
returns-clause-defaults c = refl

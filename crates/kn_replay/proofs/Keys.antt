-- How long the texts of keys are.
use Rattle.std.proofs.Common.{◌≤◌, length, arith}
use Rattle.kn_config.specs.declared.key.Key.{Key}
use Rattle.kn_config.specs.declared.key.Key.TheVariants.{Class}
use Rattle.kn_config.specs.Keys.{key_text}

pub key_short : (key : Key) → length (key_text key) ≤ 50
key_short Class = omega arith
key_short _ = omega arith

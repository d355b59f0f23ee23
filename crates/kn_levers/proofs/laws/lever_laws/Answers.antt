use Rattle.kn_levers.proofs.Whole.{each_changes, each_is_ruled}
use Rattle.kn_levers.proofs.Ranges.{each_in_range}
use Rattle.kn_levers.proofs.laws.lever_laws.Goals as goal

pub returns : goal.returns
returns c = record { changes = each_changes; range = each_in_range; ruled = each_is_ruled }

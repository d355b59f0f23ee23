use Rattle.kn_core.proofs.Scalers.{scaler_of_some}
use Rattle.kn_core.proofs.scaling.advance.Goals as goal

pub advance-requires-clause-made : goal.advance-requires-clause-made
advance-requires-clause-made c = scaler_of_some _ _ c.in-Some.is c.requires.some

use Rattle.kn_core.proofs.Scalers.{next_of_some, unscaled_row}
use Rattle.kn_core.proofs.scaling.row.Goals as goal

pub row-requires : goal.row-requires
row-requires c = next_of_some _ _ _ _ _ c.in-Some.is c.requires

pub returns-in-None-clause-stands : goal.returns-in-None-clause-stands
returns-in-None-clause-stands c = rw c.in-None.is (λ s d t at says k. unscaled_row s d t c.args.added says k.scaler)

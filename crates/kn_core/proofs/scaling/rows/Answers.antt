use Rattle.kn_core.proofs.Scalers.{next_rows, next_rows_some, unscaled_rows}
use Rattle.kn_core.proofs.scaling.rows.Goals as goal

pub rows-requires : goal.rows-requires
rows-requires c = next_rows_some _ _ _ c.in-Some.is c.requires

pub returns-in-None-clause-stands : goal.returns-in-None-clause-stands
returns-in-None-clause-stands c = rw c.in-None.is (λ s d k. unscaled_rows s d c.args.added.now k.kind k.scaler)

pub returns-in-Some-clause-stands : goal.returns-in-Some-clause-stands
returns-in-Some-clause-stands c = rw c.in-Some.is (λ s d k. record { kind = k.scaler.kind; stands = c.rows.ensures.stands s d (next_rows _ c.args.added.now s d k) })

use Rattle.kn_scaler.proofs.RowKinds.{scale_at, scale_each, settling_at, settling_each}
use Rattle.kn_scaler.proofs.laws.kind_laws.Goals as goal

pub returns : goal.returns
returns c = record { settling = settling_each; settling_at = settling_at; scale = scale_each; scale_at = scale_at }

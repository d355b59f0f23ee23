use Rattle.std.proofs.Common.{refl}
use Rattle.kn_faults.proofs.Counting.{none_so_far}
use Rattle.kn_faults.proofs.limiter.Limiter.new.Goals as goal

pub returns : goal.returns
returns c = none_so_far (record { second = 0; lone = 0; untold = 0 }) refl refl

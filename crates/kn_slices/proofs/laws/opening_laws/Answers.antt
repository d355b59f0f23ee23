use Rattle.kn_slices.proofs.Opening.{is_open}
use Rattle.kn_slices.proofs.laws.opening_laws.Goals as goal

pub returns : goal.returns
returns c = is_open c.part_laws.ensures c.append_laws.ensures.views

use Rattle.kn_core.proofs.Measured.{next_in, next_in_some}
use Rattle.kn_core.proofs.parts.Parts.measure.Goals as goal

pub row-requires : goal.row-requires
row-requires c =
    next_in_some _ c.args.row c.args.r c.stand-stand.result c.proxied-proxied.result c.requires.ends
    c.stand-stand.ensures.stand c.proxied-proxied.ensures.proxied (rw (← c.self.view_is) at c.requires.some)

pub returns-clause-scaler : goal.returns-clause-scaler
returns-clause-scaler c = rw (← c.self.view_is) (λ s d t at says h proper.
    c.row.ensures.stands s d t at says (next_in _ c.args.row c.args.r c.stand-stand.result c.proxied-proxied.result s d c.requires.ends h proper (c.stand-stand.ensures.stand d h.admission) (c.proxied-proxied.ensures.proxied d h.admission)))

pub returns-clause-measured : goal.returns-clause-measured
returns-clause-measured c = rw (← c.self.view_is) (λ t at. c.row.ensures.measured t at)

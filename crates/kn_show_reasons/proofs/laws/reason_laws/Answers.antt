use Rattle.kn_scaling.specs.Decide.{ruling}
use Rattle.kn_show_reasons.proofs.Holding.{rates_tell, tells}
use Rattle.kn_show_reasons.proofs.Reading.{want_read}
use Rattle.kn_show_reasons.proofs.Ruled.{are_ruled}
use Rattle.kn_show_reasons.proofs.laws.reason_laws.Goals as goal

pub returns-clause-what_counts : goal.returns-clause-what_counts
returns-clause-what_counts c = λ s past t ready stable panic range.
    want_read s t past.standing.phase past.standing.phase_since (ruling s past t ready stable panic).decision range (are_ruled s past t ready stable panic)

pub returns-clause-rates : goal.returns-clause-rates
returns-clause-rates c = rates_tell

pub returns-clause-bounds : goal.returns-clause-bounds
returns-clause-bounds c = tells

use Rattle.kn_journal.proofs.Wholes.{opening-whole, setup-whole, start-whole}
use Rattle.kn_journal.proofs.laws.openings_are_whole.Goals as goal

pub returns : goal.returns
returns c = record { opening = opening-whole; setup = setup-whole; start = start-whole }

use Rattle.kn_window.proofs.Same.{average_same, stands_same}
use Rattle.kn_window.proofs.laws.sample_laws.Goals as goal

pub returns : goal.returns
returns c = record { same = stands_same; below = average_same }

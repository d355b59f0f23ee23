use Rattle.kn_levers.proofs.Alone.{longer_window, neither_alone, shorter_window}
use Rattle.kn_levers.proofs.laws.zero_laws.Goals as goal

pub returns : goal.returns
returns c = record { longer_window = longer_window; shorter_window = shorter_window; neither_alone = neither_alone }

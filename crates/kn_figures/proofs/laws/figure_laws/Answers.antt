use Rattle.kn_figures.proofs.Names.{grows, names, places}
use Rattle.kn_figures.proofs.laws.figure_laws.Goals as goal

pub returns : goal.returns
returns c = record { names = names; places = places; counts = grows }

use Rattle.kn_show_summary.specs.Text.{costs_text}
use Rattle.kn_show_summary.proofs.Pieces.{four_pieces}
use Rattle.kn_show_summary.proofs.summary.put_costs.Goals as goal

pub returns-clause-value : goal.returns-clause-value
unfolding costs_text
returns-clause-value c =
    four_pieces c.args.line.now _ _ _ _ c.put_figure.new.line c.put_figure-2.new.line c.put_figure-3.new.line c.put_figure-4.new.line
    c.put_figure.ensures.value c.put_figure-2.ensures.value c.put_figure-3.ensures.value c.put_figure-4.ensures.value

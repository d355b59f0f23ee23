use Rattle.std.proofs.Common.{◌≡◌, ◌++◌, subst}
use Rattle.kn_show_summary.specs.Counted.{CountsState}
use Rattle.kn_show_summary.specs.Text.{refused_text}
use Rattle.kn_show_summary.proofs.Pieces.{two_pieces}
use Rattle.kn_show_summary.proofs.counts.Counts.put_refused.Goals as goal

pub returns-clause-value : goal.returns-clause-value
unfolding refused_text
returns-clause-value c =
    subst (λ (x : CountsState). c.put_figure-2.new.line ≡ c.args.line.now ++ refused_text x.counted) c.self.view_is
    (two_pieces c.args.line.now _ _ c.put_figure.new.line c.put_figure-2.new.line c.put_figure.ensures.value c.put_figure-2.ensures.value)

use Rattle.std.proofs.Common.{List, ℕ, ◌++◌, ◌∙◌, ap, subst}
use Rattle.std.specs.Prelude.{OnErr, OnOk}
use Rattle.kn_io.specs.Prefix.{AppendsPrefix}
use Rattle.kn_report.specs.Waiting.{Adds}
use Rattle.kn_show_series.specs.Open.{open_text}
use Rattle.kn_show_series.specs.State.{SeriesState}
use Rattle.kn_show_series.proofs.Told.{line_is}
use Rattle.kn_show_series.proofs.series.SeriesTeller.end.Goals as goal

pub returns-clause-ok : goal.returns-clause-ok
returns-clause-ok g c = λ r h many.
    let text = ap (λ (x : SeriesState). open_text x.current) c.self.view_is ∙ line_is c.args.self.now r h in
    subst (λ (z : List ℕ). OnOk c.write.result (Adds (g.O.Sink.held c.args.out.now) (g.O.Sink.held c.write.new.out) c.args.waiting.now c.write.new.waiting z)) text c.write.ensures.ok

pub returns-clause-err : goal.returns-clause-err
returns-clause-err g c = λ r h many.
    let text = ap (λ (x : SeriesState). open_text x.current) c.self.view_is ∙ line_is c.args.self.now r h in
    subst (λ (z : List ℕ). OnErr c.write.result (AppendsPrefix (g.O.Sink.held c.args.out.now) (g.O.Sink.held c.write.new.out) (c.args.waiting.now ++ z))) text c.write.ensures.err

use Rattle.std.proofs.Common.{sym, ◌∙◌}
use Rattle.kn_page.proofs.Paths.{path_at, path_whole}
use Rattle.kn_page.proofs.asked.path_of.Goals as goal

pub returns-in-Some : goal.returns-in-Some
returns-in-Some c = path_at c.args.target.now c.in-Some.end (sym c.in-Some.is ∙ c.question.ensures)

pub returns-in-None : goal.returns-in-None
returns-in-None c = path_whole c.args.target.now (sym c.in-None.is ∙ c.question.ensures)

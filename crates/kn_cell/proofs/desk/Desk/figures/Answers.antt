use Rattle.std.proofs.Common.{◌≡◌, ◌+◌, length, subst, rules}
use Rattle.kn_figures.specs.Figures.{IsFiguresOf}
use Rattle.kn_cell.proofs.desk.Desk.figures.Goals as goal

pub returns : goal.returns
returns c =
    let left : c.len-left.result ≡ length c.self.inside.history.items = search rules in
    rw (← c.self.view_is) (λ t counted s is.
    subst (λ n. IsFiguresOf c.self.inside.revision.spec t counted (c.self.inside.taken + n) c.self.inside.taken c.of.result) left (c.of.ensures t counted s is))

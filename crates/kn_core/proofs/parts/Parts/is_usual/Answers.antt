use Rattle.std.proofs.Common.{sym, ◌∙◌}
use Rattle.kn_core.proofs.Usual.{nobody_leaves, none_by}
use Rattle.kn_core.proofs.parts.Parts.is_usual.Goals as goal

pub returns-then-is_usual_act : goal.returns-then-is_usual_act
returns-then-is_usual_act c is =
    let usual = sym c.if-is_usual_act.ensures in
    rw (← c.self.view_is) (record { act = usual; stays = λ d h. nobody_leaves _ d c.args.e.now usual (none_by _ _ c.is_none.ensures is ∙ c.due.ensures.due d h) })

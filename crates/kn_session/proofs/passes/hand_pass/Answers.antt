use Rattle.std.proofs.Common.{refl, ap, ◌∙◌}
use Rattle.kn_cell.specs.Shown.{PassView}
use Rattle.kn_session.proofs.HandFacts.{new_of}
use Rattle.kn_session.proofs.passes.hand_pass.Goals as goal

pub returns-clause-given : goal.returns-clause-given
returns-clause-given g c =
    let p = c.split.result in
    let is = c.split.ensures.new in (
      (p, refl, ap (λ (v : PassView). v.cell) is ∙ c.requires.cell, new_of c.args.pass.now p c.requires.blank is),
      record { caller = refl; link = refl; fault = refl; memory = refl },
    )

use Rattle.std.proofs.Common.{refl, ap}
use Rattle.kn_cell.specs.Shown.{PassView}
use Rattle.kn_session.proofs.HandFacts.{new_of}
use Rattle.kn_session.proofs.wide_passes.hand_work.Goals as goal

pub returns-clause-given : goal.returns-clause-given
returns-clause-given c =
    let is = c.split-given.ensures.new in
    ((c.split-given.result, refl, ap (λ (v : PassView). v.cell) is, new_of c.args.pass.now c.split-given.result c.requires.may.blank is), (refl, refl))

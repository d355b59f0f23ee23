use Rattle.kn_slices.proofs.Activators.{Laws}
use Rattle.kn_slices.proofs.Shares.{TraceLaws, share_laws}
use Rattle.kn_slices.proofs.laws.share_laws.Goals as goal

pub returns : goal.returns
returns c =
    let limits : Laws = record { views = c.append_laws.ensures.views; runs = c.limit_laws.ensures.runs; limits = c.limit_laws.ensures.limits; set = c.limit_laws.ensures.set; pods = c.limit_laws.ensures.pods; stay = c.limit_laws.ensures.stay } in
    let steps : TraceLaws = record { first = c.step_laws.ensures.opening; first_settled = c.step_laws.ensures.opening_settled; made = c.step_laws.ensures.made; settled = c.step_laws.ensures.settled; lawful = c.step_laws.ensures.lawful; inert = c.step_laws.ensures.inert } in
    share_laws limits steps c.part_laws.ensures

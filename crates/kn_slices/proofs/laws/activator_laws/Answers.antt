use Rattle.kn_slices.proofs.Activators.{Laws, goes_of}
use Rattle.kn_slices.proofs.laws.activator_laws.Goals as goal

pub returns : goal.returns
returns c =
    let laws : Laws = record { views = c.append_laws.ensures.views; runs = c.limit_laws.ensures.runs; limits = c.limit_laws.ensures.limits; set = c.limit_laws.ensures.set; pods = c.limit_laws.ensures.pods; stay = c.limit_laws.ensures.stay } in
    goes_of laws

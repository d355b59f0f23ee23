use Rattle.kn_io.specs.Causes.{Rose}
use Rattle.kn_plan.specs.Plan.{AsksForMany}
use Rattle.kn_serve.proofs.SetupFacts.{drained}
use Rattle.kn_serve.proofs.ShutFacts.{shut_by_opening}
use Rattle.kn_serve.proofs.laws.wide_laws.Goals as goal

pub returns : goal.returns
returns c = record { drained = drained; shut = λ words plan before after e. shut_by_opening (AsksForMany words) (Rose before after) e plan }

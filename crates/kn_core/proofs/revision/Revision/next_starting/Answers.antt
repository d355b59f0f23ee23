use Rattle.kn_core.proofs.Created.{few_created}
use Rattle.kn_core.proofs.Runs.{parts_of_some}
use Rattle.kn_core.proofs.revision.Revision.next_starting.Goals as goal

pub next_starting-requires : goal.next_starting-requires
next_starting-requires c = parts_of_some _ c.self.invariant.spec c.self.invariant.some

pub returns-clause-most : goal.returns-clause-most
returns-clause-most c = few_created _ _ _ c.self.invariant.events c.self.invariant.created c.next_starting.ensures.created

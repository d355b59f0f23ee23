-- No slot is in a chain.
use Rattle.kn_table.proofs.Chains.{linked_none}
use Rattle.kn_table.proofs.links.Links.new.Goals as goal

pub returns-in-Ok : goal.returns-in-Ok
returns-in-Ok c = linked_none _ c.no_places-in-Ok.ensures

-- Each is the same.
use Rattle.std.proofs.lemmas.List.{get_or-replicate}
use Rattle.kn_table.proofs.links.no_places.Goals as goal

pub returns : goal.returns
returns c b low = get_or-replicate 1024 b 0 0 low

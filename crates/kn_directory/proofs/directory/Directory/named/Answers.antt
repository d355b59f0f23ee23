use Rattle.std.proofs.Common.{◌∙◌}
use Rattle.kn_directory.proofs.PlaceFacts.{named_at, named_nowhere}
use Rattle.kn_directory.proofs.directory.Directory.named.Goals as goal

pub returns-clause-some : goal.returns-clause-some
returns-clause-some c = named_at c.args.specs.now c.args.namespace.now c.args.name.now c.place.result (c.place.ensures ∙ c.requires.at _ _)

pub returns-clause-none : goal.returns-clause-none
returns-clause-none c = named_nowhere c.args.specs.now c.args.namespace.now c.args.name.now c.place.result (c.place.ensures ∙ c.requires.at _ _)

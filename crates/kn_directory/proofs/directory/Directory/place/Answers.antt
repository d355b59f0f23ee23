use Rattle.std.proofs.Common.{◌∙◌, ap}
use Rattle.kn_directory.specs.Places.{place_at_name}
use Rattle.kn_directory.proofs.PlaceFacts.{lookup_seen}
use Rattle.kn_directory.proofs.directory.Directory.place.Goals as goal

pub returns : goal.returns
returns c =
    c.copied.ensures ∙ c.get.ensures.value
    ∙ lookup_seen c.args.namespace.now c.args.name.now c.self.inside.places.entries
    ∙ ap (λ es. place_at_name es c.args.namespace.now c.args.name.now) c.self.view_is

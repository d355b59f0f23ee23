use Rattle.std.proofs.Common.{◌≡◌, ◌++◌, ◌∷◌, [], map, Bool, None, false, is_some, bytes_eq, ◌&&◌, ◌∙◌, sym, ap}
use Rattle.std.specs.Prelude.{if◌then◌else◌}
use Rattle.std.specs.Map.{lookup}
use Rattle.indexmap.proofs.CallerLemmas.{insert_entry-new}
use Rattle.kn_directory.specs.declared.directory.Key.{Key}
use Rattle.kn_directory.specs.Places.{place_at_name, named_entry}
use Rattle.kn_directory.proofs.PlaceFacts.{lookup_seen, map_push, no_some}
use Rattle.kn_directory.proofs.directory.Directory.enter.Goals as goal

abbrev same : Key → Key → Bool
same a b = bytes_eq a.namespace.items b.namespace.items && bytes_eq a.name.items b.name.items

pub returns : goal.returns
returns c =
    let v = c.args.v in
    let es = c.self.inside.places.entries in
    let key : Key = record { namespace = c.in-Ok.namespace; name = c.in-Ok-from_slice.name } in
    let a : c.in-Ok.namespace.items ≡ c.args.namespace.now = c.in-Ok.ensures.items in
    let b : c.in-Ok-from_slice.name.items ≡ c.args.name.now = c.in-Ok-from_slice.ensures.items in
    let no : is_some (place_at_name c.args.self.now c.args.namespace.now c.args.name.now) ≡ false = cc in
    let absent : lookup (same key) es ≡ None =
    lookup_seen key.namespace.items key.name.items es ∙ (λ i. place_at_name (c.self.view_is i) (a i) (b i)) ∙ no_some _ no in
    let entries = c.in-Ok-insert.ensures.entries ∙ insert_entry-new same c.self.inside.places key v absent in
    ap (map named_entry) entries ∙ map_push named_entry es (key, v)
    ∙ (λ i. c.self.view_is i ++ ((a i, b i), v) ∷ [])
    ∙ sym (ap (λ t. if t then c.args.self.now else c.args.self.now ++ ((c.args.namespace.now, c.args.name.now), v) ∷ []) no)

-- The ConfigMap and the Revision in the text of a setup that scales. That text has an LF behind each line: the first line, a line
-- `config`, the ConfigMap's lines, a line with a single point, a line `revision`, the Revision's lines and a line with a single
-- point. Neither block is empty, since both are JSON.
use Rattle.std.specs.Prelude.{ℕ, ◌+◌, nat_eq, List, [], ◌∷◌, take, drop, length, Option, None, Some, codes, if◌then◌else◌}
use Rattle.std.specs.List.{starts_with}
use Rattle.serde_json.specs.Data.{Data, null}
use Rattle.kn_config.specs.Json.{json_of}

-- the place of the first such bytes, or the length where there are none
unfoldable pub place_of : List ℕ → List ℕ → ℕ
place_of word [] = 0
place_of word (b ∷ bs) = if starts_with nat_eq (b ∷ bs) word then 0 else place_of word bs + 1

-- the lines up to one with a single point
abbrev pub block : List ℕ → List ℕ
block text = take (place_of (codes "\n.\n") text + 1) text

-- behind the first line and the line `config`
abbrev pub behind_config : List ℕ → List ℕ
behind_config text = drop (place_of (codes "\n") text + length (codes "\nconfig\n")) text

-- behind the first block, its point and the line `revision`
abbrev pub behind_revision : List ℕ → List ℕ
behind_revision text = drop (place_of (codes "\n.\n") text + length (codes "\n.\nrevision\n")) text

abbrev pub config_block : List ℕ → List ℕ
config_block text = block (behind_config text)

abbrev pub revision_block : List ℕ → List ℕ
revision_block text = block (behind_revision (behind_config text))

abbrev pub or_null : Option Data → Data
or_null None = null
or_null (Some value) = value

-- the value of a block; of a setup that was read, both are JSON
abbrev pub value_of : List ℕ → Data
value_of text = or_null (json_of text)

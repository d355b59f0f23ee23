-- JSON texts, in `serde_json`'s own words.
use Rattle.std.specs.Prelude.{ℕ, List, Option, None, if◌then◌else◌}
use Rattle.std.specs.Str.{is_utf8}
use Rattle.serde_json.specs.Data.{Data}
use Rattle.serde_json.specs.Read.{read}

-- the value of a text of UTF-8, where `serde_json` reads one
unfoldable pub json_of : List ℕ → Option Data
json_of text = if is_utf8 text then read text else None

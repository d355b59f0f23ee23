-- Names, compared whatever their case.
use Rattle.std.specs.Prelude.{ℕ, Bool, List, [], ◌∷◌, map, bytes_eq, codes}
use Rattle.std.specs.List.{list_any}
use Rattle.std.specs.Char.{to_ascii_lowercase}

-- the letters of the word, which is in lower case, whatever their own case
abbrev pub is_word : List ℕ → List ℕ → Bool
is_word word bytes = bytes_eq (map to_ascii_lowercase bytes) word

-- the name is among these
abbrev pub is_among : List (List ℕ) → List ℕ → Bool
is_among names name = list_any (λ known. is_word known name) names

-- the fields that belong to one connection
abbrev pub connection_names : List (List ℕ)
connection_names = codes "connection" ∷ codes "keep-alive" ∷ codes "proxy-connection" ∷ []

-- The fields of a head by their names. A field is its name, as it came, and its value without spaces and tabs at both ends.
use Rattle.std.specs.Prelude.{ℕ, List, [], ◌∷◌, ◌++◌, map, filter, codes}
pub use Rattle.kn_http.specs.Names.{connection_names, is_among, is_word}

-- the values of the fields with this name, in order
abbrev pub values_named : List ℕ → List (List ℕ × List ℕ) → List (List ℕ)
values_named known fields = map (λ f. f.1) (filter (λ f. is_word known f.0) fields)

-- what belongs to one connection, and what Knative itself sets, isn't sent on
abbrev pub hop_names : List (List ℕ)
hop_names =
    connection_names
    ++ (codes "te" ∷ codes "upgrade" ∷ codes "k-proxy-request" ∷ codes "knative-serving-namespace"
    ∷ codes "knative-serving-revision" ∷ [])

-- what speaks of chunks isn't sent on with a body that was decoded
abbrev pub chunk_names : List (List ℕ)
chunk_names = codes "transfer-encoding" ∷ codes "trailer" ∷ []

-- A body in chunks at the front of bytes. The forms of a size line and of a trailer are those that httparse reads.
use Rattle.std.specs.Prelude.{◌≡◌, ℕ, ◌≤◌, ◌<◌, List, [], ◌∷◌, ◌++◌, length, Option, None, Some, ⊤}
use Rattle.httparse.specs.Grammar.{ChunkLine, print_chunk_line, ReadsChunkLine, chunk_size, Field, LineEnd, print_section, ReadsSection}
use Rattle.kn_http.specs.declared.parts.Bounds.{Bounds}

-- so many at most, or any number
abbrev pub IsAtMost : Option ℕ → ℕ → Type 0
IsAtMost None n = ⊤
IsAtMost (Some most) n = n ≤ most

-- the bytes begin with a size line that says n, and the rest follows
abbrev pub IsSizeLine : Bounds → List ℕ → ℕ → List ℕ → Type 0
IsSizeLine bounds bytes n rest =
    (line : ChunkLine) × ReadsChunkLine bytes line rest × (chunk_size line ≡ n)
    × IsAtMost bounds.line (length (print_chunk_line line))

-- the bytes begin with a trailer, and the rest follows
abbrev pub IsTrailer : Bounds → List ℕ → List ℕ → Type 0
IsTrailer bounds bytes rest =
    (fields : List Field) × (last : LineEnd) × ReadsSection bytes fields last rest
    × (length fields ≤ bounds.fields) × IsAtMost bounds.trailer (length (print_section fields last))

-- the bytes begin with a chunk of this piece, which isn't empty, and the rest follows: a size line, the piece and CR LF
abbrev pub IsChunk : Bounds → List ℕ → List ℕ → List ℕ → Type 0
IsChunk bounds bytes piece rest = IsSizeLine bounds bytes (length piece) (piece ++ (13 ∷ 10 ∷ rest)) × (0 < length piece)

-- the bytes begin with the last chunk, and the rest follows: a size line of 0 and a trailer
abbrev pub IsLastChunk : Bounds → List ℕ → List ℕ → Type 0
IsLastChunk bounds bytes rest = (trailer : List ℕ) × IsSizeLine bounds bytes 0 trailer × IsTrailer bounds trailer rest

-- the bytes begin with a body in chunks that stands for a value, and the rest follows: the last chunk stands for nothing; a
-- chunk and a body in chunks stand for its piece and then the value of that body
pub data IsChunked (bounds : Bounds) : List ℕ → List ℕ → List ℕ → Type 0 where
  last : {bytes rest : List ℕ} → IsLastChunk bounds bytes rest → IsChunked bounds bytes [] rest
  chunk : {bytes value rest : List ℕ} → (piece more : List ℕ) → IsChunk bounds bytes piece more
      → IsChunked bounds more value rest → IsChunked bounds bytes (piece ++ value) rest

-- A request's body in chunks, and the first refusal from the left.
use Rattle.std.specs.Prelude.{◌≡◌, ℕ, ◌+◌, ◌≤◌, ◌<◌, Some, List, ◌∷◌, ◌++◌, length, ⊤}
use Rattle.httparse.specs.Spans.{SectionExceeds}
use Rattle.kn_http.specs.declared.parts.Bounds.{Bounds}
use Rattle.kn_http.specs.Chunks as http
use Rattle.kn_http.specs.Parts.{LacksLineEnd, LineEndCut, SizeCut, SizeRefused, TrailerCut, TrailerRefused}
use Rattle.kn_head.specs.declared.head.HeadError.{HeadError}
use Rattle.kn_head.specs.declared.head.HeadError.TheVariants as error
use Rattle.kn_head.specs.Told.{PartFails}
use Rattle.kn_head.specs.Heads.{room, limit}
use Rattle.kn_head.specs.Rules.{body_limit}

-- a size line has at most 1,024 bytes, and a trailer as many fields and bytes as a head
abbrev pub request_bounds : Bounds
request_bounds = record { line = Some 1024; fields = room; trailer = Some limit }

-- the bytes begin with a size line that says n, and the rest follows
abbrev pub IsSizeLine : List ℕ → ℕ → List ℕ → Type 0
IsSizeLine bytes n rest = http.IsSizeLine request_bounds bytes n rest

-- .. which says so many
abbrev pub SaysSize : ℕ → List ℕ → List ℕ → Type 0
SaysSize n bytes rest = IsSizeLine bytes n rest

-- the bytes begin with a trailer, and the rest follows
abbrev pub IsTrailer : List ℕ → List ℕ → Type 0
IsTrailer bytes rest = http.IsTrailer request_bounds bytes rest

-- the bytes begin with CR LF, and the rest follows
abbrev pub BeginsWithLineEnd : List ℕ → List ℕ → Type 0
BeginsWithLineEnd bytes rest = bytes ≡ 13 ∷ 10 ∷ rest

-- the bytes begin with a body in chunks that stands for a value, and the rest follows
abbrev pub IsChunked : List ℕ → List ℕ → List ℕ → Type 0
IsChunked bytes value rest = http.IsChunked request_bounds bytes value rest

-- a size line is refused, isn't whole within its bound, or is cut
abbrev pub SizeFails : List ℕ → HeadError → Type 0
SizeFails bytes e = PartFails (SizeRefused request_bounds bytes) (SizeCut request_bounds bytes) e

-- a trailer is refused, isn't whole within its bound, or is cut before more than 100 fields came
abbrev pub TrailerFails : List ℕ → HeadError → Type 0
TrailerFails bytes e =
    PartFails (TrailerRefused request_bounds bytes) (TrailerCut request_bounds bytes × ¬ (SectionExceeds room bytes)) e

-- CR LF is missing, or cut
abbrev pub LineEndFails : List ℕ → HeadError → Type 0
LineEndFails bytes e = PartFails (LacksLineEnd bytes) (LineEndCut bytes) e

-- a stream ends before so many bytes came; of a fault and of want of memory nothing is said
abbrev pub BytesFail : ℕ → List ℕ → HeadError → Type 0
BytesFail n bytes error.Memory = ⊤
BytesFail n bytes e = PartFails ⊥ (length bytes < n) e

-- a chunk of these bytes comes, and the rest follows; with the sizes before it isn't too long
pub record TakesChunk (before : ℕ) (bytes piece rest : List ℕ) : Type 0 where
  pub chunk : http.IsChunk request_bounds bytes piece rest
  pub short : before + length piece ≤ body_limit

-- the last chunk and the trailer come, and the rest follows
abbrev pub EndsChunks : List ℕ → List ℕ → Type 0
EndsChunks bytes rest = http.IsLastChunk request_bounds bytes rest

-- the first refusal from the left, after chunks of so many bytes
pub data ChunksFail : ℕ → List ℕ → HeadError → Type 0 where
  at_size : {before : ℕ} {bytes : List ℕ} {e : HeadError} → SizeFails bytes e → ChunksFail before bytes e
  too_long : {before : ℕ} {bytes : List ℕ} → (n : ℕ) (rest : List ℕ) → IsSizeLine bytes n rest → body_limit < before + n
      → ChunksFail before bytes error.BodyTooLong
  at_trailer : {before : ℕ} {bytes : List ℕ} {e : HeadError} → (rest : List ℕ) → IsSizeLine bytes 0 rest → TrailerFails rest e
      → ChunksFail before bytes e
  at_piece : {before : ℕ} {bytes : List ℕ} {e : HeadError} → (n : ℕ) (rest : List ℕ) → IsSizeLine bytes n rest → 0 < n
      → before + n ≤ body_limit → BytesFail n rest e → ChunksFail before bytes e
  at_end : {before : ℕ} {bytes : List ℕ} {e : HeadError} → (d rest : List ℕ) → IsSizeLine bytes (length d) (d ++ rest)
      → 0 < length d → before + length d ≤ body_limit → LineEndFails rest e → ChunksFail before bytes e
  later : {before : ℕ} {bytes : List ℕ} {e : HeadError} → (d rest : List ℕ) → TakesChunk before bytes d rest
      → ChunksFail (before + length d) rest e → ChunksFail before bytes e

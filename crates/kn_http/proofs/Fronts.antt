-- What the first bytes that came say of a size line and of a trailer, whatever follows.
use Rattle.std.proofs.Common.{◌≡◌, ℕ, ◌+◌, ◌≤◌, List, ◌++◌, length, take, drop, Option, None, Some, inl, sym, subst, ap, ◌∙◌, refl, arith, append_assoc, length-append}
use Rattle.std.proofs.lemmas.List.{take-append-drop, drop-append-le, drop_at, length-map, length-take, length-take-le}
use Rattle.std.proofs.Math.Seq.{take-append_seam}
use Rattle.httparse.specs.Grammar.{ChunkLine, print_chunk_line, NeverHasChunkLine, Field, LineEnd, print_section}
use Rattle.httparse.specs.Spans.{IsChunkLineAt, IsSectionAt, header_bytes, name_and_value}
use Rattle.httparse.specs.declared.spans.HeaderSpan.{HeaderSpan}
use Rattle.kn_http.specs.declared.parts.Bounds.{Bounds}
use Rattle.kn_http.specs.Chunks.{IsAtMost, IsSizeLine, IsTrailer}
use Rattle.kn_http.specs.Parts.{first, SizeRefused, IsHopelessTrailer, TrailerRefused}

-- ---- the first bytes

-- the rest behind them
behind : (most : Option ℕ) (bytes more : List ℕ) → (rest : List ℕ) × (bytes ++ more ≡ first most bytes ++ rest)
behind None bytes more = (more, refl)
behind (Some n) bytes more = (
  drop n bytes ++ more,
  ap (λ l. l ++ more) (sym (take-append-drop n bytes)) ∙ append_assoc (take n bytes) (drop n bytes) more,
)

first_few : (most : Option ℕ) (bytes : List ℕ) → IsAtMost most (length (first most bytes))
first_few None bytes = tt
first_few (Some n) bytes = omega (arith, length-take n bytes)

first_within : (most : Option ℕ) (bytes : List ℕ) → length (first most bytes) ≤ length bytes
first_within None bytes = omega arith
first_within (Some n) bytes = omega (arith, length-take n bytes)

at_most : (most : Option ℕ) (n m : ℕ) → n ≤ m → IsAtMost most m → IsAtMost most n
at_most None n m le few = tt
at_most (Some most) n m le few = omega (arith, le, few)

-- as many of all bytes are the same
first_of : (most : Option ℕ) (bytes more : List ℕ) → take (length (first most bytes)) (bytes ++ more) ≡ first most bytes
first_of most bytes more =
    let split = behind most bytes more in
    ap (take (length (first most bytes))) split.1 ∙ take-append_seam (first most bytes) split.0

-- a text that they begin with stands at the front of all bytes
text_at : (most : Option ℕ) (bytes front text : List ℕ) (end : ℕ) → front ≡ first most bytes → front ≡ text ++ drop end front → end ≡ length text
    → (end ≤ length bytes) × ((more : List ℕ) → bytes ++ more ≡ text ++ (drop end bytes ++ more)) × IsAtMost most (length text)
text_at most bytes front text end same reads len =
    let long : length (first most bytes) ≡ length text + length (drop end front) =
    ap length (sym same ∙ reads) ∙ length-append text (drop end front) in
    let within : end ≤ length bytes = omega (arith, len, long, first_within most bytes) in (
      within,
      λ more.
          let split = behind most bytes more in
          let after = drop end front ++ split.0 in
          let all : bytes ++ more ≡ text ++ after =
          split.1 ∙ (ap (λ l. l ++ split.0) (sym same ∙ reads) ∙ append_assoc text (drop end front) split.0) in
          all ∙ ap (λ l. text ++ l) (sym (drop_at text after end (sym len)) ∙ (ap (drop end) (sym all) ∙ drop-append-le end bytes more within)),
      at_most most (length text) (length (first most bytes)) (omega (arith, long)) (first_few most bytes),
    )

-- ---- size lines

pub size_at : (bounds : Bounds) (bytes front : List ℕ) (end size : ℕ) (line : ChunkLine) → front ≡ first bounds.line bytes
    → IsChunkLineAt front end size line
    → (end ≤ length bytes) × ((more : List ℕ) → IsSizeLine bounds (bytes ++ more) size (drop end bytes ++ more))
size_at bounds bytes front end size line same at_ =
    let text = text_at bounds.line bytes front (print_chunk_line line) end same at_.reads.1 at_.len_is in
    (text.0, λ more. (line, (at_.reads.0, text.1 more), sym at_.size_is, text.2))

pub size_never : (bounds : Bounds) (bytes front more : List ℕ) → front ≡ first bounds.line bytes → NeverHasChunkLine front
    → SizeRefused bounds (bytes ++ more)
size_never bounds bytes front more same never =
    inl (
      length (first bounds.line bytes),
      first_few bounds.line bytes,
      subst NeverHasChunkLine (same ∙ sym (first_of bounds.line bytes more)) never,
    )

-- ---- trailers

pub trailer_at : (bounds : Bounds) (bytes front : List ℕ) (spans : List HeaderSpan) (end count : ℕ) (fields : List Field) (last : LineEnd)
    → front ≡ first bounds.trailer bytes → IsSectionAt front 0 spans end count fields last → count ≤ length spans → length spans ≤ bounds.fields
    → (end ≤ length bytes) × ((more : List ℕ) → IsTrailer bounds (bytes ++ more) (drop end bytes ++ more))
trailer_at bounds bytes front spans end count fields last same at_ fits room =
    let text = text_at bounds.trailer bytes front (print_section fields last) end same at_.reads.1 (omega (arith, at_.len_is)) in
    let few : length fields ≤ bounds.fields =
    omega (
      arith,
      ap length at_.fields_are,
      length-map (take count spans) (header_bytes front),
      length-map fields name_and_value,
      length-take-le count spans fits,
      fits,
      room,
    ) in
    (text.0, λ more. (fields, last, (at_.reads.0, text.1 more), few, text.2))

pub trailer_never : (bounds : Bounds) (bytes front more : List ℕ) → front ≡ first bounds.trailer bytes → IsHopelessTrailer bounds.fields front
    → TrailerRefused bounds (bytes ++ more)
trailer_never bounds bytes front more same hopeless =
    inl (
      length (first bounds.trailer bytes),
      first_few bounds.trailer bytes,
      subst (IsHopelessTrailer bounds.fields) (same ∙ sym (first_of bounds.trailer bytes more)) hopeless,
    )

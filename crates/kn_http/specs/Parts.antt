-- What bytes that came say of a part of a body in chunks that is to stand at their front.
use Rattle.std.specs.Prelude.{◌≡◌, ◌⊎◌, ℕ, ◌≤◌, ◌<◌, List, [], ◌∷◌, ◌++◌, length, take, drop, Option, None, Some, ⊤}
use Rattle.httparse.specs.Grammar.{HasNoChunkLine, NeverHasChunkLine, MayBecomeChunkLine, HasNoSection, NeverHasSection, MayBecomeSection}
use Rattle.httparse.specs.Spans.{SectionExceeds, SectionOverflows}
use Rattle.kn_http.specs.declared.parts.Bounds.{Bounds}
use Rattle.kn_http.specs.declared.parts.Front.{Front}
use Rattle.kn_http.specs.declared.parts.Front.TheVariants as front
use Rattle.kn_http.specs.Chunks.{IsAtMost, IsSizeLine, IsTrailer}

-- so many of the bytes, or all
abbrev pub first : Option ℕ → List ℕ → List ℕ
first None bytes = bytes
first (Some most) bytes = take most bytes

-- there are as many as there may be, or more
abbrev pub IsFull : Option ℕ → List ℕ → Type 0
IsFull None bytes = ⊥
IsFull (Some most) bytes = most ≤ length bytes

-- there may be more
abbrev pub HasRoom : Option ℕ → List ℕ → Type 0
HasRoom None bytes = ⊤
HasRoom (Some most) bytes = length bytes < most

-- ---- size lines

-- no size line yet, and one may come
abbrev pub IsUnfinishedSize : List ℕ → Type 0
IsUnfinishedSize bytes = HasNoChunkLine bytes × MayBecomeChunkLine bytes

-- a size line is refused, or isn't whole within its bound
abbrev pub SizeRefused : Bounds → List ℕ → Type 0
SizeRefused bounds bytes =
    ((k : ℕ) × IsAtMost bounds.line k × NeverHasChunkLine (take k bytes))
    ⊎ (IsFull bounds.line bytes × HasNoChunkLine (first bounds.line bytes))

-- a size line is cut
abbrev pub SizeCut : Bounds → List ℕ → Type 0
SizeCut bounds bytes = HasRoom bounds.line bytes × IsUnfinishedSize bytes

-- what is said of a size line: it ends here and says so many, or more is wanted, or it is refused, whatever follows
abbrev pub SizeLineIs : Bounds → List ℕ → Front (ℕ × ℕ) → Type 0
SizeLineIs bounds bytes (front.Whole found) =
    (found.0 ≤ length bytes) × ((more : List ℕ) → IsSizeLine bounds (bytes ++ more) found.1 (drop found.0 bytes ++ more))
SizeLineIs bounds bytes front.Cut = SizeCut bounds bytes
SizeLineIs bounds bytes front.Never = (more : List ℕ) → SizeRefused bounds (bytes ++ more)

-- ---- trailers

-- no trailer yet, and one may come
abbrev pub IsUnfinishedTrailer : List ℕ → Type 0
IsUnfinishedTrailer bytes = HasNoSection bytes × MayBecomeSection bytes

-- no trailer comes, whatever follows: the bytes are refused, or more fields come than there may be
abbrev pub IsHopelessTrailer : ℕ → List ℕ → Type 0
IsHopelessTrailer fields bytes = NeverHasSection bytes ⊎ (SectionExceeds fields bytes × SectionOverflows fields bytes)

-- a trailer is refused, or isn't whole within its bound
abbrev pub TrailerRefused : Bounds → List ℕ → Type 0
TrailerRefused bounds bytes =
    ((k : ℕ) × IsAtMost bounds.trailer k × IsHopelessTrailer bounds.fields (take k bytes))
    ⊎ (IsFull bounds.trailer bytes × HasNoSection (first bounds.trailer bytes))

-- a trailer is cut
abbrev pub TrailerCut : Bounds → List ℕ → Type 0
TrailerCut bounds bytes = HasRoom bounds.trailer bytes × IsUnfinishedTrailer bytes

-- what is said of a trailer
abbrev pub TrailerIs : Bounds → List ℕ → Front ℕ → Type 0
TrailerIs bounds bytes (front.Whole end) =
    (end ≤ length bytes) × ((more : List ℕ) → IsTrailer bounds (bytes ++ more) (drop end bytes ++ more))
TrailerIs bounds bytes front.Cut = TrailerCut bounds bytes
TrailerIs bounds bytes front.Never = (more : List ℕ) → TrailerRefused bounds (bytes ++ more)

-- ---- the end of a line

-- whatever follows, the bytes don't begin with CR LF
abbrev pub LacksLineEnd : List ℕ → Type 0
LacksLineEnd bytes = (more rest : List ℕ) → ¬ (bytes ++ more ≡ 13 ∷ 10 ∷ rest)

-- CR LF is cut
abbrev pub LineEndCut : List ℕ → Type 0
LineEndCut bytes = (bytes ≡ []) ⊎ (bytes ≡ 13 ∷ [])

-- what is said of CR LF
abbrev pub LineEndIs : List ℕ → Front ℕ → Type 0
LineEndIs bytes (front.Whole end) = (end ≡ 2) × (bytes ≡ 13 ∷ 10 ∷ drop end bytes)
LineEndIs bytes front.Cut = LineEndCut bytes
LineEndIs bytes front.Never = LacksLineEnd bytes

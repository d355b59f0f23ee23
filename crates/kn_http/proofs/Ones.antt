-- The same bytes begin with one size line, one chunk and one body in chunks at most.
use Rattle.std.proofs.Common.{◌≡◌, ℕ, ◌+◌, ◌-◌, List, ◌∷◌, ◌++◌, length, take, drop, Option, None, Some, inl, inr, refl, sym, subst, ap, ap₂, ◌∙◌, arith}
use Rattle.std.proofs.lemmas.List.{take-append-drop, take_at, drop_at}
use Rattle.std.proofs.Math.Seq.{take-append-add}
use Rattle.httparse.specs.Grammar.{print_chunk_line, ReadsChunkLine, chunk_size, print_section, ReadsSection}
use Rattle.httparse.proofs.ChunkLemmas.{chunk_line_unique}
use Rattle.httparse.proofs.GrammarLemmas.{section_unique}
use Rattle.kn_http.specs.declared.parts.Bounds.{Bounds}
use Rattle.kn_http.specs.Chunks.{IsAtMost, IsSizeLine, IsTrailer, IsChunk, IsLastChunk, IsChunked, last, chunk}
use Rattle.kn_http.specs.Parts.{first, IsFull, SizeRefused, TrailerRefused}

pub size_unique : (bounds : Bounds) (b r q : List ℕ) (m n : ℕ) → IsSizeLine bounds b m r → IsSizeLine bounds b n q → (m ≡ n) × (r ≡ q)
size_unique bounds b r q m n x y =
    let same = chunk_line_unique b x.0 y.0 r q x.1 y.1 in
    (sym x.2 ∙ (ap chunk_size same.0 ∙ y.2), same.1)

trailer_unique : (bounds : Bounds) (b r q : List ℕ) → IsTrailer bounds b r → IsTrailer bounds b q → r ≡ q
trailer_unique bounds b r q x y = (section_unique b x.0 y.0 x.1 y.1 r q x.2 y.2).2

pub piece_unique : (bounds : Bounds) (b d e r q : List ℕ) → IsSizeLine bounds b (length d) (d ++ r) → IsSizeLine bounds b (length e) (e ++ q)
    → (d ≡ e) × (r ≡ q)
piece_unique bounds b d e r q x y =
    let one = size_unique bounds b (d ++ r) (e ++ q) (length d) (length e) x y in (
      sym (take_at d r (length d) refl) ∙ (ap (take (length d)) one.1 ∙ take_at e q (length d) (sym one.0)),
      sym (drop_at d r (length d) refl) ∙ (ap (drop (length d)) one.1 ∙ drop_at e q (length d) (sym one.0)),
    )

-- ---- chunks

pub chunk_unique : (bounds : Bounds) (b p q r s : List ℕ) → IsChunk bounds b p r → IsChunk bounds b q s → (p ≡ q) × (r ≡ s)
chunk_unique bounds b p q r s x y =
    let one = piece_unique bounds b p q (13 ∷ 10 ∷ r) (13 ∷ 10 ∷ s) x.0 y.0 in
    (one.0, ap (drop 2) one.1)

pub not_both : (bounds : Bounds) (b p r q : List ℕ) → IsChunk bounds b p r → IsLastChunk bounds b q → ⊥
not_both bounds b p r q x y =
    let same = (size_unique bounds b (p ++ (13 ∷ 10 ∷ r)) y.0 (length p) 0 x.0 y.1).0 in
    omega (arith, same, x.1)

last_unique : (bounds : Bounds) (b r q : List ℕ) → IsLastChunk bounds b r → IsLastChunk bounds b q → r ≡ q
last_unique bounds b r q x y =
    let same = (size_unique bounds b x.0 y.0 0 0 x.1 y.1).1 in
    trailer_unique bounds y.0 r q (subst (λ t. IsTrailer bounds t r) same x.2) y.2

pub one_body : (bounds : Bounds) (b v w r q : List ℕ) → IsChunked bounds b v r → IsChunked bounds b w q → (v ≡ w) × (r ≡ q)
one_body bounds b v w r q (last x) (last y) = (refl, last_unique bounds b r q x y)
one_body bounds b v w r q (last x) (chunk p m c d) = absurd (not_both bounds b p m r c x)
one_body bounds b v w r q (chunk p m c d) (last y) = absurd (not_both bounds b p m q c y)
one_body bounds b v w r q (chunk {value = v'} p m c d) (chunk {value = w'} p' m' c' d') =
    let one = chunk_unique bounds b p p' m m' c c' in
    let later = one_body bounds m' v' w' r q (subst (λ l. IsChunked bounds l v' r) one.1 d) d' in
    (ap₂ ◌++◌ one.0 later.0, later.1)

-- ---- what is refused

-- a text within the bound stands in as many bytes as there may be
first_text : (most : Option ℕ) (b text rest : List ℕ) → b ≡ text ++ rest → IsAtMost most (length text) → IsFull most b
    → (other : List ℕ) × (first most b ≡ text ++ other)
first_text None b text rest whole few full = absurd full
first_text (Some m) b text rest whole few full =
    let split : m ≡ length text + (m - length text) = omega (arith, few) in (
      take (m - length text) rest,
      ap (take m) whole ∙ (ap (λ n. take n (text ++ rest)) split ∙ take-append-add text rest (m - length text)),
    )

pub no_size : (bounds : Bounds) (b rest : List ℕ) (n : ℕ) → SizeRefused bounds b → ¬ (IsSizeLine bounds b n rest)
no_size bounds b rest n (inl (k, few, never)) x =
    never (drop k b) x.0 rest (subst (λ l. ReadsChunkLine l x.0 rest) (sym (take-append-drop k b)) x.1)
no_size bounds b rest n (inr (full, none)) x =
    let here = first_text bounds.line b (print_chunk_line x.0) rest x.1.1 x.3 full in none x.0 here.0 (x.1.0, here.1)

pub no_trailer : (bounds : Bounds) (b rest : List ℕ) → TrailerRefused bounds b → ¬ (IsTrailer bounds b rest)
no_trailer bounds b rest (inl (k, few, inl never)) x =
    never (drop k b) x.0 x.1 rest (subst (λ l. ReadsSection l x.0 x.1 rest) (sym (take-append-drop k b)) x.2)
no_trailer bounds b rest (inl (k, few, inr many)) x =
    let over = many.1 (drop k b) x.0 x.1 rest (subst (λ l. ReadsSection l x.0 x.1 rest) (sym (take-append-drop k b)) x.2) in
    omega (arith, over, x.3)
no_trailer bounds b rest (inr (full, none)) x =
    let here = first_text bounds.trailer b (print_section x.0 x.1) rest x.2.1 x.4 full in none x.0 x.1 here.0 (x.2.0, here.1)

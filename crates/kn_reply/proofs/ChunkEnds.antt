-- Where a body in chunks ends.
use Rattle.std.proofs.Common.{◌≡◌, ◌≤◌, ◌+◌, List, ℕ, [], ◌∷◌, ◌++◌, length, drop, sym, subst, ap, ◌∙◌, refl, arith, append_assoc, append-nil, length-drop}
use Rattle.std.specs.Prelude.{slice_range}
use Rattle.std.proofs.lemmas.List.{drop-drop}
use Rattle.httparse.specs.Grammar.{print_chunk_line, print_section}
use Rattle.kn_http.specs.Chunks.{IsChunked, last, chunk}
use Rattle.kn_http.specs.Next.{BodyIs, ChunkIs, GoesOn}
use Rattle.kn_http.specs.declared.chunks.Chunk.TheVariants as at_front
use Rattle.kn_reply.specs.declared.chunks.Followed.TheVariants as followed
use Rattle.kn_reply.specs.Ends.{reply_bounds, ReadsChunks, SameChunks, NoChunks, FollowedIs}

same_from : (bytes piece next : List ℕ) → GoesOn reply_bounds bytes piece next → SameChunks bytes next
same_from bytes piece next goes more rest = (
  λ body. let later = (goes more rest).0 body.0 body.1 in (later.0, later.2),
  λ body. (piece ++ body.0, (goes more rest).1 body.0 body.1),
)

pub none_from : (bytes next : List ℕ) → SameChunks bytes next → NoChunks next → NoChunks bytes
none_from bytes next same none rest reads =
    none rest (subst (λ b. ReadsChunks b rest) (append-nil next)
    ((same [] rest).0 (subst (λ b. ReadsChunks b rest) (sym (append-nil bytes)) reads)))

-- the chunk at this place is the last one
pub ended : (reply : List ℕ) (start at n : ℕ) → at ≤ length reply → SameChunks (drop start reply) (drop at reply)
    → ChunkIs reply_bounds (drop at reply) (at_front.Last n) → FollowedIs reply start (followed.Ended (at + n))
ended reply start at n within same found = (
  omega (arith, within, found.0, length-drop at reply),
  λ more. (same more (drop (at + n) reply ++ more)).1
      (subst (λ b. ReadsChunks (drop at reply ++ more) (b ++ more)) (drop-drop n at reply) ([], last (found.1 more))),
)

-- it is another
pub went_on : (reply : List ℕ) (start at from end : ℕ) → SameChunks (drop start reply) (drop at reply)
    → BodyIs reply_bounds (drop at reply) (at_front.Data from end) → SameChunks (drop start reply) (drop (at + (end + 2)) reply)
went_on reply start at from end same goes more rest =
    let next = subst (SameChunks (drop at reply)) (drop-drop (end + 2) at reply)
    (same_from (drop at reply) (slice_range (drop at reply) from end) (drop (end + 2) (drop at reply)) goes) in (
      λ body. (next more rest).0 ((same more rest).0 body),
      λ body. (same more rest).1 ((next more rest).1 body),
    )

-- ---- a body by itself

alone : (bytes value rest : List ℕ) → IsChunked reply_bounds bytes value rest
    → (front : List ℕ) × (bytes ≡ front ++ rest) × ((other : List ℕ) → IsChunked reply_bounds (front ++ other) value other)
alone bytes value rest (last (trailer, (line, reads, none, short), (fields, end, section, few, long))) =
    let p = print_chunk_line line in
    let q = print_section fields end in (
      p ++ q,
      reads.1 ∙ (ap (λ l. p ++ l) section.1 ∙ sym (append_assoc p q rest)),
      λ other. last (q ++ other, (line, (reads.0, append_assoc p q other), none, short), (fields, end, (section.0, refl), few, long)),
    )
alone bytes value rest (chunk piece next ((line, reads, size, short), some) whole) =
    let inner = alone next _ rest whole in
    let p = print_chunk_line line in
    let q = piece ++ (13 ∷ 10 ∷ inner.0) in
    let joined : (other : List ℕ) → q ++ other ≡ piece ++ (13 ∷ 10 ∷ (inner.0 ++ other)) = λ other. append_assoc piece (13 ∷ 10 ∷ inner.0) other in (
      p ++ q,
      reads.1 ∙ (ap (λ l. p ++ (piece ++ (13 ∷ 10 ∷ l))) inner.1 ∙ (ap (λ l. p ++ l) (sym (joined rest)) ∙ sym (append_assoc p q rest))),
      λ other.
          chunk piece (inner.0 ++ other)
          ((line, (reads.0, append_assoc p q other ∙ ap (λ l. p ++ l) (joined other)), size, short), some) (inner.2 other),
    )

pub chunks_alone : (bytes rest : List ℕ) → ReadsChunks bytes rest
    → (front : List ℕ) × (bytes ≡ front ++ rest) × ((other : List ℕ) → ReadsChunks (front ++ other) other)
chunks_alone bytes rest body =
    let it = alone bytes body.0 rest body.1 in
    (it.0, it.1, λ other. (body.0, it.2 other))

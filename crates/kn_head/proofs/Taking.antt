-- Parts that are taken one after the other.
use Rattle.std.proofs.Common.{◌≡◌, ℕ, ◌+◌, ◌≤◌, ◌<◌, List, ◌∷◌, [], ◌++◌, length, take, drop, Option, None, Some, IfSome, sym, subst, ap, ◌∙◌, arith, length-append, append_assoc, append-nil, ◌-◌}
use Rattle.std.proofs.lemmas.List.{length-take-le, take-append-drop}
use Rattle.kn_head.proofs.ChunkFronts.{kept_taken}
use Rattle.std.specs.Io.KnownBytes.{Keeps}
use Rattle.kn_http.specs.Chunks.{last, chunk}
use Rattle.kn_head.specs.declared.head.HeadError.{HeadError}
use Rattle.kn_head.specs.declared.head.HeadError.TheVariants as error
use Rattle.kn_head.specs.Told.{unread, IfTold, Stops}
use Rattle.kn_head.specs.Rules.{body_limit}
use Rattle.kn_head.specs.Chunks.{IsSizeLine, IsTrailer, IsChunked, BytesFail, LineEndFails, TakesChunk, EndsChunks, ChunksFail, at_size, too_long, at_trailer, at_piece, at_end, later, SizeFails, TrailerFails}

-- ---- one after the other

pub told_more : (a b c : Option (List ℕ)) (P Q R : List ℕ → List ℕ → Type 0) → IfTold a b P → IfTold b c Q
    → ((x y z : List ℕ) → P x y → Q y z → R x z) → IfTold a c R
told_more None b c P Q R p q h = tt
told_more (Some x) None c P Q R p q h = absurd p
told_more (Some x) (Some y) None P Q R p q h = absurd q
told_more (Some x) (Some y) (Some z) P Q R p q h = h x y z p q

pub told_end : (a b : Option (List ℕ)) (P : List ℕ → List ℕ → Type 0) (Q R : List ℕ → Type 0) → IfTold a b P → IfSome b Q
    → ((x y : List ℕ) → P x y → Q y → R x) → IfSome a R
told_end None b P Q R p q h = tt
told_end (Some x) None P Q R p q h = absurd p
told_end (Some x) (Some y) P Q R p q h = h x y p q

pub told_here : (a : Option (List ℕ)) (Q R : List ℕ → Type 0) → IfSome a Q → ((x : List ℕ) → Q x → R x) → IfSome a R
told_here None Q R q h = tt
told_here (Some x) Q R q h = h x q

-- ---- bytes

-- a piece was taken, and so many bytes of n are still to come
pub record HasTaken (old new : Option (List ℕ)) (before now : List ℕ) (left n : ℕ) : Type 0 where
  pub piece : List ℕ
  pub items : now ≡ before ++ piece
  pub count : length piece + left ≡ n
  pub told : IfTold old new (λ bytes rest. bytes ≡ piece ++ rest)

-- what waits is taken up to n bytes
pub takes_more : (old mid : Option (List ℕ)) (before now : List ℕ) (left n : ℕ) (k : ℕ) (waiting : List ℕ) (unread' : Option (List ℕ)) (now' : List ℕ)
    → HasTaken old mid before now left n → k ≤ left → k ≤ length waiting → Keeps mid (unread waiting unread')
    → now' ≡ now ++ take k waiting → HasTaken old (unread (drop k waiting) unread') before now' (left - k) n
takes_more old mid before now left n k waiting unread' now' taken few within keeps grown = record {
  piece = taken.piece ++ take k waiting;
  items = grown ∙ (ap (λ l. l ++ take k waiting) taken.items ∙ append_assoc before taken.piece (take k waiting));
  count = omega (arith, taken.count, length-append taken.piece (take k waiting), length-take-le k waiting within);
  told = told_more old mid (unread (drop k waiting) unread') (λ bytes rest. bytes ≡ taken.piece ++ rest) (λ bytes rest. bytes ≡ take k waiting ++ rest)
      (λ bytes rest. bytes ≡ (taken.piece ++ take k waiting) ++ rest) taken.told
      (kept_taken mid unread' waiting k (λ bytes rest. bytes ≡ take k waiting ++ rest) keeps
      (λ more. ap (λ l. l ++ more) (sym (take-append-drop k waiting)) ∙ append_assoc (take k waiting) (drop k waiting) more))
      (λ x y z p q. p ∙ (ap (λ l. taken.piece ++ l) q ∙ sym (append_assoc taken.piece (take k waiting) z)));
}

-- nothing more came
pub bytes_stopped : (old now : Option (List ℕ)) {before body : List ℕ} {left n : ℕ} (e : HeadError) → HasTaken old now before body left n → 0 < left
    → Stops [] now e → IfSome old (λ bytes. BytesFail n bytes e)
bytes_stopped None now e taken some stops = tt
bytes_stopped (Some x) None e taken some stops = absurd taken.told
bytes_stopped (Some x) (Some y) error.ReadFault taken some stops = tt
bytes_stopped (Some x) (Some y) error.EndedEarly taken some none =
    omega (arith, taken.count, ap length taken.told, length-append taken.piece y, ap length none)
bytes_stopped (Some x) (Some y) e taken some stops = absurd stops

-- ---- chunks

-- what the rest says of a body in chunks, the bytes say with what was taken before it
pub record GoesOn (body bytes rest : List ℕ) : Type 0 where
  pub chunked : (value end : List ℕ) → IsChunked rest value end → IsChunked bytes (body ++ value) end
  pub fails : (e : HeadError) → ChunksFail (length body) rest e → ChunksFail 0 bytes e

-- one more chunk
pub goes_on_more : (body bytes rest piece more : List ℕ) → GoesOn body bytes rest → TakesChunk (length body) rest piece more
    → GoesOn (body ++ piece) bytes more
goes_on_more body bytes rest piece more goes taken = record {
  chunked = λ value end it.
      subst (λ l. IsChunked bytes l end) (sym (append_assoc body piece value))
      (goes.chunked (piece ++ value) end (chunk piece more taken.chunk it));
  fails = λ e it. goes.fails e (later piece more taken (subst (λ n. ChunksFail n more e) (length-append body piece) it));
}

-- the last one
pub goes_on_last : (body bytes rest end : List ℕ) → GoesOn body bytes rest → EndsChunks rest end → IsChunked bytes body end
goes_on_last body bytes rest end goes ends =
    subst (λ l. IsChunked bytes l end) (append-nil body) (goes.chunked [] end (last ends))

-- ---- one chunk

size_then_piece : (before : ℕ) (bytes piece after rest : List ℕ) (n : ℕ) → IsSizeLine bytes n (piece ++ after) → length piece ≡ n
    → 0 < n → before + n ≤ body_limit → after ≡ 13 ∷ 10 ∷ rest → TakesChunk before bytes piece rest
size_then_piece before bytes piece after rest n p len some short end_ = record {
  chunk = (
    subst (λ m. IsSizeLine bytes m (piece ++ (13 ∷ 10 ∷ rest))) (sym len) (subst (λ l. IsSizeLine bytes n (piece ++ l)) end_ p),
    omega (arith, len, some),
  );
  short = omega (arith, len, short);
}

abbrev Sized : ℕ → List ℕ → List ℕ → Type 0
Sized n bytes rest = IsSizeLine bytes n rest

abbrev Pieced : ℕ → List ℕ → List ℕ → List ℕ → Type 0
Pieced n piece bytes rest = IsSizeLine bytes n (piece ++ rest)

pieced : (old mid after : Option (List ℕ)) (n : ℕ) (piece : List ℕ) → IfTold old mid (Sized n)
    → IfTold mid after (λ bytes rest. bytes ≡ piece ++ rest) → IfTold old after (Pieced n piece)
pieced old mid after n piece line came =
    told_more old mid after (Sized n) (λ bytes rest. bytes ≡ piece ++ rest) (Pieced n piece) line came
    (λ x y z p q. subst (λ l. IsSizeLine x n l) q p)

pub chunk_taken : (old mid after new : Option (List ℕ)) (before n : ℕ) (piece : List ℕ) → IfTold old mid (Sized n)
    → IfTold mid after (λ bytes rest. bytes ≡ piece ++ rest) → IfTold after new (λ bytes rest. bytes ≡ 13 ∷ 10 ∷ rest)
    → length piece ≡ n → 0 < n → before + n ≤ body_limit → IfTold old new (λ bytes rest. TakesChunk before bytes piece rest)
chunk_taken old mid after new before n piece line came ended len some short =
    told_more old after new (Pieced n piece) (λ bytes rest. bytes ≡ 13 ∷ 10 ∷ rest) (λ bytes rest. TakesChunk before bytes piece rest)
    (pieced old mid after n piece line came) ended
    (λ x y z p q. size_then_piece before x piece y z n p len some short q)

pub chunks_ended : (old mid new : Option (List ℕ)) (n : ℕ) → IfTold old mid (Sized n) → n ≡ 0 → IfTold mid new IsTrailer → IfTold old new EndsChunks
chunks_ended old mid new n line none end_ =
    told_more old mid new (Sized n) IsTrailer EndsChunks line end_ (λ x y z p q. (y, subst (λ m. IsSizeLine x m y) none p, q))

pub fails_at_size : (old : Option (List ℕ)) (before : ℕ) (e : HeadError) → IfSome old (λ bytes. SizeFails bytes e)
    → IfSome old (λ bytes. ChunksFail before bytes e)
fails_at_size old before e fails = told_here old (λ bytes. SizeFails bytes e) (λ bytes. ChunksFail before bytes e) fails (λ x f. at_size f)

pub fails_at_trailer : (old mid : Option (List ℕ)) (before n : ℕ) (e : HeadError) → IfTold old mid (Sized n) → n ≡ 0
    → IfSome mid (λ bytes. TrailerFails bytes e) → IfSome old (λ bytes. ChunksFail before bytes e)
fails_at_trailer old mid before n e line none fails =
    told_end old mid (Sized n) (λ bytes. TrailerFails bytes e) (λ bytes. ChunksFail before bytes e) line fails
    (λ x y p f. at_trailer y (subst (λ m. IsSizeLine x m y) none p) f)

pub fails_too_long : (old mid : Option (List ℕ)) (before n : ℕ) → IfTold old mid (Sized n) → body_limit < before + n
    → IfSome old (λ bytes. ChunksFail before bytes error.BodyTooLong)
fails_too_long None mid before n line over = tt
fails_too_long (Some x) None before n line over = absurd line
fails_too_long (Some x) (Some y) before n line over = too_long n y line over

pub fails_at_piece : (old mid : Option (List ℕ)) (before n : ℕ) (e : HeadError) → IfTold old mid (Sized n) → 0 < n → before + n ≤ body_limit
    → IfSome mid (λ bytes. BytesFail n bytes e) → IfSome old (λ bytes. ChunksFail before bytes e)
fails_at_piece old mid before n e line some short fails =
    told_end old mid (Sized n) (λ bytes. BytesFail n bytes e) (λ bytes. ChunksFail before bytes e) line fails
    (λ x y p f. at_piece n y p some short f)

pub fails_at_end : (old mid after : Option (List ℕ)) (before n : ℕ) (d : List ℕ) (e : HeadError) → IfTold old mid (Sized n)
    → IfTold mid after (λ bytes rest. bytes ≡ d ++ rest) → length d ≡ n → 0 < n → before + n ≤ body_limit
    → IfSome after (λ bytes. LineEndFails bytes e) → IfSome old (λ bytes. ChunksFail before bytes e)
fails_at_end old mid after before n d e line came len some short fails =
    told_end old after (Pieced n d) (λ bytes. LineEndFails bytes e) (λ bytes. ChunksFail before bytes e) (pieced old mid after n d line came) fails
    (λ x y p f. at_end d y (subst (λ m. IsSizeLine x m (d ++ y)) (sym len) p) (omega (arith, len, some)) (omega (arith, len, short)) f)

-- ---- chunk after chunk

pub goes_on_chunk : (old mid new : Option (List ℕ)) (n : ℕ) (body now piece : List ℕ) → IfTold old mid (GoesOn body) → n ≡ length body
    → now ≡ body ++ piece → IfTold mid new (λ bytes rest. TakesChunk n bytes piece rest) → IfTold old new (GoesOn now)
goes_on_chunk old mid new n body now piece goes len grown taken =
    subst (λ l. IfTold old new (GoesOn l)) (sym grown)
    (told_more old mid new (GoesOn body) (λ bytes rest. TakesChunk n bytes piece rest) (GoesOn (body ++ piece)) goes taken
    (λ x y z p q. goes_on_more body x y piece z p (subst (λ m. TakesChunk m y piece z) len q)))

pub goes_on_end : (old mid new : Option (List ℕ)) (body now : List ℕ) → IfTold old mid (GoesOn body) → now ≡ body → IfTold mid new EndsChunks
    → IfTold old new (λ bytes rest. IsChunked bytes now rest)
goes_on_end old mid new body now goes same ends =
    subst (λ l. IfTold old new (λ bytes rest. IsChunked bytes l rest)) (sym same)
    (told_more old mid new (GoesOn body) EndsChunks (λ bytes rest. IsChunked bytes body rest) goes ends
    (λ x y z p q. goes_on_last body x y z p q))

pub goes_on_fail : (old mid : Option (List ℕ)) (n : ℕ) (body : List ℕ) (e : HeadError) → IfTold old mid (GoesOn body) → n ≡ length body
    → IfSome mid (λ bytes. ChunksFail n bytes e) → IfSome old (λ bytes. ChunksFail 0 bytes e)
goes_on_fail old mid n body e goes len fails =
    told_end old mid (GoesOn body) (λ bytes. ChunksFail n bytes e) (λ bytes. ChunksFail 0 bytes e) goes fails
    (λ x y p f. p.fails e (subst (λ m. ChunksFail m y e) len f))

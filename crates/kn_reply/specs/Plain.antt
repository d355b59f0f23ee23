-- What a client of HTTP/1.0, which knows no chunks, is sent of an answer.
use Rattle.std.specs.Prelude.{◌≡◌, ℕ, ◌+◌, Bool, true, not, ◌&&◌, List, [], ◌∷◌, ◌++◌, take, drop, map, codes, Option, Result, MatchResult}
use Rattle.std.specs.List.{filter, flat_map, list_any}
use Rattle.std.specs.Io.KnownBytes.{Appends}
use Rattle.httparse.specs.Ascii.{crlf_bytes}
use Rattle.httparse.specs.Grammar.{ResponseHead, print_response, reason_phrase}
use Rattle.httparse.specs.Spans.{name_and_value}
use Rattle.httparse.specs.declared.spans.HeaderSpan.{HeaderSpan}
use Rattle.httparse.specs.declared.spans.ResponseSpans.{ResponseSpans}
use Rattle.kn_http.specs.Chunks.{IsChunked}
use Rattle.kn_http.specs.Names.{is_among, is_word}
use Rattle.kn_io.specs.Prefix.{AppendsPrefix}
use Rattle.kn_reply.specs.Replies.{is_coding}
use Rattle.kn_reply.specs.Ends.{reply_bounds, IsHeadAt, ReadsHeads}
use Rattle.kn_reply.specs.Closing.{field_line, status_line}

-- the bytes are the value in chunks, and nothing behind
abbrev pub AreChunksOf : List ℕ → List ℕ → Type 0
AreChunksOf value bytes = IsChunked reply_bounds bytes value []

-- the bytes are a body in chunks, and nothing behind
abbrev pub AreChunks : List ℕ → Type 0
AreChunks bytes = (value : List ℕ) × AreChunksOf value bytes

-- the bytes are no such body
abbrev pub NotChunks : List ℕ → Type 0
NotChunks bytes = (value : List ℕ) → AreChunksOf value bytes → ⊥

-- a field is a coding, and another than chunks alone
abbrev pub is_other_coding : List ℕ × List ℕ → Bool
is_other_coding field = is_coding field && not (is_word (codes "chunked") field.1)

-- there is a coding, and each is chunks alone
abbrev pub are_chunks_alone : List (List ℕ × List ℕ) → Bool
are_chunks_alone fields = list_any is_coding fields && not (list_any is_other_coding fields)

-- an answer is whole and in chunks: some interim heads, the head of the answer, and the value in chunks
pub record IsInChunks (answer interim : List ℕ) (head : ResponseHead) (value : List ℕ) : Type 0 where
  pub body : List ℕ
  pub heads : ReadsHeads 0 answer head body
  pub came : answer ≡ interim ++ print_response head ++ body
  pub coded : are_chunks_alone (map name_and_value head.fields) ≡ true
  pub chunks : AreChunksOf value body

-- an answer isn't whole, or not in chunks
abbrev pub NotInChunks : List ℕ → Type 0
NotInChunks answer = (interim : List ℕ) (head : ResponseHead) (value : List ℕ) → ¬ (IsInChunks answer interim head value)

-- the fields that say how a body ends
abbrev pub end_names : List (List ℕ)
end_names = codes "transfer-encoding" ∷ codes "trailer" ∷ codes "content-length" ∷ []

-- a field says something else
abbrev pub is_not_of_end : List ℕ × List ℕ → Bool
is_not_of_end field = not (is_among end_names field.0)

-- the other fields, in their order
unfoldable pub other_lines : List (List ℕ × List ℕ) → List ℕ
other_lines fields = flat_map field_line (filter is_not_of_end fields)

-- with the empty line that ends the head
abbrev pub plain_lines : List (List ℕ × List ℕ) → List ℕ
plain_lines fields = other_lines fields ++ crlf_bytes

-- the head of an answer whose body ends with the connection
unfoldable pub plain_head : ResponseHead → List ℕ
plain_head head =
    status_line head.minor head.digits (reason_phrase head.reason) ++ other_lines (map name_and_value head.fields) ++ crlf_bytes

-- what is sent of an answer: where it is whole and in chunks, its interim heads as they came, its head without the fields that say how the
-- body ends, and the value; else the answer as it is
pub data IsPlainOf (answer : List ℕ) : List ℕ → Type 0 where
  plain : (interim : List ℕ) (head : ResponseHead) (value : List ℕ) → IsInChunks answer interim head value
      → IsPlainOf answer (interim ++ plain_head head ++ value)
  as_it_is : NotInChunks answer → IsPlainOf answer answer

-- ---- how it is found and written

-- known bytes grew by these, or where that failed by some first of them
abbrev pub Puts : {T E : Type 0} → Option (List ℕ) → Option (List ℕ) → Result T E → List ℕ → Type 0
Puts old new result bytes = MatchResult result (λ _. Appends old new bytes) (λ _. AppendsPrefix old new bytes)

-- the head begins at this place, is that of an answer in chunks, and these follow it
pub record HeadInChunks (answer : List ℕ) (spans : List HeaderSpan) (at : ℕ) (r : ResponseSpans) : Type 0 where
  pub found : IsHeadAt answer spans at r
  pub coded : are_chunks_alone (map name_and_value found.head.fields) ≡ true
  pub value : List ℕ
  pub chunks : AreChunksOf value (drop (at + r.len) answer)

-- what is said of the plain form of an answer whose head begins at this place
abbrev pub OnPlainForm : List ℕ → List HeaderSpan → ℕ → ResponseSpans → (List ℕ → Type 0) → Type 0
OnPlainForm answer spans at r Holds = (h : HeadInChunks answer spans at r) → Holds (take at answer ++ plain_head h.found.head ++ h.value)

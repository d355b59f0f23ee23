-- When a pod's reply to a request is whole. The form of a head is the one that httparse reads.
use Rattle.std.specs.Prelude.{◌≡◌, ◌⊎◌, ℕ, ◌-◌, Bool, true, false, not, ◌&&◌, ◌||◌, ◌==◌, nat_le, nat_lt, nat_eq, IsTrue, List, length, drop, map, codes, ⊤}
use Rattle.std.specs.List.{list_all, list_any, starts_with}
use Rattle.std.specs.Str.Parse.{digits_value}
use Rattle.httparse.specs.Grammar.{ResponseHead, ReadsResponse, status_code}
use Rattle.httparse.specs.Spans.{name_and_value}
use Rattle.kn_http.specs.declared.parts.Bounds.{Bounds}
use Rattle.kn_http.specs.Chunks.{IsChunked}
use Rattle.kn_http.specs.Names.{is_word}
use Rattle.kn_http.specs.Numbers.{are_digits}

-- a field is its name and its value without spaces and tabs at both ends
abbrev pub is_coding : List ℕ × List ℕ → Bool
is_coding field = is_word (codes "transfer-encoding") field.0

-- the value ends in the word chunked
abbrev pub ends_in_chunks : List ℕ → Bool
ends_in_chunks value = is_word (codes "chunked") (drop (length value - 7) value)

abbrev pub is_chunks_coding : List ℕ × List ℕ → Bool
is_chunks_coding field = is_coding field && ends_in_chunks field.1

-- digits that say at most count
abbrev pub is_met : ℕ → List ℕ → Bool
is_met count value = are_digits value && nat_le (digits_value 10 value) count

-- a length is met by so many bytes
abbrev pub allows : ℕ → List ℕ × List ℕ → Bool
allows count field = not (is_word (codes "content-length") field.0) || is_met count field.1

-- the bytes begin with a body in chunks, within some bounds
abbrev pub HasChunks : List ℕ → Type 0
HasChunks bytes = (bounds : Bounds) × (value : List ℕ) × (rest : List ℕ) × IsChunked bounds bytes value rest

-- by whether a coding ends in chunks, and whether there is one
abbrev pub IsWholeAs : Bool → Bool → List (List ℕ × List ℕ) → List ℕ → Type 0
IsWholeAs true coded fields body = HasChunks body
IsWholeAs false true fields body = ⊤
IsWholeAs false false fields body = IsTrue (list_all (allows (length body)) fields)

-- a body is whole by its fields: in chunks with the last one; by another coding, to the end of the stream; or by each
-- length that is said
abbrev pub IsWholeBody : List (List ℕ × List ℕ) → List ℕ → Type 0
IsWholeBody fields body = IsWholeAs (list_any is_chunks_coding fields) (list_any is_coding fields) fields body

-- 1xx comes before the answer, but for 101
abbrev pub is_interim : ℕ → Bool
is_interim code = nat_le 100 code && nat_lt code 200 && not (code == 101)

-- an answer to this request with this status has no body, whatever its fields say
abbrev pub has_no_body : List ℕ → ℕ → Bool
has_no_body request code = starts_with nat_eq request (codes "HEAD ") || (code == 101 || (code == 204 || code == 304))

-- the text is what follows some interim heads at the front of the reply
pub data FollowsInterims (reply : List ℕ) : List ℕ → Type 0 where
  none : FollowsInterims reply reply
  one_more : {text : List ℕ} → (head : ResponseHead) (rest : List ℕ) → FollowsInterims reply text
      → ReadsResponse text head rest → is_interim (status_code head) ≡ true → FollowsInterims reply rest

-- after interim heads come the head of the answer and its body, which is whole where there is to be one
pub record IsWholeReply (request reply : List ℕ) : Type 0 where
  pub text : List ℕ
  pub head : ResponseHead
  pub body : List ℕ
  pub follows : FollowsInterims reply text
  pub reads : ReadsResponse text head body
  pub final : is_interim (status_code head) ≡ false
  pub whole : IsTrue (has_no_body request (status_code head)) ⊎ IsWholeBody (map name_and_value head.fields) body

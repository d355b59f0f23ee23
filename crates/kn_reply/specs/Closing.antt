-- What a client is handed of a pod's reply. Its connection ends with the answer, whatever the pod does with its own.
use Rattle.std.specs.Prelude.{◌≡◌, ℕ, ◌+◌, ◌/◌, ◌%◌, ◌≤◌, Bool, not, ◌==◌, if◌then◌else◌, List, [], ◌∷◌, ◌++◌, length, map, codes}
use Rattle.std.specs.List.{filter, flat_map}
use Rattle.httparse.specs.Ascii.{crlf_bytes}
use Rattle.httparse.specs.Grammar.{ResponseHead, print_version, print_response, reason_phrase, status_code}
use Rattle.httparse.specs.Spans.{IsResponseAt, name_and_value}
use Rattle.httparse.specs.declared.spans.HeaderSpan.{HeaderSpan}
use Rattle.httparse.specs.declared.spans.ResponseSpans.{ResponseSpans}
use Rattle.kn_http.specs.Names.{connection_names, is_among}
use Rattle.kn_reply.specs.Replies.{IsWholeReply}
use Rattle.kn_reply.specs.Ends.{most_fields, most_reply, IsReplyOf, ReadsHeads, ReadsReply}

-- a field stays, unless it belongs to one connection
abbrev pub is_kept : List ℕ × List ℕ → Bool
is_kept field = not (is_among connection_names field.0)

-- a number below 1,000 in three digits
abbrev pub three_digits : ℕ → List ℕ
three_digits n = (48 + n / 100 % 10) ∷ (48 + n / 10 % 10) ∷ (48 + n % 10) ∷ []

-- version and status, with the space behind
unfoldable pub line_start : ℕ → List ℕ → List ℕ
line_start minor digits = print_version minor ++ codes " " ++ digits ++ codes " "

-- version, status and phrase
unfoldable pub status_line : ℕ → List ℕ → List ℕ → List ℕ
status_line minor digits reason = line_start minor digits ++ reason ++ crlf_bytes

-- the first line of an answer, by its code
abbrev pub answer_line : ℕ → ℕ → List ℕ → List ℕ
answer_line version code reason = status_line version (three_digits code) reason

-- name and value
unfoldable pub field_line : List ℕ × List ℕ → List ℕ
field_line field = field.0 ++ codes ": " ++ field.1 ++ crlf_bytes

-- the fields that stay, in their order
unfoldable pub kept_lines : List (List ℕ × List ℕ) → List ℕ
kept_lines fields = flat_map field_line (filter is_kept fields)

-- the field that says so to the client, and the empty line that ends the head
unfoldable pub last_lines : List ℕ
last_lines = codes "Connection: close" ++ crlf_bytes ++ crlf_bytes

-- the head of an answer with which a connection ends
unfoldable pub closing_head : ResponseHead → List ℕ
closing_head head =
    status_line head.minor head.digits (reason_phrase head.reason) ++ kept_lines (map name_and_value head.fields) ++ last_lines

-- the head that a client is handed. After status 101 the connection goes on, in another protocol, so that one stays as it came
unfoldable pub handed_head : ResponseHead → List ℕ
handed_head head = if status_code head == 101 then print_response head else closing_head head

-- to the old bytes is added what a client is handed of the head that the spans cover in this text
abbrev pub AddsHead : List ℕ → List HeaderSpan → ResponseSpans → List ℕ → List ℕ → Type 0
AddsHead text spans r old new = (head : ResponseHead) → IsResponseAt text spans r head → new ≡ old ++ handed_head head

-- of a reply that is some interim heads, the head of the answer and a body, the answer is the interim heads as they came, that
-- head as a client is handed it, and the body as it came
pub record Closes (reply answer : List ℕ) : Type 0 where
  pub interim : List ℕ
  pub head : ResponseHead
  pub body : List ℕ
  pub heads : ReadsHeads 0 reply head body
  pub came : reply ≡ interim ++ print_response head ++ body
  pub goes : answer ≡ interim ++ handed_head head ++ body

-- the answer is that of a whole reply to the request
pub record IsHandedOn (request answer : List ℕ) : Type 0 where
  pub reply : List ℕ
  pub short : length reply ≤ most_reply
  pub reads : ReadsReply request reply []
  pub closes : Closes reply answer

-- the answer is that of the reply with which these bytes of a pod begin
abbrev pub IsHandedOnOf : List ℕ → List ℕ → List ℕ → Type 0
IsHandedOnOf request sent answer = (reply : List ℕ) × IsReplyOf request sent reply × Closes reply answer

-- ---- what a client reads

abbrev pub closing_field : List ℕ × List ℕ
closing_field = (codes "Connection", codes "close")

-- the fields that a client reads
abbrev pub handed_fields : ResponseHead → List (List ℕ × List ℕ)
handed_fields head =
    if status_code head == 101 then map name_and_value head.fields
    else filter is_kept (map name_and_value head.fields) ++ closing_field ∷ []

-- read again, the answer is a whole reply to the request, with the status of this head, the fields that a client reads of it and
-- this body. There may be one field more than came, and where that is within the bound, it is read as the pod's reply was
pub record ReadsAgain (request answer : List ℕ) (head : ResponseHead) (body : List ℕ) : Type 0 where
  pub whole : IsWholeReply request answer
  pub status : status_code whole.head ≡ status_code head
  pub fields : map name_and_value whole.head.fields ≡ handed_fields head
  pub same : whole.body ≡ body
  pub exact : length (handed_fields head) ≤ most_fields → ReadsReply request answer []

-- where the reply to the request is whole, its answer reads as one again
abbrev pub IsReplyAgain : List ℕ → List ℕ → List ℕ → Type 0
IsReplyAgain request reply answer = ReadsReply request reply [] → (c : Closes reply answer) → ReadsAgain request answer c.head c.body

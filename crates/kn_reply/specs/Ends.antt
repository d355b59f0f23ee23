-- Where a pod's reply to a request ends. The forms of heads, of size lines and of trailers are those that httparse reads.
use Rattle.std.specs.Prelude.{◌≡◌, ℕ, ◌<◌, ◌≤◌, ◌+◌, Bool, true, false, not, ◌||◌, List, [], ◌++◌, length, drop, map, codes, Option, None, Some, MatchOption, ⊤}
use Rattle.std.specs.List.{list_all, list_any}
use Rattle.httparse.specs.Grammar.{ResponseHead, ReadsResponse, status_code}
use Rattle.httparse.specs.Spans.{IsResponseAt, IsResponseWithin, header_bytes, name_and_value}
use Rattle.httparse.specs.declared.spans.HeaderSpan.{HeaderSpan}
use Rattle.httparse.specs.declared.spans.ResponseSpans.{ResponseSpans}
use Rattle.kn_http.specs.declared.parts.Bounds.{Bounds}
use Rattle.kn_http.specs.Chunks.{IsChunked}
use Rattle.kn_http.specs.Names.{is_word}
use Rattle.kn_http.specs.Numbers.{says}
use Rattle.kn_reply.specs.Replies.{is_coding, is_chunks_coding, is_interim, has_no_body}
use Rattle.kn_reply.specs.declared.chunks.Followed.{Followed}
use Rattle.kn_reply.specs.declared.chunks.Followed.TheVariants as followed
use Rattle.kn_reply.specs.declared.reply.Stage.{Stage}
use Rattle.kn_reply.specs.declared.reply.Stage.TheVariants as stage
use Rattle.kn_reply.specs.declared.reply.Judged.{Judged}
use Rattle.kn_reply.specs.declared.reply.Judged.TheVariants as judged

-- the most fields of a head, and of a trailer
abbrev pub most_fields : ℕ
most_fields = 256

-- the most heads, with the answer's own
abbrev pub most_heads : ℕ
most_heads = 16

-- the most bytes of a reply
abbrev pub most_reply : ℕ
most_reply = 1114112

-- where k heads came before: the bytes are some interim heads, the head of the answer, and the rest
pub data ReadsHeads : ℕ → List ℕ → ResponseHead → List ℕ → Type 0 where
  answer : {k : ℕ} {bytes : List ℕ} {head : ResponseHead} {rest : List ℕ} → k < most_heads → ReadsResponse bytes head rest
      → length head.fields ≤ most_fields → is_interim (status_code head) ≡ false → ReadsHeads k bytes head rest
  interim : {k : ℕ} {bytes : List ℕ} {head : ResponseHead} {rest : List ℕ} → (before : ResponseHead) (text : List ℕ)
      → k < most_heads → ReadsResponse bytes before text → length before.fields ≤ most_fields
      → is_interim (status_code before) ≡ true → ReadsHeads (k + 1) text head rest → ReadsHeads k bytes head rest

-- a size line and a trailer may have any number of bytes
abbrev pub reply_bounds : Bounds
reply_bounds = record { line = None; fields = most_fields; trailer = None }

-- the bytes are a body in chunks and the rest
abbrev pub ReadsChunks : List ℕ → List ℕ → Type 0
ReadsChunks bytes rest = (value : List ℕ) × IsChunked reply_bounds bytes value rest

abbrev pub is_length : List ℕ × List ℕ → Bool
is_length field = is_word (codes "content-length") field.0

-- a field is no length, or says so many
abbrev pub agrees : ℕ → List ℕ × List ℕ → Bool
agrees count field = not (is_length field) || says count field.1

-- each length that the fields say is so many
abbrev pub AllAgree : List (List ℕ × List ℕ) → ℕ → Type 0
AllAgree fields count = list_all (agrees count) fields ≡ true

-- something is found, just where a field is a length
abbrev pub FindsLength : {T : Type 0} → Option T → List (List ℕ × List ℕ) → Type 0
FindsLength found fields = MatchOption found (list_any is_length fields ≡ false) (λ _. list_any is_length fields ≡ true)

-- the fields whose spans are of this text
abbrev pub fields_in : List ℕ → List HeaderSpan → List (List ℕ × List ℕ)
fields_in text spans = map (header_bytes text) spans

-- by whether there is to be no body, a coding ends in chunks, there is a coding, and there is a length
abbrev pub ReadsBodyAs : Bool → Bool → Bool → Bool → List (List ℕ × List ℕ) → List ℕ → List ℕ → Type 0
ReadsBodyAs true in_chunks coded sized fields bytes rest = rest ≡ bytes
ReadsBodyAs false true coded sized fields bytes rest = ReadsChunks bytes rest
ReadsBodyAs false false true sized fields bytes rest = rest ≡ []
ReadsBodyAs false false false true fields bytes rest =
    (body : List ℕ) × (bytes ≡ body ++ rest) × (length body ≤ most_reply) × (list_all (agrees (length body)) fields ≡ true)
ReadsBodyAs false false false false fields bytes rest = rest ≡ []

-- the bytes are the body that these fields say and the rest: none; in chunks; by another coding, to the end of the stream; by
-- its length, which each field that says one agrees on; or without any, to the end of the stream
abbrev pub ReadsBody : Bool → List (List ℕ × List ℕ) → List ℕ → List ℕ → Type 0
ReadsBody none fields bytes rest =
    ReadsBodyAs none (list_any is_chunks_coding fields) (list_any is_coding fields) (list_any is_length fields) fields bytes rest

-- what a pod sent begins with its reply to the request, and the rest is behind it
pub record ReadsReply (request bytes rest : List ℕ) : Type 0 where
  pub head : ResponseHead
  pub body : List ℕ
  pub heads : ReadsHeads 0 bytes head body
  pub ends : ReadsBody (has_no_body request (status_code head)) (map name_and_value head.fields) body rest

-- the reply to the request is these bytes of those that the pod sent
abbrev pub IsReplyOf : List ℕ → List ℕ → List ℕ → Type 0
IsReplyOf request sent reply = (rest : List ℕ) × (sent ≡ reply ++ rest) × ReadsReply request sent rest

-- ---- what is known while the bytes come

-- the bytes that came are no reply
abbrev pub NoReply : List ℕ → List ℕ → Type 0
NoReply request bytes = (rest : List ℕ) → ¬ (ReadsReply request bytes rest)

-- and whatever follows makes none of them
abbrev pub NeverReply : List ℕ → List ℕ → Type 0
NeverReply request bytes = (more rest : List ℕ) → ¬ (ReadsReply request (bytes ++ more) rest)

-- the bytes that came don't have the heads of a reply
abbrev pub NoHeads : List ℕ → Type 0
NoHeads bytes = (head : ResponseHead) (rest : List ℕ) → ¬ (ReadsHeads 0 bytes head rest)

-- and whatever follows makes none of them
abbrev pub NeverHeads : List ℕ → Type 0
NeverHeads bytes = (more : List ℕ) (head : ResponseHead) (rest : List ℕ) → ¬ (ReadsHeads 0 (bytes ++ more) head rest)

-- whatever follows, the heads from the next place on, after k of them, are the heads
abbrev pub SameHeads : ℕ → List ℕ → List ℕ → Type 0
SameHeads k bytes next =
    (more : List ℕ) (head : ResponseHead) (rest : List ℕ) → (ReadsHeads 0 (bytes ++ more) head rest → ReadsHeads k (next ++ more) head rest)
    × (ReadsHeads k (next ++ more) head rest → ReadsHeads 0 (bytes ++ more) head rest)

-- the head of the answer begins at this place, and the spans cover its parts
pub record IsHeadAt (reply : List ℕ) (spans : List HeaderSpan) (at : ℕ) (r : ResponseSpans) : Type 0 where
  pub place : at ≤ length reply
  pub within : IsResponseWithin (drop at reply) spans r
  pub before : ℕ
  pub same : SameHeads before reply (drop at reply)
  pub fewer : before < most_heads
  pub head : ResponseHead
  pub parts : IsResponseAt (drop at reply) spans r head
  pub few : length head.fields ≤ most_fields
  pub final : is_interim r.code ≡ false

abbrev pub NoChunks : List ℕ → Type 0
NoChunks bytes = (rest : List ℕ) → ¬ (ReadsChunks bytes rest)

abbrev pub NeverChunks : List ℕ → Type 0
NeverChunks bytes = (more rest : List ℕ) → ¬ (ReadsChunks (bytes ++ more) rest)

-- whatever follows, both end at one place
abbrev pub SameChunks : List ℕ → List ℕ → Type 0
SameChunks bytes next =
    (more rest : List ℕ) → (ReadsChunks (bytes ++ more) rest → ReadsChunks (next ++ more) rest)
    × (ReadsChunks (next ++ more) rest → ReadsChunks (bytes ++ more) rest)

-- what is said of the chunks from a place on
abbrev pub FollowedIs : List ℕ → ℕ → Followed → Type 0
FollowedIs reply at (followed.Ended n) =
    (n ≤ length reply) × ((more : List ℕ) → ReadsChunks (drop at reply ++ more) (drop n reply ++ more))
FollowedIs reply at (followed.Cut n) =
    (n ≤ length reply) × NoChunks (drop at reply) × SameChunks (drop at reply) (drop n reply)
FollowedIs reply at followed.Never = NeverChunks (drop at reply)

-- where the bytes end, by the stage
abbrev pub StageReads : Stage → List ℕ → List ℕ → Type 0
StageReads (stage.Until end) bytes rest = (end ≤ length bytes) × (rest ≡ drop end bytes)
StageReads (stage.Chunks at) bytes rest = ReadsChunks (drop at bytes) rest
StageReads stage.Open bytes rest = rest ≡ []

-- the stage's chunks begin within the first n bytes
abbrev pub StageWithin : ℕ → Stage → Type 0
StageWithin n (stage.Until end) = ⊤
StageWithin n (stage.Chunks at) = at ≤ n
StageWithin n stage.Open = ⊤

-- a body that begins at that place ends as the stage says
abbrev pub IsStageOf : Bool → List (List ℕ × List ℕ) → ℕ → Stage → Type 0
IsStageOf none fields at s =
    (bytes rest : List ℕ) → at ≤ length bytes → (ReadsBody none fields (drop at bytes) rest → StageReads s bytes rest)
    × (StageReads s bytes rest → ReadsBody none fields (drop at bytes) rest)

-- the fields say no body
abbrev pub NoStage : Bool → List (List ℕ × List ℕ) → Type 0
NoStage none fields = (bytes rest : List ℕ) → ¬ (ReadsBody none fields bytes rest)

-- whatever follows, the reply ends as the stage says
pub record Meets (request reply : List ℕ) (s : Stage) : Type 0 where
  pub within : StageWithin (length reply) s
  pub to : (more rest : List ℕ) → ReadsReply request (reply ++ more) rest → StageReads s (reply ++ more) rest
  pub back : (more rest : List ℕ) → StageReads s (reply ++ more) rest → ReadsReply request (reply ++ more) rest

-- the stage is right, where there is one
abbrev pub MeetsAny : List ℕ → List ℕ → Option Stage → Type 0
MeetsAny request reply None = ⊤
MeetsAny request reply (Some s) = Meets request reply s

-- the stage is right, and the reply has not ended, but where its body goes to the end of the stream
abbrev pub GoesOn : List ℕ → List ℕ → Option Stage → Type 0
GoesOn request reply None = NoReply request reply
GoesOn request reply (Some (stage.Until end)) = Meets request reply (stage.Until end) × NoReply request reply
GoesOn request reply (Some (stage.Chunks at)) = Meets request reply (stage.Chunks at) × NoReply request reply
GoesOn request reply (Some stage.Open) = Meets request reply stage.Open

-- what is said of the bytes that came
abbrev pub JudgedIs : List ℕ → List ℕ → Judged → Type 0
JudgedIs request reply (judged.Ended n) =
    (n ≤ length reply) × ((more : List ℕ) → ReadsReply request (reply ++ more) (drop n reply ++ more))
JudgedIs request reply (judged.More s) = GoesOn request reply s
JudgedIs request reply judged.Never = NeverReply request reply

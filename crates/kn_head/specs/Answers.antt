-- The answers that are made here, and not by a pod.
use Rattle.std.specs.Prelude.{ℕ, List, ◌++◌, length, codes, Option, Some, None}
use Rattle.std.specs.Fmt.{decimal}
use Rattle.kn_head.specs.declared.head.HeadError.{HeadError}
use Rattle.kn_head.specs.declared.head.HeadError.TheVariants as error
use Rattle.kn_head.specs.declared.answer.Answer.{Answer}
use Rattle.kn_head.specs.declared.answer.Answer.TheVariants as answer
use Rattle.kn_head.specs.Forwarding.{crlf}

-- the status
abbrev pub code_of : Answer → ℕ
code_of answer.BadHead = 400
code_of answer.NoSuchRevision = 404
code_of answer.BodyTooLong = 413
code_of answer.HeadTooLong = 431
code_of answer.BadCoding = 501
code_of answer.LinkFailed = 502
code_of answer.QueueFull = 503
code_of answer.Overload = 503
code_of answer.Expired = 503
code_of answer.HistoryFull = 507

-- the code and the phrase of the first line
abbrev pub status_of : Answer → List ℕ
status_of answer.BadHead = codes "400 Bad Request"
status_of answer.NoSuchRevision = codes "404 Not Found"
status_of answer.BodyTooLong = codes "413 Payload Too Large"
status_of answer.HeadTooLong = codes "431 Request Header Fields Too Large"
status_of answer.BadCoding = codes "501 Not Implemented"
status_of answer.LinkFailed = codes "502 Bad Gateway"
status_of answer.QueueFull = codes "503 Service Unavailable"
status_of answer.Overload = codes "503 Service Unavailable"
status_of answer.Expired = codes "503 Service Unavailable"
status_of answer.HistoryFull = codes "507 Insufficient Storage"

-- what the client reads
abbrev pub text_of : Answer → List ℕ
text_of answer.BadHead = codes "bad request"
text_of answer.NoSuchRevision = codes "unknown revision"
text_of answer.BodyTooLong = codes "request body too long"
text_of answer.HeadTooLong = codes "request head too long"
text_of answer.BadCoding = codes "transfer coding is not supported"
text_of answer.LinkFailed = codes "pod call failed"
text_of answer.QueueFull = codes "pending request queue full"
text_of answer.Overload = codes "too many requests"
text_of answer.Expired = codes "timed out waiting for a pod"
text_of answer.HistoryFull = codes "history full"

-- an answer with this status and text
unfoldable pub answer_with : List ℕ → List ℕ → List ℕ
answer_with status text =
    codes "HTTP/1.1 " ++ status ++ crlf
    ++ codes "Content-Type: text/plain" ++ crlf
    ++ codes "Content-Length: " ++ decimal (length text) ++ crlf
    ++ codes "Connection: close" ++ crlf ++ crlf
    ++ text

-- the whole answer
abbrev pub answered : Answer → List ℕ
answered a = answer_with (status_of a) (text_of a)

-- what a head that can't be served is answered; after a fault of the source and for want of memory nothing is
abbrev pub answer_for : HeadError → Option Answer
answer_for error.ReadFault = None
answer_for error.Malformed = Some answer.BadHead
answer_for error.TooLong = Some answer.HeadTooLong
answer_for error.EndedEarly = Some answer.BadHead
answer_for error.NoRevision = Some answer.BadHead
answer_for error.BadLength = Some answer.BadHead
answer_for error.BodyTooLong = Some answer.BodyTooLong
answer_for error.Memory = None
answer_for error.BadCoding = Some answer.BadCoding
answer_for error.BadChunk = Some answer.BadHead

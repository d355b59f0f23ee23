-- What requests are answered.
use Rattle.std.specs.Prelude.{ℕ, Bool, true, false, List, [], ◌++◌, length, codes, if◌then◌else◌}
use Rattle.std.specs.Fmt.{decimal}
use Rattle.kn_head.specs.Forwarding.{crlf}
use Rattle.kn_page.specs.declared.reply.Reply.{Reply}
use Rattle.kn_page.specs.declared.reply.Reply.TheVariants as reply

-- the status
abbrev pub code_of : Reply → ℕ
code_of reply.Healthy = 200
code_of reply.Ready = 200
code_of reply.Stopping = 503
code_of reply.Metrics = 200
code_of reply.NotFound = 404
code_of reply.NotAllowed = 405
code_of reply.BadRequest = 400

-- the code and the phrase of the first line
abbrev pub reply_status : Reply → List ℕ
reply_status reply.Healthy = codes "200 OK"
reply_status reply.Ready = codes "200 OK"
reply_status reply.Stopping = codes "503 Service Unavailable"
reply_status reply.Metrics = codes "200 OK"
reply_status reply.NotFound = codes "404 Not Found"
reply_status reply.NotAllowed = codes "405 Method Not Allowed"
reply_status reply.BadRequest = codes "400 Bad Request"

abbrev pub reply_type : Reply → List ℕ
reply_type reply.Metrics = codes "text/plain; version=0.0.4; charset=utf-8"
reply_type _ = codes "text/plain; charset=utf-8"

-- the text; metrics have another each time
abbrev pub reply_text : Reply → List ℕ
reply_text reply.Healthy = codes "ok\n"
reply_text reply.Ready = codes "ready\n"
reply_text reply.Stopping = codes "stopping\n"
reply_text reply.Metrics = []
reply_text reply.NotFound = codes "not found\n"
reply_text reply.NotAllowed = codes "method not allowed\n"
reply_text reply.BadRequest = codes "bad request\n"

-- a server that stops isn't ready
abbrev pub ready_reply : Bool → Reply
ready_reply true = reply.Stopping
ready_reply false = reply.Ready

unfoldable pub status_line : Reply → List ℕ
status_line r = codes "HTTP/1.1 " ++ reply_status r ++ crlf

unfoldable pub field_line : List ℕ → List ℕ → List ℕ
field_line name value = name ++ codes ": " ++ value ++ crlf

-- which methods may be used, where another was
abbrev pub allow_line : Reply → List ℕ
allow_line reply.NotAllowed = field_line (codes "Allow") (codes "GET, HEAD")
allow_line _ = []

-- the first line, the fields and the empty line behind them, of an answer whose body has so many bytes
unfoldable pub answer_head : Reply → ℕ → List ℕ
answer_head r n =
    status_line r ++ field_line (codes "Content-Type") (reply_type r) ++ field_line (codes "Content-Length") (decimal n)
    ++ allow_line r ++ field_line (codes "Connection") (codes "close") ++ crlf

-- the whole answer, with the body where that is wanted
unfoldable pub answer_text : Reply → Bool → List ℕ → List ℕ
answer_text r wants body = answer_head r (length body) ++ (if wants then body else [])

abbrev pub plain_text : Reply → Bool → List ℕ
plain_text r wants = answer_text r wants (reply_text r)

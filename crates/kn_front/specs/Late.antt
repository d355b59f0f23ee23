-- What a client is answered whose request doesn't come in time.
use Rattle.std.specs.Prelude.{ℕ, List, ◌++◌, codes}
use Rattle.kn_http.specs.Lines.{status_line}

abbrev pub late_text : List ℕ
late_text =
    status_line 408 ++ codes "Content-Type: text/plain\r\nContent-Length: 33\r\nConnection: close\r\n\r\n"
    ++ codes "timed out waiting for the request"

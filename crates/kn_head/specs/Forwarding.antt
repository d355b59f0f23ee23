-- The bytes that are sent on to a pod.
use Rattle.std.specs.Prelude.{ℕ, Bool, not, ◌&&◌, ◌||◌, if◌then◌else◌, List, [], ◌∷◌, ◌++◌, length, filter, codes}
use Rattle.std.specs.List.{flat_map}
use Rattle.std.specs.Fmt.{decimal}
use Rattle.kn_head.specs.declared.head.Head.{Head}
use Rattle.kn_head.specs.Fields.{hop_names, chunk_names, is_among}

-- the end of a line
abbrev pub crlf : List ℕ
crlf = 13 ∷ 10 ∷ []

-- method, target and version
unfoldable pub request_line : Head → List ℕ
request_line head = head.method ++ codes " " ++ head.target ++ codes " HTTP/1.1" ++ crlf

-- name and value
unfoldable pub field_line : List ℕ × List ℕ → List ℕ
field_line f = f.0 ++ codes ": " ++ f.1 ++ crlf

-- a field is sent on unless its name is one of those that aren't; a body that was decoded has two more of these
unfoldable pub is_kept : Bool → List ℕ × List ℕ → Bool
is_kept chunked f = not (is_among hop_names f.0 || (chunked && is_among chunk_names f.0))

-- the fields that are sent on, in their order
unfoldable pub kept_lines : Bool → List (List ℕ × List ℕ) → List ℕ
kept_lines chunked fields = flat_map field_line (filter (is_kept chunked) fields)

-- a body that was decoded has its length
unfoldable pub length_line : Bool → List ℕ → List ℕ
length_line chunked body = if chunked then codes "Content-Length: " ++ decimal (length body) ++ crlf else []

-- a request that went through the activator says so
unfoldable pub proxy_line : Bool → List ℕ
proxy_line proxied = if proxied then codes "K-Proxy-Request: activator" ++ crlf else []

-- one request a connection, and the empty line that ends the head
unfoldable pub last_lines : List ℕ
last_lines = codes "Connection: close" ++ crlf ++ crlf

-- the whole request as it is sent on
unfoldable pub forwarded : Head → Bool → List ℕ
forwarded head proxied =
    request_line head ++ kept_lines head.chunked head.headers ++ length_line head.chunked head.body
    ++ proxy_line proxied ++ last_lines ++ head.body

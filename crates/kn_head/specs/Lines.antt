-- Line feeds, by which the whole lines of bytes that end early are counted.
use Rattle.std.specs.Prelude.{ℕ, ◌==◌, List, drop}
use Rattle.std.specs.List.{count_by, prefix_len}
use Rattle.httparse.specs.Pieces.{is_newline}

-- how many line feeds the bytes have
unfoldable pub line_feeds : List ℕ → ℕ
line_feeds bytes = count_by (λ b. b == 10) bytes

-- the bytes after the empty lines at the front
unfoldable pub after_blank : List ℕ → List ℕ
after_blank bytes = drop (prefix_len is_newline bytes) bytes

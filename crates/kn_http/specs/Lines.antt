-- First lines of the answers that are made here, and not by a pod.
use Rattle.std.specs.Prelude.{ℕ, List, [], ◌∷◌, ◌++◌, codes}
use Rattle.http.specs.StatusCode.{status_text}

-- the first line of an answer with this status: its code, and the phrase that the crate `http` gives it
unfoldable pub status_line : ℕ → List ℕ
status_line code = codes "HTTP/1.1 " ++ status_text code ++ 13 ∷ 10 ∷ []

-- How many pods there are, in words.
use Rattle.std.specs.Prelude.{ℕ, ◌==◌, ◌++◌, List, codes, if◌then◌else◌}
use Rattle.std.specs.Fmt.{decimal}

abbrev pub pods_word : ℕ → List ℕ
pods_word n = if n == 1 then codes " pod" else codes " pods"

-- so many pods
unfoldable pub pods_text : ℕ → List ℕ
pods_text n = decimal n ++ pods_word n

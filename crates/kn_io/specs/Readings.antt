-- What a clock over a list of times may answer.
use Rattle.std.specs.Prelude.{◌≡◌, ℕ, List, [], ◌∷◌, Contains}

-- one of the times, or 0 where there is none
abbrev pub IsReading : List ℕ → ℕ → Type 0
IsReading [] time = time ≡ 0
IsReading (t ∷ ts) time = Contains (t ∷ ts) time

-- When decisions panic, and what they ask for before any delay. Lists of decisions have the latest first.
use Rattle.std.specs.Prelude.{ℕ, Bool, true, false, ◌+◌, nat_le, max, List, [], ◌∷◌, map, Option, None, Some, if◌then◌else◌}
use Rattle.std.specs.List.{find}
use Rattle.kn_event.specs.Lists.{greatest}
use Rattle.kn_scaling.specs.declared.panic.Judged.{Judged}

abbrev pub is_over_decision : Judged → Bool
is_over_decision d = d.counts.over

abbrev pub is_within_window : Judged → Option Judged → Bool
is_within_window d None = false
is_within_window d (Some last) = nat_le d.time (last.time + d.window_ms)

-- the first of the list panics where some decision of the list is over, and the last such one lies at most one
-- window before the first of the list
unfoldable pub is_panicking : List Judged → Bool
is_panicking [] = false
is_panicking (d ∷ earlier) = is_within_window d (find is_over_decision (d ∷ earlier))

abbrev pub run_with : Bool → Judged → List Judged → List Judged
run_with false d run = []
run_with true d run = d ∷ run

-- the longest run of neighbours that all panic and that ends with the first of the list. Only a decision that doesn't
-- panic breaks it: a pause breaks none
unfoldable pub panicking_run : List Judged → List Judged
panicking_run [] = []
panicking_run (d ∷ earlier) = run_with (is_panicking (d ∷ earlier)) d (panicking_run earlier)

abbrev pub greater_count : Judged → ℕ
greater_count d = max d.counts.stable_count d.counts.panic_count

unfoldable pub greatest_of_run : List Judged → ℕ
greatest_of_run ds = greatest (map greater_count (panicking_run ds))

-- the greatest count of a run after a decision with this greater count, where the run had that greatest one before: a
-- decision that doesn't panic ends it
abbrev pub greatest_after : Bool → ℕ → ℕ → ℕ
greatest_after true count before = max count before
greatest_after false count before = 0

-- what the first of the list asks for: in panic the greatest of all stable and panic counts of its run, so that panic
-- takes no pod away; else its stable count
unfoldable pub undelayed_count : List Judged → ℕ
undelayed_count [] = 0
undelayed_count (d ∷ earlier) = if is_panicking (d ∷ earlier) then greatest_of_run (d ∷ earlier) else d.counts.stable_count

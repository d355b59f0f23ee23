-- The first line of a setup.
use Rattle.std.specs.Prelude.{ℕ, Bool, ◌+◌, ◌≤◌, nat_eq, nat_lt, List, [], ◌∷◌, drop, length, map, Option, None, Some, Result, Ok, Err, codes, if◌then◌else◌}
use Rattle.std.specs.List.{starts_with}
use Rattle.std.specs.Str.{bytes_eq}
use Rattle.kn_event.specs.declared.revision.Slots.{Slots}
use Rattle.kn_event.specs.Fields.{fields}
use Rattle.kn_event.specs.Numbers.{number_of}
use Rattle.kn_event.specs.Ranges.{AreSlots, is_between}
use Rattle.kn_preamble.specs.declared.error.SetupError.{SetupError}
use Rattle.kn_preamble.specs.declared.error.SetupError.TheVariants.{BadField, OutOfRange, BadWord}
use Rattle.kn_preamble.specs.declared.setting.Setting.{Setting}
use Rattle.kn_preamble.specs.declared.setting.Setting.TheVariants.{Limit, Depth, Max, Pods, Timeout, Seed}
use Rattle.kn_preamble.specs.declared.setting.Placed.{Placed}
use Rattle.kn_preamble.specs.declared.setting.FixedLine.{FixedLine}
use Rattle.kn_preamble.specs.declared.setting.SetupLine.{SetupLine}
use Rattle.kn_preamble.specs.declared.setting.SetupLine.TheVariants.{Fixed, Kpa}

-- ---- the numbers

abbrev pub setting_text : Setting → List ℕ
setting_text Limit = codes "limit="
setting_text Depth = codes "depth="
setting_text Max = codes "max="
setting_text Pods = codes "pods="
setting_text Timeout = codes "timeout="
setting_text Seed = codes "seed="

abbrev pub least_of : Setting → ℕ
least_of Limit = 0
least_of Depth = 1
least_of Max = 1
least_of Pods = 0
least_of Timeout = 1
least_of Seed = 0

abbrev pub most_of : Setting → ℕ
most_of Limit = 1000
most_of Depth = 10000
most_of Max = 1000
most_of Pods = 500
most_of Timeout = 3600
most_of Seed = 18446744073709551615

abbrev pub is_in_range : Setting → ℕ → Bool
is_in_range setting n = is_between (least_of setting) (most_of setting) n

-- the number of a field `NAME=NUMBER`
unfoldable pub setting_number : Setting → List ℕ → Option ℕ
setting_number setting field = if starts_with nat_eq field (setting_text setting) then number_of (drop (length (setting_text setting)) field) else None

abbrev pub placed : ℕ → ℕ → Placed
placed place n = record { number = n; place = place }

abbrev pub with_placed : Placed → Result (List Placed) SetupError → Result (List Placed) SetupError
with_placed p (Ok more) = Ok (p ∷ more)
with_placed p (Err why) = Err why

abbrev pub placed_or : ℕ → Option ℕ → Result (List Placed) SetupError → Result (List Placed) SetupError
placed_or place None more = Err (BadField place)
placed_or place (Some n) more = with_placed (placed place n) more

-- these fields, in this order and no others, behind the place where the word ends. A field begins one byte behind the end
-- of the one before
abbrev pub placed_due : ℕ → List Setting → List (List ℕ) → Result (List Placed) SetupError
placed_due at [] [] = Ok []
placed_due at [] (field ∷ more) = Err (BadField (at + 1))
placed_due at (setting ∷ settings) [] = Err (BadField at)
placed_due at (setting ∷ settings) (field ∷ more) = placed_or (at + 1) (setting_number setting field) (placed_due (at + 1 + length field) settings more)

-- the first number outside its range
abbrev pub range_fault : List Setting → List Placed → Option SetupError
range_fault (setting ∷ settings) (p ∷ ps) = if is_in_range setting p.number then range_fault settings ps else Some (OutOfRange p.place)
range_fault _ _ = None

abbrev pub ranged : Option SetupError → List Placed → Result (List ℕ) SetupError
ranged (Some why) ps = Err why
ranged None ps = Ok (map (λ p. p.number) ps)

abbrev pub in_ranges : List Setting → Result (List Placed) SetupError → Result (List ℕ) SetupError
in_ranges settings (Ok ps) = ranged (range_fault settings ps) ps
in_ranges settings (Err why) = Err why

-- all fields are read before ranges are judged
abbrev pub numbers_due : ℕ → List Setting → List (List ℕ) → Result (List ℕ) SetupError
numbers_due at settings more = in_ranges settings (placed_due at settings more)

-- ---- the line

abbrev pub fixed_settings : List Setting
fixed_settings = Limit ∷ Depth ∷ Max ∷ Pods ∷ Timeout ∷ Seed ∷ []

abbrev pub kpa_settings : List Setting
kpa_settings = Depth ∷ Max ∷ Seed ∷ []

abbrev pub slots_of : ℕ → ℕ → ℕ → Slots
slots_of depth max seed = record { depth = depth; max = max; seed = seed }

abbrev pub fixed_from : Result (List ℕ) SetupError → Result SetupLine SetupError
fixed_from (Ok (limit ∷ depth ∷ max ∷ pods ∷ timeout ∷ seed ∷ [])) = Ok (Fixed limit pods timeout (slots_of depth max seed))
fixed_from (Ok _) = Err BadWord
fixed_from (Err why) = Err why

abbrev pub kpa_from : Result (List ℕ) SetupError → Result SetupLine SetupError
kpa_from (Ok (depth ∷ max ∷ seed ∷ [])) = Ok (Kpa (slots_of depth max seed))
kpa_from (Ok _) = Err BadWord
kpa_from (Err why) = Err why

abbrev pub setup_line_of_fields : List (List ℕ) → Result SetupLine SetupError
setup_line_of_fields [] = Err BadWord
setup_line_of_fields (word ∷ more) =
    if bytes_eq word (codes "fixed") then fixed_from (numbers_due (length word) fixed_settings more)
    else (if bytes_eq word (codes "kpa") then kpa_from (numbers_due (length word) kpa_settings more) else Err BadWord)

-- `fixed limit=L depth=D max=M pods=P timeout=T seed=S` or `kpa depth=D max=M seed=S`, with its numbers in range
unfoldable pub setup_line : List ℕ → Result SetupLine SetupError
setup_line line = setup_line_of_fields (fields line)

-- ---- a `fixed` line whose limit has a least of its own

-- the limit is the first number that is judged
abbrev pub limit_fault : ℕ → List Placed → Option SetupError
limit_fault least [] = None
limit_fault least (limit ∷ more) = if nat_lt limit.number least then Some (OutOfRange limit.place) else None

abbrev pub unless_fault : Option SetupError → List Placed → Result (List Placed) SetupError
unless_fault None ps = Ok ps
unless_fault (Some why) ps = Err why

abbrev pub with_least : ℕ → Result (List Placed) SetupError → Result (List Placed) SetupError
with_least least (Ok ps) = unless_fault (limit_fault least ps) ps
with_least least (Err why) = Err why

abbrev pub least_due : ℕ → ℕ → List (List ℕ) → Result (List ℕ) SetupError
least_due least at more = in_ranges fixed_settings (with_least least (placed_due at fixed_settings more))

abbrev pub least_from : Result (List ℕ) SetupError → Result FixedLine SetupError
least_from (Ok (limit ∷ depth ∷ max ∷ pods ∷ timeout ∷ seed ∷ [])) = Ok (record { limit = limit; pods = pods; timeout_s = timeout; slots = slots_of depth max seed })
least_from (Ok _) = Err BadWord
least_from (Err why) = Err why

abbrev pub fixed_line_of_fields : ℕ → List (List ℕ) → Result FixedLine SetupError
fixed_line_of_fields least [] = Err BadWord
fixed_line_of_fields least (word ∷ more) = if bytes_eq word (codes "fixed") then least_from (least_due least (length word) more) else Err BadWord

-- a `fixed` line whose limit is at least this, with its numbers in range
unfoldable pub fixed_line : ℕ → List ℕ → Result FixedLine SetupError
fixed_line least line = fixed_line_of_fields least (fields line)

abbrev pub IsFixedLine : ℕ → FixedLine → Type 0
IsFixedLine least f = (least ≤ f.limit) × (f.limit ≤ 1000) × (f.pods ≤ 500) × (1 ≤ f.timeout_s) × (f.timeout_s ≤ 3600) × AreSlots f.slots

-- a line's numbers are in range
abbrev pub IsSetupLine : SetupLine → Type 0
IsSetupLine (Fixed limit pods timeout slots) = (limit ≤ 1000) × (pods ≤ 500) × (1 ≤ timeout) × (timeout ≤ 3600) × AreSlots slots
IsSetupLine (Kpa slots) = AreSlots slots

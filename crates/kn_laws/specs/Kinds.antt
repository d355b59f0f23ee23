-- The kinds of rows that each part of an event adds.
use Rattle.std.specs.Prelude.{◌≡◌, ℕ, Bool, true, false, [], ◌∷◌, Option, None, Some, ⊤}
use Rattle.kn_event.specs.declared.entry.Row.{Row}
use Rattle.kn_event.specs.declared.entry.Row.TheVariants as row
use Rattle.kn_event.specs.declared.event.Act.{Act}
use Rattle.kn_trace.specs.Trace.{Trace}
use Rattle.kn_laws.specs.ByAct.{IsByAct}

-- each row passes the test
abbrev pub Each : (Row → Bool) → Trace → Type 0
Each test [] = ⊤
Each test (e ∷ es) = (test e.row ≡ true) × Each test es

-- each row satisfies this
abbrev pub EachIs : (Row → Type 0) → Trace → Type 0
EachIs P [] = ⊤
EachIs P (e ∷ es) = P e.row × EachIs P es

-- each entry has this time
abbrev pub EachAt : ℕ → Trace → Type 0
EachAt t [] = ⊤
EachAt t (e ∷ es) = (e.time ≡ t) × EachAt t es

-- ---- the kinds of rows that the parts of an event add

abbrev pub is_run_row : Row → Bool
is_run_row (row.Run r) = true
is_run_row _ = false

abbrev pub is_remove_row : Row → Bool
is_remove_row (row.Remove p) = true
is_remove_row _ = false

-- who ends before the act's own row
abbrev pub is_departure_row : Row → Bool
is_departure_row (row.Expire r) = true
is_departure_row (row.LostRequest r) = true
is_departure_row _ = false

-- what the autoscaler adds
abbrev pub is_scaler_row : Row → Bool
is_scaler_row (row.Decided d) = true
is_scaler_row row.NoData = true
is_scaler_row (row.Phase x) = true
is_scaler_row (row.Mode m) = true
is_scaler_row (row.Create p n) = true
is_scaler_row (row.Drain p) = true
is_scaler_row _ = false

-- an act's own row
abbrev pub is_act_row : Row → Bool
is_act_row (row.Admit r tag) = true
is_act_row (row.QueueFull r pod) = true
is_act_row (row.Overload r) = true
is_act_row (row.Direct r p) = true
is_act_row (row.Finish r ok) = true
is_act_row (row.Cancel r) = true
is_act_row (row.Ready p) = true
is_act_row (row.Limit p n) = true
is_act_row (row.NotRunning r) = true
is_act_row (row.NotWaiting r) = true
is_act_row (row.NotStarting p) = true
is_act_row (row.NoPod p) = true
is_act_row (row.LostPod p) = true
is_act_row _ = false

-- the row of an act, where it has one, is of its kind and names what the act names
abbrev pub IsActRow : Act → Option Row → Type 0
IsActRow a None = ⊤
IsActRow a (Some x) = (is_act_row x ≡ true) × IsByAct a x

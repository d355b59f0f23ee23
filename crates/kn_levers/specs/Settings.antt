-- Settings at other values: which they are, and a specification with them.
use Rattle.std.specs.Prelude.{ℕ, List, [], ◌∷◌}
use Rattle.std.proofs.Common.{lit<}
use Rattle.kn_event.specs.declared.revision.Spec.{Spec}
use Rattle.kn_event.specs.declared.units.Frac.{Frac}
use Rattle.kn_event.specs.declared.units.Milli.{Milli}
use Rattle.kn_event.specs.Defaults.{milli}
use Rattle.kn_levers.specs.declared.lever.Lever.{Lever}
use Rattle.kn_levers.specs.declared.lever.Lever.TheVariants as lever
use Rattle.kn_levers.specs.declared.lever.Setting.{Setting}
use Rattle.kn_levers.specs.declared.lever.Setting.TheVariants as setting

-- the settings, in the order in which a line names them
abbrev pub levers : Setting → List Lever
levers setting.Target = lever.Target ∷ []
levers setting.UpRate = lever.UpRate ∷ []
levers (setting.DownRate rate) = lever.DownRate ∷ []
levers (setting.Activation n) = lever.Activation ∷ []
levers setting.Panic = lever.Panic ∷ []
levers setting.Delay = lever.Delay ∷ []
levers (setting.StableWindow seconds) = lever.StableWindow ∷ []
levers setting.Grace = lever.Grace ∷ []
levers (setting.Retention ms) = lever.Retention ∷ []
levers setting.GraceAndRetention = lever.Grace ∷ lever.Retention ∷ []
levers (setting.ToZero on) = lever.ToZero ∷ []
levers (setting.Min n) = lever.Min ∷ []
levers (setting.Max n) = lever.Max ∷ []
levers (setting.Initial n) = lever.Initial ∷ []
levers (setting.MinAndInitial n) = lever.Min ∷ lever.Initial ∷ []
levers (setting.MinAndMax least most) = lever.Min ∷ lever.Max ∷ []
levers (setting.Bounds n) = lever.Min ∷ lever.Max ∷ lever.Initial ∷ []

-- 0.01, the least target, by any utilisation
abbrev pub least_target : Frac
least_target = record { num = 1000000; den = 100000000; above_zero = lit< tt }

-- above 1, and the most
abbrev pub least_rate : Milli
least_rate = milli 1001

abbrev pub most_rate : Milli
most_rate = milli 1000000000

-- 10,000 per cent
abbrev pub most_threshold : Milli
most_threshold = milli 10000000

-- an hour: the longest window, grace period and retention period
abbrev pub hour_s : ℕ
hour_s = 3600

abbrev pub hour_ms : ℕ
hour_ms = 3600000

-- a specification with these settings
abbrev pub with_setting : Spec → Setting → Spec
with_setting s setting.Target = record s { total = milli 10; target = least_target }
with_setting s setting.UpRate = record s { up = most_rate }
with_setting s (setting.DownRate rate) = record s { down = rate }
with_setting s (setting.Activation n) = record s { activation = n }
with_setting s setting.Panic = record s { panic_threshold = most_threshold }
with_setting s setting.Delay = record s { delay_s = 0 }
with_setting s (setting.StableWindow seconds) = record s { stable_s = seconds }
with_setting s setting.Grace = record s { grace_ms = 0 }
with_setting s (setting.Retention ms) = record s { retention_ms = ms }
with_setting s setting.GraceAndRetention = record s { grace_ms = 0; retention_ms = 0 }
with_setting s (setting.ToZero on) = record s { to_zero = on }
with_setting s (setting.Min n) = record s { min = n }
with_setting s (setting.Max n) = record s { max = n }
with_setting s (setting.Initial n) = record s { initial = n }
with_setting s (setting.MinAndInitial n) = record s { min = n; initial = n }
with_setting s (setting.MinAndMax least most) = record s { min = least; max = most }
with_setting s (setting.Bounds n) = record s { min = n; max = n; initial = n }

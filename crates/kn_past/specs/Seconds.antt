-- What lies below a second, and what comes after it.
use Rattle.std.specs.Prelude.{◌≡◌, ℕ, ◌+◌, ◌*◌, ◌<◌, ◌≤◌, [], ◌∷◌, Bool, ◌||◌, nat_lt, Option, Some, ⊤}
use Rattle.std.specs.Bool.{then_some}
use Rattle.kn_event.specs.declared.revision.Metric.{Metric}
use Rattle.kn_scaling.specs.Average.{Samples, value_of}
use Rattle.kn_trace.specs.Trace.{Trace}

-- the same of each second below this one
abbrev pub AgreeBelow : ℕ → Samples → Samples → Type 0
AgreeBelow end f g = (s : ℕ) → s < end → f s ≡ g s

-- each entry is at this time or later
abbrev pub AreFrom : ℕ → Trace → Type 0
AreFrom t [] = ⊤
AreFrom t (e ∷ es) = (t ≤ e.time) × AreFrom t es

-- the first millisecond after second s
abbrev pub end_of_second : ℕ → ℕ
end_of_second s = 1000 * (s + 1)

-- each value is that of a million requests at most
abbrev pub AreSmall : Samples → Type 0
AreSmall f = (s value : ℕ) → f s ≡ Some value → value ≤ 1000000000

-- what a second is a sample of, by its load, how many requests were taken in in it, and whether a pod is Ready at its end
abbrev pub sample_by : Metric → ℕ → ℕ → Bool → Option ℕ
sample_by m load count ready = let value = value_of m load count in then_some (nat_lt 0 value || nat_lt 0 load || ready) value

-- What the seconds that closed make of the samples.
use Rattle.std.specs.Prelude.{ℕ, ◌+◌, ◌^◌, ◌<◌, ◌≤◌, nat_lt, Option, None, Some, IfSome, if◌then◌else◌}
use Rattle.kn_event.specs.declared.revision.Metric.{Metric}
use Rattle.kn_scaling.specs.Average.{Samples, value_of, with_run}
use Rattle.kn_scaling.specs.Worked.{run_of}
use Rattle.kn_stats.specs.declared.closed.Closed.{Closed}
use Rattle.kn_stats.specs.declared.closed.Run.{Run}

-- with these seconds, where there are some and they are samples
abbrev pub with_closed_run : Metric → Option Run → Samples → Samples
with_closed_run m None samples = samples
with_closed_run m (Some run) samples =
    if run.sampled then with_run samples (run_of run.second run.count (value_of m run.load run.arrived)) else samples

abbrev pub with_closed : Metric → Closed → Samples → Samples
with_closed m c samples = with_closed_run m c.rest (with_closed_run m c.first samples)

-- the second after the last sample
abbrev pub end_after : Option Run → ℕ → ℕ
end_after None end = end
end_after (Some run) end = if run.sampled then run.second + run.count else end

-- seconds that may close where the last sample lies before this end
pub record CanFollow (end : ℕ) (run : Run) : Type 0 where
  pub second : end ≤ run.second
  pub some : 0 < run.count
  pub last : run.second + run.count ≤ 2 ^ 42
  pub load : run.load ≤ 20000000
  pub arrived : run.arrived ≤ 1000000

-- the seconds of the second run come after those of the first
pub record CanClose (end : ℕ) (c : Closed) : Type 0 where
  pub first : IfSome c.first (CanFollow end)
  pub rest : IfSome c.rest (CanFollow (end_after c.first end))

-- they lie before this second
abbrev pub IsOverAt : ℕ → Option Run → Type 0
IsOverAt next run = IfSome run (λ r. r.second + r.count ≤ next)

-- the samples below this second, and no other
abbrev pub below : ℕ → Samples → Samples
below until samples s = if nat_lt s until then samples s else None

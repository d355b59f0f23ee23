-- Setups for worked rows.
use Rattle.std.specs.Prelude.{ℕ, Bool, true, false, ◌-◌, ◌<◌, codes, List, [], map, Option, option_map, pos, ⊤}
use Rattle.kn_event.specs.declared.units.Frac.{Frac}
use Rattle.kn_event.specs.declared.entry.Phase.{Phase}
use Rattle.kn_event.specs.declared.entry.Phase.TheVariants as phase
use Rattle.kn_event.specs.declared.entry.Mode.{Mode}
use Rattle.kn_event.specs.declared.entry.Mode.TheVariants as mode
use Rattle.kn_event.specs.declared.revision.Spec.{Spec}
use Rattle.kn_event.specs.declared.revision.Kind.TheVariants as kind
use Rattle.kn_event.specs.FixedSpec.{fixed_spec}
use Rattle.kn_scaling.specs.declared.average.SampleRun.{SampleRun}
use Rattle.kn_scaling.specs.declared.panic.Judged.{Judged}
use Rattle.kn_scaling.specs.declared.zero.Standing.{Standing}
use Rattle.kn_scaling.specs.declared.zero.ZeroAnswer.{ZeroAnswer}
use Rattle.kn_scaling.specs.Average.{Samples, load_over, is_any_sample, is_spell_start, first_write, window_sum, last_sample, window_average, with_run, samples_of}
use Rattle.kn_scaling.specs.Demand.{pods_for, max_scale_up, max_scale_down, count_for, is_over, desired_counts}
use Rattle.kn_scaling.specs.Panic.{is_panicking, panicking_run, greatest_of_run, undelayed_count}
use Rattle.kn_scaling.specs.Delay.{recent_count, delayed_count}
use Rattle.kn_scaling.specs.Burst.{spare_seats, excess_burst, serving_mode}
use Rattle.kn_scaling.specs.Zero.{lower_bound, bounded_count, may_go, zero_rule}
use Rattle.kn_scaling.specs.Decide.{Decided, Past, Ruling, ruling, decision_at, wake_decision_at}

-- a scaled revision of this containerConcurrency, by the default configuration and without annotations
abbrev pub scaled : ℕ → Spec
scaled cc = record (fixed_spec cc 0 300 (record { depth = 10000; max = 1000; seed = 0 })) { kind = kind.Kpa; name = codes "hello-00001" }

abbrev pub fraction : (num den : ℕ) → 0 < den → Frac
fraction num den above_zero = record { num = num; den = den; above_zero = above_zero }

-- an average as definitions make it: this sum over so many seconds, one at least
abbrev pub over_seconds : ℕ → ℕ → Frac
over_seconds sum count = load_over sum (count - 1)

-- numerator and denominator
abbrev pub numbers_of : Option Frac → Option (ℕ × ℕ)
numbers_of average = option_map (λ f. (f.num, f.den)) average

-- so many seconds from the one given on, each with this load
abbrev pub run_of : ℕ → ℕ → ℕ → SampleRun
run_of second count load = record { second = second; count = count; load = load }

-- samples at single seconds, with their loads
abbrev pub samples_at : List (ℕ × ℕ) → Samples
samples_at pairs = samples_of (map (λ p. run_of p.0 1 p.1) pairs)

abbrev pub judged_at : Bool → ℕ → ℕ → ℕ → Judged
judged_at over time stable panic = record {
  time = time;
  counts = record { dspc = 0; dppc = 0; stable_count = stable; panic_count = panic; over = over };
  window_ms = 60000;
}

-- a decision at this time that is over, with its stable and its panic count, and a window of a minute
abbrev pub over_at : ℕ → ℕ → ℕ → Judged
over_at time stable panic = judged_at true time stable panic

-- one that isn't over
abbrev pub calm_at : ℕ → ℕ → ℕ → Judged
calm_at time stable panic = judged_at false time stable panic

-- in this phase and mode since these times, with one pod wanted
abbrev pub standing_at : Phase → ℕ → Mode → ℕ → Standing
standing_at phase phase_since mode mode_since = record { phase = phase; phase_since = phase_since; mode = mode; mode_since = mode_since; want = 1 }

abbrev pub answer : ℕ → Bool → Phase → ZeroAnswer
answer want applied phase = record { want = want; applied = applied; phase = phase }

-- no decision yet; active and through the activator since time 0, with the initial scale reached
abbrev pub first_past : Samples → Past
first_past samples = record { samples = samples; decisions = []; standing = standing_at phase.Active 0 mode.Proxy 0; reached = true }

-- a decision at this time by these averages and Ready pods, that asked for so many pods before the delay; what no later
-- decision reads of it is 0
abbrev pub decided_at : ℕ → ℕ → Frac → Frac → ℕ → Decided
decided_at time ready stable panic undelayed = record {
  time = time;
  decision = record {
    stable = stable;
    panic = panic;
    ready = ready;
    dspc = 0;
    dppc = 0;
    over = false;
    panicking = false;
    undelayed = undelayed;
    delayed = 0;
    excess = pos 0;
    bounded = 0;
    want = 0;
    applied = false;
    mode = mode.Proxy;
  };
}

-- the counts of a decision: undelayed, delayed, bounded, and the pods wanted
abbrev pub pods_of : Option Ruling → Option (ℕ × ℕ × ℕ × ℕ)
pods_of r = option_map (λ x. (x.decision.undelayed, x.decision.delayed, x.decision.bounded, x.decision.want)) r

-- a proof that names this computes a whole decision
unfoldable pub whole_decision : Type 0
unfolding fixed_spec is_any_sample is_spell_start first_write window_sum last_sample window_average with_run samples_of pods_for max_scale_up max_scale_down count_for is_over desired_counts is_panicking panicking_run greatest_of_run undelayed_count recent_count delayed_count spare_seats excess_burst serving_mode lower_bound bounded_count may_go zero_rule ruling decision_at wake_decision_at
whole_decision = ⊤

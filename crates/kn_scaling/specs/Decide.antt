-- A whole decision, from what it looks back on.
use Rattle.std.specs.Prelude.{ℕ, Bool, ◌*◌, List, ◌∷◌, map, Option, None, Some, unwrap_or}
use Rattle.std.proofs.Common.{lit<}
use Rattle.kn_event.specs.declared.units.Frac.{Frac}
use Rattle.kn_event.specs.declared.entry.Phase.{Phase}
use Rattle.kn_event.specs.declared.entry.Decision.{Decision}
use Rattle.kn_event.specs.declared.revision.Spec.{Spec}
use Rattle.kn_scaling.specs.Average.{Samples, second_of, window_average}
use Rattle.kn_scaling.specs.Demand.{desired_counts}
use Rattle.kn_scaling.specs.declared.panic.Judged.{Judged}
use Rattle.kn_scaling.specs.declared.delay.Asked.{Asked}
use Rattle.kn_scaling.specs.declared.zero.Standing.{Standing}
use Rattle.kn_scaling.specs.Panic.{is_panicking, undelayed_count}
use Rattle.kn_scaling.specs.Delay.{delayed_count}
use Rattle.kn_scaling.specs.Burst.{excess_burst, serving_mode}
use Rattle.kn_scaling.specs.Zero.{bounded_count, zero_rule}

pub record Decided : Type 0 where
  pub time : ℕ
  pub decision : Decision

-- what a decision looks back on
pub record Past : Type 0 where
  pub samples : Samples
  pub decisions : List Decided  -- the latest first; a tick without data is none
  pub standing : Standing
  pub reached : Bool  -- as many pods as the initial scale were once Ready

-- a decision, and the phase after it
pub record Ruling : Type 0 where
  pub decision : Decision
  pub phase : Phase

abbrev pub stable_window_ms : Spec → ℕ
stable_window_ms spec = 1000 * spec.stable_s

-- an earlier decision's counts are those of its own averages and Ready pods
abbrev pub judged_of : Spec → Decided → Judged
judged_of spec d = record {
  time = d.time;
  counts = desired_counts spec d.decision.ready d.decision.stable d.decision.panic;
  window_ms = stable_window_ms spec;
}

abbrev pub asked_of : Decided → Asked
asked_of d = record { second = second_of d.time; count = d.decision.undelayed }

-- the decision at this time by these two averages
unfoldable pub ruling : Spec → Past → ℕ → ℕ → Frac → Frac → Ruling
ruling spec past time ready stable panic =
    let counts = desired_counts spec ready stable panic in
    let run = record { time = time; counts = counts; window_ms = stable_window_ms spec } ∷ map (judged_of spec) past.decisions in
    let undelayed = undelayed_count run in
    let delayed = delayed_count spec.delay_s (record { second = second_of time; count = undelayed } ∷ map asked_of past.decisions) in
    let excess = excess_burst ready spec.total spec.burst panic in
    let bounded = bounded_count spec past.reached delayed in
    let answer = zero_rule spec time ready bounded past.standing in
    record {
      decision = record {
        stable = stable;
        panic = panic;
        ready = ready;
        dspc = counts.dspc;
        dppc = counts.dppc;
        over = counts.over;
        panicking = is_panicking run;
        undelayed = undelayed;
        delayed = delayed;
        excess = excess;
        bounded = bounded;
        want = answer.want;
        applied = answer.applied;
        mode = serving_mode answer.want excess answer.phase;
      };
      phase = answer.phase;
    }

-- nothing in the panic window
abbrev pub no_load : Frac
no_load = record { num = 0; den = 1; above_zero = lit< tt }

-- what an arrival that wakes a revision counts as
abbrev pub one_request : Frac
one_request = record { num = 1; den = 1; above_zero = lit< tt }

abbrev pub decision_from_stable : Spec → Past → ℕ → ℕ → Option Frac → Option Ruling
decision_from_stable spec past time ready None = None
decision_from_stable spec past time ready (Some stable) =
    Some (ruling spec past time ready stable (unwrap_or (window_average past.samples spec.panic_s (second_of time)) no_load))

-- a tick's decision at this time with so many Ready pods; none without a sample in the stable window
unfoldable pub decision_at : Spec → Past → ℕ → ℕ → Option Ruling
decision_at spec past time ready = decision_from_stable spec past time ready (window_average past.samples spec.stable_s (second_of time))

-- the decision where a request was admitted while no pod was wanted: one request is taken for both averages
unfoldable pub wake_decision_at : Spec → Past → ℕ → ℕ → Ruling
wake_decision_at spec past time ready = ruling spec past time ready one_request one_request

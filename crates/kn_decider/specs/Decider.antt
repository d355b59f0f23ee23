-- Which past a Decider stands for.
use Rattle.std.specs.Prelude.{◌≡◌, ℕ, Bool, ◌||◌, nat_le, [], ◌∷◌, map, Option, None, Some}
use Rattle.kn_event.specs.declared.revision.Spec.{Spec}
use Rattle.kn_scaling.specs.Average.{no_samples}
use Rattle.kn_scaling.specs.Decide.{Past, Ruling, asked_of, judged_of}
use Rattle.kn_scaling.specs.declared.zero.Standing.{Standing}
use Rattle.kn_window.specs.Stands.{WindowState, IsWindowOf}
use Rattle.kn_panic.specs.Stands.{PanicState, IsPanicOf}
use Rattle.kn_delay.specs.Stands.{DelayState, IsDelayOf}
use Rattle.kn_zero.specs.Zero.{ZeroState, opening_standing, with_answer, with_mode, with_ready_pod}
use Rattle.kn_decider.specs.Closing.{below}

pub record DeciderState : Type 0 where
  pub spec : Spec
  pub stable : WindowState
  pub panic_window : WindowState
  pub panic : PanicState
  pub delay : DelayState
  pub zero : ZeroState
  pub reached : Bool

-- it stands for this past, of whose samples it has those below this second
pub record IsDeciderOf (d : DeciderState) (past : Past) (until : ℕ) : Type 0 where
  pub stable : IsWindowOf d.stable (below until past.samples)
  pub panic_window : IsWindowOf d.panic_window (below until past.samples)
  pub panic : IsPanicOf d.panic (map (judged_of d.spec) past.decisions)
  pub delay : IsDelayOf d.delay (map asked_of past.decisions)
  pub standing : d.zero.standing ≡ past.standing
  pub reached : d.reached ≡ past.reached

-- ---- how a past goes on

-- before the first event: the initial scale is reached where it is 0
abbrev pub opening_past : Spec → ℕ → Past
opening_past spec start = record {
  samples = no_samples;
  decisions = [];
  standing = opening_standing spec start;
  reached = nat_le spec.initial 0;
}

-- where the revision stands after a decision
abbrev pub standing_after : ℕ → Ruling → Standing → Standing
standing_after time r standing = with_mode time r.decision.mode (with_answer time (record { want = r.decision.want; applied = r.decision.applied; phase = r.phase }) standing)

-- with this decision at this time
abbrev pub with_ruling : ℕ → Ruling → Past → Past
with_ruling time r past = record past {
  decisions = record { time = time; decision = r.decision } ∷ past.decisions;
  standing = standing_after time r past.standing;
}

-- a tick without data changes nothing
abbrev pub with_tick : ℕ → Option Ruling → Past → Past
with_tick time None past = past
with_tick time (Some r) past = with_ruling time r past

-- a pod is Ready, as so many are now
abbrev pub with_ready : Spec → ℕ → ℕ → Past → Past
with_ready spec time ready past = record past {
  standing = with_ready_pod time past.standing;
  reached = past.reached || nat_le spec.initial ready;
}

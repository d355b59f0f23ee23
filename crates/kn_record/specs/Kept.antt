-- What proper rows keep true of a trace all along, and what is so of a request in one of its views.
use Rattle.std.specs.Prelude.{◌≡◌, ℕ, ◌≤◌, true, false, []}
use Rattle.kn_event.specs.declared.event.Act.{Act}
use Rattle.kn_event.specs.declared.event.Act.TheVariants as act
use Rattle.kn_event.specs.declared.revision.Spec.{Spec}
use Rattle.kn_event.specs.Revision.{AreInRange}
use Rattle.kn_event.specs.Lists.{contains}
use Rattle.kn_scaling.specs.Zero.{pods_most}
use Rattle.kn_trace.specs.Rows.{admitted_by}
use Rattle.kn_trace.specs.Trace.{Trace, assigned, at_pod, each_row, ended, has_run, live_pods}
use Rattle.kn_trace.specs.Scale.{wanted}
use Rattle.kn_record.specs.Made.{ArePodsNumbered, IsNumbered}

-- a request's pod is live
abbrev pub AreHoused : Trace → Type 0
AreHoused c = (p r : ℕ) → contains r (at_pod c p) ≡ true → contains p (live_pods c) ≡ true

pub record Kept (s : Spec) (c : Trace) : Type 0 where
  pub requests : IsNumbered c
  pub pods : ArePodsNumbered c
  pub homes : AreHoused c
  -- no more pods are wanted than a revision may have
  pub wants : AreInRange s → wanted s c ≤ pods_most

-- the pod that the act loses has no request any more
abbrev pub IsCleared : Trace → Act → Type 0
IsCleared c a = (p : ℕ) → a ≡ act.Lost p → contains p (live_pods c) ≡ true → at_pod c p ≡ []

-- the request has neither begun nor ended
pub record IsIdle (c : Trace) (r : ℕ) : Type 0 where
  pub assigned : assigned c r ≡ false
  pub run : has_run c r ≡ false
  pub ended : ended c r ≡ false

-- it was admitted, and is neither assigned nor ended
pub record IsHeldMember (c : Trace) (r : ℕ) : Type 0 where
  pub admitted : contains r (each_row admitted_by c) ≡ true
  pub assigned : assigned c r ≡ false
  pub ended : ended c r ≡ false

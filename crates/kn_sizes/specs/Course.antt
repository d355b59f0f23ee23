-- How one request goes on.
use Rattle.std.specs.Prelude.{◌≡◌, ◌≤◌, ◌⊎◌, ◌↔◌, ℕ, Bool, true, false, Option, None, Some}
use Rattle.kn_event.specs.declared.event.Act.{Act}
use Rattle.kn_event.specs.declared.event.Act.TheVariants as act
use Rattle.kn_event.specs.declared.event.Stand.{Stand}
use Rattle.kn_event.specs.declared.event.Stand.TheVariants as stand
use Rattle.kn_event.specs.Lists.{contains}
use Rattle.kn_trace.specs.Outcome.{Expired, Cancelled, Finished, outcome_of}
use Rattle.kn_trace.specs.Trace.{Trace, arrivals, is_running, pod_of, stand_of, waiting}

-- it waits, or runs, or it expired or was cancelled: nobody finished it, and it was not lost
abbrev pub IsUnfinished : Trace → ℕ → Type 0
IsUnfinished c r = (contains r (waiting c) ≡ true) ⊎ ((is_running c r ≡ true) ⊎ ((outcome_of c r ≡ Some Expired) ⊎ (outcome_of c r ≡ Some Cancelled)))

-- the act finishes the request, or loses its pod
abbrev pub MayEnd : ℕ → Option ℕ → Act → Type 0
MayEnd r pod a = ((ok : Bool) × (a ≡ act.Finish r ok)) ⊎ ((p : ℕ) × (pod ≡ Some p) × (a ≡ act.Lost p))

-- the request has ended, finished so
pub record HasFinished (c : Trace) (r : ℕ) (ok : Bool) : Type 0 where
  pub stands : stand_of c r ≡ stand.Ended
  pub runs : is_running c r ≡ false
  pub outcome : outcome_of c r ≡ Some (Finished ok)

-- ---- what a stand says of its request

abbrev pub waits_by : Stand → Bool
waits_by stand.Held = true
waits_by (stand.Queued p) = true
waits_by _ = false

abbrev pub runs_by : Stand → Bool
runs_by (stand.Running p) = true
runs_by _ = false

abbrev pub pod_by_stand : Stand → Option ℕ
pod_by_stand (stand.Queued p) = Some p
pod_by_stand (stand.Running p) = Some p
pod_by_stand _ = None

-- a request stands unknown exactly where it has still to come, waits and runs where its stand says so, and is at the pod
-- that its stand names
pub record IsToldByStand (c : Trace) (r : ℕ) : Type 0 where
  pub unknown : (stand_of c r ≡ stand.Unknown) ↔ (arrivals c ≤ r)
  pub waits : contains r (waiting c) ≡ waits_by (stand_of c r)
  pub runs : is_running c r ≡ runs_by (stand_of c r)
  pub pod : (p : ℕ) → pod_by_stand (stand_of c r) ≡ Some p → pod_of c r ≡ Some p

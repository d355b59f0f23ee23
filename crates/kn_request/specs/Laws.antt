-- What a server needs to know of one request, of each trace that events made.
use Rattle.std.specs.Prelude.{◌≡◌, ◌≢◌, ℕ, Bool, true, false, ◌||◌, ◌++◌, Option, Some}
use Rattle.kn_event.specs.declared.event.Act.{Act}
use Rattle.kn_event.specs.declared.event.Act.TheVariants as act
use Rattle.kn_event.specs.declared.event.Event.{Event}
use Rattle.kn_event.specs.declared.event.Stand.{Stand}
use Rattle.kn_event.specs.declared.event.Stand.TheVariants as stand
use Rattle.kn_event.specs.declared.revision.Spec.{Spec}
use Rattle.kn_trace.specs.Events.{need_of, react}
use Rattle.kn_trace.specs.Outcome.{Outcome, Expired, Cancelled, Finished, outcome_of}
use Rattle.kn_trace.specs.Trace.{Trace, stand_of}
use Rattle.kn_record.specs.Made.{IsMade}
use Rattle.kn_sizes.specs.Course.{runs_by, waits_by}
use Rattle.kn_sizes.specs.Told.{IsTold}
use Rattle.kn_core.specs.State.{RevisionState, StandsFor}

-- some events made the trace
abbrev pub Made : Spec → Trace → Type 0
Made s c = ∥ IsMade s c ∥₁

-- it expired, or was cancelled
abbrev pub is_lapsed : Option Outcome → Bool
is_lapsed (Some Expired) = true
is_lapsed (Some Cancelled) = true
is_lapsed _ = false

-- it waits, runs, or lapsed: nobody finished it, and it was not lost
abbrev pub is_left : Stand → Option Outcome → Bool
is_left s o = waits_by s || (runs_by s || is_lapsed o)

-- the act neither finishes the request nor loses a pod
pub record Spares (r : ℕ) (a : Act) : Type 0 where
  pub runs : (ok : Bool) → a ≢ act.Finish r ok
  pub pods : (p : ℕ) → a ≢ act.Lost p

pub record RequestLaws : Type 0 where
  pub made : (b : RevisionState) (c : Trace) → StandsFor b c → Made b.spec c
  pub keeps : (s : Spec) (c : Trace) (e : Event) → Made s c → Made s (c ++ react s c e)
  pub told : (s : Spec) (c : Trace) (e : Event) (tag : ℕ) → Made s c → e.act ≡ act.Arrive tag → ∥ IsTold s c e ∥₁
  pub known : (s : Spec) (c : Trace) (e : Event) (r : ℕ) → Made s c → stand_of c r ≢ stand.Unknown → stand_of (c ++ react s c e) r ≢ stand.Unknown
  pub waits : (s : Spec) (c : Trace) (e : Event) (r : ℕ) → Made s c → stand_of c r ≢ stand.Unknown → waits_by (stand_of c r) ≡ false → waits_by (stand_of (c ++ react s c e) r) ≡ false
  pub cancelled : (s : Spec) (c : Trace) (e : Event) (r : ℕ) → Made s c → e.act ≡ act.Cancel r → waits_by (stand_of (c ++ react s c e) r) ≡ false
  pub goes_on : (s : Spec) (c : Trace) (e : Event) (r : ℕ) → Made s c → Spares r e.act → is_left (stand_of c r) (outcome_of c r) ≡ true
      → is_left (stand_of (c ++ react s c e) r) (outcome_of (c ++ react s c e) r) ≡ true
  pub runs : (s : Spec) (c : Trace) (e : Event) (r : ℕ) → Made s c → Spares r e.act → runs_by (stand_of c r) ≡ true → runs_by (stand_of (c ++ react s c e) r) ≡ true
  pub ends : (s : Spec) (c : Trace) (e : Event) (r : ℕ) (ok : Bool) → Made s c → e.act ≡ act.Finish r ok → runs_by (stand_of c r) ≡ true
      → (stand_of (c ++ react s c e) r ≡ stand.Ended) × (outcome_of (c ++ react s c e) r ≡ Some (Finished ok))
  pub cancel_need : (s : Spec) (c : Trace) (r : ℕ) → Made s c → waits_by (stand_of c r) ≡ true → need_of c (act.Cancel r) ≡ 0
  pub finish_need : (s : Spec) (c : Trace) (r : ℕ) (ok : Bool) → Made s c → runs_by (stand_of c r) ≡ true → need_of c (act.Finish r ok) ≡ 0

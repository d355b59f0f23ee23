-- What became of a request.
use Rattle.std.specs.Prelude.{◌≡◌, ◌⊎◌, ◌≤◌, ◌+◌, ◌^◌, ◌||◌, ℕ, [], ◌∷◌, ◌++◌, Option, Some, Ok, Err, min, true, false}
use Rattle.kn_event.specs.declared.event.Act.TheVariants as act
use Rattle.kn_event.specs.declared.event.Stand.{Stand}
use Rattle.kn_event.specs.declared.event.Stand.TheVariants as stand
use Rattle.kn_event.specs.declared.event.Told.{Told}
use Rattle.kn_trace.specs.Outcome.{Outcome, Refused, Overload}
use Rattle.kn_trace.specs.Trace.{Trace, stand_of}
use Rattle.kn_sizes.specs.Told.{arrival_told, outcome_told, stand_told}
use Rattle.kn_sizes.specs.Course.{runs_by, waits_by}
use Rattle.kn_core.specs.State.{StandsFor}
use Rattle.kn_cell.specs.Shown.{PassView, Looks, Misfits}
use Rattle.kn_io.specs.Causes.{Rose}
use Rattle.kn_io.specs.Links.{Link}
use Rattle.kn_io.specs.declared.links.LinkError.TheVariants as link
use Rattle.kn_head.specs.declared.head.Head.{Head}
use Rattle.kn_request.specs.declared.meant.Meant.{Meant}
use Rattle.kn_request.specs.declared.meant.Meant.TheVariants as meant
use Rattle.kn_request.specs.declared.wait.Waited.{Waited}
use Rattle.kn_request.specs.declared.wait.Waited.TheVariants as waited
use Rattle.kn_request.specs.Sight.{EndsBy, IsLeft, RunsAt, StandsAt, sight}
use Rattle.kn_request.specs.Terms.{MayCancel, Terms}
use Rattle.kn_request.specs.Requests.{Recorded, WasLost, WasRun}

-- ---- waiting

-- what was found
abbrev pub IsFound : Terms → ℕ → PassView → ℕ → Waited → Type 0
IsFound terms due p r (waited.Runs x) = RunsAt p r x
IsFound terms due p r waited.Ended = StandsAt p r stand.Ended
IsFound terms due p r (waited.GivenUp now) = MayCancel terms due now × terms.reading now

abbrev pub IsWaitingNoMore : PassView → ℕ → Type 0
IsWaitingNoMore p r = (c : Trace) → StandsFor p.opening c → waits_by (stand_of (sight p c) r) ≡ false

-- ---- the whole of it

-- what became of a request after its arrival, by what is meant to be answered
abbrev pub IsCourse : Terms → ℕ → Head → ℕ → PassView → PassView → Option Link → Option Link → Meant → Type 0
IsCourse terms due head r old new wire wire' (meant.Reply text) = WasRun terms due head r old new wire wire' (Ok text)
IsCourse terms due head r old new wire wire' meant.LinkFault = WasRun terms due head r old new wire wire' (Err link.Failed)
IsCourse terms due head r old new wire wire' meant.Memory = WasRun terms due head r old new wire wire' (Err link.Memory)
IsCourse terms due head r old new wire wire' meant.Expired = (wire' ≡ wire) × WasLost terms due r old new
IsCourse terms due head r old new wire wire' meant.QueueFull = ⊥
IsCourse terms due head r old new wire wire' meant.Overload = ⊥
IsCourse terms due head r old new wire wire' (meant.Full f) = ⊥

-- a fault of the link has its cause
abbrev pub MeantCause : ℕ → ℕ → Meant → Type 0
MeantCause before now meant.LinkFault = (before ≤ now) × Rose before now
MeantCause before now _ = before ≤ now

-- which outcome a refusal is
abbrev pub IsRefusedBy : Outcome → Meant → Type 0
IsRefusedBy Refused m = m ≡ meant.QueueFull
IsRefusedBy Overload m = m ≡ meant.Overload
IsRefusedBy _ m = ⊥

-- an arrival was told so: the request was taken in, and waits or runs
abbrev pub IsTakenIn : Told → ℕ → Type 0
IsTakenIn x r = (s : Stand) × (arrival_told x ≡ Some r) × (stand_told x ≡ Some s) × ((waits_by s || runs_by s) ≡ true)

-- an arrival was told so: the request was refused, by this outcome
abbrev pub IsTurnedAway : Told → Meant → Type 0
IsTurnedAway x m =
    (r : ℕ) × (o : Outcome) × (arrival_told x ≡ Some r) × (stand_told x ≡ Some stand.Ended) × (outcome_told x ≡ Some o)
    × IsRefusedBy o m

-- the arrival was refused: it is answered so, and nothing else happens
pub record IsRefused (r : ℕ) (new mid : PassView) (wire wire' : Option Link) (m : Meant) : Type 0 where
  pub outcome : Outcome
  pub is : IsRefusedBy outcome m
  pub same : new ≡ mid
  pub unused : wire' ≡ wire
  pub ended : StandsAt new r stand.Ended
  pub by : EndsBy new r (λ o. o ≡ Some outcome)

-- the request was taken in, and went its way
pub record IsTaken (terms : Terms) (due : ℕ) (head : Head) (r : ℕ) (mid new : PassView) (wire wire' : Option Link) (m : Meant) : Type 0 where
  pub taken : IsLeft mid r
  pub course : IsCourse terms due head r mid new wire wire' m

-- the arrival was recorded, and then it was refused, or went its way. `mid` is the pass just after the arrival
pub record HasArrived (terms : Terms) (timeout tag : ℕ) (head : Head) (old new : PassView) (wire wire' : Option Link) (m : Meant) : Type 0 where
  pub mid : PassView
  pub before : Looks old mid
  pub since : (new ≡ mid) ⊎ Looks mid new
  pub arrive : Recorded terms.reading mid (act.Arrive tag)
  pub mine : mid.mine ≡ old.mine ++ arrive.row ∷ []
  pub number : ℕ
  pub named : arrival_told arrive.row.told ≡ Some number
  pub way : IsRefused number new mid wire wire' m ⊎ IsTaken terms (min arrive.at (2 ^ 42) + timeout) head number mid new wire wire' m

-- what one request came to: there was no room for its arrival, or it arrived
abbrev pub IsServed : Terms → ℕ → ℕ → Head → PassView → PassView → Option Link → Option Link → Meant → Type 0
IsServed terms timeout tag head old new wire wire' (meant.Full f) = Misfits old (act.Arrive tag) f new × (wire' ≡ wire)
IsServed terms timeout tag head old new wire wire' m = HasArrived terms timeout tag head old new wire wire' m

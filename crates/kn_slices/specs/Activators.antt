-- What a group sees of an activator: its limit at a pod, and how many of its requests run there.
use Rattle.std.specs.Prelude.{◌≡◌, ℕ, ◌+◌, ◌<◌, ◌≤◌, max, Bool, true, List, [], map, length, slice_index_or, slice_set, ⊤}
use Rattle.std.specs.List.{range_with_len}
use Rattle.kn_event.specs.FixedSpec.{fixed_spec}
use Rattle.kn_event.specs.declared.event.Act.{Act}
use Rattle.kn_event.specs.declared.event.Act.TheVariants as act
use Rattle.kn_event.specs.declared.event.Event.{Event}
use Rattle.kn_event.specs.declared.event.Stand.TheVariants as stand
use Rattle.kn_event.specs.declared.revision.Kind.TheVariants as kind
use Rattle.kn_event.specs.declared.revision.Slots.{Slots}
use Rattle.kn_event.specs.declared.revision.Spec.{Spec}
use Rattle.kn_event.specs.Lists.{EachIs, contains}
use Rattle.kn_trace.specs.Events.{opening}
use Rattle.kn_trace.specs.Trace.{Trace, stand_of}
use Rattle.kn_record.specs.Admission.{is_draining_now, placed_in, pods_in, runs_at}
use Rattle.kn_record.specs.Views.{pod_numbers}
use Rattle.kn_throttle.specs.Gauges.{limit_in}
use Rattle.kn_core.specs.State.{RevisionState, StandsFor}
use Rattle.kn_slices.specs.Group.{IsGroup}
use Rattle.kn_slices.specs.Slices.{hold, slice_of, unset_at}

abbrev pub limit_at : ℕ → RevisionState → ℕ
limit_at p x = limit_in p x.parts.throttle.admission.pods

abbrev pub running_at : ℕ → RevisionState → ℕ
running_at p x = length (placed_in (runs_at p) x.parts.throttle.admission.live)

-- the pod is there
abbrev pub HasPod : ℕ → RevisionState → Type 0
HasPod p x = contains p (pod_numbers x.parts.throttle.admission.pods) ≡ true

-- so many pods are there, and none drains
pub record HasPods (pods : ℕ) (x : RevisionState) : Type 0 where
  pub numbers : pod_numbers x.parts.throttle.admission.pods ≡ range_with_len 0 pods
  pub none : pods_in is_draining_now x.parts.throttle.admission.pods ≡ []

-- the event neither sets the pod's limit nor finishes a request there
pub record SparesPod (p : ℕ) (e : Event) (x : RevisionState) : Type 0 where
  pub limit : (n : ℕ) → e.act ≡ act.Limit p n → ⊥
  pub finish : (c : Trace) (r : ℕ) (ok : Bool) → StandsFor x c → e.act ≡ act.Finish r ok → stand_of c r ≡ stand.Running p → ⊥

-- what an event that loses no pod does to an activator: the same pods are there, no limit changes but the one that it sets, and
-- at no pod more run than before, or than its limit
pub record Goes (pods : ℕ) (e : Event) (x y : RevisionState) : Type 0 where
  pub has : HasPods pods y
  pub others : (q : ℕ) → q < pods → ((n : ℕ) → e.act ≡ act.Limit q n → ⊥) → limit_at q y ≡ limit_at q x
  pub here : (q n : ℕ) → q < pods → e.act ≡ act.Limit q n → limit_at q y ≡ n
  pub runs : (q : ℕ) → q < pods → 1 ≤ limit_at q y → running_at q y ≤ max (running_at q x) (limit_at q y)
  -- .. nor less at one that it spares
  pub stays : (q : ℕ) → q < pods → SparesPod q e x → running_at q x ≤ running_at q y

-- an activator of a group: a fixed revision with these pods, each with a limit
pub record IsActivator (pods : ℕ) (x : RevisionState) : Type 0 where
  pub fixed : x.spec.kind ≡ kind.Fixed pods
  pub has : HasPods pods x
  pub limits : (q : ℕ) → q < pods → 1 ≤ limit_at q x

-- the activators, and each pod's part of the group
pub record IsGroupOf (parts : List RevisionState) (wanted force : List ℕ) : Type 0 where
  pub group : IsGroup limit_at running_at parts wanted force
  pub activators : EachIs (IsActivator (length wanted)) parts

-- each activator's limit is its slice
abbrev pub AreSliced : List RevisionState → List ℕ → Type 0
AreSliced parts wanted = (p i : ℕ) (d : RevisionState) → p < length wanted → i < length parts → limit_at p (slice_index_or parts i d) ≡ slice_of (slice_index_or wanted p 0) i (length parts)

-- what is kept beside them: of each pod for how many activators its limit isn't their slice
pub record AreMarked (parts : List RevisionState) (wanted marks : List ℕ) : Type 0 where
  pub many : length marks ≡ length wanted
  pub each : (p : ℕ) → p < length wanted → slice_index_or marks p 0 ≡ unset_at (limit_at p) (length parts) (slice_index_or wanted p 0) parts

-- neither a limit, nor a tick, nor a loss
abbrev pub IsPlain : Act → Type 0
IsPlain (act.Limit p n) = ⊥
IsPlain act.Tick = ⊥
IsPlain (act.Lost p) = ⊥
IsPlain _ = ⊤

-- whatever the event makes of activator i, what is held stays within what is in force
abbrev pub StaysLow : List RevisionState → List ℕ → List ℕ → ℕ → Event → Type 0
StaysLow parts wanted force i e = (d y : RevisionState) → Goes (length wanted) e (slice_index_or parts i d) y → (q : ℕ) → q < length wanted → hold (limit_at q) (running_at q) (slice_set parts i y) ≤ slice_index_or force q 0

-- the specifications of n activators whose pods have this limit in all
abbrev pub slices_of : ℕ → ℕ → ℕ → ℕ → Slots → List Spec
slices_of n limit pods timeout_s slots = map (λ i. fixed_spec (slice_of limit i n) pods timeout_s slots) (range_with_len 0 n)

-- and their openings
abbrev pub openings_of : ℕ → ℕ → ℕ → ℕ → Slots → ℕ → List Trace
openings_of n limit pods timeout_s slots start = map (λ i. opening (fixed_spec (slice_of limit i n) pods timeout_s slots) start) (range_with_len 0 n)

-- an activator takes an event, and no other changes
pub record Takes (pods i : ℕ) (e : Event) (parts new : List RevisionState) : Type 0 where
  pub part : RevisionState
  pub changed : new ≡ slice_set parts i part
  pub goes : (d : RevisionState) → Goes pods e (slice_index_or parts i d) part
  pub spec : (d : RevisionState) → part.spec ≡ (slice_index_or parts i d).spec
  pub start : (d : RevisionState) → part.start ≡ (slice_index_or parts i d).start
  pub clock : part.clock ≡ e.time
  pub events : (d : RevisionState) → part.events ≡ (slice_index_or parts i d).events + 1

-- each activator has its slice of the limit, and opened at the start
pub record AreOpened (limit start : ℕ) (parts : List RevisionState) : Type 0 where
  pub least : length parts ≤ limit
  pub slices : (i : ℕ) (d : RevisionState) → i < length parts → (slice_index_or parts i d).spec.cc ≡ slice_of limit i (length parts)
  pub starts : (i : ℕ) (d : RevisionState) → i < length parts → (slice_index_or parts i d).start ≡ start

-- no place of the list has the pod
abbrev pub IsOff : ℕ → List ℕ → Type 0
IsOff p ps = (k : ℕ) → k < length ps → slice_index_or ps k 0 ≡ p → ⊥

-- each is above those before it
abbrev pub Ascends : List ℕ → Type 0
Ascends ps = (i j : ℕ) → i < j → j < length ps → slice_index_or ps i 0 < slice_index_or ps j 0

-- some of so many pods, in order
pub record AreListed (pods : ℕ) (ps : List ℕ) : Type 0 where
  pub inside : (k : ℕ) → k < length ps → slice_index_or ps k 0 < pods
  pub order : Ascends ps

-- of each pod that isn't listed the wanted limit is in force
abbrev pub AreInForce : List ℕ → List ℕ → List ℕ → Type 0
AreInForce wanted force ps = (p : ℕ) → p < length wanted → IsOff p ps → slice_index_or force p 0 ≡ slice_index_or wanted p 0

-- of a pod: no activator's limit isn't its slice, by the marks, and the wanted limit is in force
abbrev pub IsClosed : List ℕ → List ℕ → List ℕ → ℕ → Type 0
IsClosed wanted force marks p = (slice_index_or marks p 0 ≡ 0) × (slice_index_or force p 0 ≡ slice_index_or wanted p 0)

-- so it is of each that is listed
abbrev pub AreClosed : List ℕ → List ℕ → List ℕ → List ℕ → Type 0
AreClosed wanted force marks ps = (k : ℕ) → k < length ps → IsClosed wanted force marks (slice_index_or ps k 0)

-- a list of the pods that may be open: each other pod is closed
pub record AreOpen (wanted force marks ps : List ℕ) : Type 0 where
  pub listed : AreListed (length wanted) ps
  pub others : (p : ℕ) → p < length wanted → IsOff p ps → IsClosed wanted force marks p

-- a list of the pods that may have a mark: no other of so many has one, and there is room for all
pub record HoldMarks (pods : ℕ) (marks ps : List ℕ) (room : ℕ) : Type 0 where
  pub listed : AreListed pods ps
  pub others : (p : ℕ) → p < pods → IsOff p ps → slice_index_or marks p 0 ≡ 0
  pub roomy : pods ≤ room

-- what is kept of a group
pub record IsKept (limit start : ℕ) (parts : List RevisionState) (wanted force marks ps ms : List ℕ) (room more : ℕ) : Type 0 where
  pub group : IsGroupOf parts wanted force
  pub marked : AreMarked parts wanted marks
  pub opened : AreOpened limit start parts
  pub kept : AreOpen wanted force marks ps
  pub roomy : length wanted ≤ room
  pub holds : HoldMarks (length wanted) marks ms more

-- an activator whose pods have this specification's limit, and at which nobody runs
pub record IsOpen (s : Spec) (pods : ℕ) (x : RevisionState) : Type 0 where
  pub part : IsActivator pods x
  pub limits : (q : ℕ) → q < pods → limit_at q x ≡ s.cc
  pub runs : (q : ℕ) → running_at q x ≡ 0

-- an activator at its opening, of this specification
pub record IsFresh (s : Spec) (pods begin : ℕ) (x : RevisionState) : Type 0 where
  pub spec : x.spec ≡ s
  pub start : x.start ≡ begin
  pub clock : x.clock ≡ begin
  pub events : x.events ≡ 0
  pub stands : StandsFor x (opening s begin)
  pub is_open : IsOpen s pods x

-- n of them, each with its slice of the limit
pub record AreFresh (n limit pods timeout_s : ℕ) (slots : Slots) (start : ℕ) (parts : List RevisionState) : Type 0 where
  pub count : length parts ≡ n
  pub each : (i : ℕ) (d : RevisionState) → i < n → IsFresh (fixed_spec (slice_of limit i n) pods timeout_s slots) pods start (slice_index_or parts i d)

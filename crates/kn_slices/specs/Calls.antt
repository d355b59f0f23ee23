-- What the calls of a group need, add and keep.
use Rattle.std.specs.Prelude.{◌≡◌, ℕ, ◌+◌, ◌<◌, ◌≤◌, ◌^◌, ◌++◌, max, List, length, replicate, slice_index_or, slice_set, Option, None, Some}
use Rattle.kn_event.specs.Ranges.{AreSlots}
use Rattle.kn_event.specs.declared.entry.Entry.{Entry}
use Rattle.kn_event.specs.declared.event.Act.{Act}
use Rattle.kn_event.specs.declared.event.Act.TheVariants as act
use Rattle.kn_event.specs.declared.event.Event.{Event}
use Rattle.kn_event.specs.declared.event.Told.{Told}
use Rattle.kn_event.specs.declared.revision.Kind.TheVariants as kind
use Rattle.kn_event.specs.declared.revision.Slots.{Slots}
use Rattle.kn_event.specs.declared.revision.Spec.{Spec}
use Rattle.kn_event.specs.Lists.{EachIs}
use Rattle.kn_trace.specs.Events.{opening, react, told_of}
use Rattle.kn_trace.specs.Trace.{Trace}
use Rattle.kn_core.specs.State.{RevisionState, StandsFor, StandsForSome}
use Rattle.kn_core.specs.Steps.{IsWithinRange}
use Rattle.kn_slices.specs.Activators.{AreInForce, AreListed, Goes, HasPods, IsActivator, limit_at, openings_of, running_at, slices_of}
use Rattle.kn_slices.specs.Slices.{force_after, hold}
use Rattle.kn_slices.specs.declared.change.Change.{Change}
use Rattle.kn_slices.specs.Traces.{AreLawful, AreSafe, AreTraces, GroupState, IsSameGroup, clocks_of, counts_of, due_of, forces_by, limit_by, load_of, made_at, part_at, rows_of, running_by, specs_of, trace_at, traces_after, unset_of}

-- ---- one activator

-- it can take the event, which loses no pod and sets no limit above 1,000
pub record CanStep (x : RevisionState) (e : Event) : Type 0 where
  pub order : x.clock ≤ e.time
  pub times : e.time ≤ 2 ^ 42
  pub count : x.events < 2 ^ 54
  pub range : IsWithinRange e.act
  pub lost : (p : ℕ) → e.act ≡ act.Lost p → ⊥

-- it took the event: these rows are what that adds to its trace
pub record StepsPart (old new : RevisionState) (e : Event) (rows : List Entry) : Type 0 where
  pub logged : (c : Trace) → StandsFor old c → rows ≡ react old.spec c e
  pub stands : (c : Trace) → StandsFor old c → StandsFor new (c ++ react old.spec c e)
  -- .. and a group sees no more of it than this
  pub goes : (pods : ℕ) → IsActivator pods old → Goes pods e old new
  pub spec : new.spec ≡ old.spec
  pub start : new.start ≡ old.start
  pub clock : new.clock ≡ e.time
  pub events : new.events ≡ old.events + 1

-- one with these pods stands for some trace, and an event that loses none made of it what it adds there
pub record IsChangedBy (pods : ℕ) (e : Event) (old new : RevisionState) : Type 0 where
  pub some : StandsForSome old
  pub fixed : old.spec.kind ≡ kind.Fixed pods
  pub has : HasPods pods old
  pub spec : new.spec ≡ old.spec
  pub lost : (p : ℕ) → e.act ≡ act.Lost p → ⊥
  pub stands : (c : Trace) → StandsFor old c → StandsFor new (c ++ react old.spec c e)

-- one of this specification, with these pods, stands for its opening
pub record OpensWith (s : Spec) (pods begin : ℕ) (x : RevisionState) : Type 0 where
  pub fixed : s.kind ≡ kind.Fixed pods
  pub least : 1 ≤ s.cc
  pub spec : x.spec ≡ s
  pub stands : StandsFor x (opening s begin)

-- ---- the activators of a group

-- activator i is there, and an event can come to it
pub record CanCome (parts : List RevisionState) (i : ℕ) (e : Event) : Type 0 where
  pub part : i < length parts
  pub order : (d : RevisionState) → (slice_index_or parts i d).clock ≤ e.time
  pub times : e.time ≤ 2 ^ 42
  pub count : (d : RevisionState) → (slice_index_or parts i d).events < 2 ^ 54

-- an act that a group passes on: it loses no pod, and a limit that it sets is from 1 to 1,000
pub record IsGroupAct (a : Act) : Type 0 where
  pub range : IsWithinRange a
  pub lost : (p : ℕ) → a ≡ act.Lost p → ⊥
  pub some : (q n : ℕ) → a ≡ act.Limit q n → 1 ≤ n

-- these pods are in order, and of all others the wanted limit is in force
pub record HasOthersInForce (wanted force ps : List ℕ) : Type 0 where
  pub listed : AreListed (length wanted) ps
  pub others : AreInForce wanted force ps

-- these rows are what the event adds to activator i's trace, and there are as many activators as before
pub record AddsToTrace (old new : List RevisionState) (i : ℕ) (e : Event) (rows : List Entry) : Type 0 where
  pub logged : (d : RevisionState) (c : Trace) → StandsFor (slice_index_or old i d) c → rows ≡ react (slice_index_or old i d).spec c e
  pub stands : (d : RevisionState) (c : Trace) → StandsFor (slice_index_or old i d) c
      → StandsFor (slice_index_or new i d) (c ++ react (slice_index_or old i d).spec c e)
  pub same : length new ≡ length old

-- this is what activator i is told of the event
abbrev pub IsToldAt : List RevisionState → ℕ → Event → Told → Type 0
IsToldAt parts i e told =
    (d : RevisionState) (c : Trace) → StandsFor (slice_index_or parts i d) c → told ≡ told_of (slice_index_or parts i d).spec c e

-- the limits in force after a call, by what these activators hold
pub record AreForcesAfter (parts : List RevisionState) (wanted old new : List ℕ) : Type 0 where
  pub many : length new ≡ length old
  pub each : (p : ℕ) → p < length wanted
      → slice_index_or new p 0 ≡ force_after (hold (limit_at p) (running_at p) parts) (slice_index_or wanted p 0) (slice_index_or old p 0)

-- of all pods but this one they stay
abbrev pub AreForcesBut : Option ℕ → List RevisionState → List ℕ → List ℕ → Type 0
AreForcesBut changed parts wanted force = (p : ℕ) → p < length wanted → (changed ≡ Some p → ⊥)
    → slice_index_or force p 0 ≡ force_after (hold (limit_at p) (running_at p) parts) (slice_index_or wanted p 0) (slice_index_or force p 0)

-- ---- a group, whichever traces its activators stand for

-- its rules: of each pod no more run than the limit in force, and each trace is lawful
pub record HoldsRules (g : GroupState) : Type 0 where
  pub safe : AreSafe g
  pub lawful : AreLawful g

-- activator i took the event: these rows are what that adds to its trace
pub record StepsGroup (old new : GroupState) (i : ℕ) (e : Event) (rows : List Entry) : Type 0 where
  pub logged : (cs : List Trace) (d : RevisionState) → AreTraces old.parts cs → rows ≡ rows_of old cs i d e
  pub stands : (cs : List Trace) (d : RevisionState) → AreTraces old.parts cs → AreTraces new.parts (traces_after old cs i d e)
  pub clocks : clocks_of new.parts ≡ slice_set (clocks_of old.parts) i e.time
  pub counts : (d : RevisionState) → counts_of new.parts ≡ slice_set (counts_of old.parts) i ((part_at old i d).events + 1)

-- this is what activator i is told of the event
abbrev pub IsToldBy : GroupState → ℕ → Event → Told → Type 0
IsToldBy g i e told = (cs : List Trace) (d : RevisionState) → AreTraces g.parts cs → told ≡ told_of (part_at g i d).spec (trace_at cs i) e

-- what each activator is stays, and which limits are wanted; those in force are by what is held then
pub record KeepsWanted (old new : GroupState) : Type 0 where
  pub same : IsSameGroup old new
  pub wanted : new.wanted ≡ old.wanted
  pub force : (cs : List Trace) → AreTraces new.parts cs → new.force ≡ forces_by cs old.wanted old.force

-- of each activator as many limits as before aren't its slice
abbrev pub KeepsUnset : GroupState → GroupState → Type 0
KeepsUnset old new = (j : ℕ) (d : RevisionState) → j < length old.parts → unset_of new j d ≡ unset_of old j d

-- .. with its events
abbrev pub KeepsLoad : GroupState → GroupState → Type 0
KeepsLoad old new = (j : ℕ) (d : RevisionState) → j < length old.parts → load_of new j d ≡ load_of old j d

-- ---- the due change

-- a change is due, and can be made at this time
pub record CanMakeDue (g : GroupState) (time : ℕ) : Type 0 where
  pub due : due_of g ≡ None → ⊥
  pub order : EachIs (λ x. x.clock ≤ time) g.parts
  pub times : time ≤ 2 ^ 42
  pub count : (x : Change) (d : RevisionState) → due_of g ≡ Some x → (part_at g x.activator d).events < 2 ^ 54

-- its activator took it as an event, with these rows
abbrev pub MakesDue : GroupState → GroupState → ℕ → List Entry → Type 0
MakesDue old new time rows = (x : Change) → due_of old ≡ Some x → StepsGroup old new x.activator (made_at time x) rows

-- ---- another limit of a pod

-- the limits in force once it is wanted
abbrev pub ForceAsked : ℕ → ℕ → GroupState → GroupState → Type 0
ForceAsked p limit old new = (cs : List Trace) → AreTraces old.parts cs
    → new.force ≡ slice_set old.force p (force_after (hold (limit_by p) (running_by p) cs) limit (max (slice_index_or old.force p 0) limit))

-- of each activator at most one limit more isn't its slice
abbrev pub MayUnset : GroupState → GroupState → Type 0
MayUnset old new = (j : ℕ) (d : RevisionState) → j < length old.parts → unset_of new j d ≤ unset_of old j d + 1

-- ---- the opening

-- so many activators can open, if any, with this limit of so many pods in all
pub record CanOpen (n limit many timeout_s : ℕ) (kept : Slots) (begin : ℕ) : Type 0 where
  pub few : n ≤ 16
  pub least : n ≤ limit
  pub most : limit ≤ 1000
  pub pods : many ≤ 500
  pub waits_least : 1 ≤ timeout_s
  pub waits_most : timeout_s ≤ 3600
  pub slots : AreSlots kept
  pub start : begin ≤ 2 ^ 42

-- they opened, and nothing has come yet
pub record IsAtOpening (n most pods timeout_s : ℕ) (slots : Slots) (begin : ℕ) (g : GroupState) : Type 0 where
  pub traces : AreTraces g.parts (openings_of n most pods timeout_s slots begin)
  pub specs : specs_of g.parts ≡ slices_of n most pods timeout_s slots
  pub limit : g.limit ≡ most
  pub start : g.start ≡ begin
  pub wanted : g.wanted ≡ replicate pods most
  pub force : g.force ≡ replicate pods most
  pub clocks : clocks_of g.parts ≡ replicate n begin
  pub load : (j : ℕ) (d : RevisionState) → j < n → load_of g j d ≡ 0

-- A group that is replayed: what it stands for, and what a call makes of that.
use Rattle.std.specs.Prelude.{◌≡◌, ℕ, ◌+◌, ◌<◌, ◌≤◌, ◌==◌, ◌++◌, List, length, Option, if◌then◌else◌}
use Rattle.kn_event.specs.Ranges.{AreSlots}
use Rattle.kn_event.specs.declared.entry.Entry.{Entry}
use Rattle.kn_event.specs.Lists.{EachIs}
use Rattle.kn_io.specs.Prefix.{AppendsPrefix}
use Rattle.kn_core.specs.State.{RevisionState}
use Rattle.kn_slices.specs.Activators.{slices_of}
use Rattle.kn_slices.specs.Traces.{AreTraces, GroupState, load_of, specs_of}
use Rattle.kn_activators.specs.declared.setup.GroupSetup.{GroupSetup}
use Rattle.kn_activators.specs.Sharing.{Outcome, Sharing}
use Rattle.kn_report.specs.Waiting.{Adds}

-- a setup's numbers are in range
pub record IsGroupSetup (s : GroupSetup) : Type 0 where
  pub some : 1 ≤ s.activators
  pub few : s.activators ≤ 16
  pub least : s.activators ≤ s.limit
  pub most : s.limit ≤ 1000
  pub pods : s.pods ≤ 500
  pub waits_least : 1 ≤ s.timeout_s
  pub waits_most : s.timeout_s ≤ 3600
  pub slots : AreSlots s.slots

-- what a replay has: its setup, the group, the limits in force that were kept, the entries of the last event, and the text that waits
pub record ReplayState : Type 0 where
  pub setup : GroupSetup
  pub group : GroupState
  pub before : List ℕ
  pub log : List Entry
  pub waiting : List ℕ

-- the activators are those of the setup
pub record IsOf (s : GroupSetup) (g : GroupState) : Type 0 where
  pub specs : specs_of g.parts ≡ slices_of s.activators s.limit s.pods s.timeout_s s.slots
  pub pods : length g.wanted ≡ s.pods

-- the group stands for this
pub record Stands (g : GroupState) (x : Sharing) : Type 0 where
  pub traces : AreTraces g.parts x.traces
  pub wanted : g.wanted ≡ x.wanted
  pub force : g.force ≡ x.force

-- this came of it: what stands now is what it leaves, and its text came behind what waited
pub record Came (o : Outcome) (now : ReplayState) (waited : List ℕ) (old new : Option (List ℕ)) : Type 0 where
  pub stands : Stands now.group o.now
  pub adds : Adds old new waited now.waiting o.text

-- whatever the group stood for, this came of it
abbrev pub Makes : (Sharing → Outcome) → ReplayState → ReplayState → Option (List ℕ) → Option (List ℕ) → Type 0
Makes f before now old new = (x : Sharing) → Stands before.group x → Came (f x) now before.waiting old new

-- or writing failed amid what waited and its text
abbrev pub Fails : (Sharing → Outcome) → ReplayState → Option (List ℕ) → Option (List ℕ) → Type 0
Fails f before old new = (x : Sharing) → Stands before.group x → AppendsPrefix old new (before.waiting ++ (f x).text)

-- no activator is past this time
abbrev pub AreBefore : ℕ → GroupState → Type 0
AreBefore time g = EachIs (λ x. x.clock ≤ time) g.parts

-- so many of each activator: none, one, or one of activator i
abbrev pub none : ℕ → ℕ
none j = 0

abbrev pub one : ℕ → ℕ
one j = 1

abbrev pub one_at : ℕ → ℕ → ℕ
one_at i j = if j == i then 1 else 0

-- of each activator its events and its pods whose limit isn't its slice are at most so many more
abbrev pub Grows : (ℕ → ℕ) → GroupState → GroupState → Type 0
Grows more old new = (j : ℕ) (d : RevisionState) → j < length old.parts → load_of new j d ≤ load_of old j d + more j

-- of each activator its events and its pods whose limit isn't its slice are fewer than so many
abbrev pub IsBelow : ℕ → GroupState → Type 0
IsBelow bound g = (j : ℕ) (d : RevisionState) → j < length g.parts → load_of g j d < bound

-- setup and number of activators stay, and the limits that were kept
pub record IsSameReplay (old new : ReplayState) : Type 0 where
  pub setup : new.setup ≡ old.setup
  pub before : new.before ≡ old.before
  pub parts : length new.group.parts ≡ length old.group.parts

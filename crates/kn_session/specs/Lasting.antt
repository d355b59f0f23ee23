-- What a session comes to, however long its slots go on.
use Rattle.std.specs.Prelude.{ℕ, ◌≡◌, ◌≤◌, ◌<◌, ◌+◌, ◌*◌, ◌++◌, Bool, true, false, List, [], length, Option}
use Rattle.kn_event.specs.declared.revision.Spec.{Spec}
use Rattle.kn_trace.specs.Trace.{Trace}
use Rattle.kn_core.specs.State.{RevisionState, StandsFor}
use Rattle.kn_cell.specs.declared.past.Past.{Past}
use Rattle.kn_cell.specs.History.{room_for, trace_after}
use Rattle.kn_cell.specs.Lists.{Each, StartsWith}
use Rattle.kn_cell.specs.Shown.{PassView}
use Rattle.kn_io.specs.Links.{Link}
use Rattle.kn_core.specs.Gauges.{count_live}
use Rattle.kn_request.specs.declared.slot.Slot.{Slot}
use Rattle.kn_request.specs.Terms.{Terms}
use Rattle.kn_session.specs.Changes.{Change, became, was}
use Rattle.kn_session.specs.Lists.{EachDone, HasOne}
use Rattle.kn_session.specs.Own.{Lasts}
use Rattle.kn_session.specs.Passes.{IsFirst, IsNewOf, Kind}
use Rattle.kn_session.specs.Rounds.{AllRounds, HasFaulted, HasTexts, IsFullOf, Sides}
use Rattle.kn_session.specs.Session.{IsAfter, IsFine, IsOneHistory, IsPart, IsTickedIn}

-- after some beginning of the history, of which so many rows had been taken out, there was no room for an arrival
pub record WasShortIn (k : Kind) (h : List Past) : Type 0 where
  pub front : List Past
  pub early : StartsWith h front
  pub gone : ℕ
  pub most : gone ≤ length front
  pub plain : k.lasting ≡ false → gone ≡ 0
  pub short : (c : Trace) → StandsFor k.opening c → room_for k.lasting k.room gone (length front) (count_live (trace_after k.opening.spec c front)) < 2

-- slot i was served as many rounds as its pace says, by a new pass of its own, the first with this tag. The rows that the pass
-- made are those of the history with its number, and what it knew after each round holds of the whole history
pub record SlotLasted (k : Kind) (terms : ℕ → ℕ → Terms) (Paced : ℕ → Type 0) (spec : Spec) (tag : ℕ) (h : List Past) (i : ℕ) (from to : Sides) (fault memory : Bool) : Type 0 where
  pub first : PassView
  pub last : PassView
  pub fresh : IsNewOf k (2 + i) first
  pub count : ℕ
  pub paced : Paced count
  pub all : AllRounds (Lasts h) terms spec tag count first last from to fault memory
  pub part : IsPart h (2 + i) last
  -- where none ended in a fault, each round wrote one text more
  pub texts : fault ≡ false → HasTexts count from.said to.said
  pub full : HasOne IsFullOf all.endings → WasShortIn k h
  -- where one ended in a fault, the slot's own count rose
  pub cause : fault ≡ true → HasFaulted from to

-- .. each slot; the tags of two slots are so far apart. What is told of a slot is given by `at`
abbrev pub AreLasted : {C L : Type 0} → (Slot C L → Sides) → (ℕ → ℕ → Terms) → (ℕ → Type 0) → Spec → ℕ → Change (List (Slot C L)) → Kind → List Past → Type 0
AreLasted at terms Paced spec apart slots k h =
    EachDone (λ i s t. SlotLasted k terms Paced spec (i * apart) h i (at s) (at t) t.work.fault t.work.memory) (was slots) (became slots)

-- the ticker made its turns with the keeper, of which this is told, and which counts these faults
abbrev pub KeeperLasted : {L : Type 0} → (L → Option Link) → (L → ℕ) → (ℕ → Type 0) → ℕ → Change L → Kind → List Past → Type 0
KeeperLasted told faults reading start keeper k h =
    IsTickedIn reading start k h (told (was keeper)) (told (became keeper)) (faults (was keeper)) (faults (became keeper))

-- an attendant got a pass that was so at first, and this is what it did. What its pass saw begins the history
pub record Attended (Fresh : PassView → Type 0) (Did : PassView → PassView → Type 0) (h : List Past) : Type 0 where
  pub first : PassView
  pub last : PassView
  pub fresh : Fresh first
  pub did : Did first last
  pub seen : StartsWith h last.seen

-- A session over a cell of this kind with so many slots. Its one history is `front`, the rows that the scribe took out, and then
-- these. What the slots and the keeper did is said of the whole history, what the scribe and the page did by their passes
pub record Lasted (k : Kind) (slots : ℕ) (now : RevisionState) (rest : List Past) (Slots Keeper : Kind → List Past → Type 0) (Unmarked : Type 0) (Scribe Page : PassView → PassView → Type 0) : Type 0 where
  pub front : List Past
  pub plain : k.lasting ≡ false → front ≡ []
  pub one : IsOneHistory slots k.opening (front ++ rest)
  pub after : IsAfter k.opening (front ++ rest) now
  pub served : Slots k (front ++ rest)
  pub keeper : Keeper k (front ++ rest)
  pub fine : Unmarked → Each IsFine (front ++ rest)
  pub scribe : Attended (IsFirst k) Scribe (front ++ rest)
  pub taken : k.lasting ≡ true → length front ≡ scribe.last.gone
  pub page : Attended (IsNewOf k (2 + slots)) Page (front ++ rest)

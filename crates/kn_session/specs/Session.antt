-- A whole session.
use Rattle.std.specs.Prelude.{ℕ, ◌≡◌, ◌≢◌, ◌⊎◌, ◌<◌, ◌≤◌, ◌+◌, ◌-◌, ◌*◌, ◌^◌, List, length, Option, Some, Bool, true, false}
use Rattle.kn_event.specs.declared.event.Act.{Act}
use Rattle.kn_event.specs.declared.event.Act.TheVariants as act
use Rattle.kn_event.specs.declared.revision.Spec.{Spec}
use Rattle.kn_trace.specs.Laws.{IsLawful, IsSettled}
use Rattle.kn_trace.specs.Trace.{Trace}
use Rattle.kn_core.specs.State.{RevisionState, StandsFor}
use Rattle.kn_cell.specs.declared.past.Past.{Past}
use Rattle.kn_cell.specs.Lists.{Each, StartsWith}
use Rattle.kn_cell.specs.History.{IsInBounds, IsLegal, clock_after, rows_by, trace_after}
use Rattle.kn_cell.specs.Shown.{ClosesCell, PassView}
use Rattle.kn_io.specs.Links.{Link, Tells}
use Rattle.kn_io.specs.declared.records.Probe.{Probe}
use Rattle.kn_core.specs.Gauges.{count_live}
use Rattle.kn_request.specs.declared.slot.Slot.{Slot}
use Rattle.kn_request.specs.Pods.{IsStarting}
use Rattle.kn_request.specs.Terms.{watched}
use Rattle.kn_request.specs.Ticking.{TicksApart, Turns, probed_all}
use Rattle.kn_session.specs.declared.setting.Setting.{Setting}
use Rattle.kn_session.specs.declared.shared.Common.{Common}
use Rattle.kn_session.specs.Changes.{Change, became, was}
use Rattle.kn_session.specs.Keeper.{ProbedBy, is_probed}
use Rattle.kn_session.specs.Lists.{EachDone, HasOne}
use Rattle.kn_session.specs.Own.{IsAloneIn, IsArrivalOf, Lasts}
use Rattle.kn_session.specs.Passes.{IsNew, IsNewOf, Kind, plain_kind}
use Rattle.kn_session.specs.Rounds.{AllRounds, HasFaulted, HasTexts, IsFullOf, Sides}

-- the pass has this number, what it saw is a beginning of the history, and what it did is what the history has of it
pub record IsPart (h : List Past) (number : ℕ) (q : PassView) : Type 0 where
  pub named : q.number ≡ number
  pub front : StartsWith h q.seen
  pub whole : q.mine ≡ rows_by number h

-- the revision after the history: the same one, at the last row's time, with that many events more
pub record IsAfter (b : RevisionState) (h : List Past) (now : RevisionState) : Type 0 where
  pub spec : now.spec ≡ b.spec
  pub start : now.start ≡ b.start
  pub clock : now.clock ≡ clock_after b.clock h
  pub events : now.events ≡ b.events + length h
  pub stands : (c : Trace) → StandsFor b c → StandsFor now (trace_after b.spec c h)

-- after some beginning of the history there was no room for an arrival
pub record WasShort (b : RevisionState) (room : ℕ) (h : List Past) : Type 0 where
  pub front : List Past
  pub early : StartsWith h front
  pub short : (c : Trace) → StandsFor b c → room - length front - count_live (trace_after b.spec c front) < 2

-- the row is no finish of a request that failed
abbrev pub IsFine : Past → Type 0
IsFine x = (r : ℕ) → x.event.act ≢ act.Finish r false

-- all rounds of slot i were served, and nobody was watched, by a new pass of its own, the j-th with the tag i * rounds + j. The rows that the pass
-- made are those of the history with its number, and what it knew after each round holds of the whole history
pub record SlotServed (reading : ℕ → Type 0) (spec : Spec) (b : RevisionState) (room rounds : ℕ) (h : List Past) (i : ℕ) (from to : Sides) (fault memory : Bool) : Type 0 where
  pub first : PassView
  pub last : PassView
  pub fresh : IsNew b room (2 + i) first
  pub all : AllRounds (Lasts h) (watched reading ⊥) spec (i * rounds) rounds first last from to fault memory
  pub part : IsPart h (2 + i) last
  -- where none ended in a fault, each round wrote one text more
  pub texts : fault ≡ false → HasTexts rounds from.said to.said
  pub full : HasOne IsFullOf all.endings → WasShort b room h
  -- where one ended in a fault, the slot's own count rose
  pub cause : fault ≡ true → HasFaulted from to

-- the ticker made its turns, by a new pass of its own of a cell of this kind. The readings of its Ticks are 2,000 apart, and as
-- far above the start
pub record TickerServedIn (reading : ℕ → Type 0) (start : ℕ) (k : Kind) (h : List Past) (wire wire' : Option Link) : Type 0 where
  pub first : PassView
  pub last : PassView
  pub fresh : IsNewOf k 1 first
  pub turns : Turns reading start first last wire wire'
  pub apart : TicksApart reading start first last
  pub part : IsPart h 1 last

abbrev pub TickerServed : (ℕ → Type 0) → ℕ → RevisionState → ℕ → List Past → Option Link → Option Link → Type 0
TickerServed reading start b room h wire wire' = TickerServedIn reading start (plain_kind b room) h wire wire'

-- what a ticker does
abbrev pub IsTicking : Act → Type 0
IsTicking a = (a ≡ act.Tick) ⊎ ((p : ℕ) × (a ≡ act.Ready p))

-- what a slot does
abbrev pub IsAsking : Act → Type 0
IsAsking a = ((tag : ℕ) × (a ≡ act.Arrive tag)) ⊎ (((r : ℕ) × (a ≡ act.Cancel r)) ⊎ ((r : ℕ) × (ok : Bool) × (a ≡ act.Finish r ok)))

-- the row is of the pass of one of so many slots
abbrev pub IsSlots : ℕ → Past → Type 0
IsSlots slots x = (i : ℕ) × (i < slots) × (x.pass ≡ 2 + i)

-- the row is the ticker's, or that of one of so many slots
abbrev pub IsRowOf : ℕ → Past → Type 0
IsRowOf slots x = ((x.pass ≡ 1) × IsTicking x.event.act) ⊎ (IsSlots slots x × IsAsking x.event.act)

-- one of the probes found the pod there
abbrev pub IsFound : List Probe → ℕ → Type 0
IsFound probes pod = HasOne (λ (x : Probe). (x.pod ≡ pod) × (x.answer ≡ Some true)) probes

-- what the keeper tells grew by some probes and by nothing else. Each pod that a row of the history says is Ready was found
-- there by one of them, and each pod that starts at the opening and after the whole history was probed
pub record Probed (b : RevisionState) (h : List Past) (wire wire' : Option Link) : Type 0 where
  pub probes : List Probe
  pub told : Tells wire wire' (probed_all probes)
  pub found : Each (λ x. (pod : ℕ) → x.event.act ≡ act.Ready pod → IsFound probes pod) h
  pub starting : (c : Trace) → StandsFor b c → (pod : ℕ) → IsStarting c pod → IsStarting (trace_after b.spec c h) pod → is_probed pod probes

-- the one history of a revision: legal from its opening, and each row is its ticker's or one of so many slots'. No pass ends another's request
pub record IsOneHistory (slots : ℕ) (b : RevisionState) (h : List Past) : Type 0 where
  pub legal : IsLegal b h
  pub bounds : Each (λ x. IsInBounds x.event) h
  pub lawful : (c : Trace) → StandsFor b c → IsLawful b.spec (trace_after b.spec c h)
  pub settled : (c : Trace) → StandsFor b c → IsSettled b.spec (trace_after b.spec c h)
  pub alone : (n r : ℕ) → HasOne (IsArrivalOf r) (rows_by n h) → IsAloneIn h n r
  pub rows : Each (IsRowOf slots) h

-- the ticker made its turns of the revision, and its keeper gained probes alone, and no count of faults fell
pub record IsTicked (reading : ℕ → Type 0) (start : ℕ) (b : RevisionState) (room : ℕ) (h : List Past) (wire wire' : Option Link) (breaks breaks' : ℕ) : Type 0 where
  pub served : TickerServed reading start b room h wire wire'
  pub probed : Probed b h wire wire'
  pub never_falls : breaks ≤ breaks'

-- .. over a cell of this kind, each pod at its address
pub record IsTickedIn (reading : ℕ → Type 0) (start : ℕ) (k : Kind) (h : List Past) (wire wire' : Option Link) (breaks breaks' : ℕ) : Type 0 where
  pub served : TickerServedIn reading start k h wire wire'
  pub probed : ProbedBy k.book k.opening h wire wire'
  pub never_falls : breaks ≤ breaks'

-- ---- a whole session

-- a revision with no live request, and with room for events
pub record MayBegin (b : RevisionState) : Type 0 where
  pub live : (c : Trace) → StandsFor b c → count_live c ≡ 0
  pub events : b.events < 2 ^ 53

-- the whole history that the last pass of a cell closed it with, and the revision then
pub record ClosesWhole (p : PassView) (now : RevisionState) (h : List Past) : Type 0 where
  pub closes : ClosesCell p now h
  pub lawful : (c : Trace) → StandsFor p.opening c → IsLawful p.opening.spec (trace_after p.opening.spec c h)
  pub settled : (c : Trace) → StandsFor p.opening c → IsSettled p.opening.spec (trace_after p.opening.spec c h)

-- .. as a history of this revision
pub record IsClosedAs (b now : RevisionState) (h : List Past) : Type 0 where
  pub legal : IsLegal b h
  pub bounds : Each (λ x. IsInBounds x.event) h
  pub after : IsAfter b h now
  pub lawful : (c : Trace) → StandsFor b c → IsLawful b.spec (trace_after b.spec c h)
  pub settled : (c : Trace) → StandsFor b c → IsSettled b.spec (trace_after b.spec c h)

-- the ticker's pass made its turns with the keeper
pub record HasTicked {L K G P : Type 0} (told : L → Option Link) (faults : L → ℕ) (reading : K → ℕ → Type 0) (common : Common K G P) (pass : Change PassView) (keeper : Change L) : Type 0 where
  pub turns : Turns (reading common.clock.now) common.start (was pass) (became pass) (told (was keeper)) (told (became keeper))
  pub apart : TicksApart (reading common.clock.now) common.start (was pass) (became pass)
  pub never_falls : faults (was keeper) ≤ faults (became keeper)

-- each slot served its rounds. What is told of a slot is given by `at`, and the clock's readings by `reading`
abbrev pub AreServed : {C L K G : Type 0} → (Slot C L → Sides) → (K → ℕ → Type 0) → Setting K G → RevisionState → List Past → Change (List (Slot C L)) → Type 0
AreServed at reading setting b h slots =
    EachDone (λ i s t. SlotServed (reading setting.clock.now) setting.spec.now b setting.room setting.rounds h i (at s) (at t) t.work.fault t.work.memory) (was slots) (became slots)

-- the ticker made its turns with the keeper, of which this is told, and which counts these faults
abbrev pub KeeperServed : {L K G : Type 0} → (L → Option Link) → (L → ℕ) → (K → ℕ → Type 0) → Setting K G → RevisionState → List Past → Change L → Type 0
KeeperServed told faults reading setting b h keeper =
    IsTicked (reading setting.clock.now) setting.start b setting.room h (told (was keeper)) (told (became keeper)) (faults (was keeper)) (faults (became keeper))

-- The rounds of a slot that serves several revisions, and what becomes of each revision. Revisions go by their places.
use Rattle.std.specs.List.{list_any}
use Rattle.std.specs.Prelude.{ℕ, ◌≡◌, ◌⊎◌, ◌≤◌, ◌<◌, ◌+◌, ◌*◌, ◌==◌, ◌&&◌, List, [], ◌∷◌, length, map, Option, None, Some, Bool, true, false, slice_index_or, Vec}
use Rattle.std.specs.Global.{Global}
use Rattle.kn_event.specs.declared.revision.Spec.{Spec}
use Rattle.kn_event.specs.Lists.{EachIs}
use Rattle.kn_core.specs.State.{RevisionState}
use Rattle.kn_cell.specs.declared.past.Past.{Past}
use Rattle.kn_cell.specs.Lists.{Each}
use Rattle.kn_cell.specs.Shown.{PassView}
use Rattle.kn_io.specs.Causes.{Rose}
use Rattle.kn_io.specs.Links.{Link}
use Rattle.kn_request.specs.declared.slot.Ended.{Ended}
use Rattle.kn_request.specs.declared.slot.WideSlot.{WideSlot}
use Rattle.kn_request.specs.Outside.{Said, said}
use Rattle.kn_request.specs.Wide.{ServesWide, WideCauses, at_count, at_pass, at_wire, faults_in, memories_in}
use Rattle.kn_session.specs.declared.wide_setting.WideSetting.{WideSetting}
use Rattle.kn_session.specs.Changes.{Change, became, was}
use Rattle.kn_session.specs.Lists.{EachDone, HasOne}
use Rattle.kn_session.specs.Own.{Lasts}
use Rattle.kn_session.specs.Passes.{IsNew}
use Rattle.kn_session.specs.Rounds.{HasTexts, IsFullOf, is_fault, is_memory}
use Rattle.kn_session.specs.Session.{IsFine, IsOneHistory, IsPart, IsTicked, WasShort}

abbrev pub at_flag : List Bool → ℕ → Bool
at_flag fs v = slice_index_or fs v false

abbrev pub at_history : List (List Past) → ℕ → List Past
at_history hs v = slice_index_or hs v []

-- ---- the rounds of one slot

-- what is told of a slot's caller and of its links, and how many faults each counted
pub record WideSides : Type 0 where
  pub said : Option Said
  pub faults : ℕ
  pub wires : List (Option Link)
  pub breaks : List ℕ

-- the caller's kept, held and faults, and each link's told and faults
abbrev pub wide_sides : Option (List (List ℕ)) → Option (List ℕ) → ℕ → List (Option Link) → List ℕ → WideSides
wide_sides kept held faults wires breaks = record { said = said kept held; faults = faults; wires = wires; breaks = breaks }

-- the ending counts at the revision that the head named, and at the first one where it named none
abbrev pub counts_at : ℕ → Option ℕ → Bool
counts_at v (Some u) = u == v
counts_at v None = 0 == v

abbrev pub faults_at : ℕ → Ended → Bool
faults_at v e = counts_at v e.revision && is_fault e.served

abbrev pub wants_at : ℕ → Ended → Bool
wants_at v e = counts_at v e.revision && is_memory e.served

-- the head named the revision, and was answered for want of room
abbrev pub IsFullAt : ℕ → Ended → Type 0
IsFullAt v e = (e.revision ≡ Some v) × IsFullOf e.served

-- one round: one request was served, and what the passes know then is as it should be
pub record OneWide (Then : List (Option PassView) → Type 0) (reading : ℕ → Type 0) (specs : List Spec) (tag : ℕ) (ps qs : List (Option PassView)) (a b : WideSides) (e : Ended) : Type 0 where
  pub then : Then qs
  pub served : ServesWide reading specs tag ps qs a.wires b.wires e.revision a.said b.said e.served
  pub causes : WideCauses a.faults b.faults a.breaks b.breaks e.revision e.served

-- rounds with these endings, from this tag on, one after the other
abbrev pub AreWide : (List (Option PassView) → Type 0) → (ℕ → Type 0) → List Spec → ℕ → List Ended → List (Option PassView) → List (Option PassView) → WideSides → WideSides → Type 0
AreWide Then reading specs tag [] ps qs a b = (qs ≡ ps) × (b ≡ a)
AreWide Then reading specs tag (e ∷ es) ps qs a b =
    (ms : List (Option PassView)) × (x : WideSides) × OneWide Then reading specs tag ps ms a x e × AreWide Then reading specs (tag + 1) es ms qs x b

-- so many rounds; and for each revision whether one that counts there ended in a fault, or in want of memory
pub record AllWide (Then : List (Option PassView) → Type 0) (reading : ℕ → Type 0) (specs : List Spec) (tag count : ℕ) (ps qs : List (Option PassView)) (a b : WideSides) (faults wants : List Bool) : Type 0 where
  pub endings : List Ended
  pub all : length endings ≡ count
  pub rounds : AreWide Then reading specs tag endings ps qs a b
  pub faulty : (v : ℕ) → v < length specs → at_flag faults v ≡ list_any (faults_at v) endings
  pub wanting : (v : ℕ) → v < length specs → at_flag wants v ≡ list_any (wants_at v) endings

-- ---- a slot, and its share in each revision

-- what each pass knows holds of the whole history of its revision
abbrev pub EachLasts : List (List Past) → List (Option PassView) → Type 0
EachLasts hs ps = (v : ℕ) (p : PassView) → at_pass ps v ≡ Some p → Lasts (at_history hs v) p

-- the caller's count of faults rose, or that of the link to this revision
abbrev pub HasFaultedAt : ℕ → WideSides → WideSides → Type 0
HasFaultedAt v a b = Rose a.faults b.faults ⊎ Rose (at_count a.breaks v) (at_count b.breaks v)

-- one revision's pass in a slot was new, and the rows that it made are those of the history with its number. A round that named the
-- revision ended as full only for want of room there, and one that counts there in a fault only where the slot's own count rose
pub record Share (v : ℕ) (b : RevisionState) (room : ℕ) (h : List Past) (number : ℕ) (first last : Option PassView) (endings : List Ended) (from to : WideSides) (fault : Bool) : Type 0 where
  pub old : PassView
  pub new : PassView
  pub was : first ≡ Some old
  pub is : last ≡ Some new
  pub fresh : IsNew b room number old
  pub part : IsPart h number new
  pub full : HasOne (IsFullAt v) endings → WasShort b room h
  pub cause : fault ≡ true → HasFaultedAt v from to

-- all rounds of slot i were served, the j-th with the tag i * rounds + j, each by the revision that its head named with a new pass of the
-- slot's own. What each pass knew after each round holds of the whole history of its revision
pub record WideSlotServed (reading : ℕ → Type 0) (specs : List Spec) (bs : List RevisionState) (room rounds : ℕ) (hs : List (List Past)) (i : ℕ) (from to : WideSides) (faults wants : List Bool) : Type 0 where
  pub firsts : List (Option PassView)
  pub lasts : List (Option PassView)
  pub all : AllWide (EachLasts hs) reading specs (i * rounds) rounds firsts lasts from to faults wants
  pub shares : (v : ℕ) (b : RevisionState) → v < length specs → Share v (slice_index_or bs v b) room (at_history hs v) (2 + i) (at_pass firsts v) (at_pass lasts v) all.endings from to (at_flag faults v)
  -- where none ended in a fault, each round wrote one text more
  pub texts : ((v : ℕ) → v < length specs → at_flag faults v ≡ false) → HasTexts rounds from.said to.said

-- ---- a whole session over several revisions

-- a link and a work for each of so many revisions
abbrev pub HasOfEach : {C L : Type 0} → ℕ → WideSlot C L → Type 0
HasOfEach {C} {L} n s = (length s.links.items ≡ n) × (length s.works.items ≡ n)

-- as many revisions and as many keepers as specifications, which are 1 to 16
pub record AreOneEach (specs revisions keepers : ℕ) : Type 0 where
  pub least : 1 ≤ specs
  pub most : specs ≤ 16
  pub of_each : revisions ≡ specs
  pub kept : keepers ≡ specs

-- a history of each revision, in their order
pub record AreHistories (slots : ℕ) (bs : List RevisionState) (hs : Vec (List Past) Global) : Type 0 where
  pub many : length hs.items ≡ length bs
  pub each : (v : ℕ) (b : RevisionState) → v < length bs → IsOneHistory slots (slice_index_or bs v b) (at_history hs.items v)

-- each slot served its rounds. What is told of a slot is given by `at`, and the clock's readings by `reading`
abbrev pub AreServedWide : {C L K G : Type 0} → (WideSlot C L → WideSides) → (K → ℕ → Type 0) → WideSetting K G → List RevisionState → Change (List (WideSlot C L)) → Vec (List Past) Global → Type 0
AreServedWide at reading setting bs slots hs =
    EachDone (λ i s t. WideSlotServed (reading setting.clock.now) setting.specs.now bs setting.room setting.rounds hs.items i (at s) (at t) (faults_in t.works.items) (memories_in t.works.items)) (was slots) (became slots)

-- a slot has as many links and works as it had, and there are as many keepers
pub record StayMany {C L : Type 0} (slots : Change (List (WideSlot C L))) (keepers : Change (List L)) : Type 0 where
  pub slots_kept : EachDone (λ i s t. (length t.links.items ≡ length s.links.items) × (length t.works.items ≡ length s.works.items)) (was slots) (became slots)
  pub keepers_kept : length (became keepers) ≡ length (was keepers)

-- the ticker made its turns of each revision with its keeper, of which this is told, and which counts these faults
abbrev pub KeepersServed : {L K G : Type 0} → (L → Option Link) → (L → ℕ) → (K → ℕ → Type 0) → WideSetting K G → List RevisionState → Change (List L) → Vec (List Past) Global → Type 0
KeepersServed told faults reading setting bs keepers hs =
    (v : ℕ) (b : RevisionState) → v < length setting.specs.now → IsTicked (reading setting.clock.now) setting.start (slice_index_or bs v b) setting.room (at_history hs.items v)
    (at_wire (map told (was keepers)) v) (at_wire (map told (became keepers)) v) (at_count (map faults (was keepers)) v) (at_count (map faults (became keepers)) v)

-- where no round that counts at a revision ended in a fault or in want of memory, its history has no finish of a request that failed
abbrev pub AreFine : {C L : Type 0} → ℕ → List (WideSlot C L) → Vec (List Past) Global → Type 0
AreFine {C} {L} count slots hs =
    (v : ℕ) → v < count → EachIs (λ (t : WideSlot C L). (at_flag (faults_in t.works.items) v ≡ false) × (at_flag (memories_in t.works.items) v ≡ false)) slots → Each IsFine (at_history hs.items v)

-- The works of a slot over several revisions: how they get their passes, and how these come back.
use Rattle.std.specs.Prelude.{ℕ, ◌≡◌, ◌≤◌, ◌+◌, ◌-◌, ◌*◌, ◌<◌, ◌||◌, Bool, List, [], length, map, Option, None, Some, false, slice_index_or, vec_capacity, ⊤}
use Rattle.atomic_table.specs.Seated.{TableId}
use Rattle.kn_event.specs.declared.revision.Spec.{Spec}
use Rattle.kn_core.specs.State.{RevisionState}
use Rattle.kn_cell.specs.declared.past.Past.{Past}
use Rattle.kn_cell.specs.Shown.{PassView, first_shown, joined_shown, new_shown}
use Rattle.kn_request.specs.declared.slot.Ended.{Ended}
use Rattle.kn_request.specs.declared.slot.WideSlot.{WideSlot}
use Rattle.kn_request.specs.declared.slot.Work.{Work}
use Rattle.kn_io.specs.Links.{Link}
use Rattle.kn_request.specs.Wide.{EachPass, TicksAll, at_pass, faults_in, memories_in, passes_in}
use Rattle.kn_session.specs.declared.wide_open.OpenedAll.{OpenedAll}
use Rattle.kn_session.specs.declared.wide_jobs.WideShared.{WideShared}
use Rattle.kn_session.specs.declared.wide_setting.WideSetting.{WideSetting}
use Rattle.kn_session.specs.Changes.{Change, became, was}
use Rattle.kn_session.specs.Lists.{EachDone}
use Rattle.kn_session.specs.Passes.{IsBlank, IsHanded, IsNewOf, IsUnmarked, found_by, joined_all, kind_of, where_some}
use Rattle.kn_session.specs.Session.{ClosesWhole}
use Rattle.kn_session.specs.Wide.{AllWide, WideSides, at_flag, at_history}

-- ---- opening

-- a cell over the revision with room for so many passes, of which the first gave the ticker's away
pub record IsOpen (b : RevisionState) (room passes : ℕ) (cell : TableId) (first ticks : PassView) : Type 0 where
  pub first_is : first ≡ record (first_shown cell b room passes) { free = passes - 1 - 1 }
  pub ticks_is : ticks ≡ new_shown (first_shown cell b room passes)

-- .. one for each revision
pub record AreOpen (bs : List RevisionState) (room passes : ℕ) (cells : List TableId) (firsts ticks : List PassView) : Type 0 where
  pub cell_count : length cells ≡ length bs
  pub first_count : length firsts ≡ length bs
  pub tick_count : length ticks ≡ length bs
  pub each : (v : ℕ) (b : RevisionState) (c : TableId) (p : PassView) → v < length bs → IsOpen (slice_index_or bs v b) room passes (slice_index_or cells v c) (slice_index_or firsts v p) (slice_index_or ticks v p)

-- nothing is held yet, with the time of a last tick for each of so many revisions, and room for all that is held of them
pub record IsReserved (count : ℕ) (o : OpenedAll) : Type 0 where
  pub cells : o.cells.items ≡ []
  pub firsts : o.firsts.items ≡ []
  pub ticks : o.ticks.items ≡ []
  pub histories : o.histories.items ≡ []
  pub lasts : length o.lasts.items ≡ count
  pub cells_room : count ≤ vec_capacity o.cells
  pub firsts_room : count ≤ vec_capacity o.firsts
  pub ticks_room : count ≤ vec_capacity o.ticks
  pub histories_room : count ≤ vec_capacity o.histories

-- ---- handing out

-- a pass of the cell that can give so many away, and has seen nothing
pub record MayGive (n : ℕ) (cell : TableId) (p : PassView) : Type 0 where
  pub of : p.cell ≡ cell
  pub free : n ≤ p.free
  pub low : p.free ≤ p.passes
  pub blank : IsBlank p

abbrev pub EachMayGive : ℕ → List TableId → List PassView → Type 0
EachMayGive n cells ps = (length ps ≡ length cells) × ((v : ℕ) (c : TableId) (d : PassView) → v < length cells → MayGive n (slice_index_or cells v c) (slice_index_or ps v d))

abbrev pub gave : ℕ → PassView → PassView
gave n p = record p { free = p.free - n }

-- each gave so many away
abbrev pub EachGave : ℕ → List PassView → List PassView → Type 0
EachGave n ps qs = (length qs ≡ length ps) × ((v : ℕ) (d : PassView) → v < length ps → slice_index_or qs v d ≡ gave n (slice_index_or ps v d))

-- the work has a new pass with this number, which this one gave away, and nothing is noted in it
abbrev pub IsGivenBy : PassView → ℕ → Work → Type 0
IsGivenBy p number w = IsHanded p.cell (IsNewOf (kind_of p) number) w.pass × IsUnmarked w

-- each work has one, after so many that were given away before
abbrev pub EachGiven : List PassView → ℕ → List Work → Type 0
EachGiven ps i works =
    (length works ≡ length ps)
    × ((v : ℕ) (d : PassView) (w : Work) → v < length ps → IsGivenBy (slice_index_or ps v d) ((slice_index_or ps v d).passes - (slice_index_or ps v d).free + i) (slice_index_or works v w))

-- a slot's caller and its links are as they were
abbrev pub HasSame : {C L : Type 0} → WideSlot C L → WideSlot C L → Type 0
HasSame {C} {L} s t = (t.caller ≡ s.caller) × (t.links ≡ s.links)

-- ---- the rounds

-- of each work, this is noted beside what was noted in it
abbrev pub IsNoted : (ℕ → Ended → Bool) → (List Work → List Bool) → Ended → List Work → List Work → Type 0
IsNoted test flags ended ws us = (v : ℕ) → v < length ws → at_flag (flags us) v ≡ (test v ended || at_flag (flags ws) v)

-- a slot before its rounds: a link, and a work with a pass of its cell, for each revision, and nothing noted
pub record IsWideReady (cells : List TableId) (specs links : ℕ) (works : List Work) : Type 0 where
  pub some : 0 < specs
  pub count : length cells ≡ specs
  pub linked : links ≡ specs
  pub worked : length works ≡ specs
  pub passes : EachPass cells (passes_in works)
  pub fault_free : (v : ℕ) → at_flag (faults_in works) v ≡ false
  pub want_free : (v : ℕ) → at_flag (memories_in works) v ≡ false

-- .. and after them
pub record IsWideDone (reading : ℕ → Type 0) (cells : List TableId) (specs : List Spec) (tag count links links' : ℕ) (works works' : List Work) (from to : WideSides) : Type 0 where
  pub all : AllWide (λ _. ⊤) reading specs tag count (passes_in works) (passes_in works') from to (faults_in works') (memories_in works')
  pub passes : EachPass cells (passes_in works')
  pub linked : links' ≡ links
  pub worked : length works' ≡ length works

-- so many rounds of a slot, before them and after. What is told of a slot is given by `at`, and the clock's readings by `reading`
abbrev pub IsReadySlot : {C L : Type 0} → List TableId → ℕ → WideSlot C L → Type 0
IsReadySlot cells count s = IsWideReady cells count (length s.links.items) s.works.items

abbrev pub HasServedWide : {C L K G : Type 0} → (WideSlot C L → WideSides) → (K → ℕ → Type 0) → List TableId → WideSetting K G → ℕ → WideSlot C L → WideSlot C L → Type 0
HasServedWide at reading cells setting i s t =
    IsWideDone (reading setting.clock.now) cells setting.specs.now (i * setting.rounds) setting.rounds (length s.links.items) (length t.links.items) s.works.items t.works.items (at s) (at t)

-- .. each of the slots
abbrev pub HaveServedWide : {C L K G : Type 0} → (WideSlot C L → WideSides) → (K → ℕ → Type 0) → WideShared K G → Change (List (WideSlot C L)) → Type 0
HaveServedWide at reading shared slots = EachDone (HasServedWide at reading shared.cells.now shared.setting.now) (was slots) (became slots)

-- the ticker's passes ticked, each with its own keeper
pub record HaveTicked (reading : ℕ → Type 0) (start : ℕ) (ps qs : List PassView) (ws ws' : List (Option Link)) (bs bs' : List ℕ) : Type 0 where
  pub ticks : TicksAll reading start ps qs ws ws' bs bs'
  pub passes : length qs ≡ length ps
  pub keepers : length ws' ≡ length ws

abbrev pub HaveAllTicked : {L K G : Type 0} → (L → Option Link) → (L → ℕ) → (K → ℕ → Type 0) → WideSetting K G → Change (List PassView) → Change (List L) → Type 0
HaveAllTicked told faults reading setting ticks keepers =
    HaveTicked (reading setting.clock.now) setting.start (was ticks) (became ticks) (map told (was keepers)) (map told (became keepers)) (map faults (was keepers)) (map faults (became keepers))

-- ---- taking back

-- the pass was taken out of the work
pub record IsTakenOut (w w' : Work) : Type 0 where
  pub empty : w'.pass ≡ None
  pub fault : w'.fault ≡ w.fault
  pub memory : w'.memory ≡ w.memory

abbrev pub EachTakenOut : List Work → List Work → Type 0
EachTakenOut ws us = (length us ≡ length ws) × ((v : ℕ) (d : Work) → v < length ws → IsTakenOut (slice_index_or ws v d) (slice_index_or us v d))

-- a pass of each cell, where there is one
abbrev pub EachOf : List TableId → List (Option PassView) → Type 0
EachOf cells ps = (v : ℕ) (c : TableId) (p : PassView) → v < length cells → at_pass ps v ≡ Some p → p.cell ≡ slice_index_or cells v c

-- each of the first passes took one in
abbrev pub EachTook : List (Option PassView) → List PassView → List PassView → Type 0
EachTook found ps qs = (length qs ≡ length ps) × ((v : ℕ) (d : PassView) → v < length ps → slice_index_or qs v d ≡ where_some (at_pass found v) (slice_index_or ps v d))

-- what a slot has of one revision
abbrev pub pass_at : {C L : Type 0} → ℕ → WideSlot C L → Option PassView
pass_at {C} {L} v s = at_pass (passes_in s.works.items) v

-- each of the first passes took in those of all slots
abbrev pub EachTookAll : {C L : Type 0} → List (WideSlot C L) → List PassView → List PassView → Type 0
EachTookAll {C} {L} slots ps qs = (length qs ≡ length ps) × ((v : ℕ) (d : PassView) → v < length ps → slice_index_or qs v d ≡ joined_all (slice_index_or ps v d) (found_by (pass_at v) slots))

-- ---- all of it

-- a slot served its rounds, with passes that it was given
pub record SlotRan (reading : ℕ → Type 0) (cells : List TableId) (specs : List Spec) (firsts : List PassView) (rounds i links links' : ℕ) (works : List Work) (from to : WideSides) : Type 0 where
  pub given : List Work
  pub given_is : EachGiven firsts i given
  pub done : IsWideDone reading cells specs (i * rounds) rounds links links' given works from to

-- the slots with all rounds made, out of which the passes were taken then
pub record HasRun {C L : Type 0} (at : WideSlot C L → WideSides) (reading : ℕ → Type 0) (cells : List TableId) (specs : List Spec) (rounds : ℕ) (firsts firsts' : List PassView) (slots slots' : List (WideSlot C L)) : Type 0 where
  pub mids : List (WideSlot C L)
  pub ran : EachDone (λ i s m. SlotRan reading cells specs firsts rounds i (length s.links.items) (length m.links.items) m.works.items (at s) (at m)) slots mids
  pub gone : List PassView
  pub gave : EachGave (length slots) firsts gone
  pub took : EachTookAll mids gone firsts'
  pub out : EachDone (λ i m t. EachTakenOut m.works.items t.works.items × HasSame m t) mids slots'

abbrev pub HaveRun : {C L K G : Type 0} → (WideSlot C L → WideSides) → (K → ℕ → Type 0) → List TableId → WideSetting K G → Change (List PassView) → Change (List (WideSlot C L)) → Type 0
HaveRun at reading cells setting firsts slots =
    HasRun at (reading setting.clock.now) cells setting.specs.now setting.rounds (was firsts) (became firsts) (was slots) (became slots)

-- ---- closing

-- the pass can close the cell, whose history is kept whole: every other one has come back to it
pub record MayClose (cell : TableId) (p : PassView) : Type 0 where
  pub of : p.cell ≡ cell
  pub plain : p.lasting ≡ false
  pub all : 1 + p.free + p.back ≡ p.passes

-- the whole history that the last pass of a cell closed it with
pub record IsShut (p : PassView) (h : List Past) : Type 0 where
  pub revision : RevisionState
  pub whole : ClosesWhole p revision h

-- .. of so many cells, each closed by its first pass together with the ticker's
abbrev pub AreShut : ℕ → List PassView → List PassView → List (List Past) → Type 0
AreShut count firsts ticks hs =
    (v : ℕ) (p : PassView) → v < count → IsShut (joined_shown (slice_index_or firsts v p) (slice_index_or ticks v p)) (at_history hs v)

-- the pass can close the cell together with the ticker's
pub record MayCloseBy (cell : TableId) (first ticks : PassView) : Type 0 where
  pub ticks_of : ticks.cell ≡ cell
  pub closes : MayClose cell (joined_shown first ticks)

-- .. for each cell
pub record MayCloseAll (cells : List TableId) (firsts ticks : List PassView) : Type 0 where
  pub first_count : length firsts ≡ length cells
  pub tick_count : length ticks ≡ length cells
  pub each : (v : ℕ) (c : TableId) (p : PassView) → v < length cells → MayCloseBy (slice_index_or cells v c) (slice_index_or firsts v p) (slice_index_or ticks v p)

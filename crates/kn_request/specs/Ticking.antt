-- The turns of the ticker.
use Rattle.std.specs.List.{filter}
use Rattle.std.specs.Prelude.{◌≡◌, ◌⊎◌, ◌≤◌, ◌<◌, ◌+◌, ◌^◌, ℕ, Bool, true, false, List, [], ◌∷◌, ◌++◌, map, length, Option, None, Some, ⊤}
use Rattle.kn_event.specs.declared.event.Act.{Act}
use Rattle.kn_event.specs.declared.event.Act.TheVariants as act
use Rattle.kn_trace.specs.Trace.{Trace}
use Rattle.kn_book.specs.Book.{next_to_probe}
use Rattle.kn_core.specs.State.{StandsFor}
use Rattle.kn_cell.specs.declared.past.Past.{Past}
use Rattle.kn_cell.specs.Lists.{Each, StartsWith}
use Rattle.kn_cell.specs.History.{trace_after}
use Rattle.kn_cell.specs.Shown.{PassView, Looks, left_in}
use Rattle.kn_io.specs.Links.{Link, Tells}
use Rattle.kn_io.specs.declared.records.Probe.{Probe}
use Rattle.kn_core.specs.Gauges.{count_live}
use Rattle.kn_request.specs.declared.ticks.Turn.{Turn}
use Rattle.kn_request.specs.declared.ticks.Probed.{Probed}
use Rattle.kn_request.specs.declared.ticks.Probed.TheVariants as found
use Rattle.kn_request.specs.Pods.{IsStarting, IsStartingAt}
use Rattle.kn_request.specs.Requests.{Recorded}

-- a row of the pass at this time, or at the clock before it
abbrev pub IsAt : ℕ → PassView → Past → Type 0
IsAt now p x = (y : Recorded (λ t. t ≡ now) p x.event.act) × (y.row ≡ x)

-- there was no room for one row, after something that was seen in the call
pub record WasFull (old new : PassView) : Type 0 where
  pub front : List Past
  pub early : StartsWith new.seen front
  pub late : StartsWith front old.seen
  -- how many of these rows had been taken out: none of a cell that keeps them all
  pub gone : ℕ
  pub since : old.gone ≤ gone
  pub until : gone ≤ new.gone
  pub most : gone ≤ length front
  pub plain : old.lasting ≡ false → gone ≡ 0
  pub none_left : (c : Trace) → StandsFor old.opening c
      → left_in (record old { gone = gone }) front (count_live (trace_after old.opening.spec c front)) < 1

-- ---- visits

-- a pod that was probed, the address at which it was, and what it answered
pub record Visit : Type 0 where
  pub pod : ℕ
  pub address : ℕ
  pub answer : Option Bool

-- what a link is told of it: the address in place of the pod
abbrev pub probe_of : Visit → Probe
probe_of v = record { pod = v.address; answer = v.answer }

abbrev pub probes_of : List Visit → List Probe
probes_of visits = map probe_of visits

-- the pod was starting, and this was its address, after something that was seen in the call
pub record WasStarting (old new : PassView) (pod address : ℕ) : Type 0 where
  pub front : List Past
  pub early : StartsWith new.seen front
  pub late : StartsWith front old.seen
  pub starts : (c : Trace) → StandsFor old.opening c → IsStartingAt old.book (trace_after old.opening.spec c front) pod address

-- the visited pods ascend, from this number on
abbrev pub AreAscending : ℕ → List Visit → Type 0
AreAscending from [] = ⊤
AreAscending from (v ∷ vs) = (from ≤ v.pod) × AreAscending (v.pod + 1) vs

-- all are below
abbrev pub AreBelow : ℕ → List Visit → Type 0
AreBelow to [] = ⊤
AreBelow to (v ∷ vs) = (v.pod < to) × AreBelow to vs

-- the rows are Ready of those that answered true, in order: all of them unless full
abbrev pub ReadyOf : Option Bool → ℕ → Bool → (List Past → Type 0) → List Past → Type 0
ReadyOf (Some true) pod full P rows = ((x : Past) × (xs : List Past) × (rows ≡ x ∷ xs) × (x.event.act ≡ act.Ready pod) × P xs) ⊎ ((full ≡ true) × P rows)
ReadyOf (Some false) pod full P rows = P rows
ReadyOf None pod full P rows = P rows

abbrev pub AreReady : Bool → List Visit → List Past → Type 0
AreReady full [] rows = rows ≡ []
AreReady full (v ∷ vs) rows = ReadyOf v.answer v.pod full (AreReady full vs) rows

-- pod j was visited at address a
abbrev pub is_visited : ℕ → ℕ → List Visit → Type 0
is_visited j a [] = ⊥
is_visited j a (v ∷ vs) = ((v.pod ≡ j) × (v.address ≡ a)) ⊎ is_visited j a vs

-- a link that tells has these probes more
abbrev pub probed_all : List Probe → Link → Link
probed_all ps link = record link { probes = link.probes ++ ps }

-- a pod that starts after both of these histories, and has this address after the first
abbrev pub StartsAtBoth : PassView → Trace → ℕ → ℕ → List Past → List Past → Type 0
StartsAtBoth p c j a h k = IsStartingAt p.book (trace_after p.opening.spec c h) j a × IsStarting (trace_after p.opening.spec c k) j

-- the visits of a turn so far, up to a pod
pub record Probing (now to : ℕ) (full : Bool) (old new : PassView) (wire wire' : Option Link) : Type 0 where
  pub later : (new ≡ old) ⊎ Looks old new
  pub visits : List Visit
  pub rows : List Past
  pub mine : new.mine ≡ old.mine ++ rows
  pub at : Each (IsAt now new) rows
  pub told : Tells wire wire' (probed_all (probes_of visits))
  pub ascend : AreAscending 0 visits
  pub below : AreBelow to visits
  pub only : Each (λ v. WasStarting old new v.pod v.address) visits
  pub ready : AreReady full visits rows
  pub over : full ≡ true → WasFull old new
  pub starting : (c : Trace) → StandsFor old.opening c → (j a : ℕ) → j < to → StartsAtBoth old c j a old.seen new.seen → (is_visited j a visits → ⊥) → ⊥

-- one act was recorded, or there was no room for it
abbrev pub TicksOnce : ℕ → Act → Bool → PassView → PassView → Type 0
TicksOnce now what false old new = (x : Past) × (new.mine ≡ old.mine ++ x ∷ []) × (x.event.act ≡ what) × IsAt now new x
TicksOnce now what true old new = (new.mine ≡ old.mine) × WasFull old new

-- the next Starting pod that has an address was probed there, and its Ready recorded where it answered true
pub record ProbesOne (now from pod : ℕ) (full : Bool) (old new : PassView) (wire wire' : Option Link) : Type 0 where
  pub mid : List Past
  pub early : StartsWith new.seen mid
  pub late : StartsWith mid old.seen
  pub address : ℕ
  pub found : (c : Trace) → StandsFor old.opening c → next_to_probe old.book (trace_after old.opening.spec c mid) from ≡ Some (pod, address)
  pub low : from ≤ pod
  pub answer : Option Bool
  pub told : Tells wire wire' (probed_all (record { pod = address; answer = answer } ∷ []))
  pub rows : List Past
  pub mine : new.mine ≡ old.mine ++ rows
  pub at : Each (IsAt now new) rows
  pub ready : ReadyOf answer pod full (λ xs. xs ≡ []) rows
  pub over : full ≡ true → WasFull old new

-- no pod from this number on is to be probed after all that is seen
abbrev pub HasNoneToProbe : PassView → PassView → ℕ → Type 0
HasNoneToProbe old new from = (c : Trace) → StandsFor old.opening c → next_to_probe old.book (trace_after old.opening.spec c new.seen) from ≡ None

abbrev pub ProbesNext : ℕ → ℕ → PassView → PassView → Option Link → Option Link → Probed → Type 0
ProbesNext now from old new wire wire' found.Done = (new.mine ≡ old.mine) × (wire' ≡ wire) × HasNoneToProbe old new from
ProbesNext now from old new wire wire' (found.One pod full) = (pod < 2 ^ 63) × ProbesOne now from pod full old new wire wire'

-- each Starting pod that has an address was probed
pub record ProbesAll (now : ℕ) (full : Bool) (old new : PassView) (wire wire' : Option Link) : Type 0 where
  pub to : ℕ
  pub done : Probing now to full old new wire wire'
  pub end : HasNoneToProbe old new to

-- a Tick was recorded where one is due, unless there was no room
pub record Ticks (now last : ℕ) (old new : PassView) (turn : Turn) : Type 0 where
  pub later : (new ≡ old) ⊎ Looks old new
  pub tick : List Past
  pub mine : new.mine ≡ old.mine ++ tick
  pub at : Each (IsAt now new) tick
  pub due : last + 2000 ≤ now → (turn.last ≡ now) × (((x : Past) × (tick ≡ x ∷ []) × (x.event.act ≡ act.Tick)) ⊎ ((turn.full ≡ true) × (tick ≡ [])))
  pub early : now < last + 2000 → (turn.last ≡ last) × (tick ≡ [])
  pub over : turn.full ≡ true → WasFull old new

-- a whole turn: a Tick where one is due, then the probes of the Starting pods at their addresses, and no other. The rows are the Tick's
-- and the Readies'
pub record TakesTurn (now last : ℕ) (old new : PassView) (wire wire' : Option Link) (turn : Turn) : Type 0 where
  pub later : Looks old new
  pub tick : List Past
  pub rows : List Past
  pub visits : List Visit
  pub mine : new.mine ≡ old.mine ++ (tick ++ rows)
  pub due : last + 2000 ≤ now → (turn.last ≡ now) × (((x : Past) × (tick ≡ x ∷ []) × (x.event.act ≡ act.Tick)) ⊎ ((turn.full ≡ true) × (tick ≡ [])))
  pub early : now < last + 2000 → (turn.last ≡ last) × (tick ≡ [])
  pub at : Each (IsAt now new) (tick ++ rows)
  pub told : Tells wire wire' (probed_all (probes_of visits))
  pub ascend : AreAscending 0 visits
  -- no pod was probed but one that was starting, and each at the address that it had then
  pub only : Each (λ v. WasStarting old new v.pod v.address) visits
  -- the Readies are of the pods, and not of the addresses
  pub ready : AreReady turn.full visits rows
  pub over : turn.full ≡ true → WasFull old new
  -- each pod that starts at the entry and at the return, and has an address at the entry, was probed there
  pub starting : (c : Trace) → StandsFor old.opening c → (j a : ℕ) → StartsAtBoth old c j a old.seen new.seen → (is_visited j a visits → ⊥) → ⊥

-- one turn after another, each at a reading
abbrev pub TurnsFrom : (ℕ → Type 0) → ℕ → List ℕ → PassView → PassView → Option Link → Option Link → ℕ → Type 0
TurnsFrom reading last [] p q w w' end = (q ≡ p) × (w' ≡ w) × (end ≡ last)
TurnsFrom reading last (now ∷ nows) p q w w' end =
    (turn : Turn) × (m : PassView) × (v : Option Link) × reading now × TakesTurn now last p m w v turn × TurnsFrom reading turn.last nows m q v w' end

-- at least one turn
pub record TurnsTo (reading : ℕ → Type 0) (start : ℕ) (p q : PassView) (w w' : Option Link) (end : ℕ) : Type 0 where
  pub first : ℕ
  pub nows : List ℕ
  pub later : Looks p q
  pub turns : TurnsFrom reading start (first ∷ nows) p q w w' end

abbrev pub Turns : (ℕ → Type 0) → ℕ → PassView → PassView → Option Link → Option Link → Type 0
Turns reading start p q w w' = (end : ℕ) × TurnsTo reading start p q w w' end

-- ---- the times of the ticks

abbrev pub is_tick : Act → Bool
is_tick act.Tick = true
is_tick _ = false

abbrev pub ticks_of : List Past → List Past
ticks_of rows = filter (λ x. is_tick x.event.act) rows

-- each is at least 2,000 above the one before, and the first above this one
abbrev pub AreTwoSecondsApart : ℕ → List ℕ → Type 0
AreTwoSecondsApart last [] = ⊤
AreTwoSecondsApart last (t ∷ ts) = (last + 2000 ≤ t) × AreTwoSecondsApart t ts

-- each row was recorded at its reading
abbrev pub AreRecordedAt : (ℕ → Type 0) → PassView → List ℕ → List Past → Type 0
AreRecordedAt reading p [] [] = ⊤
AreRecordedAt reading p [] (x ∷ xs) = ⊥
AreRecordedAt reading p (t ∷ ts) [] = ⊥
AreRecordedAt reading p (t ∷ ts) (x ∷ xs) = reading t × IsAt t p x × AreRecordedAt reading p ts xs

abbrev pub IsTickerRow : Past → Type 0
IsTickerRow x = (x.event.act ≡ act.Tick) ⊎ ((p : ℕ) × (x.event.act ≡ act.Ready p))

-- the rows that the pass gained are Ticks and Readies. The readings of the Ticks are 2,000 apart, and as far above the start
pub record TicksApart (reading : ℕ → Type 0) (start : ℕ) (old new : PassView) : Type 0 where
  pub rows : List Past
  pub mine : new.mine ≡ old.mine ++ rows
  pub only : Each IsTickerRow rows
  pub times : List ℕ
  pub apart : AreTwoSecondsApart start times
  pub at : AreRecordedAt reading new times (ticks_of rows)

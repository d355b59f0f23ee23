-- One request to one of several revisions, and the ticker of all.
use Rattle.std.specs.Prelude.{◌≡◌, ◌⊎◌, ◌≤◌, ◌<◌, ℕ, Bool, List, map, length, Option, None, Some, Result, Ok, Err, slice_index_or, slice_set}
use Rattle.atomic_table.specs.Seated.{TableId}
use Rattle.kn_event.specs.declared.revision.Spec.{Spec}
use Rattle.kn_directory.specs.Names.{IsFirstNamed, NoneHasName}
use Rattle.kn_cell.specs.Shown.{Looks, PassView}
use Rattle.kn_io.specs.Causes.{Rose}
use Rattle.kn_io.specs.Links.{Link}
use Rattle.kn_head.specs.declared.answer.Answer.TheVariants as answer
use Rattle.kn_head.specs.declared.head.Head.{Head}
use Rattle.kn_head.specs.declared.head.HeadError.{HeadError}
use Rattle.kn_head.specs.Answers.{answer_for}
use Rattle.kn_request.specs.declared.slot.Served.{Served}
use Rattle.kn_request.specs.declared.slot.Served.TheVariants as served
use Rattle.kn_request.specs.declared.slot.Work.{Work}
use Rattle.kn_request.specs.declared.ticks.Turn.{Turn}
use Rattle.kn_request.specs.One.{IsEvent, IsRefusal, IsUnread, ServesOneBy}
use Rattle.kn_request.specs.Outside.{Said}
use Rattle.kn_request.specs.Terms.{unwatched}
use Rattle.kn_request.specs.Ticking.{TakesTurn, TicksApart, Turns}

-- ---- what a slot has of each revision, by the revision's place: its pass, what is told of its link, and the link's faults

abbrev pub at_pass : List (Option PassView) → ℕ → Option PassView
at_pass ps v = slice_index_or ps v None

abbrev pub at_wire : List (Option Link) → ℕ → Option Link
at_wire ws v = slice_index_or ws v None

abbrev pub at_count : List ℕ → ℕ → ℕ
at_count ns v = slice_index_or ns v 0

-- the passes that lie in the works, and their flags
abbrev pub passes_in : List Work → List (Option PassView)
passes_in works = map (λ (w : Work). w.pass) works

abbrev pub faults_in : List Work → List Bool
faults_in works = map (λ (w : Work). w.fault) works

abbrev pub memories_in : List Work → List Bool
memories_in works = map (λ (w : Work). w.memory) works

-- of each revision a pass of its cell
abbrev pub EachPass : List TableId → List (Option PassView) → Type 0
EachPass cells ps = (v : ℕ) (c : TableId) → v < length cells → (p : PassView) × (at_pass ps v ≡ Some p) × (p.cell ≡ slice_index_or cells v c)

-- ---- one request

-- the head names none of them
abbrev pub IsForNone : List Spec → Head → Type 0
IsForNone specs head = NoneHasName specs head.namespace head.revision

-- it names revision v, and none before that
abbrev pub IsNamed : List Spec → ℕ → Head → Type 0
IsNamed specs v head = IsFirstNamed specs v head.namespace head.revision

-- the request was one to revision v. No other revision's pass or link was touched
pub record ServesAt (reading : ℕ → Type 0) (specs : List Spec) (tag : ℕ) (ps ps' : List (Option PassView)) (ws ws' : List (Option Link)) (v : ℕ) (head : Head) (s : Served) (text : List ℕ) : Type 0 where
  pub named : IsNamed specs v head
  pub old : PassView
  pub new : PassView
  pub was : at_pass ps v ≡ Some old
  pub now : ps' ≡ slice_set ps v (Some new)
  pub later : (new ≡ old) ⊎ Looks old new
  pub wires : ws' ≡ slice_set ws v (at_wire ws' v)
  pub event : IsEvent (unwatched reading) named.spec.timeout_ms tag head old new (at_wire ws v) (at_wire ws' v) s text

-- no pass and no link was touched
pub record TouchesNone (ps ps' : List (Option PassView)) (ws ws' : List (Option Link)) : Type 0 where
  pub passes : ps' ≡ ps
  pub wires : ws' ≡ ws

-- what a connection came to, by the revision that its head names, and by its head
abbrev pub IsWideWay : (ℕ → Type 0) → List Spec → ℕ → List (Option PassView) → List (Option PassView) → List (Option Link) → List (Option Link) → Option ℕ → Result Head HeadError → Served → List ℕ → Type 0
IsWideWay reading specs tag ps ps' ws ws' (Some v) (Ok h) s text = ServesAt reading specs tag ps ps' ws ws' v h s text
IsWideWay reading specs tag ps ps' ws ws' None (Ok h) s text = IsForNone specs h × TouchesNone ps ps' ws ws' × IsRefusal answer.NoSuchRevision s text
IsWideWay reading specs tag ps ps' ws ws' (Some v) (Err e) s text = ⊥
IsWideWay reading specs tag ps ps' ws ws' None (Err e) s text = TouchesNone ps ps' ws ws' × IsUnread e (answer_for e) s text

-- nobody was met, or somebody was
abbrev pub ServesWide : (ℕ → Type 0) → List Spec → ℕ → List (Option PassView) → List (Option PassView) → List (Option Link) → List (Option Link) → Option ℕ → Option Said → Option Said → Served → Type 0
ServesWide reading specs tag ps ps' ws ws' of said said' result =
    ServesOneBy ((of ≡ None) × TouchesNone ps ps' ws ws') (IsWideWay reading specs tag ps ps' ws ws' of) said said' result

-- the faults of no other link than that of the revision that was named have risen
abbrev pub BreaksAt : Option ℕ → List ℕ → List ℕ → Type 0
BreaksAt None bs bs' = bs' ≡ bs
BreaksAt (Some v) bs bs' = (bs' ≡ slice_set bs v (at_count bs' v)) × (at_count bs v ≤ at_count bs' v)

-- a fault is answered only where the caller's count of faults rose, or that of the link of the revision that was named
pub record WideCauses (callers callers' : ℕ) (bs bs' : List ℕ) (of : Option ℕ) (result : Served) : Type 0 where
  pub caller_never_falls : callers ≤ callers'
  pub caller : result ≡ served.CallerFault → Rose callers callers'
  pub links : BreaksAt of bs bs'
  pub link : result ≡ served.LinkFault → (v : ℕ) × (of ≡ Some v) × Rose (at_count bs v) (at_count bs' v)

-- ---- the ticker of all

-- as many passes as cells, each of the cell in its place
abbrev pub ArePassesOf : List TableId → List PassView → Type 0
ArePassesOf cells passes = (length passes ≡ length cells) × ((v : ℕ) (c : TableId) (p : PassView) → v < length cells → (slice_index_or passes v p).cell ≡ slice_index_or cells v c)

-- what became of one pass and its keeper, whose faults are counted
pub record TicksOf (reading : ℕ → Type 0) (start : ℕ) (p q : PassView) (w w' : Option Link) (b b' : ℕ) : Type 0 where
  pub turns : Turns reading start p q w w'
  pub apart : TicksApart reading start p q
  pub never_falls : b ≤ b'

-- each revision's pass ticked, with its own keeper
abbrev pub TicksAll : (ℕ → Type 0) → ℕ → List PassView → List PassView → List (Option Link) → List (Option Link) → List ℕ → List ℕ → Type 0
TicksAll reading start ps ps' ws ws' bs bs' =
    (v : ℕ) (d : PassView) → v < length ps → TicksOf reading start (slice_index_or ps v d) (slice_index_or ps' v d) (at_wire ws v) (at_wire ws' v) (at_count bs v) (at_count bs' v)

-- as many as before, each this
abbrev pub AreSetTo : ℕ → List ℕ → List ℕ → Type 0
AreSetTo n xs ys = (length ys ≡ length xs) × ((v : ℕ) → v < length xs → at_count ys v ≡ n)

-- one pass took a turn, and what its last tick is then
pub record TakesOneTurn (now last last' : ℕ) (p q : PassView) (w w' : Option Link) (b b' : ℕ) : Type 0 where
  pub turn : Turn
  pub last_is : last' ≡ turn.last
  pub takes : TakesTurn now last p q w w' turn
  pub never_falls : b ≤ b'

-- each revision took a turn
abbrev pub TakesTurns : ℕ → List PassView → List PassView → List ℕ → List ℕ → List (Option Link) → List (Option Link) → List ℕ → List ℕ → Type 0
TakesTurns now ps ps' ls ls' ws ws' bs bs' =
    (v : ℕ) (d : PassView) → v < length ps → TakesOneTurn now (at_count ls v) (at_count ls' v) (slice_index_or ps v d) (slice_index_or ps' v d) (at_wire ws v) (at_wire ws' v) (at_count bs v) (at_count bs' v)

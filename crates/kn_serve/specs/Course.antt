-- What a run of a session over one revision comes to, as all calls of one say it.
use Rattle.std.specs.Prelude.{◌≡◌, ◌⊎◌, ℕ, false, List, [], map, length, slice_index_or, Option, None, Some, String, Vec, string_bytes}
use Rattle.std.specs.Global.{Global}
use Rattle.kn_io.specs.Causes.{Rose}
use Rattle.kn_io.specs.Links.{Link}
use Rattle.kn_journal.specs.declared.status.Status.{Status}
use Rattle.kn_plan.specs.declared.plan.Plan.{Plan}
use Rattle.kn_request.specs.declared.slot.Slot.{Slot}
use Rattle.kn_request.specs.declared.slot.WideSlot.{WideSlot}
use Rattle.kn_session.specs.Changes.{Change, Lent, became, lent, was}
use Rattle.kn_session.specs.Lists.{EachDone}
use Rattle.kn_session.specs.Rounds.{Sides}
use Rattle.kn_session.specs.Session.{Probed, SlotServed, TickerServed}
use Rattle.kn_session.specs.Wide.{WideSides}
use Rattle.kn_serve.specs.Opening.{MadeNew}
use Rattle.kn_serve.specs.Running.{Declines, Serves, Session}
use Rattle.kn_serve.specs.Shut.{ServesWords, StaysShut}

-- what is seen of the outside of a session: what its input has left, what is told of a slot and of a keeper, which counts these faults,
-- the clock's readings, and what the output holds
pub record Seen (S C L K O : Type 0) : Type 1 where
  pub left : S → Option (List ℕ)
  pub at : Slot C L → Sides
  pub wide_at : WideSlot C L → WideSides
  pub told : L → Option Link
  pub faults : L → ℕ
  pub reading : K → ℕ → Type 0
  pub held : O → Option (List ℕ)

-- .. and of its opener, which counts these faults, and gives this for a plan of P: slots and what is told apart from them
pub record SeenOpening (W P A B S C L K O : Type 0) : Type 1 where
  pub outside : Seen S C L K O
  pub opener_faults : W → ℕ
  pub gives : W → P → W → A → B → Type 0

-- what became of the slots
abbrev pub SlotsDid : {C L : Type 0} → (Slot C L → Sides) → (ℕ → Type 0) → Plan → List (Slot C L) → List (Slot C L) → Session → Type 0
SlotsDid at reading plan ss ts x =
    EachDone (λ i s t. SlotServed reading x.setup.spec x.opened plan.room plan.rounds x.history i (at s) (at t) (slice_index_or x.faults i false) (slice_index_or x.wants i false)) ss ts

-- .. and of the keeper
abbrev pub KeeperDid : (ℕ → Type 0) → Plan → Option Link → Option Link → Session → Type 0
KeeperDid reading plan wire wire' x = TickerServed reading x.start x.opened plan.room x.history wire wire' × Probed x.opened x.history wire wire'

-- a session was declined, and then this is the same, or it was served, and then this became of the keeper
abbrev pub RunGoes : {S C L K O : Type 0} → Seen S C L K O → Plan → K → S → S → List (Slot C L) → List (Slot C L) → O → O → Type 0 → (Session → Type 0) → Status → Type 0
RunGoes w plan clock setup setup' slots slots' out out' Same Keeper result =
    Declines (w.left setup) Same result
    ⊎ Serves (w.reading clock) (length slots) (w.left setup) (w.left setup') (w.held out) (w.held out') (SlotsDid w.at (w.reading clock) plan slots slots') Keeper result

-- .. by a plan, with slots and a keeper
abbrev pub CourseBy : {S C L K O : Type 0} → Seen S C L K O → Lent Plan → Lent K → Change S → Change (List (Slot C L)) → Change L → Change O → Status → Type 0
CourseBy w plan clock setup slots keeper out result =
    RunGoes w (lent plan) (lent clock) (was setup) (became setup) (was slots) (became slots) (was out) (became out)
    ((became slots ≡ was slots) × (became keeper ≡ was keeper) × (became out ≡ was out))
    (KeeperDid (w.reading (lent clock)) (lent plan) (w.told (was keeper)) (w.told (became keeper))) result

-- .. by words, with what was opened for the plan that they ask for
abbrev pub CourseOf : {W S C L K O : Type 0} → SeenOpening W Plan (List (Slot C L)) (Option L) S C L K O → Lent (List (String Global))
    → Change W → Change S → Change (Vec (Slot C L) Global) → Change (Option L) → Lent K → Change O → Status → Type 0
CourseOf {W} {S} {C} {L} {K} {O} o words opener setup slots keeper clock out result =
    let w = o.outside in
    StaysShut (map string_bytes (lent words)) (Rose (o.opener_faults (was opener)) (o.opener_faults (became opener)))
    ((became setup ≡ was setup) × (became out ≡ was out) × ((became slots).items ≡ []) × (became keeper ≡ None)) result
    ⊎ ServesWords (Slot C L) L (map string_bytes (lent words))
    (λ plan made k. MadeNew w.at w.told plan.slots made (Some k) × o.gives (was opener) plan (became opener) made (Some k))
    (λ plan made k. RunGoes w plan (lent clock) (was setup) (became setup) made (became slots).items (was out) (became out)
    (((became slots).items ≡ made) × (became keeper ≡ Some k) × (became out ≡ was out))
    (λ x. (l : L) × (became keeper ≡ Some l) × KeeperDid (w.reading (lent clock)) plan (w.told k) (w.told l) x) result)

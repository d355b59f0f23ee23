-- What an opener for several revisions makes.
use Rattle.std.specs.Prelude.{◌≡◌, ℕ, Bool, List, All, length, Option}
use Rattle.kn_io.specs.Links.{Link}
use Rattle.kn_plan.specs.declared.wide_plan.WidePlan.{WidePlan}
use Rattle.kn_request.specs.declared.slot.WideSlot.{WideSlot}
use Rattle.kn_request.specs.declared.slot.Work.{Work}
use Rattle.kn_request.specs.Outside.{Said}
use Rattle.kn_session.specs.Wide.{HasOfEach, WideSides}
use Rattle.kn_serve.specs.Opening.{IsEmptyWork, IsSilent, IsUnused}

-- what is told of a slot's caller and of its links, and its works
pub record IsFreshWide (said : Option Said) (wires : List (Option Link)) (works : List Work) : Type 0 where
  pub silent : IsSilent said
  pub unused : All IsUnused wires
  pub empty : All IsEmptyWork works

-- .. by what is told of the slot
abbrev pub IsFreshWideBy : {C L : Type 0} → (WideSlot C L → WideSides) → WideSlot C L → Type 0
IsFreshWideBy at s = IsFreshWide (at s).said (at s).wires s.works.items

-- as many slots as asked for, each new, with a link and a work for each list of pods; and a new keeper for each list
pub record AreOpened {C L : Type 0} (FreshSlot : WideSlot C L → Type 0) (FreshKeeper : L → Type 0) (plan : WidePlan) (slots : List (WideSlot C L)) (keepers : List L) : Type 0 where
  pub many : length slots ≡ plan.slots
  pub each : All FreshSlot slots
  pub of_each : All (HasOfEach (length plan.pods)) slots
  pub kept : length keepers ≡ length plan.pods
  pub keepers_new : All FreshKeeper keepers

-- .. by what is told of a slot, and of a keeper
abbrev pub AllNew : {C L : Type 0} → (WideSlot C L → WideSides) → (L → Option Link) → WidePlan → List (WideSlot C L) → List L → Type 0
AllNew at told plan slots keepers = AreOpened (IsFreshWideBy at) (λ k. IsUnused (told k)) plan slots keepers

-- what an opener in memory has
pub record WideOffer (C L : Type 0) : Type 0 where
  pub slots : List (WideSlot C L)
  pub keepers : List L
  pub fail : Bool
  pub faults : ℕ

-- all of it is new
pub record IsWideOffer {C L : Type 0} (FreshSlot : WideSlot C L → Type 0) (FreshKeeper : L → Type 0) (slots : List (WideSlot C L)) (keepers : List L) : Type 0 where
  pub each : All FreshSlot slots
  pub kept : All FreshKeeper keepers

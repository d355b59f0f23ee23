-- What an opener makes.
use Rattle.std.specs.Prelude.{◌≡◌, ℕ, Bool, false, List, [], ◌∷◌, All, length, Option, None, Some, IfSome}
use Rattle.kn_io.specs.Callers.{texts_of}
use Rattle.kn_io.specs.Links.{Link, unused}
use Rattle.kn_request.specs.declared.slot.Slot.{Slot}
use Rattle.kn_request.specs.declared.slot.Work.{Work}
use Rattle.kn_request.specs.Outside.{Said}
use Rattle.kn_session.specs.Rounds.{Sides}

-- nothing is in it
pub record IsEmptyWork (w : Work) : Type 0 where
  pub pass : w.pass ≡ None
  pub fault : w.fault ≡ false
  pub memory : w.memory ≡ false

-- a caller that tells has one text, and that is empty
abbrev pub IsSilent : Option Said → Type 0
IsSilent said = (a : Said) → said ≡ Some a → texts_of a.kept a.text ≡ [] ∷ []

-- a link that tells called nothing and probed nothing
abbrev pub IsUnused : Option Link → Type 0
IsUnused told = (l : Link) → told ≡ Some l → l ≡ unused

-- what is told of a slot's caller and of its link, and its work
pub record IsFresh (said : Option Said) (told : Option Link) (work : Work) : Type 0 where
  pub silent : IsSilent said
  pub link_unused : IsUnused told
  pub empty : IsEmptyWork work

-- .. by what is told of the slot
abbrev pub IsFreshBy : {C L : Type 0} → (Slot C L → Sides) → Slot C L → Type 0
IsFreshBy at s = IsFresh (at s).said (at s).wire s.work

-- as many slots as asked for, each new, and a keeper; of each slot and of the keeper this says whether it is new
pub record IsOpened {C L : Type 0} (FreshSlot : Slot C L → Type 0) (FreshKeeper : L → Type 0) (count : ℕ) (slots : List (Slot C L)) (keeper : Option L) : Type 0 where
  pub many : length slots ≡ count
  pub each : All FreshSlot slots
  pub keeper_is : L
  pub there : keeper ≡ Some keeper_is
  pub keeper_new : FreshKeeper keeper_is

-- .. by what is told of a slot, and of a keeper
abbrev pub MadeNew : {C L : Type 0} → (Slot C L → Sides) → (L → Option Link) → ℕ → List (Slot C L) → Option L → Type 0
MadeNew at told count slots keeper = IsOpened (IsFreshBy at) (λ k. IsUnused (told k)) count slots keeper

-- what an opener in memory has
pub record Offer (C L : Type 0) : Type 0 where
  pub slots : List (Slot C L)
  pub keeper : Option L
  pub fail : Bool
  pub faults : ℕ

-- all of it is new
pub record IsOffer {C L : Type 0} (FreshSlot : Slot C L → Type 0) (FreshKeeper : L → Type 0) (slots : List (Slot C L)) (keeper : Option L) : Type 0 where
  pub each : All FreshSlot slots
  pub kept : IfSome keeper FreshKeeper

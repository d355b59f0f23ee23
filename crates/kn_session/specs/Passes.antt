-- The passes that the slots hold.
use Rattle.std.specs.Prelude.{ℕ, ◌≡◌, ◌+◌, ◌-◌, List, [], ◌∷◌, Option, None, Some, Bool, true, false}
use Rattle.atomic_table.specs.Seated.{TableId}
use Rattle.kn_core.specs.State.{RevisionState}
use Rattle.kn_cell.specs.Shown.{PassView, joined_shown}
use Rattle.kn_request.specs.declared.slot.Slot.{Slot}
use Rattle.kn_request.specs.declared.slot.Work.{Work}

-- a pass of a cell of which nothing was seen and nothing taken out
pub record IsBlank (p : PassView) : Type 0 where
  pub unseen : p.seen ≡ []
  pub whole : p.gone ≡ 0

-- what kind of cell it is: over which revision, with which room, whether rows may be taken out, and how many addresses its book has
pub record Kind : Type 0 where
  pub opening : RevisionState
  pub room : ℕ
  pub lasting : Bool
  pub book : ℕ

abbrev pub kind_of : PassView → Kind
kind_of p = record { opening = p.opening; room = p.room; lasting = p.lasting; book = p.book }

-- a cell whose history is kept whole, and in which a pod's number is its address
abbrev pub plain_kind : RevisionState → ℕ → Kind
plain_kind b room = record { opening = b; room = room; lasting = false; book = 0 }

-- a cell of which rows may be taken out, and in which pods have so many addresses, or 0: then a pod's number is its address
abbrev pub lasting_kind : RevisionState → ℕ → ℕ → Kind
lasting_kind b room addresses = record { opening = b; room = room; lasting = true; book = addresses }

-- a new pass with this number, of such a cell, which has seen and done nothing, and doesn't take rows out
pub record IsNewOf (k : Kind) (number : ℕ) (p : PassView) : Type 0 where
  pub named : p.number ≡ number
  pub free : p.free ≡ 0
  pub back : p.back ≡ 0
  pub seen : p.seen ≡ []
  pub mine : p.mine ≡ []
  pub others : p.others ≡ []
  pub kind : kind_of p ≡ k
  pub whole : p.gone ≡ 0
  pub reader : p.scribe ≡ false

abbrev pub IsNew : RevisionState → ℕ → ℕ → PassView → Type 0
IsNew b room number p = IsNewOf (plain_kind b room) number p

abbrev pub IsNewLasting : RevisionState → ℕ → ℕ → ℕ → PassView → Type 0
IsNewLasting b room addresses number p = IsNewOf (lasting_kind b room addresses) number p

-- the first pass of a new cell once all others were given away. It takes the rows out, where rows may be taken out
pub record IsFirst (k : Kind) (p : PassView) : Type 0 where
  pub named : p.number ≡ 0
  pub free : p.free ≡ 0
  pub back : p.back ≡ 0
  pub seen : p.seen ≡ []
  pub mine : p.mine ≡ []
  pub others : p.others ≡ []
  pub kind : kind_of p ≡ k
  pub whole : p.gone ≡ 0
  pub scribe : p.scribe ≡ k.lasting

abbrev pub IsScribes : RevisionState → ℕ → ℕ → PassView → Type 0
IsScribes b room addresses p = IsFirst (lasting_kind b room addresses) p

-- nothing is noted in the work
abbrev pub IsUnmarked : Work → Type 0
IsUnmarked w = (w.fault ≡ false) × (w.memory ≡ false)

-- there is a pass of the cell
abbrev pub HasPass : TableId → Option PassView → Type 0
HasPass cell found = (p : PassView) × (found ≡ Some p) × (p.cell ≡ cell)

-- a pass of the cell with this number, which stands for itself alone
pub record IsLone (cell : TableId) (number : ℕ) (q : PassView) : Type 0 where
  pub of : q.cell ≡ cell
  pub named : q.number ≡ number
  pub free : q.free ≡ 0
  pub back : q.back ≡ 0
  pub others : q.others ≡ []

abbrev pub HasLone : TableId → ℕ → Option PassView → Type 0
HasLone cell number found = (q : PassView) × (found ≡ Some q) × IsLone cell number q

abbrev pub IsHanded : TableId → (PassView → Type 0) → Option PassView → Type 0
IsHanded cell New found = (p : PassView) × (found ≡ Some p) × (p.cell ≡ cell) × New p

-- all but the pass is as it was
pub record IsKept {C L : Type 0} (s t : Slot C L) : Type 0 where
  pub caller : t.caller ≡ s.caller
  pub link : t.link ≡ s.link
  pub fault : t.work.fault ≡ s.work.fault
  pub memory : t.work.memory ≡ s.work.memory

-- a slot got a new pass
abbrev pub IsGiven : {C L : Type 0} → TableId → (PassView → Type 0) → Slot C L → Slot C L → Type 0
IsGiven {C} {L} cell New s t = IsHanded cell New t.work.pass × IsKept s t

-- .. by this pass, after so many that it gave away before
abbrev pub IsGivenOf : {C L : Type 0} → TableId → PassView → ℕ → Slot C L → Slot C L → Type 0
IsGivenOf {C} {L} cell p i s t = IsGiven cell (IsNewOf (kind_of p) (p.passes - p.free + i)) s t

-- a slot gave its pass away
abbrev pub IsEmptied : {C L : Type 0} → Slot C L → Slot C L → Type 0
IsEmptied {C} {L} s t = (t.work.pass ≡ None) × IsKept s t

-- the passes that the slots have, in order
abbrev pub front_of : Option PassView → List PassView → List PassView
front_of None qs = qs
front_of (Some q) qs = q ∷ qs

abbrev pub found_by : {A : Type 0} → (A → Option PassView) → List A → List PassView
found_by {A} f [] = []
found_by {A} f (x ∷ xs) = front_of (f x) (found_by f xs)

abbrev pub found_in : {C L : Type 0} → List (Slot C L) → List PassView
found_in {C} {L} slots = found_by (λ (s : Slot C L). s.work.pass) slots

-- a pass that took in these others
abbrev pub joined_all : PassView → List PassView → PassView
joined_all p [] = p
joined_all p (q ∷ qs) = joined_all (joined_shown p q) qs

abbrev pub where_some : Option PassView → PassView → PassView
where_some None p = p
where_some (Some q) p = joined_shown p q

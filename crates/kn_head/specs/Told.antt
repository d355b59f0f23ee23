-- What reading does to a source, which tells the bytes that are left or doesn't.
use Rattle.std.specs.Prelude.{◌≡◌, ℕ, ◌≤◌, List, Option, None, Some, IfSome, ⊤}
use Rattle.std.specs.Io.KnownBytes.{Consumes, prepend_known}
use Rattle.kn_head.specs.declared.head.HeadError.{HeadError}
use Rattle.kn_head.specs.declared.head.HeadError.TheVariants as error

-- the bytes that wait, and then those that are left
abbrev pub unread : List ℕ → Option (List ℕ) → Option (List ℕ)
unread waiting left = prepend_known waiting left

-- where the old bytes are told, the new ones are too, and P holds of both
abbrev pub IfTold : Option (List ℕ) → Option (List ℕ) → (List ℕ → List ℕ → Type 0) → Type 0
IfTold None new P = ⊤
IfTold (Some old) None P = ⊥
IfTold (Some old) (Some new) P = P old new

-- the bytes lose some first of them, maybe none
abbrev pub LosesFront : Option (List ℕ) → Option (List ℕ) → Type 0
LosesFront old new = (front : List ℕ) × Consumes old new front

-- what is left shrinks from the front, the texts beside it stay, and the count of faults doesn't fall
pub record Draws (left left' : Option (List ℕ)) (apart apart' : Option (List (List ℕ))) (faults faults' : ℕ) : Type 0 where
  pub front : LosesFront left left'
  pub apart_stays : apart' ≡ apart
  pub never_falls : faults ≤ faults'

-- a part of what is wanted is refused, or cut; of a fault of the source nothing is said
abbrev pub PartFails : Type 0 → Type 0 → HeadError → Type 0
PartFails refused cut error.BadChunk = refused
PartFails refused cut error.EndedEarly = cut
PartFails refused cut error.ReadFault = ⊤
PartFails refused cut e = ⊥

-- no more bytes came behind those that wait: these are all, or the source failed
abbrev pub Stops : List ℕ → Option (List ℕ) → HeadError → Type 0
Stops waiting known e = PartFails ⊥ (IfSome known (λ bytes. bytes ≡ waiting)) e

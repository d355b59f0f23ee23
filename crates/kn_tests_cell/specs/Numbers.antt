-- The numbers that a pass of a cell has to give away, and those that came back to it.
use Rattle.std.specs.Prelude.{ℕ, ◌≡◌, ◌≤◌, ◌+◌, Bool, true}
use Rattle.atomic_table.specs.Seated.{TableId}
use Rattle.kn_cell.specs.Shown.{PassView}

-- the first pass of so many, of which none was given away
pub record IsFirst (cell : TableId) (n : ℕ) (p : PassView) : Type 0 where
  pub of : p.cell ≡ cell
  pub free : p.free + 1 ≡ n
  pub back : p.back ≡ 0
  pub passes : p.passes ≡ n

-- one of so many passes, which stands for itself alone
pub record IsLeaf (cell : TableId) (n : ℕ) (p : PassView) : Type 0 where
  pub of : p.cell ≡ cell
  pub free : p.free ≡ 0
  pub back : p.back ≡ 0
  pub passes : p.passes ≡ n

-- it may take rows out where this is true, and there is room for so many
pub record IsFor (takes : Bool) (rows : ℕ) (p : PassView) : Type 0 where
  pub scribe : takes ≡ true → p.scribe ≡ true
  pub room : p.room ≡ rows

-- it is of the same cell, has the same numbers, and may do the same
pub record IsStill (old new : PassView) : Type 0 where
  pub of : new.cell ≡ old.cell
  pub free : new.free ≡ old.free
  pub back : new.back ≡ old.back
  pub passes : new.passes ≡ old.passes
  pub scribe : new.scribe ≡ old.scribe
  pub room : new.room ≡ old.room

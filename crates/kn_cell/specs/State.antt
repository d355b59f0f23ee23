-- What contracts see of the value in the slot.
use Rattle.std.specs.Prelude.{ℕ, List, length}
use Rattle.kn_book.specs.State.{BookState}
use Rattle.kn_core.specs.State.{RevisionState}
use Rattle.kn_figures.specs.declared.tally.Tally.{Tally}
use Rattle.kn_cell.specs.declared.past.Past.{Past}

pub record DeskState : Type 0 where
  pub room : ℕ
  pub revision : RevisionState
  -- how many rows were taken out, and those that are left
  pub taken : ℕ
  pub history : List Past
  -- which address each live pod has
  pub book : BookState
  -- the rows that were made since the desk was new, by their kinds
  pub tally : Tally

-- how many requests are live
abbrev pub live_in : RevisionState → ℕ
live_in r = length r.parts.throttle.admission.live

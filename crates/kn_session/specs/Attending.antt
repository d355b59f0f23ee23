-- What is beside the slots of a session, and what comes of all at the end.
use Rattle.std.specs.Prelude.{ℕ, ◌≡◌, ◌⊎◌, ◌+◌, ◌++◌, true, false, List, [], length, Some}
use Rattle.atomic_table.specs.Seated.{TableId}
use Rattle.kn_core.specs.State.{RevisionState}
use Rattle.kn_cell.specs.declared.past.Past.{Past}
use Rattle.kn_cell.specs.Lists.{Each, StartsWith}
use Rattle.kn_cell.specs.Shown.{LooksBy, PassView, first_shown}
use Rattle.kn_request.specs.declared.slot.Slot.{Slot}
use Rattle.kn_session.specs.Changes.{Change, became, was}
use Rattle.kn_session.specs.Lists.{EachInPlace}
use Rattle.kn_session.specs.Passes.{Kind}
use Rattle.kn_session.specs.Session.{IsClosedAs, IsPart, IsSlots}

-- the first pass of a new cell of this kind
abbrev pub first_of : TableId → Kind → ℕ → PassView
first_of cell k passes = record (first_shown cell k.opening k.room passes) { lasting = k.lasting; scribe = k.lasting; book = k.book }

-- an attendant went on with the pass, by which it recorded nothing
pub record HasAttended {S : Type 0} (attends : S → S → PassView → PassView → Type 0) (who : Change S) (pass : Change PassView) : Type 0 where
  pub later : (given : ℕ) × ((became pass ≡ was pass) ⊎ LooksBy given (was pass) (became pass))
  pub mine : (became pass).mine ≡ (was pass).mine
  pub did : attends (was who) (became who) (was pass) (became pass)

-- the whole history of a cell that its first pass closed, together with the ticker's and those of the slots. It is `front`, the
-- rows that were taken out, and then these
pub record ClosesAll {C L : Type 0} (first ticks : PassView) (slots : List (Slot C L)) (now : RevisionState) (rest : List Past) : Type 0 where
  pub front : List Past
  pub plain : first.lasting ≡ false → front ≡ []
  pub exact : first.scribe ≡ true → length front ≡ first.gone
  pub closed : IsClosedAs first.opening now (front ++ rest)
  pub kept : EachInPlace (λ i s. (q : PassView) → s.work.pass ≡ Some q → IsPart (front ++ rest) (2 + i) q) slots
  pub ticker : IsPart (front ++ rest) 1 ticks
  pub rows : Each (λ x. (x.pass ≡ 1) ⊎ IsSlots (length slots) x) (front ++ rest)
  pub seen : StartsWith (front ++ rest) first.seen
  pub others : Each (λ o. StartsWith (front ++ rest) o.seen) first.others

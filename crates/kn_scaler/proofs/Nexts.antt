-- The next row of some trace may be taken.
use Rattle.std.proofs.Common.{◌≡◌, ℕ, ◌<◌, sym, ◌∙◌, subst, None, Some, true, false}
use Rattle.std.specs.Prelude.{Bool, IfSome, Option}
use Rattle.std.proofs.Math.Logic.{∥∥₁_elim}
use mathlib.Core.HLevel.{Unit-prop}
use denote.Struct.Props.{props}
use Rattle.kn_event.specs.declared.entry.Row.{Row}
use Rattle.kn_event.specs.declared.event.Stand.{Stand}
use Rattle.kn_event.specs.declared.revision.Spec.{Spec}
use Rattle.kn_trace.specs.Trace.{Trace}
use Rattle.kn_record.specs.Made.{IsMade, IsProper}
use Rattle.kn_stats.specs.declared.change.Change.{Change}
use Rattle.kn_stats.specs.declared.change.Change.TheVariants as change
use Rattle.kn_stats.specs.Totals.{CanCount, IsTotalsOf, TotalsState}
use Rattle.kn_changes.specs.Changes.{change_by, changes_of}
use Rattle.kn_places.specs.Ends.{IsToldOf, change_in}
use Rattle.kn_scaler.specs.Stands.{IsNextOfSome, IsNextRow, ScalerState}

lt_prop : (a b : ℕ) → IsProp (a < b)
lt_prop a b = hlevel props

can_prop : (x : TotalsState) (o : Option Change) (a b : IfSome o (CanCount x)) → a ≡ b
can_prop x None a b = Unit-prop a b
can_prop x (Some change.Admitted) a b = lt_prop _ _ a b
can_prop x (Some (change.Assigned p)) a b = lt_prop _ _ a b
can_prop x (Some (change.Directed p)) a b = lt_prop _ _ a b
can_prop x (Some change.EndedHeld) a b = lt_prop _ _ a b
can_prop x (Some (change.EndedAt p true)) a b = lt_prop _ _ a b
can_prop x (Some (change.EndedAt p false)) a b = lt_prop _ _ a b

-- a row, by what is said of it
abbrev IsSaid : Type 0
IsSaid = (s : Spec) (c : Trace) (y : Row) (at : Stand) (through : Bool) → IsMade s c → IsProper s c y → IsToldOf c y at through → change_in y at through ≡ change_by c y

module _ (said : IsSaid) where
  pub next_change : (s : Spec) (x : ScalerState) (c : Trace) (y : Row) (at : Stand) (through : Bool) (o : Option Change) → o ≡ change_in y at through → IsNextRow x y at through s c → change_by c y ≡ o
  next_change s x c y at through o is next = sym (is ∙ said s c y at through next.made next.proper next.told)

  pub may_change :
      ((s : Spec) (c : Trace) (y : Row) (totals : TotalsState) → IsMade s c → IsProper s c y → IsTotalsOf totals (changes_of c) → IfSome (change_by c y) (CanCount totals))
      → (x : ScalerState) (y : Row) (at : Stand) (through : Bool) (o : Option Change) → o ≡ change_in y at through → IsNextOfSome x y at through → IfSome o (CanCount x.stats)
  may_change can x y at through o is some =
      ∥∥₁_elim some (can_prop x.stats o)
      (λ (f : (s : Spec) × (c : Trace) × IsNextRow x y at through s c).
      subst (λ z. IfSome z (CanCount x.stats)) (next_change f.0 x f.1 y at through o is f.2) (can f.0 f.1 y x.stats f.2.made f.2.proper f.2.stands.stats))

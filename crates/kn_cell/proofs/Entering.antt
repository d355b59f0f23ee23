-- A row that was recorded under the turn, and the turn given back after it.
use Rattle.std.proofs.Common.{◌≡◌, ℕ, [], ◌∷◌, ◌++◌, ap, sym, ◌∙◌, subst, refl}
use Rattle.atomic_table.specs.Table.{Me}
use Rattle.kn_event.specs.declared.event.Act.{Act}
use Rattle.kn_event.specs.declared.event.Told.{Told}
use Rattle.kn_cell.specs.declared.view.View.{View}
use Rattle.kn_cell.specs.History.{IsLegal}
use Rattle.kn_cell.specs.State.{DeskState}
use Rattle.kn_cell.specs.Views.{opening}
use Rattle.kn_cell.specs.Rule.{recorded, without_turn}
use Rattle.kn_cell.specs.Turns.{HasTurn, Enters, RecordsRow, row_of}
use Rattle.kn_cell.proofs.TurnFacts.{GoesOn}

-- the seat that counted the row has the turn still
pub entered : (act : Act) (time : ℕ) (told : Told) (y : DeskState) (m w : Me DeskState View) → HasTurn m → GoesOn m.0 act time told y
    → w ≡ (recorded m.0 (m.0.seen ++ row_of m.0 act time told ∷ []), (0, y) ∷ []) → Enters m.0 act time told w
entered act time told y m w t on is = record {
  view_is = ap (λ (x : Me DeskState View). x.0) is;
  has = subst HasTurn (sym is)
      record { turn = t.turn; fresh = t.fresh; value = y; slot = refl; goes = on.goes; gone = on.gone; bounded = t.bounded; legal = on.legal };
  bounds = on.bounds;
  need = on.need;
}

pub given_back : (v : View) (act : Act) (time : ℕ) (told : Told) (m w : Me DeskState View) → Enters v act time told m → w ≡ (without_turn m.0, [])
    → RecordsRow v act time told w
given_back v act time told m w e is = record {
  after_is = is ∙ ap (λ (u : View). (without_turn u, [])) e.view_is;
  legal = subst (λ (u : View). IsLegal (opening u.key) u.seen) e.view_is e.has.legal;
  bounds = e.bounds;
  need = e.need;
}

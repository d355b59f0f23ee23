use Rattle.std.proofs.Common.{◌++◌, ◌∷◌, [], arith, ap, sym, ◌∙◌, subst}
use Rattle.atomic_table.specs.Table.{Me}
use Rattle.kn_cell.specs.declared.view.View.{View}
use Rattle.kn_cell.specs.State.{DeskState}
use Rattle.kn_cell.specs.History.{IsLegal}
use Rattle.kn_cell.specs.Views.{opening}
use Rattle.kn_cell.specs.Desk.{Applies}
use Rattle.kn_cell.specs.Turns.{row_of}
use Rattle.kn_cell.proofs.TakenMoves.{taken_within}
use Rattle.kn_cell.proofs.TurnFacts.{applied, recorded_is}
use Rattle.kn_cell.proofs.Entering.{entered}
use Rattle.kn_cell.proofs.turn.enter.Goals as goal

pub record-requires-clause-added : goal.record-requires-clause-added
record-requires-clause-added c =
    let v = c.args.place.now.me.0 in
    let told = c.apply_at.new.answer in
    let t = c.requires.turn in
    let y = c.in-Ok.ensures.ok t.value t.slot in
    let a = subst (λ n. Applies t.value n c.args.act c.args.time told y.0) (sym c.requires.number) y.2 in
    let on = applied v t.value c.args.act c.args.time told y.0 t.bounded t.goes t.gone t.legal a in
    let same = sym c.apply_at.ensures.same.2 in
    let row = row_of v c.args.act c.args.time told in
    record {
      value = y.0;
      before = on.before;
      row = row;
      slot = y.1;
      last = on.row;
      own = ap (λ (u : View). u.number) same;
      bounds = on.bounds;
      legal = subst (λ (u : View). IsLegal (opening u.key) (u.seen ++ row ∷ [])) same on.legal;
    }

pub ring_called-left-requires-clause-slot : goal.ring_called-left-requires-clause-slot
ring_called-left-requires-clause-slot c =
    let t = c.requires.turn in
    let y = c.in-Ok.ensures.ok t.value t.slot in
    (y.0, ap (λ (m : Me DeskState View). m.1) (c.record.ensures.seen y.0 y.1) ∙ y.1)

pub returns-in-Ok-clause-ok : goal.returns-in-Ok-clause-ok
returns-in-Ok-clause-ok c =
    let m = c.args.place.now.me in
    let told = c.apply_at.new.answer in
    let t = c.requires.turn in
    let y = c.in-Ok.ensures.ok t.value t.slot in
    let a = subst (λ n. Applies t.value n c.args.act c.args.time told y.0) (sym c.requires.number) y.2 in
    let on = applied m.0 t.value c.args.act c.args.time told y.0 t.bounded t.goes t.gone t.legal a in
    let counted = recorded_is m.0 c.args.act c.args.time told y.0 c.apply_at.new.place.me c.record.new.place.me on c.apply_at.ensures.same.2 y.1 (c.record.ensures.seen y.0 y.1) in
    entered c.args.act c.args.time told y.0 m c.ring_called-left.new.place.me t on (c.ring_called-left.ensures.same.2 ∙ counted)

pub apply_at-requires-clause-slot : goal.apply_at-requires-clause-slot
apply_at-requires-clause-slot c =
    let t = c.requires.turn in
    let events = t.goes.events in
    let most = t.goes.few in
    let few = t.bounded.events in
    let len = taken_within c.args.place.now.me.0.key c.args.place.now.me.0.seen t.value t.goes in
    (t.value, t.slot, omega arith)

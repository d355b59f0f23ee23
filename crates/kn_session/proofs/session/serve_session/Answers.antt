use Rattle.std.proofs.Common.{◌+◌, ◌++◌, ap, arith, refl, subst, List, length}
use Rattle.std.specs.Prelude.{slice_index_or}
use Rattle.kn_cell.specs.declared.past.Past.{Past}
use Rattle.kn_cell.specs.Lists.{Each}
use Rattle.kn_request.specs.declared.slot.Slot.{Slot}
use Rattle.kn_session.specs.Passes.{kind_of, plain_kind}
use Rattle.kn_session.specs.Rounds.{Sides, sides}
use Rattle.kn_session.specs.Session.{IsAfter, IsFine, IsOneHistory, IsTicked, SlotServed}
use Rattle.kn_session.proofs.OverFacts.{first_as, lasted_as, slot_as}
use Rattle.kn_session.proofs.SeenFacts.{ticked_as}
use Rattle.kn_session.proofs.session.serve_session.Goals as goal

pub serve_over-requires-clause-first : goal.serve_over-requires-clause-first
serve_over-requires-clause-first g c ls within =
    first_as c.in_ok-cell.cell (plain_kind c.args.revision c.args.setting.now.room) (length c.args.slots.now + 3) (3 + length c.args.slots.now) c.in_ok-cell.first c.in_ok-cell.ensures (omega arith)

pub returns-clause-history : goal.returns-clause-history
returns-clause-history g c =
    let x = lasted_as (kind_of c.in_ok-cell.first) (plain_kind c.args.revision c.args.setting.now.room) (ap kind_of c.in_ok-cell.ensures) c.serve_over.ensures.lasts in
    let rest = c.serve_over.result.1 in
    subst (IsOneHistory (length c.args.slots.now) c.args.revision) (ap (λ l. l ++ rest) (x.plain refl)) x.one

pub returns-clause-after : goal.returns-clause-after
returns-clause-after g c =
    let x = lasted_as (kind_of c.in_ok-cell.first) (plain_kind c.args.revision c.args.setting.now.room) (ap kind_of c.in_ok-cell.ensures) c.serve_over.ensures.lasts in
    let rest = c.serve_over.result.1 in
    subst (λ h. IsAfter c.args.revision h c.serve_over.result.0) (ap (λ l. l ++ rest) (x.plain refl)) x.after

pub returns-clause-slots : goal.returns-clause-slots
returns-clause-slots g c =
    let x = lasted_as (kind_of c.in_ok-cell.first) (plain_kind c.args.revision c.args.setting.now.room) (ap kind_of c.in_ok-cell.ensures) c.serve_over.ensures.lasts in
    let rest = c.serve_over.result.1 in
    let at : Slot g.row.C.Denot g.row.L.Denot → Sides = λ s. sides (g.C.Sink.kept s.caller) (g.C.Sink.held s.caller) (g.C.Faulty.faults s.caller) (g.L.PodLink.told s.link) (g.L.Faulty.faults s.link) in
    let set = c.args.setting.now in
    let reading = g.K.Clock.reading set.clock.now in (
      x.served.0,
      λ i d low.
          let s = slice_index_or c.args.slots.now i d in
          let t = slice_index_or c.serve_over.new.slots i d in
          let it = slot_as reading set.spec.now c.args.revision set.room set.rounds (x.front ++ rest) i (at s) (at t) t.work.fault t.work.memory (x.served.1 i d low) in
          subst (λ (h : List Past). SlotServed reading set.spec.now c.args.revision set.room set.rounds h i (at s) (at t) t.work.fault t.work.memory) (ap (λ l. l ++ rest) (x.plain refl)) it,
    )

pub returns-clause-keeper : goal.returns-clause-keeper
returns-clause-keeper g c =
    let x = lasted_as (kind_of c.in_ok-cell.first) (plain_kind c.args.revision c.args.setting.now.room) (ap kind_of c.in_ok-cell.ensures) c.serve_over.ensures.lasts in
    let rest = c.serve_over.result.1 in
    let set = c.args.setting.now in
    let reading = g.K.Clock.reading set.clock.now in
    let told = g.L.PodLink.told in
    let faults = g.L.Faulty.faults in
    let it = ticked_as c.session_laws.ensures reading set.start c.args.revision set.room (x.front ++ rest) (told c.args.keeper.now) (told c.serve_over.new.keeper) (faults c.args.keeper.now) (faults c.serve_over.new.keeper) x.keeper in
    subst (λ (h : List Past). IsTicked reading set.start c.args.revision set.room h (told c.args.keeper.now) (told c.serve_over.new.keeper) (faults c.args.keeper.now) (faults c.serve_over.new.keeper)) (ap (λ l. l ++ rest) (x.plain refl)) it

pub returns-clause-fine : goal.returns-clause-fine
returns-clause-fine g c flags =
    let x = lasted_as (kind_of c.in_ok-cell.first) (plain_kind c.args.revision c.args.setting.now.room) (ap kind_of c.in_ok-cell.ensures) c.serve_over.ensures.lasts in
    let rest = c.serve_over.result.1 in
    subst (Each IsFine) (ap (λ l. l ++ rest) (x.plain refl)) (x.fine flags)

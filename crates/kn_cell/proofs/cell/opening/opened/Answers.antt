use Rattle.std.proofs.Common.{◌≡◌, ◌+◌, ◌++◌, ◌∷◌, [], ℕ, suc, ap, sym, ◌∙◌, subst, refl, arith, List, replicate}
use Rattle.atomic_table.specs.Table.{opening as first_state}
use Rattle.kn_core.specs.State.{RevisionState, StandsFor, StandsForSome}
use Rattle.kn_figures.specs.Tallies.{IsTallyOf}
use Rattle.kn_cell.specs.State.{DeskState}
use Rattle.kn_cell.specs.Rule.{IsKept, GoesWith, first_view}
use Rattle.kn_cell.specs.declared.view.Key.{Key}
use Rattle.kn_cell.proofs.Bookkeeping.{has_book}
use Rattle.kn_cell.proofs.Counting.{made_by-none}
use Rattle.kn_cell.proofs.Openings.{opens}
use Rattle.kn_cell.proofs.Rooms.{none_live}
use Rattle.kn_cell.proofs.cell.opening.opened.Goals as goal

pub new-requires-clause-live : goal.new-requires-clause-live
new-requires-clause-live c =
    let low = none_live c.args.revision c.live-live.result c.live-live.ensures.some c.live-live.ensures.live c.requires.live in
    let is = c.live-live.ensures.value in
    omega arith

pub new-requires-clause-book : goal.new-requires-clause-book
new-requires-clause-book c = has_book c.args.book c.args.revision c.requires.book c.live-live.ensures.some

pub new-requires-2 : goal.new-requires-2
new-requires-2 c =
    let key : Key = record { opening = c.of.result; lasting = c.args.lasting; room = c.args.room; passes = c.args.passes; addresses = c.addresses.result } in
    let b : RevisionState = c.args.revision in
    let x : DeskState = record { room = c.args.room; revision = b; taken = 0; history = []; book = c.args.book; tally = c.in_ok-desk.desk.tally } in
    let is : c.of.result.value ≡ b = c.of.ensures in
    let desk : c.in_ok-desk.desk ≡ x = c.in_ok-desk.ensures.new in
    let slots : c.push_reserved.new.self.items ≡ x ∷ [] =
    c.push_reserved.ensures.items ∙ (ap (λ l. l ++ c.in_ok-desk.desk ∷ []) c.in-Ok.ensures.items ∙ ap (λ d. d ∷ []) desk) in
    let low = none_live b c.live-live.result c.live-live.ensures.some c.live-live.ensures.live c.requires.live in
    let live_is = c.live-live.ensures.value in
    let small = c.requires.room in
    let goes : GoesWith key [] x = record {
      front = [];
      whole = refl;
      count = refl;
      plain = λ _. refl;
      room = refl;
      spec = ap (λ (r : RevisionState). r.spec) (sym is);
      start = ap (λ (r : RevisionState). r.start) (sym is);
      stands = λ t s. subst (λ (r : RevisionState). StandsFor r t) is s;
      clock = ap (λ (r : RevisionState). r.clock) (sym is);
      events = let e = ap (λ (r : RevisionState). r.events) is in omega arith;
      fits = omega arith;
      few = omega arith;
      addresses = sym c.addresses.ensures;
      book = λ t s. c.requires.book.stands t (subst (λ (r : RevisionState). StandsFor r t) is s);
      tally = λ t s. subst (IsTallyOf c.in_ok-desk.desk.tally) (sym (made_by-none c.of.result.value.spec t)) c.in_ok-desk.ensures.tally;
    } in
    let few = c.requires.events in
    let e = ap (λ (r : RevisionState). r.events) is in
    let two : c.args.passes + 2 ≡ suc (suc c.args.passes) = omega arith in
    let zeros : c.deref.result.now ≡ 0 ∷ 0 ∷ replicate c.args.passes 0 =
    c.deref.ensures.value ∙ (c.in-Ok-from_elem.ensures.items_if_clones_equal (λ y h. h) ∙ ap (λ n. replicate n 0) two) in
    subst (λ (ws : List ℕ). IsKept key (first_state ws c.push_reserved.new.self.items (first_view key))) (sym zeros)
    (subst (λ (l : List DeskState). IsKept key (first_state (0 ∷ 0 ∷ replicate c.args.passes 0) l (first_view key))) (sym slots)
    (opens key x (replicate c.args.passes 0) record { room = c.requires.room; events = omega arith; passes = c.requires.passes; some = subst StandsForSome (sym is) c.live-live.ensures.some } goes refl))

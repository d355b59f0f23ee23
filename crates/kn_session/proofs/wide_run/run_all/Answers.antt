use Rattle.std.proofs.Common.{◌≡◌, ◌<◌, ◌*◌, ℕ, ap, subst, ◌∙◌, arith, length, map}
use Rattle.std.specs.Prelude.{None, false, slice_index_or}
use Rattle.std.proofs.lemmas.List.{get_or-map}
use Rattle.kn_cell.specs.Shown.{PassView}
use Rattle.kn_request.specs.declared.slot.WideSlot.{WideSlot}
use Rattle.kn_request.specs.declared.slot.Work.{Work}
use Rattle.kn_session.specs.Wide.{WideSides, wide_sides}
use Rattle.kn_session.specs.WidePasses.{IsWideDone}
use Rattle.kn_session.proofs.PlaceFacts.{mapped_all}
use Rattle.kn_session.proofs.SessionFacts.{some_of}
use Rattle.kn_session.proofs.wide_run.run_all.Goals as goal

pub serve_all_beside-requires-clause-slots : goal.serve_all_beside-requires-clause-slots
serve_all_beside-requires-clause-slots g c κs within i d low =
    let hand = c.hand_all.ensures.slots in
    let len = hand.0 in
    let low' : i < length c.args.slots.now = omega arith in
    let x = hand.1 i d low' in
    let s = slice_index_or c.hand_all.new.slots i d in
    let r = c.requires.slots i d low' in
    let n1 = x.0.0 in
    let n2 = c.requires.may.0 in
    let some = c.requires.some.0 in
    let n3 = c.requires.some.1 in
    let firsts = c.args.firsts.now in
    record {
      some = some;
      count = n3;
      linked = ap length (ap (λ l. l.items) x.1.1) ∙ r.0;
      worked = omega arith;
      passes = λ v c' inside.
          let inside' : v < length firsts = omega arith in
          let inside'' : v < length s.works.items = omega arith in
          let w0 = some_of s.works.items v inside'' in
          let p0 = some_of firsts v inside' in
          let y = (x.0.1 v p0 w0 inside').0 in
          (y.0, get_or-map (λ (w : Work). w.pass) s.works.items v w0 None inside'' ∙ y.1, y.2 ∙ (c.requires.may.1 v c' p0 inside).of);
      fault_free = mapped_all (λ (w : Work). w.fault) false s.works.items (λ v w in'. (x.0.1 v (some_of firsts v (omega arith)) w (omega arith)).1.0);
      want_free = mapped_all (λ (w : Work). w.memory) false s.works.items (λ v w in'. (x.0.1 v (some_of firsts v (omega arith)) w (omega arith)).1.1);
    }

pub take_all-requires-clause-found : goal.take_all-requires-clause-found
take_all-requires-clause-found g c i d low v c' p inside is =
    let done = c.serve_all_beside.ensures.slots in
    let len = done.0 in
    let x = (done.1 i d (omega arith)).passes v c' inside in
    let same : p ≡ x.0 = (let a = x.1 in let b = is in cc) in
    ap (λ (q : PassView). q.cell) same ∙ x.2

pub returns-clause-ran : goal.returns-clause-ran
returns-clause-ran g c =
    let told = g.L.PodLink.told in
    let faults = g.L.Faulty.faults in
    let at : WideSlot g.row.C.Denot g.row.L.Denot → WideSides =
    λ s. wide_sides (g.C.Sink.kept s.caller) (g.C.Sink.held s.caller) (g.C.Faulty.faults s.caller) (map (λ l. told l) s.links.items) (map (λ l. faults l) s.links.items) in
    let hand = c.hand_all.ensures.slots in
    let done = c.serve_all_beside.ensures.slots in
    let len = hand.0 in
    let len' = done.0 in
    let mids = c.serve_all_beside.new.slots in
    record {
      mids = mids;
      ran = (
        len' ∙ len,
        λ i d low.
            let s = slice_index_or c.args.slots.now i d in
            let h = slice_index_or c.hand_all.new.slots i d in
            let m = slice_index_or mids i d in
            let x = hand.1 i d low in
            let same : at h ≡ at s = (let a = x.1.0 in let b = x.1.1 in cc) in
            let links : length h.links.items ≡ length s.links.items = (let b = x.1.1 in cc) in
            let Done : ℕ → WideSides → Type 0 = λ n a.
            IsWideDone (g.K.Clock.reading c.args.setting.now.clock.now) c.args.cells.now c.args.setting.now.specs.now (i * c.args.setting.now.rounds) c.args.setting.now.rounds n (length m.links.items) h.works.items m.works.items a (at m) in
            record {
              given = h.works.items;
              given_is = x.0;
              done = subst (λ n. Done n (at s)) links (subst (λ a. Done (length h.links.items) a) same (done.1 i d (omega arith)));
            },
      );
      gone = c.hand_all.new.firsts;
      gave = c.hand_all.ensures.firsts;
      took = c.take_all.ensures.firsts;
      out = c.take_all.ensures.slots;
    }

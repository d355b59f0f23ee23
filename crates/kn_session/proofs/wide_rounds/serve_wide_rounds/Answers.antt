use Rattle.std.proofs.Common.{◌≡◌, ◌+◌, ◌*◌, ◌∙◌, ap, sym, subst, length, map, List}
use Rattle.kn_request.specs.declared.slot.WideSlot.{WideSlot}
use Rattle.kn_request.specs.declared.slot.Work.{Work}
use Rattle.kn_session.specs.Wide.{WideSides, wide_sides}
use Rattle.kn_session.specs.WidePasses.{IsWideDone}
use Rattle.kn_session.proofs.PlaceFacts.{lent}
use Rattle.kn_session.proofs.WideRounds.{more_done}
use Rattle.kn_session.proofs.wide_rounds.serve_wide_rounds.Goals as goal

pub loop-j-preserved : goal.loop-j-preserved
loop-j-preserved g c =
    let x = c.serve_wide-ended in
    let reading = g.K.Clock.reading c.args.setting.now.clock.now in
    let told = g.L.PodLink.told in
    let faults = g.L.Faulty.faults in
    let at : WideSlot g.row.C.Denot g.row.L.Denot → WideSides =
    λ s. wide_sides (g.C.Sink.kept s.caller) (g.C.Sink.held s.caller) (g.C.Faulty.faults s.caller) (map (λ l. told l) s.links.items) (map (λ l. faults l) s.links.items) in
    let l = c.loop-j in
    let mid = c.deref_mut.result.now in
    let same : mid ≡ x.new.slot.works.items = c.deref_mut.ensures.value in
    let start = c.args.slot.now in
    let n = length start.links.items in
    let ready = c.requires.ready in
    let Done : List Work → Type 0 = λ w. IsWideDone reading c.args.cells.now c.args.setting.now.specs.now (c.args.i * c.args.setting.now.rounds) (l.j + 1) n (length x.new.slot.links.items) start.works.items w (at start) (at x.new.slot) in
    let back = lent x.new.slot.works.len c.note.new.works x.new.slot.works.items (c.note.ensures.count ∙ c.deref_mut.ensures.len) in
    let e = x.ensures in
    let done : Done c.note.new.works =
    more_done reading c.args.cells.now c.args.setting.now.specs.now (c.args.i * c.args.setting.now.rounds) l.j n (length l.slot.links.items) (length x.new.slot.links.items) x.result start.works.items l.slot.works.items mid c.note.new.works (at start) (at l.slot) (at x.new.slot)
    ready.worked l.invariant (rw same e.serves) e.causes e.count.0 (ap length same ∙ e.count.1) (ap (λ w. map (λ (v : Work). v.fault) w) same ∙ e.fault) (ap (λ w. map (λ (v : Work). v.memory) w) same ∙ e.memory) (rw same e.passes)
    c.note.ensures.count c.note.ensures.passes c.note.ensures.faults c.note.ensures.wants in
    subst Done (sym back) done

use Rattle.std.proofs.Common.{length, map}
use Rattle.kn_session.specs.Wide.{wide_sides}
use Rattle.kn_session.specs.WidePasses.{IsWideDone}
use Rattle.kn_session.proofs.wide_rounds.serve_wide_rounds.Given as goal

abbrev pub invariant-loop-j : goal.invariant-loop-j
invariant-loop-j g l =
    IsWideDone (g.K.Clock.reading l.setting.clock.now) l.cells l.setting.specs.now l.first l.j (length l.fn.slot.links.items) (length l.slot.links.items) l.fn.slot.works.items l.slot.works.items
    (wide_sides (g.C.Sink.kept l.fn.slot.caller) (g.C.Sink.held l.fn.slot.caller) (g.C.Faulty.faults l.fn.slot.caller) (map (λ x. g.L.PodLink.told x) l.fn.slot.links.items) (map (λ x. g.L.Faulty.faults x) l.fn.slot.links.items))
    (wide_sides (g.C.Sink.kept l.slot.caller) (g.C.Sink.held l.slot.caller) (g.C.Faulty.faults l.slot.caller) (map (λ x. g.L.PodLink.told x) l.slot.links.items) (map (λ x. g.L.Faulty.faults x) l.slot.links.items))

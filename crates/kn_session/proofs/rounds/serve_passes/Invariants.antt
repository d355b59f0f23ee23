use Rattle.std.proofs.Common.{ℕ, ◌≡◌, ◌≤◌, ◌<◌, ◌-◌, ◌^◌}
use Rattle.std.specs.Prelude.{⊤}
use Rattle.kn_request.specs.Terms.{watched}
use Rattle.kn_session.specs.Rounds.{AllRounds, sides}
use Rattle.kn_session.proofs.rounds.serve_passes.Given as goal

abbrev pub invariant-loop-pass : goal.invariant-loop-pass
invariant-loop-pass g l = record {
  rounds : AllRounds (λ _. ⊤) (watched (g.K.Clock.reading l.common.clock.now) g.P.Watch.leaves) l.common.spec.now l.first l.round l.fn.pass l.pass
      (sides (g.C.Sink.kept l.fn.slot.caller) (g.C.Sink.held l.fn.slot.caller) (g.C.Faulty.faults l.fn.slot.caller) (g.L.PodLink.told l.fn.slot.link) (g.L.Faulty.faults l.fn.slot.link))
      (sides (g.C.Sink.kept l.slot.caller) (g.C.Sink.held l.slot.caller) (g.C.Faulty.faults l.slot.caller) (g.L.PodLink.told l.slot.link) (g.L.Faulty.faults l.slot.link)) l.fault l.memory;
  cell : l.pass.cell ≡ l.fn.pass.cell;
  work : l.slot.work ≡ l.fn.slot.work;
  begun : (j : ℕ) → j < l.round → g.P.Pace.begins l.common.pace.now j;
  few : l.round ≤ 10 ^ 12;
}

abbrev pub decreases-loop-pass : goal.decreases-loop-pass
decreases-loop-pass g l = 10 ^ 12 - l.round

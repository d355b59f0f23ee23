use Rattle.std.proofs.Common.{◌≡◌, length, map}
use Rattle.kn_request.specs.Wide.{ArePassesOf}
use Rattle.kn_request.proofs.WideTurns.{AllTick}
use Rattle.kn_request.proofs.wide_ticks.tick_all.Given as goal

abbrev pub invariant-loop : goal.invariant-loop
invariant-loop g l = record {
  cells : ArePassesOf l.cells l.passes;
  count : (length l.passes ≡ length l.fn.passes) × (length l.lasts ≡ length l.fn.lasts) × (length l.keepers ≡ length l.fn.keepers);
  all : AllTick (g.K.Clock.reading l.clock) l.start l.fn.passes l.passes (map (λ k. g.L.PodLink.told k) l.fn.keepers) (map (λ k. g.L.PodLink.told k) l.keepers) l.lasts (map (λ k. g.L.Faulty.faults k) l.fn.keepers) (map (λ k. g.L.Faulty.faults k) l.keepers);
}

use Rattle.std.proofs.Common.{◌≡◌, length, map}
use Rattle.kn_request.specs.Wide.{ArePassesOf}
use Rattle.kn_request.proofs.WideTurns.{Turning}
use Rattle.kn_request.proofs.wide_ticks.turn_all.Given as goal

abbrev pub invariant-loop-v : goal.invariant-loop-v
invariant-loop-v g l = record {
  cells : ArePassesOf l.cells l.passes;
  count : (length l.passes ≡ length l.fn.passes) × (length l.lasts ≡ length l.fn.lasts) × (length l.keepers ≡ length l.fn.keepers);
  turning : Turning l.now l.v l.fn.passes l.passes l.fn.lasts l.lasts (map (λ k. g.L.PodLink.told k) l.fn.keepers) (map (λ k. g.L.PodLink.told k) l.keepers) (map (λ k. g.L.Faulty.faults k) l.fn.keepers) (map (λ k. g.L.Faulty.faults k) l.keepers);
}

use Rattle.std.proofs.Common.{◌∙◌, ℕ, List, arith, map}
use Rattle.std.specs.Prelude.{Option}
use Rattle.kn_io.specs.Links.{Link}
use Rattle.kn_request.proofs.WideTurns.{all_first, all_next, cells_stay, ticks_all}
use Rattle.kn_request.proofs.wide_ticks.tick_all.Goals as goal

pub loop-init : goal.loop-init
loop-init g c =
    let told = g.L.PodLink.told in
    let faults = g.L.Faulty.faults in
    let x = c.turn_all in
    let ps = c.args.passes.now in
    let ps' = x.new.passes in
    let ls = c.set_all.new.lasts in
    let ks = c.args.keepers.now in
    let ks' = x.new.keepers in
    let ws : List (Option Link) = map (λ k. told k) ks in
    let ws' : List (Option Link) = map (λ k. told k) ks' in
    let bs : List ℕ = map (λ k. faults k) ks in
    let bs' : List ℕ = map (λ k. faults k) ks' in
    let cells = c.requires.cells.0 in
    let lasts = c.requires.count.0 in
    let set = c.set_all.ensures in
    record {
      cells = cells_stay c.now_ms-now.result c.args.cells.now ps ps' ls x.new.lasts ws ws' bs bs' c.requires.cells x.ensures.count.0 x.ensures.turns;
      count = (x.ensures.count.0, x.ensures.count.1 ∙ set.0, x.ensures.count.2);
      all = all_first (g.K.Clock.reading c.args.clock.now) c.args.start c.now_ms-now.result ps ps' ls x.new.lasts ws ws' bs bs' c.now_ms-now.ensures (λ v low. set.1 v (omega (arith, low, cells, lasts))) x.ensures.turns;
    }

pub returns-then-is_zero-clause-ticks : goal.returns-then-is_zero-clause-ticks
returns-then-is_zero-clause-ticks g c =
    let told = g.L.PodLink.told in
    let faults = g.L.Faulty.faults in
    let ks = c.args.keepers.now in
    let ks' = c.loop.keepers in
    ticks_all (g.K.Clock.reading c.args.clock.now) c.args.start c.args.passes.now c.loop.passes (map (λ k. told k) ks) (map (λ k. told k) ks') c.loop.lasts (map (λ k. faults k) ks) (map (λ k. faults k) ks') c.loop.invariant.all

pub loop-preserved : goal.loop-preserved
loop-preserved g c =
    let told = g.L.PodLink.told in
    let faults = g.L.Faulty.faults in
    let inv = c.loop.invariant in
    let x = c.turn_all-in-loop in
    let now = c.now_ms-now-in-loop in
    let ps = c.args.passes.now in
    let ps' = c.loop.passes in
    let ps'' = x.new.passes in
    let ls = c.loop.lasts in
    let ls' = x.new.lasts in
    let ws : List (Option Link) = map (λ k. told k) c.args.keepers.now in
    let ws' : List (Option Link) = map (λ k. told k) c.loop.keepers in
    let ws'' : List (Option Link) = map (λ k. told k) x.new.keepers in
    let bs : List ℕ = map (λ k. faults k) c.args.keepers.now in
    let bs' : List ℕ = map (λ k. faults k) c.loop.keepers in
    let bs'' : List ℕ = map (λ k. faults k) x.new.keepers in
    record {
      cells = cells_stay now.result c.args.cells.now ps' ps'' ls ls' ws' ws'' bs' bs'' inv.cells x.ensures.count.0 x.ensures.turns;
      count = (x.ensures.count.0 ∙ inv.count.0, x.ensures.count.1 ∙ inv.count.1, x.ensures.count.2 ∙ inv.count.2);
      all = all_next (g.K.Clock.reading c.args.clock.now) c.args.start now.result ps ps' ps'' ls ls' ws ws' ws'' bs bs' bs'' inv.count.0 inv.all now.ensures x.ensures.turns;
    }

use Rattle.std.proofs.Common.{◌≡◌, ◌∙◌, ◌+◌, ℕ, List, arith, map, subst, sym}
use Rattle.std.proofs.lemmas.List.{get_or-map, get_or_default, length-map, length-set, map-set}
use Rattle.std.specs.Prelude.{None, Option, slice_index_or, slice_set}
use Rattle.kn_cell.specs.Shown.{PassView}
use Rattle.kn_io.specs.Links.{Link}
use Rattle.kn_request.specs.Ticking.{TakesTurn}
use Rattle.kn_request.specs.Wide.{at_count, at_wire}
use Rattle.kn_request.proofs.WideTurns.{Turning, cells_set, turning_more}
use Rattle.kn_request.proofs.wide_ticks.turn_all.Goals as goal

pub loop-v-preserved : goal.loop-v-preserved
loop-v-preserved g c =
    let told = g.L.PodLink.told in
    let faults = g.L.Faulty.faults in
    let inv = c.loop-v.invariant in
    let v = c.loop-v.v in
    let ps = c.loop-v.passes in
    let ls = c.loop-v.lasts in
    let ks = c.loop-v.keepers in
    let d = c.index-passes-v.result in
    let k = c.index-keepers-v.result in
    let x = c.tick_turn-turn in
    let turn = x.result in
    let q = x.new.pass in
    let k' = x.new.keeper in
    let low = c.loop-v-test.true in
    let cells = inv.cells.0 in
    let lasts = inv.count.1 in
    let keepers = inv.count.2 in
    let lasts' = c.requires.count.0 in
    let keepers' = c.requires.count.1 in
    let ws : List (Option Link) = map (λ l. told l) ks in
    let bs : List ℕ = map (λ l. faults l) ks in
    let ws0 : List (Option Link) = map (λ l. told l) c.args.keepers.now in
    let bs0 : List ℕ = map (λ l. faults l) c.args.keepers.now in
    let wide = length-map ks (λ l. told l) in
    let wide' = length-map ks (λ l. faults l) in
    let wire = get_or-map (λ l. told l) ks v k None (omega (arith, low, keepers, keepers')) in
    let count = get_or-map (λ l. faults l) ks v k 0 (omega (arith, low, keepers, keepers')) in
    let here : at_wire ws v ≡ told (slice_index_or ks v k) = wire in
    let takes = subst (λ (w : Option Link). TakesTurn c.args.now (at_count ls v) (slice_index_or ps v d) q w (told k') turn) (sym wire) x.ensures.turn in
    let rise = x.ensures.never_falls in
    let more = turning_more c.args.now v c.args.passes.now ps c.args.lasts.now ls ws0 ws bs0 bs q (told k') (faults k') turn
    (omega (arith, low, cells)) (omega (arith, low, lasts, lasts')) (omega (arith, low, keepers, keepers', wide)) (omega (arith, low, keepers, keepers', wide')) inv.turning
    (λ e. subst (λ (p : PassView). TakesTurn c.args.now (at_count ls v) p q (at_wire ws v) (told k') turn) (get_or_default ps v d e (omega (arith, low, cells))) takes) (omega (arith, rise, count)) in
    record {
      cells = cells_set c.args.cells.now ps v d q inv.cells (omega (arith, low, cells)) x.ensures.turn.later;
      count = (length-set ps v q ∙ inv.count.0, length-set ls v turn.last ∙ lasts, length-set ks v k' ∙ keepers);
      turning = subst (λ (b : List ℕ). Turning c.args.now (v + 1) c.args.passes.now (slice_set ps v q) c.args.lasts.now (slice_set ls v turn.last) ws0 (map (λ l. told l) (slice_set ks v k')) bs0 b) (sym (map-set (λ l. faults l) ks v k'))
          (subst (λ (w : List (Option Link)). Turning c.args.now (v + 1) c.args.passes.now (slice_set ps v q) c.args.lasts.now (slice_set ls v turn.last) ws0 w bs0 (slice_set bs v (faults k'))) (sym (map-set (λ l. told l) ks v k')) more);
    }

use Rattle.std.proofs.Common.{◌≡◌, ◌∙◌, arith, ap}
use Rattle.std.specs.Prelude.{All, Some, vec_len}
use Rattle.std.proofs.lemmas.List.Elements.{All-pop}
use Rattle.kn_cell.specs.Shown.{PassView}
use Rattle.kn_tests_cell.specs.declared.worker.Worker.{Worker}
use Rattle.kn_tests_cell.specs.Numbers.{IsLeaf}
use Rattle.kn_tests_cell.proofs.passes.close.Goals as goal

pub loop-worker-preserved : goal.loop-worker-preserved
loop-worker-preserved c =
    let n = vec_len c.args.workers.now in
    let both = All-pop (λ (w : Worker). IsLeaf c.args.cell n w.pass) c.loop-worker.workers.items c.pop-in-loop-worker.new.self.items (Some c.in-Some-pop.worker)
    c.in-Some-pop.ensures.items c.loop-worker.invariant.each in
    let leaf : IsLeaf c.args.cell n c.in-Some-pop.worker.pass = both.1 in
    record {
      of = ap (λ (v : PassView). v.cell) c.join.ensures ∙ c.loop-worker.invariant.of;
      free = ap (λ (v : PassView). v.free) c.join.ensures ∙ c.loop-worker.invariant.free;
      all = ap (λ (v : PassView). v.passes) c.join.ensures ∙ c.loop-worker.invariant.all;
      back = omega (arith, ap (λ (v : PassView). v.back) c.join.ensures, leaf.free, leaf.back, c.in-Some-pop.ensures.len, c.loop-worker.invariant.back);
      each = both.0;
    }

use Rattle.std.proofs.Common.{◌≡◌, ◌⊎◌, sym, inr, ap, subst, ◌∙◌, arith}
use Rattle.kn_cell.specs.Shown.{PassView, Looks}
use Rattle.kn_request.proofs.Later.{cell_is, is_over, known_after, looks_after}
use Rattle.kn_request.proofs.wait.wait_while.Goals as goal

-- the pass as it waited is the pass as it was
waited : (p a b : PassView) → b ≡ a → (a ≡ p) ⊎ Looks p a → (b ≡ p) ⊎ Looks p b
waited p a b same so = subst (λ (v : PassView). (v ≡ p) ⊎ Looks p v) (sym same) so

pub returns-in-Runs-clause-looks : goal.returns-in-Runs-clause-looks
returns-in-Runs-clause-looks g c =
    inr (looks_after c.args.pass.now c.wait.new.pass c.course.new.pass (waited c.args.pass.now c.loop.pass c.wait.new.pass c.wait.ensures c.loop.invariant.seen) c.course.ensures.looks)

pub returns-in-Over-clause-looks : goal.returns-in-Over-clause-looks
returns-in-Over-clause-looks g c =
    inr (looks_after c.args.pass.now c.wait.new.pass c.course.new.pass (waited c.args.pass.now c.loop.pass c.wait.new.pass c.wait.ensures c.loop.invariant.seen) c.course.ensures.looks)

pub returns-in-Over-clause-found : goal.returns-in-Over-clause-found
returns-in-Over-clause-found g c =
    let looks = looks_after c.args.pass.now c.wait.new.pass c.course.new.pass (waited c.args.pass.now c.loop.pass c.wait.new.pass c.wait.ensures c.loop.invariant.seen) c.course.ensures.looks in
    is_over c.args.r c.course.new.pass (known_after c.server_laws.ensures.request c.args.r c.args.pass.now c.course.new.pass (inr looks) c.requires.known) c.in-Over.ensures.course

pub loop-preserved : goal.loop-preserved
loop-preserved g c =
    let looks = looks_after c.args.pass.now c.wait.new.pass c.course.new.pass (waited c.args.pass.now c.loop.pass c.wait.new.pass c.wait.ensures c.loop.invariant.seen) c.course.ensures.looks in
    record {
      cell = cell_is c.wait.new.pass c.course.new.pass c.course.ensures.looks ∙ (ap (λ (p : PassView). p.cell) c.wait.ensures ∙ c.loop.invariant.cell);
      mine = c.course.ensures.mine ∙ (ap (λ (p : PassView). p.mine) c.wait.ensures ∙ c.loop.invariant.mine);
      seen = inr looks;
      kept = c.has_left.ensures.kept ∙ c.loop.invariant.kept;
      held = c.has_left.ensures.held ∙ c.loop.invariant.held;
      faults = let i = c.loop.invariant.faults in let m = c.has_left.ensures.never_falls in omega (arith, i, m);
    }

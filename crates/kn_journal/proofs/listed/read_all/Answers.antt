-- Setup after setup, and then the end of the input.
use Rattle.std.proofs.Common.{◌≡◌, ◌+◌, ◌≤◌, ◌∙◌, ◌++◌, ◌∷◌, [], ℕ, length, length-append, ap, subst, arith}
use Rattle.std.proofs.lemmas.Grind.{common_steps}
use Rattle.std.proofs.lemmas.Result.{err_from_is_err_and}
use Rattle.kn_journal.specs.Bundle.{setups_behind}
use Rattle.kn_journal.specs.Reading.{unread}
use Rattle.kn_journal.specs.Telling.{Gives}
use Rattle.kn_journal.proofs.Drawings.{draws_both, draws_none}
use Rattle.kn_journal.proofs.Listings.{all-behind, all-kept, none-behind, not-ended, one-more, one-refused}
use Rattle.kn_journal.proofs.listed.read_all.Goals as goal

pub loop-init : goal.loop-init
loop-init g c = record {
  read = rw c.new-setups.ensures.items (none-behind c.args.lines.now.number (unread c.args.lines.now.input (g.S.Source.left c.args.source.now)));
  kept = rw c.new-setups.ensures.items tt;
  count = grind (arith, common_steps);
  source = draws_none _ _;
}

pub returns-in_err-setup-clause-tells : goal.returns-in_err-setup-clause-tells
returns-in_err-setup-clause-tells g c =
    let p = err_from_is_err_and c.from_residual.result c.from_residual.ensures.1 in
    rw (p.1, p.2)
    (let few : c.loop.counter + 1 ≤ c.args.n = grind (arith, common_steps) in
    one-refused c.args.lines.now.number c.loop.counter c.loop.lines.number c.args.n c.loop.setups.items c.in_err-setup.field-0.0 (unread c.args.lines.now.input (g.S.Source.left c.args.source.now))
    (unread c.loop.lines.input (g.S.Source.left c.loop.source)) c.loop.invariant.read (rw c.deref.ensures.value at c.in_err-setup.ensures.tells) few)

pub loop-preserved : goal.loop-preserved
loop-preserved g c =
    let items : c.push.new.self.items ≡ c.loop.setups.items ++ c.in_ok-setup.setup ∷ [] = grind (arith, common_steps) in
    record {
      read = rw items (one-more c.args.lines.now.number c.loop.counter c.loop.lines.number c.read_new.new.lines.number c.loop.setups.items c.in_ok-setup.setup (unread c.args.lines.now.input (g.S.Source.left c.args.source.now))
          (unread c.loop.lines.input (g.S.Source.left c.loop.source)) (unread c.read_new.new.lines.input (g.S.Source.left c.read_new.new.source)) c.loop.invariant.read (rw c.deref.ensures.value at c.in_ok-setup.ensures.tells));
      kept = rw items (all-kept c.loop.setups.items c.in_ok-setup.setup c.loop.invariant.kept c.in_ok-setup.ensures.kept);
      count = ap length items ∙ length-append c.loop.setups.items (c.in_ok-setup.setup ∷ []) ∙ ap (λ (x : ℕ). x + 1) c.loop.invariant.count;
      source = draws_both c.loop.invariant.source c.in_ok-setup.ensures.source;
    }

pub returns-in-Ok-clause-tells : goal.returns-in-Ok-clause-tells
returns-in-Ok-clause-tells g c =
    let all : c.loop.counter ≡ c.args.n = grind (arith, common_steps) in
    let read = subst (λ (x : ℕ). Gives (setups_behind c.args.lines.now.number x) c.loop.setups.items c.loop.lines.number (unread c.args.lines.now.input (g.S.Source.left c.args.source.now)) (unread c.loop.lines.input (g.S.Source.left c.loop.source))) all c.loop.invariant.read in
    rw c.new.ensures (all-behind c.args.lines.now.number c.args.n c.loop.lines.number c.end.new.self.number c.loop.setups.items c.in-Ok.field-0 (unread c.args.lines.now.input (g.S.Source.left c.args.source.now))
    (unread c.loop.lines.input (g.S.Source.left c.loop.source)) (unread c.end.new.self.input (g.S.Source.left c.end.new.source)) read c.in-Ok.ensures.tells)

pub returns-in-Err-clause-tells : goal.returns-in-Err-clause-tells
returns-in-Err-clause-tells g c =
    let all : c.loop.counter ≡ c.args.n = grind (arith, common_steps) in
    let read = subst (λ (x : ℕ). Gives (setups_behind c.args.lines.now.number x) c.loop.setups.items c.loop.lines.number (unread c.args.lines.now.input (g.S.Source.left c.args.source.now)) (unread c.loop.lines.input (g.S.Source.left c.loop.source))) all c.loop.invariant.read in
    not-ended c.args.lines.now.number c.args.n c.loop.lines.number c.loop.setups.items c.in-Err.e (unread c.args.lines.now.input (g.S.Source.left c.args.source.now))
    (unread c.loop.lines.input (g.S.Source.left c.loop.source)) read c.in-Err.ensures.tells
